-- The laws of a line checked against its successor.
use Rattle.std.proofs.Common.{◌≡◌, ◌≢◌, ◌⊎◌, ℕ, ◌+◌, ◌-◌, ◌*◌, ◌%◌, ◌^◌, ◌<◌, ◌≤◌, ◌==◌, if◌then◌else◌, Bool}
use Rattle.std.proofs.Common.{true, false, inl, inr, refl, sym, ap, ap₂, subst, ◌∙◌, arith, mod-lt, eqb-true}
use Rattle.std.proofs.lemmas.Bool.{eqb-false, cases_eq}
use Rattle.tv_core.proofs.PrimeLaws.{p_zero_product_below}
use Rattle.tv_core.specs.declared.field.TheConstants.{P}
use Rattle.tv_doubles.proofs.WithinNumbers.{other_cells, same_cells, same_times, image_times, none, same_excess, same_zero, same_time, other_excess, image_time}
use Rattle.tv_doubles.specs.Doubles.{Words, DoubleLine, Succeeds, no_words}
use Rattle.tv_doubles.specs.Within.{IsBase, WordsInRange, DoubleInRange, sum_of, item_first, item_second}
use Rattle.tv_doubles.specs.Within.{MeetsWithin, MeetsImage, MeetsTape, MeetsGuard, Joins, ChecksAreSound, ChecksAreComplete}

pub words_are : (x y : Words) → x.first ≡ y.first → x.second ≡ y.second → x ≡ y
words_are x y a b = ap₂ (λ f s. let w : Words = record { first = f; second = s } in w) a b

below : (x : ℕ) → x % P < P
below x = mod-lt x (omega arith)

-- a product is 0: a factor is
either : (x y : ℕ) → x < P → y < P → x * y % P ≡ 0 → (x ≡ 0) ⊎ (y ≡ 0)
either x y h k e = p_zero_product_below x y h k e

-- g is 0, or both others are
both : (g x y : ℕ) → g < P → x < P → y < P → g * x % P ≡ 0 → g * y % P ≡ 0 → (g ≡ 0) ⊎ ((x ≡ 0) × (y ≡ 0))
both g x y h k l e f = elim (either g x h k e) [
  | inl none ↦ inl none
  | inr one ↦ elim (either g y h l f) [ inl none ↦ inl none | inr two ↦ inr (one, two) ]
]

sums : (b : ℕ) (w : Words) → WordsInRange b w → sum_of w < 2 * b
sums b w in_w = omega (arith, in_w.first, in_w.second)

-- words whose sum is 0, and those of one sum that agree in the second
zero_sum : (w : Words) → sum_of w ≡ 0 → w ≡ no_words
zero_sum w e = words_are w no_words (omega arith) (omega arith)

one_sum : (x y : Words) → sum_of x ≡ sum_of y → x.second ≡ y.second → x ≡ y
one_sum x y e f = words_are x y (omega arith) f

module _ (b : ℕ) (base : IsBase b) (l m : DoubleLine) (in_l : DoubleInRange b l) (in_m : DoubleInRange b m) where
  s : ℕ
  s = sum_of l.new

  -- in a double cell above, and in the same one
  above : (r i j : ℕ) → sum_of m.old ≡ 0 → m.cell ≡ l.cell + 1 + r → Succeeds l i m j
  above r i j zero up = record {
    rises = inl (omega arith);
    carried = λ same. absurd (omega arith);
    fresh = λ apart. zero_sum m.old zero;
  }

  same : (r i j : ℕ) → m.cell ≡ l.cell → sum_of m.old ≡ sum_of l.new → m.old.second ≡ l.new.second → j ≡ i + 1 + r → Succeeds l i m j
  same r i j cell sum second later = record {
    rises = inr (sym cell, omega arith);
    carried = λ e. one_sum m.old l.new sum second;
    fresh = λ apart. absurd (apart (sym cell));
  }

  within_sound : (r g i j : ℕ) → r < 2 ^ 30 → i < 2 ^ 20 → j < 2 ^ 20 → MeetsWithin b r g (item_first b m) (item_second b m j) l i → Succeeds l i m j
  within_sound r g i j small at_i at_j meets =
      by (both g x y (subst (λ n. n < P) meets.excess (below (item_first b m + (P - 2 * b * (1 + r + l.cell))))) (below _) (below _) meets.cells meets.times)
    where
      x : ℕ
      x = (item_first b m + (P - (2 * b * l.cell + sum_of l.new))) % P

      y : ℕ
      y = (2 * item_second b m j + g + (P - (2 * b * i + sum_of l.new + 2 * l.new.second))) % P

      by : (g ≡ 0) ⊎ ((x ≡ 0) × (y ≡ 0)) → Succeeds l i m j
      by (inl zero) =
          let known = other_cells b base r l.cell m.cell (sum_of m.old) small in_l.cell in_m.cell (sums b m.old in_m.old) (meets.excess ∙ zero) in
          above r i j known.0 known.1
      by (inr (cells, times)) =
          let known = same_cells b base l.cell m.cell (sum_of l.new) (sum_of m.old) in_l.cell in_m.cell (sums b l.new in_l.new) (sums b m.old in_m.old) cells in
          let here : (2 * b * l.cell + sum_of l.new + (P - 2 * b * (1 + r + l.cell))) % P ≡ g =
          ap (λ u. (u + (P - 2 * b * (1 + r + l.cell))) % P) (sym (ap₂ (λ c t. 2 * b * c + t) known.0 known.1)) ∙ meets.excess in
          let later = same_times b base r l.cell (sum_of l.new) i j l.new.second m.old.second g small in_l.cell (sums b l.new in_l.new) at_i at_j
          in_l.new.second in_m.old.second here times in
          same r i j known.0 known.1 later.0 later.1

  -- the item is of the next cell
  next : (item_first b m + (P - 2 * b * (l.cell + 1))) % P ≡ 0 → (sum_of m.old ≡ 0) × (m.cell ≡ l.cell + 1 + 0)
  next z =
      let one : 1 + 0 + l.cell ≡ l.cell + 1 = omega arith in
      other_cells b base 0 l.cell m.cell (sum_of m.old) (omega arith) in_l.cell in_m.cell (sums b m.old in_m.old)
      (ap (λ c. (item_first b m + (P - 2 * b * c)) % P) one ∙ z)

  image_sound : (r i j : ℕ) → r < 2 ^ 30 → i < 2 ^ 20 → j < 2 ^ 20 → MeetsImage b r (item_first b m) (item_second b m j) l i → Succeeds l i m j
  image_sound r i j small at_i at_j meets = by (both x y z (below _) (below _) (below _) meets.cells meets.times)
    where
      x : ℕ
      x = (item_first b m + (P - 2 * b * (l.cell + 1))) % P

      y : ℕ
      y = (item_first b m + (P - (2 * b * l.cell + sum_of l.new))) % P

      z : ℕ
      z = (item_second b m j + (P - (b * (i + 1 + r) + l.new.second))) % P

      by : (x ≡ 0) ⊎ ((y ≡ 0) × (z ≡ 0)) → Succeeds l i m j
      by (inl zero) = let known = next zero in above 0 i j known.0 known.1
      by (inr (cells, times)) =
          let known = same_cells b base l.cell m.cell (sum_of l.new) (sum_of m.old) in_l.cell in_m.cell (sums b l.new in_l.new) (sums b m.old in_m.old) cells in
          let later = image_times b base r i j l.new.second m.old.second small at_i at_j in_l.new.second in_m.old.second times in
          same r i j known.0 known.1 later.0 later.1

  tape_sound : l.new.second ≡ 0 → (l.cell ≡ m.cell → m.old.second ≡ 0) → MeetsTape b (item_first b m) l → Joins l m
  tape_sound second_l second_m meets = by (either x y (below _) (below _) meets)
    where
      x : ℕ
      x = (item_first b m + (P - 2 * b * (l.cell + 1))) % P

      y : ℕ
      y = (item_first b m + (P - (2 * b * l.cell + l.new.first))) % P

      by : (x ≡ 0) ⊎ (y ≡ 0) → Joins l m
      by (inl zero) = let known = next zero in let up : m.cell ≡ l.cell + 1 + 0 = known.1 in inl (omega arith, zero_sum m.old known.0)
      by (inr zero) =
          let known = same_cells b base l.cell m.cell l.new.first (sum_of m.old) in_l.cell in_m.cell
          (omega (arith, in_l.new.first)) (sums b m.old in_m.old) zero in
          let sum : sum_of m.old ≡ l.new.first = known.1 in
          inr (sym known.0, one_sum m.old l.new (omega (arith, second_l, sum)) (second_m (sym known.0) ∙ sym second_l))

  guard_sound : (r : ℕ) → r < 2 ^ 30 → l.new ≡ no_words → MeetsGuard b r (item_first b m) l → Joins l m
  guard_sound r small none_l meets = by (either x y (below _) (below _) meets)
    where
      x : ℕ
      x = (item_first b m + (P - 2 * b * l.cell)) % P

      y : ℕ
      y = (item_first b m + (P - 2 * b * (l.cell + 1 + r))) % P

      by : (x ≡ 0) ⊎ (y ≡ 0) → Joins l m
      by (inl zero) =
          let plus : 2 * b * l.cell + 0 ≡ 2 * b * l.cell = omega arith in
          let some : 0 < 2 * b = omega (arith, in_l.new.first) in
          let known = same_cells b base l.cell m.cell 0 (sum_of m.old) in_l.cell in_m.cell some (sums b m.old in_m.old)
          (ap (λ c. (item_first b m + (P - c)) % P) plus ∙ zero) in
          inr (sym known.0, zero_sum m.old known.1 ∙ sym none_l)
      by (inr zero) =
          let order : 1 + r + l.cell ≡ l.cell + 1 + r = omega arith in
          let known = other_cells b base r l.cell m.cell (sum_of m.old) small in_l.cell in_m.cell (sums b m.old in_m.old)
          (ap (λ c. (item_first b m + (P - 2 * b * c)) % P) order ∙ zero) in
          let up : m.cell ≡ l.cell + 1 + r = known.1 in
          inl (omega arith, zero_sum m.old known.0)

last_sound : (b : ℕ) (m : DoubleLine) → IsBase b → DoubleInRange b m → item_first b m % P ≡ 0 → (m.cell ≡ 0) × (m.old ≡ no_words)
last_sound b m base in_m z = let known = none b base m.cell (sum_of m.old) in_m.cell (sums b m.old in_m.old) z in (known.0, zero_sum m.old known.1)

pub checks_sound : ChecksAreSound
checks_sound = record {
  within = λ b r g l m i j base small in_l in_m at_i at_j meets. within_sound b base l m in_l in_m r g i j small at_i at_j meets;
  image = λ b r l m i j base small in_l in_m at_i at_j meets. image_sound b base l m in_l in_m r i j small at_i at_j meets;
  tape = λ b l m base in_l in_m x y meets. tape_sound b base l m in_l in_m x y meets;
  guard = λ b r l m base small in_l in_m x meets. guard_sound b base l m in_l in_m r small x meets;
  last = last_sound;
  not_31_bits = λ d. omega arith;
}

-- ---- completeness
right_zero : (g x : ℕ) → x ≡ 0 → g * x % P ≡ 0
right_zero g x e = ap (λ x. g * x % P) e ∙ omega arith

left_zero : (g x : ℕ) → g ≡ 0 → g * x % P ≡ 0
left_zero g x e = ap (λ g. g * x % P) e ∙ omega arith

module _ (b : ℕ) (base : IsBase b) (l m : DoubleLine) (i j : ℕ) (in_l : DoubleInRange b l) (in_m : DoubleInRange b m) (s : Succeeds l i m j) where
  -- in the same double cell
  first_is : l.cell ≡ m.cell → 2 * b * l.cell + sum_of l.new ≡ item_first b m
  first_is same = ap₂ (λ c (w : Words). 2 * b * c + sum_of w) same (sym (s.carried same))

  second_is : l.cell ≡ m.cell → l.new.second ≡ m.old.second
  second_is same = ap (λ (w : Words). w.second) (sym (s.carried same))

  cells_zero : l.cell ≡ m.cell → (item_first b m + (P - (2 * b * l.cell + sum_of l.new))) % P ≡ 0
  cells_zero same = ap (λ u. (u + (P - (2 * b * l.cell + sum_of l.new))) % P) (sym (first_is same))
      ∙ same_zero b base l.cell (sum_of l.new) in_l.cell (sums b l.new in_l.new)

  -- in another
  up : l.cell ≢ m.cell → l.cell < m.cell
  up apart = omega (arith, s.rises)

  none_is : l.cell ≢ m.cell → sum_of m.old ≡ 0
  none_is apart = ap sum_of (s.fresh apart)

  excess_zero : l.cell ≢ m.cell → (item_first b m + (P - 2 * b * (1 + (m.cell - l.cell - 1) + l.cell))) % P ≡ 0
  excess_zero apart = ap (λ t. (2 * b * m.cell + t + (P - 2 * b * (1 + (m.cell - l.cell - 1) + l.cell))) % P) (none_is apart)
      ∙ other_excess b base l.cell m.cell (up apart) in_m.cell

  next_zero : l.cell ≢ m.cell → m.cell ≤ l.cell + 1 → (item_first b m + (P - 2 * b * (l.cell + 1))) % P ≡ 0
  next_zero apart near =
      let low = up apart in
      let e : 1 + (m.cell - l.cell - 1) + l.cell ≡ l.cell + 1 = omega arith in
      ap (λ c. (item_first b m + (P - 2 * b * c)) % P) (sym e) ∙ excess_zero apart

  within_complete : i < 2 ^ 20 → j < 2 ^ 20
      → MeetsWithin b (if l.cell == m.cell then j - i - 1 else m.cell - l.cell - 1) (if l.cell == m.cell then (sum_of l.new + (P - 2 * b * (j - i))) % P else 0)
      (item_first b m) (item_second b m j) l i
  within_complete at_i at_j = by (l.cell == m.cell) refl
    where
      by : (c : Bool) → (l.cell == m.cell) ≡ c
          → MeetsWithin b (if c then j - i - 1 else m.cell - l.cell - 1) (if c then (sum_of l.new + (P - 2 * b * (j - i))) % P else 0)
          (item_first b m) (item_second b m j) l i
      by true e =
          let same = eqb-true l.cell m.cell e in
          let later : i < j = omega (arith, s.rises) in
          let small = sums b l.new in_l.new in
          record {
            excess = ap (λ u. (u + (P - 2 * b * (1 + (j - i - 1) + l.cell))) % P) (sym (first_is same))
                ∙ same_excess b base l.cell (sum_of l.new) i j in_l.cell small later at_j;
            cells = right_zero _ _ (cells_zero same);
            times = right_zero _ _
                (ap (λ o. (2 * (b * j + o) + (sum_of l.new + (P - 2 * b * (j - i))) % P + (P - (2 * b * i + sum_of l.new + 2 * l.new.second))) % P)
                (sym (second_is same)) ∙ same_time b base (sum_of l.new) i j l.new.second small later at_j in_l.new.second);
          }
      by false e =
          let apart = eqb-false l.cell m.cell e in
          record { excess = excess_zero apart; cells = left_zero 0 _ refl; times = left_zero 0 _ refl }

  image_complete : i < 2 ^ 20 → j < 2 ^ 20 → m.cell ≤ l.cell + 1
      → MeetsImage b (if l.cell == m.cell then j - i - 1 else 0) (item_first b m) (item_second b m j) l i
  image_complete at_i at_j near = by (l.cell == m.cell) refl
    where
      by : (c : Bool) → (l.cell == m.cell) ≡ c → MeetsImage b (if c then j - i - 1 else 0) (item_first b m) (item_second b m j) l i
      by true e =
          let same = eqb-true l.cell m.cell e in
          let later : i < j = omega (arith, s.rises) in
          record {
            cells = right_zero _ _ (cells_zero same);
            times = right_zero _ _ (ap (λ o. (b * j + o + (P - (b * (i + 1 + (j - i - 1)) + l.new.second))) % P) (sym (second_is same))
                ∙ image_time b base i j l.new.second later at_j in_l.new.second);
          }
      by false e =
          let zero = next_zero (eqb-false l.cell m.cell e) near in
          record { cells = left_zero _ _ zero; times = left_zero _ _ zero }

  tape_complete : l.new.second ≡ 0 → m.cell ≤ l.cell + 1 → MeetsTape b (item_first b m) l
  tape_complete second near = elim (cases_eq l.cell m.cell) [
    | inl same ↦
        let sum : sum_of l.new ≡ l.new.first = omega arith in
        right_zero _ _ (ap (λ t. (item_first b m + (P - (2 * b * l.cell + t))) % P) (sym sum) ∙ cells_zero same)
    | inr apart ↦ left_zero _ _ (next_zero apart near)
  ]

  guard_complete : l.new ≡ no_words → MeetsGuard b (if l.cell == m.cell then 0 else m.cell - l.cell - 1) (item_first b m) l
  guard_complete none = by (l.cell == m.cell) refl
    where
      by : (c : Bool) → (l.cell == m.cell) ≡ c → MeetsGuard b (if c then 0 else m.cell - l.cell - 1) (item_first b m) l
      by true e =
          let sum : sum_of l.new ≡ 0 = ap sum_of none in
          let plus : 2 * b * l.cell + 0 ≡ 2 * b * l.cell = omega arith in
          left_zero _ _ (ap (λ c. (item_first b m + (P - c)) % P) (sym plus) ∙ ap (λ t. (item_first b m + (P - (2 * b * l.cell + t))) % P) (sym sum)
          ∙ cells_zero (eqb-true l.cell m.cell e))
      by false e =
          let order : l.cell + 1 + (m.cell - l.cell - 1) ≡ 1 + (m.cell - l.cell - 1) + l.cell = omega arith in
          right_zero _ _ (ap (λ c. (item_first b m + (P - 2 * b * c)) % P) order ∙ excess_zero (eqb-false l.cell m.cell e))

last_complete : (b : ℕ) (m : DoubleLine) → m.cell ≡ 0 → m.old ≡ no_words → item_first b m % P ≡ 0
last_complete b m cell old = ap₂ (λ c (w : Words). (2 * b * c + sum_of w) % P) cell old ∙ omega arith

pub checks_complete : ChecksAreComplete
checks_complete = record {
  within = λ b l m i j base in_l in_m at_i at_j s. within_complete b base l m i j in_l in_m s at_i at_j;
  image = λ b l m i j base in_l in_m at_i at_j s near. image_complete b base l m i j in_l in_m s at_i at_j near;
  tape = λ b l m i j base in_l in_m s second near. tape_complete b base l m i j in_l in_m s second near;
  guard = λ b l m i j base in_l in_m s none. guard_complete b base l m i j in_l in_m s none;
  last = last_complete;
}
