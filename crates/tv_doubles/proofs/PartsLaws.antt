-- The laws of the parts of the argument's double lines.
use Rattle.std.proofs.Common.{◌≡◌, ◌≢◌, ◌⊎◌, ℕ, zero, suc, ◌+◌, ◌-◌, ◌*◌, ◌/◌, ◌%◌, ◌^◌, ◌<◌, ◌≤◌, ◌==◌, nat_lt}
use Rattle.std.proofs.Common.{if◌then◌else◌, Bool, true, false, inl, inr, refl, sym, ap, ap₂, subst, ◌∙◌, arith, eq-eqb}
use Rattle.std.proofs.lemmas.Bool.{cases_eq, cases_lt, leb-true, ltb-true, ltb-false, ne_eqb}
use Rattle.std.proofs.Common.{mod-lt}
use Rattle.std.proofs.Math.Nat.{pow-le-pow_right, div-add-mod, mul-mod_right}
use Rattle.tv_core.specs.declared.field.TheConstants.{P}
use Rattle.tv_doubles.proofs.SinglesLaws.{HonestFrom, HonestFrom-from_Honest, HonestFrom-left, HonestFrom-right, Agrees, all_led, words_are}
use Rattle.tv_doubles.specs.Doubles.{Words, DoubleLine, HonestDoubles, before, no_words}
use Rattle.tv_doubles.specs.Parts.{side_number, is_used, cell_number, pair_at, data_double, IsLeft, KnowsOthers, IsInUse, PartsAreRight}
use Rattle.tv_core.specs.Lines.{memory_after}
use Rattle.tv_doubles.specs.Singles.{Shown, word_of, single, singles_of, singles_below, Shows, TellsApart}
use Rattle.tv_doubles.specs.Singles.Shown.{Both, One, None}
use Rattle.tv_doubles.specs.Within.{sum_of}

-- ---- the numbers of single cells
module _ (memory tape : ℕ) (low : memory ≤ 2 ^ 29) (few : tape ≤ 2 ^ 17) where
  record InMemory (d : ℕ) (s : Bool) : Type 0 where
    below : d < memory
    is : cell_number memory tape d s ≡ 2 * d + side_number s

  record OnTape (d : ℕ) (s : Bool) : Type 0 where
    from : memory ≤ d
    below : d < memory + tape
    side : s ≡ false
    is : cell_number memory tape d s ≡ 2 ^ 30 + (d - memory)

  record OnNull (d : ℕ) (s : Bool) : Type 0 where
    at : d ≡ memory + tape
    side : s ≡ false
    is : cell_number memory tape d s ≡ 2 ^ 30 + 2 ^ 29

  first_side : (d : ℕ) (s : Bool) → is_used memory tape d s ≡ true → memory ≤ d → (s ≡ false) × (d ≤ memory + tape)
  first_side d false u h = (refl, leb-true d (memory + tape) u)
  first_side d true u h = let l = ltb-true d memory u in absurd (omega arith)

  abbrev number_by : ℕ → Bool → Bool → Bool → ℕ
  number_by d s b c = if b then 2 * d + side_number s else if c then 2 ^ 30 + (d - memory) else 2 ^ 30 + 2 ^ 29

  view : (d : ℕ) (s : Bool) → is_used memory tape d s ≡ true → InMemory d s ⊎ (OnTape d s ⊎ OnNull d s)
  view d s u = by (nat_lt d memory) refl (nat_lt d (memory + tape)) refl
    where
      by : (b : Bool) → nat_lt d memory ≡ b → (c : Bool) → nat_lt d (memory + tape) ≡ c → InMemory d s ⊎ (OnTape d s ⊎ OnNull d s)
      by true e c f = inl (record { below = ltb-true d memory e; is = ap₂ (number_by d s) e f })
      by false e true f =
          let h = ltb-false d memory e in
          let k = first_side d s u h in
          inr (inl (record { from = h; below = ltb-true d (memory + tape) f; side = k.0; is = ap₂ (number_by d s) e f }))
      by false e false f =
          let h = ltb-false d memory e in
          let l = ltb-false d (memory + tape) f in
          let k = first_side d s u h in
          inr (inr (record { at = omega (arith, k.1); side = k.0; is = ap₂ (number_by d s) e f }))

  side_most : (s : Bool) → side_number s ≤ 1
  side_most false = omega arith
  side_most true = omega arith

  same_side : (s t : Bool) → side_number s ≡ side_number t → s ≡ t
  same_side false false e = refl
  same_side false true e = absurd (omega arith)
  same_side true false e = absurd (omega arith)
  same_side true true e = refl

  apart_by : (d e : ℕ) (s t : Bool) → InMemory d s ⊎ (OnTape d s ⊎ OnNull d s) → InMemory e t ⊎ (OnTape e t ⊎ OnNull e t)
      → cell_number memory tape d s ≡ cell_number memory tape e t → (d ≡ e) × (s ≡ t)
  apart_by d e s t (inl x) (inl y) same =
      let number : 2 * d + side_number s ≡ 2 * e + side_number t = sym x.is ∙ same ∙ y.is in
      let here : d ≡ e = omega (arith, side_most s, side_most t) in
      (here, same_side s t (omega arith))
  apart_by d e s t (inl x) (inr (inl y)) same = let number = sym x.is ∙ same ∙ y.is in absurd (omega (arith, number, x.below, side_most s))
  apart_by d e s t (inl x) (inr (inr y)) same = let number = sym x.is ∙ same ∙ y.is in absurd (omega (arith, number, x.below, side_most s))
  apart_by d e s t (inr (inl x)) (inl y) same = let number = sym x.is ∙ same ∙ y.is in absurd (omega (arith, number, y.below, side_most t))
  apart_by d e s t (inr (inl x)) (inr (inl y)) same =
      let number : 2 ^ 30 + (d - memory) ≡ 2 ^ 30 + (e - memory) = sym x.is ∙ same ∙ y.is in
      (omega (arith, x.from, y.from), x.side ∙ sym y.side)
  apart_by d e s t (inr (inl x)) (inr (inr y)) same = let number = sym x.is ∙ same ∙ y.is in absurd (omega (arith, number, x.below))
  apart_by d e s t (inr (inr x)) (inl y) same = let number = sym x.is ∙ same ∙ y.is in absurd (omega (arith, number, y.below, side_most t))
  apart_by d e s t (inr (inr x)) (inr (inl y)) same = let number = sym x.is ∙ same ∙ y.is in absurd (omega (arith, number, y.below))
  apart_by d e s t (inr (inr x)) (inr (inr y)) same = (x.at ∙ sym y.at, x.side ∙ sym y.side)

  tells_apart : TellsApart (is_used memory tape) (cell_number memory tape)
  tells_apart d e s t u v same = apart_by d e s t (view d s u) (view e t v) same

-- ---- a data line
pairs_by : (side : Bool) (word other x : ℕ) → word < 2 ^ 32 → other < 2 ^ 32 → x < P → side_number side * ((other + (P - word)) % P) % P ≡ x
    → ((word + x) % P ≡ (pair_at side word other).first) × ((other + (P - x)) % P ≡ (pair_at side word other).second)
pairs_by false word other x h k l e = (omega arith, omega arith)
pairs_by true word other x h k l e = (omega arith, omega arith)

sums_by : (side : Bool) (word other : ℕ) → sum_of (pair_at side word other) ≡ word + other
sums_by false word other = refl
sums_by true word other = omega arith

shows_data : (used : ℕ → Bool → Bool) (d : ℕ) (side : Bool) (old new other : ℕ) → used d side ≡ true → Shows used (One side) (data_double d side old new other)
shows_data used d false old new other u = (u, refl)
shows_data used d true old new other u = (u, refl)

single_data : (number time : ℕ → Bool → ℕ) (d : ℕ) (side : Bool) (old new other i : ℕ)
    → single number time (data_double d side old new other) i side ≡ record { cell = number d side; time = time i side; old = old; new = new }
single_data number time d false old new other i = refl
single_data number time d true old new other i = refl

-- ---- honest double lines from single ones
module _ (used : ℕ → Bool → Bool) (number time : ℕ → Bool → ℕ) (apart : TellsApart used number) where
  -- a word that has no cell stays 0
  abbrev Unused : (ℕ → Words) → Type 0
  Unused w = (e : ℕ) (t : Bool) → used e t ≡ false → word_of (w e) t ≡ 0

  -- a word that isn't shown
  left : (m : ℕ → ℕ) (w : ℕ → Words) (l : DoubleLine) (t : Bool) → Agrees used number time apart m w → Unused w → IsLeft used number m l t
      → word_of l.old t ≡ word_of (w l.cell) t
  left m w l t agrees unused is = by (used l.cell t) refl
    where
      by : (b : Bool) → used l.cell t ≡ b → word_of l.old t ≡ word_of (w l.cell) t
      by true e = is ∙ ap (λ b. if b then m (number l.cell t) else 0) e ∙ agrees.at l.cell t e
      by false e = is ∙ ap (λ b. if b then m (number l.cell t) else 0) e ∙ sym (unused l.cell t e)

  differ : false ≢ true
  differ e = cc

  old_is : (m : ℕ → ℕ) (w : ℕ → Words) (shown : Shown) (l : DoubleLine) (i : ℕ) → Agrees used number time apart m w → Unused w → Shows used shown l
      → KnowsOthers used number shown m l → HonestFrom m (singles_of number time shown l i) → l.old ≡ w l.cell
  old_is m w Both l i agrees unused (u, v) knows (one, two) =
      words_are l.old (w l.cell) (one ∙ agrees.at l.cell false u)
      (two.0 ∙ ap (λ b. if b then l.new.first else m (number l.cell true))
      (ne_eqb (number l.cell false) (number l.cell true) (λ e. differ (apart l.cell l.cell false true u v e).1)) ∙ agrees.at l.cell true v)
  old_is m w (One false) l i agrees unused (u, same) knows one =
      words_are l.old (w l.cell) (one.0 ∙ agrees.at l.cell false u) (left m w l true agrees unused knows)
  old_is m w (One true) l i agrees unused (u, same) knows one =
      words_are l.old (w l.cell) (left m w l false agrees unused knows) (one.0 ∙ agrees.at l.cell true u)
  old_is m w None l i agrees unused same knows none =
      words_are l.old (w l.cell) (left m w l false agrees unused knows.0) (left m w l true agrees unused knows.1)

  -- what a line leaves in a word that has no cell
  new_is : (shown : Shown) (l : DoubleLine) (t : Bool) → Shows used shown l → used l.cell t ≡ false → word_of l.new t ≡ word_of l.old t
  new_is Both l false (u, v) none = absurd (differ (sym none ∙ u))
  new_is Both l true (u, v) none = absurd (differ (sym none ∙ v))
  new_is (One false) l false (u, same) none = absurd (differ (sym none ∙ u))
  new_is (One false) l true (u, same) none = same
  new_is (One true) l false (u, same) none = same
  new_is (One true) l true (u, same) none = absurd (differ (sym none ∙ u))
  new_is None l false (one, two) none = one
  new_is None l true (one, two) none = two

  unused_more : (w : ℕ → Words) (shown : Shown) (l : DoubleLine) → Unused w → l.old ≡ w l.cell → Shows used shown l
      → Unused (λ c. if l.cell == c then l.new else w c)
  unused_more w shown l unused old shows e t none = by (cases_eq l.cell e)
    where
      by : ((l.cell ≡ e) ⊎ (l.cell ≢ e)) → word_of (if l.cell == e then l.new else w e) t ≡ 0
      by (inl same) =
          let here : used l.cell t ≡ false = ap (λ c. used c t) same ∙ none in
          ap (λ b. word_of (if b then l.new else w e) t) (eq-eqb l.cell e same)
          ∙ new_is shown l t shows here ∙ ap (λ x. word_of x t) old ∙ unused l.cell t here
      by (inr other) = ap (λ b. word_of (if b then l.new else w e) t) (ne_eqb l.cell e other) ∙ unused e t none

  module _ (shown : ℕ → Shown) (line : ℕ → DoubleLine) where
    record Kept (n : ℕ) : Type 0 where
      honest : HonestDoubles n line
      unused : Unused (before line n)

    unused_start : Unused (λ _. no_words)
    unused_start e false none = refl
    unused_start e true none = refl

    doubles : (n : ℕ) → ((i : ℕ) → i < n → Shows used (shown i) (line i))
        → ((i : ℕ) → i < n → KnowsOthers used number (shown i) (memory_after (singles_below number time shown line i)) (line i))
        → HonestFrom (λ _. 0) (singles_below number time shown line n) → Kept n
    doubles zero shows knows honest = record { honest = λ i h. absurd (omega arith); unused = unused_start }
    doubles (suc n) shows knows honest =
        let xs = singles_below number time shown line n in
        let ys = singles_of number time (shown n) (line n) n in
        let kept = doubles n (λ i h. shows i (omega arith)) (λ i h. knows i (omega arith)) (HonestFrom-left (λ _. 0) xs ys honest) in
        let front = all_led used number time apart shown line n (λ i h. shows i (omega arith)) kept.honest in
        let old : (line n).old ≡ before line n (line n).cell =
        old_is (memory_after xs) (before line n) (shown n) (line n) n front.leaves kept.unused (shows n (omega arith)) (knows n (omega arith))
        (HonestFrom-right (λ _. 0) xs ys honest) in
        record {
          honest = λ i h. elim (cases_eq i n) [
            | inl same ↦ subst (λ i. (line i).old ≡ before line i (line i).cell) (sym same) old
            | inr other ↦ kept.honest i (omega arith)
          ];
          unused = unused_more (before line n) (shown n) (line n) kept.unused old (shows n (omega arith));
        }

-- ---- double cells in use
power_some : (m : ℕ) → 0 < 2 ^ m
power_some m = let low : 0 ≤ m = omega arith in let x : 2 ^ 0 ≤ 2 ^ m = pow-le-pow_right (omega arith) low in omega arith

near_by : (image memory tape m w d : ℕ) → 2 ^ m ≡ w → 0 < w → image ≤ memory → d < memory + tape
    → (e : ℕ) × (d < e) × (e ≤ d + 2 ^ m) × IsInUse image memory tape m e
near_by image memory tape m w d is some low h = by (cases_lt e image) (cases_lt e memory) (cases_lt d memory)
  where
    e : ℕ
    e = w * (d / w + 1)

    whole : w * (d / w) + d % w ≡ d
    whole = div-add-mod d w

    less : d % w < w
    less = mod-lt d some

    up : d < e
    up = omega (arith, whole, less)

    most : e ≤ d + 2 ^ m
    most = omega (arith, whole, is)

    by : ((e < image) ⊎ (image ≤ e)) → ((e < memory) ⊎ (memory ≤ e)) → ((d < memory) ⊎ (memory ≤ d))
        → (e : ℕ) × (d < e) × (e ≤ d + 2 ^ m) × IsInUse image memory tape m e
    by (inl x) y z = (e, up, most, inl x)
    by (inr x) (inl y) z = (e, up, most, inr (inl (ap (λ v. e % v) is ∙ mul-mod_right w (d / w + 1), omega (arith, is), x, y)))
    by (inr x) (inr y) (inl z) = (memory, z, omega (arith, y, most), inr (inr (omega arith, omega arith)))
    by (inr x) (inr y) (inr z) = (d + 1, omega arith, omega (arith, is, some), inr (inr (omega arith, omega arith)))

next_by : (image memory tape m d : ℕ) → (d + 1 < image) ⊎ ((memory ≤ d + 1) × (d < memory + tape)) → IsInUse image memory tape m (d + 1)
next_by image memory tape m d (inl h) = inl h
next_by image memory tape m d (inr (h, k)) = inr (inr (h, omega arith))

pub parts_right : PartsAreRight
parts_right = record {
  apart = tells_apart;
  pairs = pairs_by;
  sums = sums_by;
  shows = shows_data;
  single_is = single_data;
  doubles = λ used number time shown line n apart shows knows honest.
      (doubles used number time apart shown line n shows knows (HonestFrom-from_Honest (λ _. 0) (singles_below number time shown line n) honest)).honest;
  near = λ image memory tape m d low h. near_by image memory tape m (2 ^ m) d refl (power_some m) low h;
  next = next_by;
  greatest = λ n line few some above. (omega arith, λ i h. let a = above i h in omega arith);
}
