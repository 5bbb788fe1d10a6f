-- The laws of three registers read at once.
use Rattle.tv_core.proofs.Common.{◌≡◌, ℕ, ◌+◌, ◌-◌, ◌*◌, ◌/◌, ◌%◌, ◌<◌, ◌≤◌, ◌==◌, if◌then◌else◌, List, [], ◌∷◌, ◌++◌, length, inl, inr, refl, sym, ◌∙◌, ap}
use Rattle.tv_core.proofs.Common.{ap₂, arith, false, mod-lt, mod-eq_of_lt, zero-mul, slice_index, nat_tests, length-append, length-each_below, value-below}
use Rattle.tv_core.proofs.Common.{value-append, value-cons, value-wire, wire-below, InField-none, InField-cons, Meets-split, Meets-join, each_below, fresh, put}
use Rattle.tv_core.proofs.Common.{pure, turns, ◌>>=◌, wire, scaled, less, top, Combination, value, Assigns, Meets, HasFrom, InField, sequence, normal, IsNormal}
use Rattle.std.proofs.Common.{eq-zero-or-pos, mul-one}
use Rattle.std.proofs.Math.Nat.{div-add-mod}
use Rattle.tv_bits.proofs.BitLaws.{bit_cases}
use Rattle.tv_bits.proofs.GateLaws.{length-negated}
use Rattle.tv_bits.proofs.SelectLaws.{pick_sound, pick_complete}
use Rattle.tv_bits.proofs.TimesLaws.{kept_sound, kept_complete, times_sound, times_complete, ratio_sound, ratio_complete, residue_below}
use Rattle.tv_bits.specs.Pairs.{negative}
use Rattle.tv_bits.specs.Ratio.{ratio_of}
use Rattle.tv_bits.specs.Select.{selected, pick_of}
use Rattle.tv_bits.specs.Times.{times_of}
use Rattle.tv_core.proofs.BelowLaws.{has_each}
use Rattle.tv_core.proofs.CombinationLaws.{top-scaled}
use Rattle.tv_core.proofs.DifferenceLaws.{same_of_minus}
use Rattle.tv_core.proofs.FieldLaws.{InField-append, InField-each_below}
use Rattle.tv_core.proofs.HasLaws.{HasFrom-after}
use Rattle.tv_core.proofs.LoopLaws.{turn_met, turns_met, turns-next}
use Rattle.tv_core.proofs.NormalCircuits.{normal_append, normal_negated}
use Rattle.tv_core.proofs.NormalLaws.{value-normal, IsNormalFrom-normal}
use Rattle.tv_core.proofs.Unique.{same_values}
use Rattle.tv_core.specs.declared.field.TheConstants.{P}
use Rattle.tv_regs.proofs.Gates.{word_of, word_below}
use Rattle.tv_regs.proofs.TripleNumbers.{cubic_number, root_other, root_named, root_dest, curve_passes, passing_divides}
use Rattle.tv_bits.specs.Wires.{words_at}
use Rattle.tv_regs.specs.Triple.{roots_of, sums_of, pairs_of, cubic, departure, passes_of, passes_turn, curve_of, point_of, triple_of, triple_wires}
use Rattle.tv_regs.specs.Triple.{triple_values, roots_values, curve_values, passing_values, minus, curve_through, curve_at, root_product, passing}
use Rattle.tv_regs.specs.Triple.{point_values, other_number, AreNumbers, TripleIsSound, TripleIsComplete, TripleSizes, TripleCosts}
use Rattle.tv_regs.specs.declared.triple.Curve.{Curve}
use Rattle.tv_regs.specs.declared.triple.Roots.{Roots}

-- ---- the numbers
-- the wires of the roots hold three numbers, the sums of their products by one, two and three
pub record HasRoots (z : List ℕ) (roots : Roots) (o b d : ℕ) : Type 0 where
  pub dest : slice_index z roots.dest ≡ d
  pub other : slice_index z roots.other ≡ o
  pub sum : slice_index z roots.sum ≡ o + b + d
  pub pairs : slice_index z roots.pairs ≡ o * b + d * (o + b)
  pub product : slice_index z roots.product ≡ o * b * d

-- ---- values of short combinations
flat_rise : (x y : ℕ) → x < P → ((P - 1) * x + (1 * y + 0 % P) % P) % P ≡ minus y x
flat_rise x y h = omega arith

pub value-rise : (z : List ℕ) (old new : ℕ) → Assigns z → value ((P - 1, old) ∷ (1, new) ∷ []) z ≡ minus (slice_index z new) (slice_index z old)
value-rise z old new assigns =
    value-cons (P - 1) old ((1, new) ∷ []) z ∙ ap (λ n. ((P - 1) * slice_index z old + n) % P) (value-cons 1 new [] z)
    ∙ flat_rise (slice_index z old) (slice_index z new) (wire-below assigns old)

-- ---- the numbers of the roots
pair_number : (o b : ℕ) → o < 16 → b < 16 → o * b < 256
pair_number o b ho hb = grind arith

pairs_number : (o b d : ℕ) → o < 16 → b < 16 → d < 16 → d * (o + b) < 512
pairs_number o b d ho hb hd = grind arith

pub product_number : (p d : ℕ) → p < 256 → d < 16 → p * d < 4096
product_number p d hp hd = grind arith

sum_up : (m n r : ℕ) → m < 256 → n < 512 → r < P → n % P ≡ minus r m → r ≡ m + n
sum_up m n r hm hn hr e = omega arith

module _ (z : List ℕ) (assigns : Assigns z) (stores target source named : Combination) (numbers : AreNumbers z stores target source named) where
  abbrev o : ℕ
  o = other_number z stores target source

  abbrev b : ℕ
  b = value named z

  abbrev d : ℕ
  d = value target z

  pub other_below : o < 16
  other_below = elim (bit_cases (value stores z) numbers.store) [ inl none ↦ rw none (numbers.other) | inr one ↦ rw one (numbers.dest) ]

  value-sum : (dest other : ℕ) → slice_index z dest ≡ d → slice_index z other ≡ o → value ((named ++ wire dest) ++ wire other) z ≡ o + b + d
  value-sum dest other hd ho =
      let third = numbers.third in
      let first = numbers.dest in
      value-append (named ++ wire dest) (wire other) z
      ∙ ap₂ (λ m n. (m + n) % P) (value-append named (wire dest) z
      ∙ ap (λ n. (b + n) % P) (value-wire assigns dest ∙ hd)) (value-wire assigns other ∙ ho) ∙ omega (arith, other_below)

  value-two : (other : ℕ) → slice_index z other ≡ o → value (named ++ wire other) z ≡ o + b
  value-two other ho =
      let third = numbers.third in
      value-append named (wire other) z ∙ ap (λ n. (b + n) % P) (value-wire assigns other ∙ ho) ∙ omega (arith, other_below)

  -- the products, as numbers
  ob : o * b < 256
  ob = pair_number o b other_below numbers.third

  db : d * (o + b) < 512
  db = pairs_number o b d other_below numbers.third numbers.dest

  obd : o * b * d < 4096
  obd = product_number (o * b) d ob numbers.dest

  pub roots_sound : (next : ℕ) → Meets z (roots_of stores target source named next).list → HasRoots z (roots_of stores target source named next).answer o b d
  unfolding roots_of sums_of pairs_of times_of pick_of fresh put pure ◌>>=◌
  roots_sound next meets =
      let dest = kept_sound z next target assigns (meets.0, tt) in
      let other = pick_sound z (next + 1) stores (wire next) source assigns numbers.store (meets.1.0, tt)
      ∙ ap (λ n. selected (value stores z) n (value source z)) (value-wire assigns next ∙ dest) in
      let sum = kept_sound z (next + 1 + 1) ((named ++ wire next) ++ wire (next + 1)) assigns (meets.1.1.0, tt) ∙ value-sum next (next + 1) dest other in
      let pair = times_sound z (next + 1 + 1 + 1) (wire (next + 1)) named assigns (meets.1.1.1.0, tt)
      ∙ ap (λ n. n * b % P) (value-wire assigns (next + 1) ∙ other) ∙ mod-eq_of_lt (omega (arith, ob)) in
      let sides = sym (ap₂ (λ m n. m * n % P) (value-wire assigns next ∙ dest) (value-two (next + 1) other)) ∙ meets.1.1.1.1.0
      ∙ value-rise z (next + 1 + 1 + 1) (next + 1 + 1 + 1 + 1) assigns ∙ ap (minus (slice_index z (next + 1 + 1 + 1 + 1))) pair in
      let pairs = sum_up (o * b) (d * (o + b)) (slice_index z (next + 1 + 1 + 1 + 1)) ob db (wire-below assigns (next + 1 + 1 + 1 + 1)) sides in
      let product = times_sound z (next + 1 + 1 + 1 + 1 + 1) (wire (next + 1 + 1 + 1)) (wire next) assigns (meets.1.1.1.1.1.0, tt)
      ∙ ap₂ (λ m n. m * n % P) (value-wire assigns (next + 1 + 1 + 1) ∙ pair) (value-wire assigns next ∙ dest) ∙ mod-eq_of_lt (omega (arith, obd)) in
      record { dest = dest; other = other; sum = sum; pairs = pairs; product = product }

  pub roots_complete : (next : ℕ) → HasFrom z next (d ∷ o ∷ (o + b + d) ∷ (o * b) ∷ (o * b + d * (o + b)) ∷ (o * b * d) ∷ [])
      → Meets z (roots_of stores target source named next).list
  unfolding roots_of sums_of pairs_of times_of pick_of fresh put pure ◌>>=◌
  roots_complete next has =
      let dest = has.0 in
      let other = has.1.0 in
      let pair = has.1.1.1.0 in
      let pairs = has.1.1.1.1.0 in
      let m1 = kept_complete z next target assigns (dest, tt) in
      let m2 = pick_complete z (next + 1) stores (wire next) source assigns numbers.store (
        other
            ∙ ap (λ n. selected (value stores z) n (value source z)) (sym (value-wire assigns next ∙ dest)),
        tt,
      ) in
      let m3 = kept_complete z (next + 1 + 1) ((named ++ wire next) ++ wire (next + 1)) assigns (has.1.1.0 ∙ sym (value-sum next (next + 1) dest other), tt) in
      let m4 = times_complete z (next + 1 + 1 + 1) (wire (next + 1)) named assigns (
        pair
            ∙ sym (ap (λ n. n * b % P) (value-wire assigns (next + 1) ∙ other) ∙ mod-eq_of_lt (omega (arith, ob))),
        tt,
      ) in
      let rise : d * (o + b) % P ≡ minus (o * b + d * (o + b)) (o * b) = omega (arith, ob, db) in
      let m5 = ap₂ (λ m n. m * n % P) (value-wire assigns next ∙ dest) (value-two (next + 1) other) ∙ rise
      ∙ sym (value-rise z (next + 1 + 1 + 1) (next + 1 + 1 + 1 + 1) assigns ∙ ap₂ minus pairs pair) in
      let m6 = times_complete z (next + 1 + 1 + 1 + 1 + 1) (wire (next + 1 + 1 + 1)) (wire next) assigns (
        has.1.1.1.1.1.0 ∙ sym (ap₂ (λ m n. m * n % P) (value-wire assigns (next + 1 + 1 + 1) ∙ pair) (value-wire assigns next ∙ dest)
            ∙ mod-eq_of_lt (omega (arith, obd))),
        tt,
      ) in
      (m1.0, (m2.0, (m3.0, (m4.0, (m5, (m6.0, tt))))))

-- ---- the curve
abbrev curve_in : List ℕ → ℕ → Curve
curve_in z at = record { level = slice_index z at; slope = slice_index z (at + 1); bend = slice_index z (at + 2) }

pub negative_small : (n : ℕ) → 0 < n → n < P → negative n ≡ P - n
negative_small n positive small = omega arith

pub square_small : (i : ℕ) → i < 16 → i * i < 256
square_small i h = grind arith

pub square_positive : (i : ℕ) → 0 < i → 0 < i * i
square_positive i positive = grind arith

pub other_branch : {A : Type 0} (i : ℕ) (x y : A) → 0 < i → (if i == 0 then x else y) ≡ y
other_branch i x y positive = ap (λ t. if t then x else y) (not_zero i positive)
  where
    not_zero : (i : ℕ) → 0 < i → (i == 0) ≡ false
    not_zero i positive = grind (arith, nat_tests)

-- the cubic and the departure at other numbers than 0
abbrev pub long_cubic : Roots → ℕ → Combination
long_cubic roots i = (i * i * i, 0) ∷ (negative (i * i), roots.sum) ∷ (i, roots.pairs) ∷ (P - 1, roots.product) ∷ []

abbrev pub long_departure : ℕ → ℕ → ℕ → Combination
long_departure reg at i = (1, reg) ∷ (P - 1, at) ∷ (negative i, at + 1) ∷ (negative (i * i), at + 2) ∷ []

flat_cubic : (c n i one t1 t2 t3 : ℕ) → one ≡ 1
    → (c * one + (n * t1 + (i * t2 + ((P - 1) * t3 + 0 % P) % P) % P) % P) % P ≡ (c + n * t1 + i * t2 + (P - 1) * t3) % P
flat_cubic c n i one t1 t2 t3 is = rw is (omega arith)

flat_none : (t1 t2 t3 : ℕ) → ((P - 1) * t3 + 0 % P) % P ≡ (0 * 0 * 0 + (P - 0 * 0) * t1 + 0 * t2 + (P - 1) * t3) % P
flat_none t1 t2 t3 = omega arith

turn-next : (roots : Roots) (curve : ℕ) (regs : List ℕ) (i at : ℕ) → (passes_turn roots curve regs i at).next ≡ at + 1
unfolding passes_of ratio_of fresh put pure ◌>>=◌
turn-next roots curve regs i at = refl

turn_at : (roots : Roots) (curve : ℕ) (regs : List ℕ) (at j : ℕ) → (sequence j (passes_turn roots curve regs) at).next ≡ at + j
turn_at roots curve regs at j = turns-next (λ i _. passes_turn roots curve regs i) tt at 1 j (λ i a k. turn-next roots curve regs i k)
    ∙ ap (λ k. at + k) (mul-one j)

module _ (z : List ℕ) (assigns : Assigns z) where
  value-cubic_zero : (roots : Roots) (o b d : ℕ) → o < 16 → b < 16 → d < 16 → HasRoots z roots o b d → value (cubic roots 0) z ≡ root_product o b d 0
  value-cubic_zero roots o b d ho hb hd has =
      value-cons (P - 1) roots.product [] z ∙ ap (λ n. ((P - 1) * n + 0 % P) % P) has.product
      ∙ flat_none (o + b + d) (o * b + d * (o + b)) (o * b * d) ∙ cubic_number o b d 0 ho hb hd (omega arith)

  value-cubic_more : (roots : Roots) (o b d i : ℕ) → o < 16 → b < 16 → d < 16 → i < 16 → 0 < i → HasRoots z roots o b d
      → value (long_cubic roots i) z ≡ root_product o b d i
  value-cubic_more roots o b d i ho hb hd hi positive has =
      let t1 = slice_index z roots.sum in
      let n = negative_small (i * i) (square_positive i positive) (omega (arith, square_small i hi)) in
      let last = value-cons i roots.pairs ((P - 1, roots.product) ∷ []) z
      ∙ ap (λ m. (i * slice_index z roots.pairs + m) % P) (value-cons (P - 1) roots.product [] z) in
      let more = value-cons (negative (i * i)) roots.sum ((i, roots.pairs) ∷ (P - 1, roots.product) ∷ []) z ∙ ap (λ m. (negative (i * i) * t1 + m) % P) last in
      value-cons (i * i * i) 0 ((negative (i * i), roots.sum) ∷ (i, roots.pairs) ∷ (P - 1, roots.product) ∷ []) z
      ∙ ap (λ m. (i * i * i * slice_index z 0 + m) % P) more
      ∙ flat_cubic (i * i * i) (negative (i * i)) i (slice_index z 0) t1 (slice_index z roots.pairs) (slice_index z roots.product) assigns.one
      ∙ ap (λ m. (i * i * i + m * t1 + i * slice_index z roots.pairs + (P - 1) * slice_index z roots.product) % P) n
      ∙ ap (λ m. (i * i * i + (P - i * i) * m + i * slice_index z roots.pairs + (P - 1) * slice_index z roots.product) % P) has.sum
      ∙ ap₂ (λ m q. (i * i * i + (P - i * i) * (o + b + d) + i * m + (P - 1) * q) % P) has.pairs has.product
      ∙ cubic_number o b d i ho hb hd hi

  value-cubic : (roots : Roots) (o b d i : ℕ) → o < 16 → b < 16 → d < 16 → i < 16 → HasRoots z roots o b d → value (cubic roots i) z ≡ root_product o b d i
  value-cubic roots o b d i ho hb hd hi has = elim (eq-zero-or-pos i) [
    | inl none ↦ ap (λ k. value (cubic roots k) z) none ∙ value-cubic_zero roots o b d ho hb hd has ∙ ap (root_product o b d) (sym none)
    | inr positive ↦ ap (λ x. value x z) (other_branch i ((P - 1, roots.product) ∷ []) (long_cubic roots i) positive)
        ∙ value-cubic_more roots o b d i ho hb hd hi positive has
  ]

  flat_start : (r c f g : ℕ) → c < P → (1 * r + ((P - 1) * c + 0 % P) % P) % P ≡ minus r (((c + 0 * f % P) % P + 0 * 0 * g % P) % P)
  flat_start r c f g h = omega arith

  flat_departure : (r c f g i j m n : ℕ) → m + i ≡ P → n + j ≡ P
      → (1 * r + ((P - 1) * c + (m * f + (n * g + 0 % P) % P) % P) % P) % P ≡ minus r (((c + i * f % P) % P + j * g % P) % P)
  flat_departure r c f g i j m n em en = omega (arith, ap (λ k. k * f) em, ap (λ k. k * g) en)

  value-departure_zero : (reg at : ℕ) → value (departure reg at 0) z ≡ minus (slice_index z reg) (curve_at (curve_in z at) 0)
  value-departure_zero reg at =
      value-cons 1 reg ((P - 1, at) ∷ []) z ∙ ap (λ m. (1 * slice_index z reg + m) % P) (value-cons (P - 1) at [] z)
      ∙ flat_start (slice_index z reg) (slice_index z at) (slice_index z (at + 1)) (slice_index z (at + 2)) (wire-below assigns at)

  value-departure_more : (reg at i : ℕ) → i < 16 → 0 < i → value (long_departure reg at i) z ≡ minus (slice_index z reg) (curve_at (curve_in z at) i)
  value-departure_more reg at i hi positive =
      let m = negative_small i positive (omega arith) in
      let n = negative_small (i * i) (square_positive i positive) (omega (arith, square_small i hi)) in
      let last = value-cons (negative i) (at + 1) ((negative (i * i), at + 2) ∷ []) z
      ∙ ap (λ q. (negative i * slice_index z (at + 1) + q) % P) (value-cons (negative (i * i)) (at + 2) [] z) in
      let more = value-cons (P - 1) at ((negative i, at + 1) ∷ (negative (i * i), at + 2) ∷ []) z ∙ ap (λ q. ((P - 1) * slice_index z at + q) % P) last in
      value-cons 1 reg ((P - 1, at) ∷ (negative i, at + 1) ∷ (negative (i * i), at + 2) ∷ []) z ∙ ap (λ q. (1 * slice_index z reg + q) % P) more
      ∙ flat_departure (slice_index z reg) (slice_index z at) (slice_index z (at + 1)) (slice_index z (at + 2)) i (i * i) (negative i) (negative (i * i))
      (omega (arith, m)) (omega (arith, n, square_small i hi))

  value-departure : (reg at i : ℕ) → i < 16 → value (departure reg at i) z ≡ minus (slice_index z reg) (curve_at (curve_in z at) i)
  value-departure reg at i hi = elim (eq-zero-or-pos i) [
    | inl none ↦ ap (λ k. value (departure reg at k) z) none ∙ value-departure_zero reg at
        ∙ ap (λ k. minus (slice_index z reg) (curve_at (curve_in z at) k)) (sym none)
    | inr positive ↦ ap (λ x. value x z) (other_branch i ((1, reg) ∷ (P - 1, at) ∷ []) (long_departure reg at i) positive)
        ∙ value-departure_more reg at i hi positive
  ]

  -- where the product of the differences is 0 the register is on the curve
  pub curve_sound : (roots : Roots) (regs : List ℕ) (o b d next : ℕ) → o < 16 → b < 16 → d < 16 → HasRoots z roots o b d
      → Meets z (curve_of roots regs next).list
      → (i : ℕ) → i < 16 → root_product o b d i ≡ 0 → slice_index z (slice_index regs i) ≡ curve_at (curve_in z next) i
  unfolding curve_of passes_of fresh pure ◌>>=◌
  curve_sound roots regs o b d next ho hb hd has meets i hi none =
      let start = next + 1 + 1 + 1 in
      let turn = turn_met z (λ j _. passes_turn roots next regs j) tt start 16 i hi
      (Meets-split z (sequence 16 (passes_turn roots next regs) start).list [] meets).0 in
      let reg = slice_index regs i in
      let at = (sequence i (passes_turn roots next regs) start).next in
      let product = ratio_sound z at (cubic roots i) (departure reg next i) assigns
      (Meets-split z (ratio_of (cubic roots i) (departure reg next i) at).list [] turn).0 in
      let none_left = ap (λ n. n * slice_index z (ratio_of (cubic roots i) (departure reg next i) at).answer % P)
      (value-cubic roots o b d i ho hb hd hi has ∙ none) ∙ ap (λ n. n % P) (zero-mul _) in
      same_of_minus (slice_index z reg) (curve_at (curve_in z next) i) (wire-below assigns reg) (mod-lt _ (omega arith))
      (sym (value-departure reg next i hi) ∙ sym product ∙ none_left)

  -- an assignment that has the curve's coefficients and the ratios meets it
  pub curve_complete : (roots : Roots) (regs : List ℕ) (o b d next : ℕ) → length regs ≡ 16 → o < 16 → b < 16 → d < 16 → HasRoots z roots o b d
      → InField (words_at z regs) → curve_in z next ≡ curve_through o b d (words_at z regs)
      → HasFrom z (next + 3) (each_below 16 (passing o b d (words_at z regs)))
      → Meets z (curve_of roots regs next).list
  unfolding curve_of passes_of fresh pure ◌>>=◌
  curve_complete roots regs o b d next size ho hb hd has small is had =
      let start = next + 1 + 1 + 1 in
      let words = words_at z regs in
      let place : next + 3 ≡ start = omega arith in
      let each = has_each z (next + 3) 16 (passing o b d words) had in
      let turns = turns_met z (λ j _. passes_turn roots next regs j) tt start 16 (λ i hi.
      let reg = slice_index regs i in
      let at = (sequence i (passes_turn roots next regs) start).next in
      let q = passing o b d words i in
      let here : slice_index z at ≡ q = ap (slice_index z) (turn_at roots next regs start i ∙ ap (λ k. k + i) (sym place)) ∙ each i hi in
      let word = word_of z regs i (omega arith) in
      let departs = value-departure reg next i hi ∙ ap₂ (λ r c. minus r (curve_at c i)) (sym word) is in
      let divides = ap (λ n. n * q % P) (value-cubic roots o b d i ho hb hd hi has) ∙ passing_divides o b d words ho hb hd small i hi ∙ sym departs in
      Meets-join z (ratio_of (cubic roots i) (departure reg next i) at).list []
      (ratio_complete z at (cubic roots i) (departure reg next i) q assigns divides (here, tt)) tt) in
      Meets-join z (sequence 16 (passes_turn roots next regs) start).list [] turns tt

  -- ---- a point
  flat_point : (n f g l e u q m w : ℕ) → n * g ≡ u + P * m → f + u ≡ e + P * q → w < P → l < P → n * e % P ≡ minus w l
      → w ≡ ((l + n * f % P) % P + n * n * g % P) % P
  flat_point n f g l e u q m w eg ef hw hl e0 = omega (arith, ap (λ k. n * k) eg, ap (λ k. n * k) ef)

  flat_sum : (f u : ℕ) → (1 * f + (1 * u + 0 % P) % P) % P ≡ (f + u) % P
  flat_sum f u = omega arith

  split : (n : ℕ) → n ≡ n % P + P * (n / P)
  split n = omega (arith, div-add-mod n P)

  value-slope : (c u : ℕ) → value ((1, c) ∷ (1, u) ∷ []) z ≡ (slice_index z c + slice_index z u) % P
  value-slope c u = value-cons 1 c ((1, u) ∷ []) z ∙ ap (λ n. (1 * slice_index z c + n) % P) (value-cons 1 u [] z)
      ∙ flat_sum (slice_index z c) (slice_index z u)

  -- the wire is the curve at the number
  pub point_sound : (x : Combination) (curve next : ℕ) → Meets z (point_of x curve next).list
      → slice_index z (point_of x curve next).answer ≡ curve_at (curve_in z curve) (value x z)
  unfolding point_of times_of fresh put pure ◌>>=◌
  point_sound x curve next meets =
      let n = value x z in
      let c = curve_in z curve in
      let u = times_sound z next x (wire (curve + 2)) assigns (meets.0, tt) ∙ ap (λ k. n * k % P) (value-wire assigns (curve + 2)) in
      let sum = slice_index z (curve + 1) + slice_index z next in
      let sides = sym (ap (λ k. n * k % P) (value-slope (curve + 1) next)) ∙ meets.1.0 ∙ value-rise z curve (next + 1) assigns in
      flat_point n c.slope c.bend c.level (sum % P) (slice_index z next) (sum / P) (n * c.bend / P) (slice_index z (next + 1))
      (split (n * c.bend) ∙ ap (λ k. k + P * (n * c.bend / P)) (sym u)) (split sum) (wire-below assigns (next + 1)) (wire-below assigns curve) sides

  flat_back : (n f g l e u q m w : ℕ) → n * g ≡ u + P * m → f + u ≡ e + P * q → w < P → l < P → w ≡ ((l + n * f % P) % P + n * n * g % P) % P
      → n * e % P ≡ minus w l
  flat_back n f g l e u q m w eg ef hw hl e0 = omega (arith, ap (λ k. n * k) eg, ap (λ k. n * k) ef)

  pub point_complete : (x : Combination) (curve next : ℕ) → slice_index z next ≡ value x z * slice_index z (curve + 2) % P
      → slice_index z (next + 1) ≡ curve_at (curve_in z curve) (value x z) → Meets z (point_of x curve next).list
  unfolding point_of times_of fresh put pure ◌>>=◌
  point_complete x curve next u is =
      let n = value x z in
      let c = curve_in z curve in
      let sum = slice_index z (curve + 1) + slice_index z next in
      let first = times_complete z next x (wire (curve + 2)) assigns (u ∙ ap (λ k. n * k % P) (sym (value-wire assigns (curve + 2))), tt) in
      let sides = flat_back n c.slope c.bend c.level (sum % P) (slice_index z next) (sum / P) (n * c.bend / P) (slice_index z (next + 1))
      (split (n * c.bend) ∙ ap (λ k. k + P * (n * c.bend / P)) (sym u)) (split sum) (wire-below assigns (next + 1)) (wire-below assigns curve) is in
      (first.0, (ap (λ k. n * k % P) (value-slope (curve + 1) next) ∙ sides ∙ sym (value-rise z curve (next + 1) assigns), tt))

-- ---- where the parts end, and what they answer
pub roots_next : (stores target source named : Combination) (next : ℕ) → (roots_of stores target source named next).next ≡ next + 6
unfolding roots_of sums_of pairs_of times_of pick_of fresh put pure ◌>>=◌
roots_next stores target source named next = omega arith

pub curve_answer : (roots : Roots) (regs : List ℕ) (next : ℕ) → (curve_of roots regs next).answer ≡ next
unfolding curve_of fresh pure ◌>>=◌
curve_answer roots regs next = refl

pub curve_next : (roots : Roots) (regs : List ℕ) (next : ℕ) → (curve_of roots regs next).next ≡ next + 19
unfolding curve_of fresh pure ◌>>=◌
curve_next roots regs next = turn_at roots next regs (next + 1 + 1 + 1) 16 ∙ omega arith

pub point_next : (x : Combination) (curve next : ℕ) → (point_of x curve next).next ≡ next + 2
unfolding point_of times_of fresh put pure ◌>>=◌
point_next x curve next = omega arith

words_in_field : (z : List ℕ) → Assigns z → (regs : List ℕ) → InField (words_at z regs)
words_in_field z assigns [] = InField-none
words_in_field z assigns (reg ∷ regs) = InField-cons (slice_index z reg) (words_at z regs) (wire-below assigns reg) (words_in_field z assigns regs)

-- ---- the whole
abbrev three : ℕ → ℕ → ℕ → Curve
three a b c = record { level = a; slope = b; bend = c }

pub triple_end : (stores target source named : Combination) (regs : List ℕ) (next : ℕ) → (triple_of stores target source named regs next).next ≡ next + 31
unfolding triple_of roots_of sums_of pairs_of curve_of passes_of point_of ratio_of times_of pick_of turns fresh put pure ◌>>=◌
triple_end stores target source named regs next = omega arith

pub triple_answer : (stores target source named : Combination) (regs : List ℕ) (next : ℕ)
    → (triple_of stores target source named regs next).answer ≡ triple_wires next
unfolding triple_of roots_of sums_of pairs_of curve_of passes_of point_of ratio_of times_of pick_of turns fresh put pure ◌>>=◌
triple_answer stores target source named regs next = search arith

pub triple_sound : TripleIsSound
unfolding triple_of pure ◌>>=◌
triple_sound z next stores target source named regs size assigns numbers meets =
    let roots = roots_of stores target source named next in
    let curve = curve_of roots.answer regs roots.next in
    let other = point_of (wire roots.answer.other) curve.answer curve.next in
    let third = point_of named curve.answer other.next in
    let dest = point_of (wire roots.answer.dest) curve.answer third.next in
    let m1 = Meets-split z roots.list _ meets in
    let m2 = Meets-split z curve.list _ m1.1 in
    let m3 = Meets-split z other.list _ m2.1 in
    let m4 = Meets-split z third.list _ m3.1 in
    let m5 = Meets-split z dest.list _ m4.1 in
    let o = other_number z stores target source in
    let b = value named z in
    let d = value target z in
    let ho = other_below z assigns stores target source named numbers in
    let has = roots_sound z assigns stores target source named numbers next m1.0 in
    let on_curve : (i : ℕ) → i < 16 → root_product o b d i ≡ 0 → curve_at (curve_in z curve.answer) i ≡ slice_index (words_at z regs) i = λ i hi none.
    ap (λ c. curve_at (curve_in z c) i) (curve_answer roots.answer regs roots.next)
    ∙ sym (curve_sound z assigns roots.answer regs o b d roots.next ho numbers.third numbers.dest has m2.0 i hi none)
    ∙ sym (word_of z regs i (omega arith)) in
    let at : (x : Combination) (n place : ℕ) → value x z ≡ n → Meets z (point_of x curve.answer place).list → n < 16 → root_product o b d n ≡ 0
    → slice_index z (point_of x curve.answer place).answer ≡ slice_index (words_at z regs) n
    = λ x n place is met hn none. point_sound z assigns x curve.answer place met ∙ ap (curve_at (curve_in z curve.answer)) is ∙ on_curve n hn none in
    record {
      dest = has.dest;
      other = has.other;
      other_word = at (wire roots.answer.other) o curve.next (value-wire assigns roots.answer.other
          ∙ has.other) m3.0 ho (root_other o b d o (omega arith) refl);
      named_word = at named b other.next refl m4.0 numbers.third (root_named o b d b (value-below named z) refl);
      dest_word = at (wire roots.answer.dest) d third.next (value-wire assigns roots.answer.dest
          ∙ has.dest) m5.0 numbers.dest (root_dest o b d d (value-below target z) refl);
    }

pub triple_complete : TripleIsComplete
unfolding triple_of pure ◌>>=◌
triple_complete z next stores target source named regs size assigns numbers has =
    let roots = roots_of stores target source named next in
    let curve = curve_of roots.answer regs roots.next in
    let other = point_of (wire roots.answer.other) curve.answer curve.next in
    let third = point_of named curve.answer other.next in
    let dest = point_of (wire roots.answer.dest) curve.answer third.next in
    let o = other_number z stores target source in
    let b = value named z in
    let d = value target z in
    let words = words_at z regs in
    let through = curve_through o b d words in
    let ho = other_below z assigns stores target source named numbers in
    let points : List ℕ = point_values b through.bend words ++ point_values d through.bend words in
    let after : List ℕ = point_values o through.bend words ++ points in
    let ratios : List ℕ = passing_values o b d words ++ after in
    let h1 = HasFrom-after z next roots.next 6 (roots_values o b d) (curve_values through ++ ratios) refl (roots_next stores target source named next) has in
    let h2 = HasFrom-after z roots.next (roots.next + 3) 3 (curve_values through) ratios refl refl h1.1 in
    let h3 = HasFrom-after z (roots.next + 3) curve.next 16 (passing_values o b d words) after (length-each_below 16 (passing o b d words))
    (past_curve roots.next curve.next (curve_next roots.answer regs roots.next)) h2.1 in
    let h4 = HasFrom-after z curve.next other.next 2 (point_values o through.bend words) points refl
    (point_next (wire roots.answer.other) curve.answer curve.next) h3.1 in
    let h5 = HasFrom-after z other.next third.next 2 (point_values b through.bend words) (point_values d through.bend words) refl
    (point_next named curve.answer other.next) h4.1 in
    let m1 = roots_complete z assigns stores target source named numbers next h1.0 in
    let has_roots = roots_sound z assigns stores target source named numbers next m1 in
    let small = words_in_field z assigns regs in
    let is : curve_in z roots.next ≡ through = same_curve h2.0.0 h2.0.1.0 (ap (slice_index z) (two roots.next) ∙ h2.0.1.1.0) in
    let is_here : curve_in z curve.answer ≡ through = ap (curve_in z) (curve_answer roots.answer regs roots.next) ∙ is in
    let m2 = curve_complete z assigns roots.answer regs o b d roots.next size ho numbers.third numbers.dest has_roots small is h3.0 in
    let point : (x : Combination) (n at : ℕ) → value x z ≡ n → n < 16 → root_product o b d n ≡ 0 → HasFrom z at (point_values n through.bend words)
    → Meets z (point_of x curve.answer at).list
    = λ x n at same hn none had. point_complete z assigns x curve.answer at
    (had.0 ∙ ap₂ (λ k g. k * g % P) (sym same) (sym (ap (λ c. c.bend) is_here)))
    (had.1.0 ∙ curve_passes o b d words ho numbers.third numbers.dest small n hn none ∙ ap₂ (λ c k. curve_at c k) (sym is_here) (sym same)) in
    let m3 = point (wire roots.answer.other) o curve.next (value-wire assigns roots.answer.other
    ∙ has_roots.other) ho (root_other o b d o (omega arith) refl) h4.0 in
    let m4 = point named b other.next refl numbers.third (root_named o b d b (value-below named z) refl) h5.0 in
    let m5 = point (wire roots.answer.dest) d third.next (value-wire assigns roots.answer.dest
    ∙ has_roots.dest) numbers.dest (root_dest o b d d (value-below target z) refl) h5.1 in
    Meets-join z roots.list _ m1 (Meets-join z curve.list _ m2 (Meets-join z other.list _ m3 (Meets-join z third.list _ m4 (Meets-join z dest.list _ m5 tt))))
  where
    past_curve : (at next : ℕ) → next ≡ at + 19 → next ≡ at + 3 + 16
    past_curve at next e = omega arith

    two : (n : ℕ) → n + 2 ≡ n + 1 + 1
    two n = omega arith

    same_curve : {a b c x y t : ℕ} → a ≡ x → b ≡ y → c ≡ t → three a b c ≡ three x y t
    same_curve e f g = rw (e, f, g) refl

-- ---- the values are as many as the wires, and in the field
length-triple : (o b d : ℕ) (words : List ℕ) → length (triple_values o b d words) ≡ 31
unfolding each_below
length-triple o b d words = refl

point_in_field : (n g : ℕ) (words : List ℕ) → InField words → InField (point_values n g words)
point_in_field n g words small = InField-cons (n * g % P) (slice_index words n ∷ []) (residue_below (n * g))
    (InField-cons (slice_index words n) [] (word_below words n small) InField-none)

pub triple_in_field : (o b d : ℕ) (words : List ℕ) → o < 16 → b < 16 → d < 16 → InField words → InField (triple_values o b d words)
triple_in_field o b d words ho hb hd small =
    let c = curve_through o b d words in
    let ob = pair_number o b ho hb in
    let db = pairs_number o b d ho hb hd in
    let obd = product_number (o * b) d ob hd in
    let sums = InField-cons (o * b) ((o * b + d * (o + b)) ∷ (o * b * d) ∷ []) (omega (arith, ob))
    (InField-cons (o * b + d * (o + b)) ((o * b * d) ∷ []) (omega (arith, ob, db)) (InField-cons (o * b * d) [] (omega (arith, obd)) InField-none)) in
    let others = InField-cons o ((o + b + d) ∷ (o * b) ∷ (o * b + d * (o + b)) ∷ (o * b * d) ∷ []) (omega arith)
    (InField-cons (o + b + d) ((o * b) ∷ (o * b + d * (o + b)) ∷ (o * b * d) ∷ []) (omega arith) sums) in
    let roots = InField-cons d (o ∷ (o + b + d) ∷ (o * b) ∷ (o * b + d * (o + b)) ∷ (o * b * d) ∷ []) (omega arith) others in
    let curve = InField-cons c.level (c.slope ∷ c.bend ∷ []) (residue_below _)
    (InField-cons c.slope (c.bend ∷ []) (residue_below _) (InField-cons c.bend [] (residue_below _) InField-none)) in
    let ratios = InField-each_below (passing o b d words) (λ i. residue_below _) 16 in
    let last = InField-append (point_values b c.bend words) (point_values d c.bend words) (point_in_field b c.bend words small)
    (point_in_field d c.bend words small) in
    let points : List ℕ = point_values b c.bend words ++ point_values d c.bend words in
    let after : List ℕ = point_values o c.bend words ++ points in
    InField-append (roots_values o b d) (curve_values c ++ (passing_values o b d words ++ after)) roots
    (InField-append (curve_values c) (passing_values o b d words ++ after) curve
    (InField-append (passing_values o b d words) after ratios
    (InField-append (point_values o c.bend words) points (point_in_field o c.bend words small) last)))

pub triple_sizes : TripleSizes
triple_sizes = record {
  answer = triple_answer;
  end = triple_end;
  fills = λ stores target source named regs o b d words next. triple_end stores target source named regs next
      ∙ ap (λ k. next + k) (sym (length-triple o b d words));
  in_field = triple_in_field;
}

-- ---- how many constraints and terms
-- the new wire less the source's number, made normal: the wire comes last
commuted : (a b : ℕ) → (a + b) % P ≡ (b + a) % P
commuted a b = omega arith

less_source : (source : Combination) (w : ℕ) → IsNormal source → top source ≤ w → normal (less (wire w) source) ≡ scaled (P - 1) source ++ wire w
less_source source w is below =
    let within : top (scaled (P - 1) source) ≤ w = omega (arith, top-scaled (P - 1) source, below) in
    let ordered = normal_append 0 w (scaled (P - 1) source) (wire w) (normal_negated 0 source is) within (omega arith)
    (omega arith, omega arith, omega arith, tt) in
    same_values 0 0 (normal (less (wire w) source)) (scaled (P - 1) source ++ wire w) (IsNormalFrom-normal (less (wire w) source)) ordered
    (λ z. value-normal z (less (wire w) source) ∙ value-append (wire w) (scaled (P - 1) source) z
    ∙ commuted (value (wire w) z) (value (scaled (P - 1) source) z) ∙ sym (value-append (scaled (P - 1) source) (wire w) z))

pub triple_costs : TripleCosts
unfolding triple_of roots_of sums_of pairs_of curve_of passes_of point_of ratio_of times_of pick_of turns fresh put pure ◌>>=◌
triple_costs = record {
  constraints = λ stores target source named regs next. refl;
  terms = λ stores target source named regs next is below.
      omega (
        arith,
        ap length (less_source source next is below) ∙ length-negated source next,
        length-negated source (next + 1),
        length-append (named ++ wire next) (wire (next + 1)),
        length-append named (wire next),
        length-append named (wire (next + 1)),
      );
}
