-- The laws of a thermometer: its marks, and the power of 2 that they add up to.
use Rattle.tv_core.proofs.Common.{◌≡◌, ℕ, zero, suc, ◌+◌, ◌-◌, ◌*◌, ◌%◌, ◌^◌, ◌<◌, ◌≤◌, List, [], if◌then◌else◌, inl, inr, refl, sym, subst, ◌∙◌, ap, ap₂}
use Rattle.tv_core.proofs.Common.{arith, mod-lt, cases_lt, lt-ltb, le-ltb, slice_index, value-append, value-cons, value-wire, wire-below, Meets-split}
use Rattle.tv_core.proofs.Common.{Meets-join, HasFrom-split, here, fresh, put, pure, turns, ◌>>=◌, scaled, Combination, value, Assigns, Meets, HasFrom}
use Rattle.tv_core.proofs.Common.{sequence}
use Rattle.std.proofs.Common.{min}
use Rattle.std.proofs.Common.{mul-one}
use Rattle.std.proofs.Math.Nat.{pow-suc, mod-one}
use Rattle.std.proofs.lemmas.Nat.{mod-pow-add, pow_pos}
use Rattle.tv_bits.proofs.BitNumbers.{HasBits-bit_at}
use Rattle.tv_bits.specs.Bit.{IsBit}
use Rattle.tv_bits.specs.Bits.{HasBits}
use Rattle.tv_core.proofs.BelowLaws.{has_each}
use Rattle.tv_core.proofs.CombinationLaws.{value-scaled, value-constant}
use Rattle.tv_core.proofs.LoopLaws.{turn_met, turns_met, turns-next}
use Rattle.tv_core.proofs.MeetsLaws.{parts, whole}
use Rattle.tv_core.specs.declared.field.TheConstants.{P}
use Rattle.tv_bits.proofs.BitLaws.{bit_cases}
use Rattle.tv_shift.proofs.LevelValues.{values-more, length-values}
use Rattle.tv_shift.proofs.MarkTerms.{products-more, both-in, both-last, mark-none, mark-low, mark-high}
use Rattle.tv_bits.specs.Times.{times_of}
use Rattle.tv_shift.specs.Thermometer.{below, products_below, both, mark, level_product_of, bit_level_of, thermometer_of, level_value, level_values}
use Rattle.tv_shift.specs.Thermometer.{thermometer_values, power_of}

-- ---- marks as numbers
pub below-in : (j s : ℕ) → j < s → below j s ≡ 1
below-in j s h = ap (λ b. if b then 1 else 0) (lt-ltb j s h)

pub below-out : (j s : ℕ) → s ≤ j → below j s ≡ 0
below-out j s h = ap (λ b. if b then 1 else 0) (le-ltb j s h)

pub below-bit : (j s : ℕ) → IsBit (below j s)
below-bit j s = elim (cases_lt j s) [ inl h ↦ omega (arith, below-in j s h) | inr h ↦ omega (arith, below-out j s h) ]

-- one bit more: for the marks of the lower half, and of the higher
lower-mark : (b j n s : ℕ) → IsBit b → j < n → s < n → below j (b * n + s) ≡ (1 * b + ((P - 1) * (b * below j s) % P + below j s) % P) % P
lower-mark b j n s bit low small = search (arith, bit_cases, cases_lt, below-in, below-out)

higher-mark : (b j n s : ℕ) → IsBit b → n ≤ j → s < n → below j (b * n + s) ≡ 1 * (b * below (j - n) s) % P
higher-mark b j n s bit out small = elim (bit_cases b bit) [
  | inl none ↦ rw none (below-out j (0 * n + s) (omega arith) ∙ omega arith)
  | inr one ↦ rw one (elim (cases_lt (j - n) s) [
    | inl h ↦ rw (below-in (j - n) s h) (below-in j (1 * n + s) (omega arith))
    | inr h ↦ rw (below-out (j - n) s h)
        (below-out j (1 * n + s) (omega arith))
  ])
]

-- ---- circuits: where they end
level_product-next : (bits products k j at : ℕ) → (level_product_of bits products k j at).next ≡ at + 1
unfolding level_product_of times_of fresh put pure ◌>>=◌
level_product-next bits products k j at = refl

row-next : (bits products k at j : ℕ) → (sequence j (level_product_of bits products k) at).next ≡ at + j
row-next bits products k at j = turns-next (λ j _. level_product_of bits products k j) tt at 1 j (λ j a at. level_product-next bits products k j at)
    ∙ ap (λ n. at + n) (mul-one j)

level-next : (bits products k at : ℕ) → (bit_level_of bits products k at).next ≡ at + (2 ^ k - 1)
unfolding bit_level_of
level-next bits products k at = row-next bits products k at (2 ^ k - 1)

levels-next : (bits products next k : ℕ) → (sequence k (bit_level_of bits products) next).next ≡ next + products_below k
unfolding turns pure ◌>>=◌
levels-next bits products next zero = omega arith
levels-next bits products next (suc k) =
    let more : products_below k + (2 ^ k - 1) ≡ products_below (suc k) = (let same : k + 1 ≡ suc k = omega arith in products-more k ∙ ap products_below same) in
    level-next bits products k (sequence k (bit_level_of bits products) next).next ∙ omega (arith, levels-next bits products next k, more)

pub thermometer_next : (k bits next : ℕ) → (thermometer_of k bits next).next ≡ next + products_below k
unfolding thermometer_of here pure ◌>>=◌
thermometer_next k bits next = levels-next bits next next k

-- the marks of k bits are those of s
abbrev pub Marks : List ℕ → ℕ → ℕ → ℕ → ℕ → Type 0
Marks z bits products k s = (j : ℕ) → j < 2 ^ k → value (mark bits products k j) z ≡ below j s

module _ (z : List ℕ) (assigns : Assigns z) (bits : ℕ) where
  -- the products of one level
  level_product_sound : (products k j at : ℕ) → Meets z (level_product_of bits products k j at).list
      → slice_index z at ≡ slice_index z (bits + k) * value (mark bits products k j) z % P
  unfolding level_product_of times_of fresh put pure ◌>>=◌
  level_product_sound products k j at meets =
      sym (value-wire assigns at) ∙ sym meets.0 ∙ ap (λ n. n * value (mark bits products k j) z % P) (value-wire assigns (bits + k))

  level_product_complete : (products k j at : ℕ) → slice_index z at ≡ slice_index z (bits + k) * value (mark bits products k j) z % P
      → Meets z (level_product_of bits products k j at).list
  unfolding level_product_of times_of fresh put pure ◌>>=◌
  level_product_complete products k j at is =
      (ap (λ n. n * value (mark bits products k j) z % P) (value-wire assigns (bits + k)) ∙ sym is ∙ sym (value-wire assigns at), tt)

  level_sound : (products k at : ℕ) → Meets z (bit_level_of bits products k at).list → (j : ℕ) → j < 2 ^ k - 1
      → slice_index z (at + j) ≡ slice_index z (bits + k) * value (mark bits products k j) z % P
  unfolding bit_level_of
  level_sound products k at meets j h =
      rw (row-next bits products k at j) at (level_product_sound products k j _
      (turn_met z (λ j _. level_product_of bits products k j) tt at (2 ^ k - 1) j h meets))

  level_complete : (products k at : ℕ) → ((j : ℕ) → j < 2 ^ k - 1 → slice_index z (at + j) ≡ slice_index z (bits + k) * value (mark bits products k j) z % P)
      → Meets z (bit_level_of bits products k at).list
  unfolding bit_level_of
  level_complete products k at each =
      turns_met z (λ j _. level_product_of bits products k j) tt at (2 ^ k - 1)
      (λ j h. level_product_complete products k j _ (rw (row-next bits products k at j) (each j h)))

  -- from the marks of k bits to those of one more
  module _ (products k s : ℕ) (bit : IsBit (slice_index z (bits + k))) (small : s < 2 ^ k) (marks : Marks z bits products k s)
      (made : (j : ℕ) → j < 2 ^ k - 1 → slice_index z (products + (products_below k + j))
      ≡ slice_index z (bits + k) * value (mark bits products k j) z % P) where
    product-bit : (j : ℕ) → slice_index z (bits + k) * below j s % P ≡ slice_index z (bits + k) * below j s
    product-bit j = elim (bit_cases (below j s) (below-bit j s)) [ inl a ↦ rw a (omega arith) | inr a ↦ rw a (omega (arith, bit)) ]

    value-both : (c j : ℕ) → j < 2 ^ k → value (both products c k j) z ≡ c * (slice_index z (bits + k) * below j s) % P
    value-both c j h = search (arith, cases_lt, product-bit, both-in, value-cons, both-last, below-out)

    more_marks : Marks z bits products (suc k) (slice_index z (bits + k) * 2 ^ k + s)
    more_marks j h = search (arith, cases_lt, mark-low, value-cons, value-append, value-both, lower-mark, pow-suc, mark-high, higher-mark)

  -- all levels
  module _ (n v : ℕ) (s : HasBits z bits n v) (next : ℕ) where
    pub levels_sound : (k : ℕ) → k ≤ n → Meets z (sequence k (bit_level_of bits next) next).list → Marks z bits next k (v % 2 ^ k)
    unfolding turns
    levels_sound zero short meets = λ j h. ap (λ l. value l z) (mark-none bits next j) ∙ sym (below-out j (v % 2 ^ 0) (omega (arith, mod-one v)))
    levels_sound (suc k) short meets =
        let both = parts z (sequence k (bit_level_of bits next)) (λ _. bit_level_of bits next k) next meets in
        let marks = levels_sound k (omega arith) both.0 in
        let bit = HasBits-bit_at s k (omega arith) in
        let at = levels-next bits next next k in
        let made : (j : ℕ) → j < 2 ^ k - 1 → slice_index z (next + (products_below k + j))
        ≡ slice_index z (bits + k) * value (mark bits next k j) z % P = λ j h.
        let place : next + (products_below k + j) ≡ next + products_below k + j = omega arith in
        ap (λ w. slice_index z w) place ∙ (rw at at (level_sound next k _ both.1 j h)) in
        let one : 1 + k ≡ suc k = omega arith in
        let number : slice_index z (bits + k) * 2 ^ k + v % 2 ^ k ≡ v % 2 ^ suc k = ap (λ b. b * 2 ^ k + v % 2 ^ k) bit ∙ sym (mod-pow-add v 1 k)
        ∙ ap (λ m. v % 2 ^ m) one in
        let all = more_marks next k (v % 2 ^ k) (s.bits k (omega arith)) (mod-lt v (pow_pos k)) marks made in
        subst (λ m. Marks z bits next (suc k) m) number all

    pub levels_complete : (k : ℕ) → k ≤ n → HasFrom z next (thermometer_values k v) → Meets z (sequence k (bit_level_of bits next) next).list
    unfolding turns pure
    levels_complete zero short has = tt
    levels_complete (suc k) short has =
        let two = HasFrom-split z next (thermometer_values k v) (level_values v k) (rw values-more at has) in
        let before = levels_complete k (omega arith) two.0 in
        let marks = levels_sound k (omega arith) before in
        let row = has_each z _ (2 ^ k - 1) (level_value v k) (rw (length-values k v) at two.1) in
        let bit = HasBits-bit_at s k (omega arith) in
        let at = levels-next bits next next k in
        let each : (j : ℕ) → j < 2 ^ k - 1 → slice_index z ((sequence k (bit_level_of bits next) next).next + j)
        ≡ slice_index z (bits + k) * value (mark bits next k j) z % P = λ j h.
        ap (λ w. slice_index z (w + j)) at ∙ row j h ∙ ap₂ (λ b m. b * m) (sym bit) refl ∙ sym (product_small j k)
        ∙ ap (λ m. slice_index z (bits + k) * m % P) (sym (marks j (omega arith))) in
        whole z (sequence k (bit_level_of bits next)) (λ _. bit_level_of bits next k) next before (level_complete next k _ each)
      where
        product_small : (j k : ℕ) → slice_index z (bits + k) * below j (v % 2 ^ k) % P ≡ slice_index z (bits + k) * below j (v % 2 ^ k)
        product_small j k = elim (bit_cases (below j (v % 2 ^ k)) (below-bit j (v % 2 ^ k))) [
          | inl a ↦ rw a (omega arith)
          | inr a ↦ rw a
              (omega (arith, wire-below assigns (bits + k)))
        ]

    pub thermometer_sound : (k : ℕ) → k ≤ n → Meets z (thermometer_of k bits next).list → Marks z bits next k (v % 2 ^ k)
    unfolding thermometer_of here pure ◌>>=◌
    thermometer_sound k short meets = levels_sound k short (Meets-split z (sequence k (bit_level_of bits next) next).list [] meets).0

    pub thermometer_complete : (k : ℕ) → k ≤ n → HasFrom z next (thermometer_values k v) → Meets z (thermometer_of k bits next).list
    unfolding thermometer_of here pure ◌>>=◌
    thermometer_complete k short has = Meets-join z (sequence k (bit_level_of bits next) next).list [] (levels_complete k short has) tt

  -- the power of 2 that the marks add up to
  pub value-power : (marks : ℕ → Combination) (s n : ℕ) → ((i : ℕ) → i < n → value (marks i) z ≡ below i s) → value (power_of marks n) z ≡ 2 ^ min n s % P
  unfolding power_of
  value-power marks s zero each = value-constant assigns 1 ∙ (let none : min 0 s ≡ 0 = omega arith in rw none refl)
  value-power marks s (suc n) each =
      let rest = value-power marks s n (λ i h. each i (omega arith)) in
      let last = value-scaled (2 ^ n % P) (marks n) z ∙ ap (λ m. 2 ^ n % P * m % P) (each n (omega arith)) in
      value-append (power_of marks n) (scaled (2 ^ n % P) (marks n)) z ∙ ap₂ (λ a b. (a + b) % P) rest last ∙ elim (cases_lt n s) [
        | inl h ↦ rw (below-in n s h) (let before : min n s ≡ n = omega arith in let after : min (suc n) s ≡ suc n = omega arith in
            rw (before, after) (omega (arith, pow-suc 2 n)))
        | inr h ↦ rw (below-out n s h) (let before : min n s ≡ s = omega arith in let after : min (suc n) s ≡ s = omega arith in
            rw (before, after) (omega arith))
      ]
