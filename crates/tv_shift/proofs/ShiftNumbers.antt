-- Shifts of whole numbers.
use Rattle.tv_core.proofs.Common.{◌≡◌, ◌≢◌, ℕ, ◌+◌, ◌-◌, ◌*◌, ◌/◌, ◌%◌, ◌^◌, ◌<◌, ◌≤◌, inl, inr, refl, sym, ◌∙◌, ap, ap₂, arith, mod-lt, mod-eq_of_lt}
use Rattle.tv_core.proofs.Common.{pow-le-pow_right, bit_at, for_widths, IsWidth}
use Rattle.std.proofs.Math.Nat.{div-add-mod, div-le_self, div-div-eq-div-mul, add-mul-mod_self_left, mul-div_cancel_left, mod-le}
use Rattle.std.proofs.Math.Nat.{mul-lt-mul_of_pos_left}
use Rattle.std.proofs.Math.Pow.{mod-mod-pow}
use Rattle.tv_bits.proofs.BitLaws.{bit_cases}
use Rattle.tv_bits.specs.Bit.{IsBit}
use Rattle.tv_core.proofs.PrimeLaws.{p_cancels_below}
use Rattle.tv_core.specs.declared.field.TheConstants.{P}
use Rattle.tv_shift.specs.Halves.{chosen_half, other_half}
use Rattle.tv_shift.specs.Masks.{half_log}
use Rattle.tv_shift.specs.Shift.{half_left, half_right}
use Rattle.tv_shift.specs.Thermometer.{products_below}
use Rattle.tv_word.proofs.WidthLaws.{word_small}
use Rattle.std.proofs.lemmas.Nat.{pow-add, pow_pos, mod-pow-add, mul-mod_first}

-- half a word
pub half_power : (w : ℕ) → IsWidth w → 2 ^ half_log w ≡ w / 2
half_power = for_widths (λ w. 2 ^ half_log w ≡ w / 2) refl refl

pub products_half : (w : ℕ) → IsWidth w → products_below (half_log w) ≡ w / 2 - 1 - half_log w
products_half w width = ap (λ n. n - 1 - half_log w) (half_power w width)

-- ---- shifts
-- a word shifted to the left keeps its low bits
pub left_low : (w s x : ℕ) → s ≤ w → x * 2 ^ s % 2 ^ w ≡ 2 ^ s * (x % 2 ^ (w - s))
left_low w s x short =
    let split : s + (w - s) ≡ w = omega arith in
    let divided : x ≡ 2 ^ (w - s) * (x / 2 ^ (w - s)) + x % 2 ^ (w - s) = sym (div-add-mod x (2 ^ (w - s))) in
    let power : 2 ^ w ≡ 2 ^ s * 2 ^ (w - s) = ap (λ k. 2 ^ k) (sym split) ∙ pow-add 2 s (w - s) in
    let moved : (2 ^ (w - s) * (x / 2 ^ (w - s)) + x % 2 ^ (w - s)) * 2 ^ s
    ≡ 2 ^ s * (x % 2 ^ (w - s)) + 2 ^ s * 2 ^ (w - s) * (x / 2 ^ (w - s)) = omega arith in
    let less : 2 ^ s * (x % 2 ^ (w - s)) < 2 ^ s * 2 ^ (w - s) = mul-lt-mul_of_pos_left (mod-lt x (pow_pos (w - s))) (pow_pos s) in
    ap₂ (λ a b. a * 2 ^ s % b) divided power ∙ ap (λ n. n % (2 ^ s * 2 ^ (w - s))) moved
    ∙ add-mul-mod_self_left (2 ^ s * (x % 2 ^ (w - s))) (2 ^ s * 2 ^ (w - s)) (x / 2 ^ (w - s)) ∙ mod-eq_of_lt less

-- ---- the word shifted by half a word where b is 1
module _ (w : ℕ) (width : IsWidth w) (b v : ℕ) (bit : IsBit b) (word : v < 2 ^ w) where
  low-below : 2 ^ (w / 2) * (v % 2 ^ (w / 2)) < 2 ^ w
  low-below = grind arith

  high-below : v / 2 ^ (w / 2) < 2 ^ w
  high-below = let less = div-le_self v (2 ^ (w / 2)) in omega arith

  pub half_left-below : half_left (w / 2) b v < 2 ^ w
  half_left-below = elim (bit_cases b bit) [ inl none ↦ rw none word | inr one ↦ rw one low-below ]

  pub half_right-below : half_right (w / 2) b v < 2 ^ w
  half_right-below = elim (bit_cases b bit) [ inl none ↦ rw none word | inr one ↦ rw one high-below ]

  -- the chosen half has its low bits, and the other half is its high half
  pub chosen_rest : (s : ℕ) → s < w / 2 → chosen_half (w / 2) b v % 2 ^ s ≡ half_right (w / 2) b v % 2 ^ s
  chosen_rest s small = elim (bit_cases b bit) [
    | inl none ↦ rw none (let split : (w / 2 - s) + s ≡ w / 2 = omega arith in ap (λ k. v % 2 ^ k % 2 ^ s) (sym split) ∙ mod-mod-pow v (w / 2 - s) s)
    | inr one ↦ rw one refl
  ]

  pub other_is : other_half (w / 2) b v ≡ half_left (w / 2) b v / 2 ^ (w / 2)
  other_is = elim (bit_cases b bit) [ inl none ↦ rw none refl | inr one ↦ rw one (sym (mul-div_cancel_left (v % 2 ^ (w / 2)) (pow_pos (w / 2)))) ]

  -- the two shifts together are one by the whole distance
  pub left_whole : (s : ℕ) → s < w / 2 → half_left (w / 2) b v * 2 ^ s % 2 ^ w ≡ v * 2 ^ (w / 2 * b + s) % 2 ^ w
  left_whole s small = elim (bit_cases b bit) [
    | inl none ↦ rw none (let same : w / 2 * 0 + s ≡ s = omega arith in rw same refl)
    | inr one ↦ rw one (
        let rest : w - w / 2 ≡ w / 2 = omega arith in
        let low : 2 ^ (w / 2) * (v % 2 ^ (w / 2)) ≡ v * 2 ^ (w / 2) % 2 ^ w = ap (λ k. 2 ^ (w / 2) * (v % 2 ^ k)) (sym rest)
        ∙ sym (left_low w (w / 2) v (omega arith)) in
        let once : w / 2 * 1 + s ≡ w / 2 + s = omega arith in
        let power : 2 ^ (w / 2 * 1 + s) ≡ 2 ^ (w / 2) * 2 ^ s = ap (λ k. 2 ^ k) once ∙ pow-add 2 (w / 2) s in
        let moved : v * 2 ^ (w / 2) * 2 ^ s ≡ v * (2 ^ (w / 2) * 2 ^ s) = omega arith in
        ap (λ k. k * 2 ^ s % 2 ^ w) low ∙ mul-mod_first (v * 2 ^ (w / 2)) (2 ^ s) (2 ^ w) ∙ ap (λ k. k % 2 ^ w) (moved ∙ ap (λ k. v * k) (sym power))
        )
  ]

  pub right_whole : (s : ℕ) → half_right (w / 2) b v / 2 ^ s ≡ v / 2 ^ (w / 2 * b + s)
  right_whole s = search (arith, bit_cases, div-div-eq-div-mul, pow-add)

-- ---- what the constraints say of the shift by s
module _ (w : ℕ) (width : IsWidth w) (s : ℕ) (small : s < w / 2) where
  pub power-small : 2 ^ s ≤ 2 ^ 16
  power-small = let short : s ≤ 16 = omega arith in pow-le-pow_right (omega arith) short

  power-apart : 2 ^ s ≢ 0
  power-apart none = let some = pow_pos s in absurd (omega arith)

  -- to the right
  module _ (x a : ℕ) (word : x < 2 ^ 32) (part : a ≡ x % 2 ^ s) where
    rest-right : (x + (P - a)) % P ≡ 2 ^ s * (x / 2 ^ s) % P
    rest-right = search (arith, div-add-mod, mod-le)

    pub right_of : (r : ℕ) → r < P → 2 ^ s * r % P ≡ (x + (P - a)) % P → r ≡ x / 2 ^ s
    right_of r below e = let quotient = div-le_self x (2 ^ s) in
        p_cancels_below (2 ^ s) r (x / 2 ^ s) (omega (arith, power-small)) below (omega arith) (e ∙ rest-right) power-apart

    pub of_right : (r : ℕ) → r ≡ x / 2 ^ s → 2 ^ s * r % P ≡ (x + (P - a)) % P
    of_right r is = ap (λ k. 2 ^ s * k % P) is ∙ sym rest-right

  -- to the left: t is the part that falls away
  pub rest-left : (x t : ℕ) → x < 2 ^ w → t + x / 2 ^ (w / 2) % 2 ^ (w / 2 - s) ≡ x / 2 ^ (w / 2)
      → 2 ^ s * ((x + (P - 2 ^ (w / 2) * t % P)) % P) % P ≡ x * 2 ^ s % 2 ^ w
  rest-left x t word part =
      let split : (w / 2 - s) + w / 2 ≡ w - s = omega arith in
      let low : x % 2 ^ (w - s) ≡ x / 2 ^ (w / 2) % 2 ^ (w / 2 - s) * 2 ^ (w / 2) + x % 2 ^ (w / 2) = ap (λ k. x % 2 ^ k) (sym split)
      ∙ mod-pow-add x (w / 2 - s) (w / 2) in
      let same : (x + (P - 2 ^ (w / 2) * t % P)) % P ≡ x % 2 ^ (w - s) =
      what_is_left (2 ^ (w / 2)) (x / 2 ^ (w / 2)) (x % 2 ^ (w / 2)) t (x / 2 ^ (w / 2) % 2 ^ (w / 2 - s)) x (sym (div-add-mod x (2 ^ (w / 2)))) part
      (word_small w width x word) ∙ sym low in
      let below = mod-lt (x * 2 ^ s) (pow_pos w) in
      ap (λ k. 2 ^ s * k % P) same ∙ ap (λ k. k % P) (sym (left_low w s x (omega arith)))
      ∙ mod-eq_of_lt (let number = word_small w width (x * 2 ^ s % 2 ^ w) below in omega arith)
    where
      -- a number without the part t of its quotient by n
      what_is_left : (n q r t m x : ℕ) → x ≡ n * q + r → t + m ≡ q → x < 2 ^ 32 → (x + (P - n * t % P)) % P ≡ m * n + r
      what_is_left n q r t m x is parts small =
          let sum : n * q ≡ n * t + m * n = ap (λ k. n * k) (sym parts) ∙ omega arith in
          omega arith

-- ---- the distance
pub distance_near : (w : ℕ) → IsWidth w → (d : ℕ) → d < 2 ^ w → d / 2 ^ (half_log w + 1) ≡ 0 → w / 2 * bit_at d (half_log w) + d % 2 ^ half_log w ≡ d
distance_near = for_widths (λ w. (d : ℕ) → d < 2 ^ w → d / 2 ^ (half_log w + 1) ≡ 0 → w / 2 * bit_at d (half_log w) + d % 2 ^ half_log w ≡ d)
    (λ d word near. omega arith) (λ d word near. omega arith)

pub distance_far : (w : ℕ) → IsWidth w → (d : ℕ) → d / 2 ^ (half_log w + 1) ≢ 0 → w ≤ d
distance_far = for_widths (λ w. (d : ℕ) → d / 2 ^ (half_log w + 1) ≢ 0 → w ≤ d) (λ d far. omega arith) (λ d far. omega arith)
