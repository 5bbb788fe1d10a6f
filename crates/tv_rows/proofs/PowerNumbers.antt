-- The power of a distance, as a product of factors that its lowest bits make.
use Rattle.tv_core.proofs.Common.{◌≡◌, ℕ, ◌+◌, ◌*◌, ◌/◌, ◌%◌, ◌^◌, ◌<◌, ◌≤◌, inl, inr, refl, sym, ◌∙◌, ap, ap₂, arith, mod-eq_of_lt, bit_at, pow-le-pow_right}
use Rattle.std.proofs.lemmas.Nat.{pow-add}
use Rattle.std.proofs.lemmas.Nat.Bits.{bit_at-lt}
use Rattle.tv_bits.proofs.BitLaws.{bit_cases, product_bit}
use Rattle.tv_bits.specs.Bit.{IsBit}
use Rattle.tv_core.specs.declared.field.TheConstants.{P}

-- a factor is 1, or the power that its bit counts
factor_4 : (a : ℕ) → IsBit a → 1 + 15 * a ≡ 2 ^ (4 * a)
factor_4 a h = elim (bit_cases a h) [ inl e ↦ rw e refl | inr e ↦ rw e refl ]

factor_8 : (a : ℕ) → IsBit a → 1 + 255 * a ≡ 2 ^ (8 * a)
factor_8 a h = elim (bit_cases a h) [ inl e ↦ rw e refl | inr e ↦ rw e refl ]

factor_16 : (a : ℕ) → IsBit a → 1 + 65535 * a ≡ 2 ^ (16 * a)
factor_16 a h = elim (bit_cases a h) [ inl e ↦ rw e refl | inr e ↦ rw e refl ]

factor_pair : (a b : ℕ) → IsBit a → IsBit b → 1 + a + 3 * b + 3 * (a * b) ≡ 2 ^ (a + 2 * b)
factor_pair a b h k = elim (bit_cases a h) [
  | inl e ↦ elim (bit_cases b k) [ inl f ↦ rw (e, f) refl | inr f ↦ rw (e, f) refl ]
  | inr e ↦ elim (bit_cases b k) [ inl f ↦ rw (e, f) refl | inr f ↦ rw (e, f) refl ]
]

-- powers that are numbers of the field
pub power_small : (m : ℕ) → m ≤ 63 → 2 ^ m < P
power_small m h = let power : 2 ^ m ≤ 2 ^ 63 = pow-le-pow_right (omega arith) h in omega arith

module _ (d : ℕ) where
  pub both_is : bit_at d 0 * bit_at d 1 % P ≡ bit_at d 0 * bit_at d 1
  both_is = search (arith, product_bit, bit_at-lt, mod-eq_of_lt)

  pub middle_is : (1 + 15 * bit_at d 2) * (1 + 255 * bit_at d 3) % P ≡ 2 ^ (4 * (d / 4 % 4))
  middle_is =
      let place : 4 * bit_at d 2 + 8 * bit_at d 3 ≡ 4 * (d / 4 % 4) = omega arith in
      ap₂ (λ m n. m * n % P) (factor_4 (bit_at d 2) (bit_at-lt d 2)) (factor_8 (bit_at d 3) (bit_at-lt d 3))
      ∙ ap (λ n. n % P) (sym (pow-add 2 (4 * bit_at d 2) (8 * bit_at d 3)) ∙ ap (λ n. 2 ^ n) place)
      ∙ mod-eq_of_lt (power_small (4 * (d / 4 % 4)) (omega arith))

  pub low_is : (1 + bit_at d 0 + 3 * bit_at d 1 + 3 * (bit_at d 0 * bit_at d 1)) * 2 ^ (4 * (d / 4 % 4)) % P ≡ 2 ^ (d % 16)
  low_is =
      let place : bit_at d 0 + 2 * bit_at d 1 + 4 * (d / 4 % 4) ≡ d % 16 = omega arith in
      ap (λ n. n * 2 ^ (4 * (d / 4 % 4)) % P) (factor_pair (bit_at d 0) (bit_at d 1) (bit_at-lt d 0) (bit_at-lt d 1))
      ∙ ap (λ n. n % P) (sym (pow-add 2 (bit_at d 0 + 2 * bit_at d 1) (4 * (d / 4 % 4))) ∙ ap (λ n. 2 ^ n) place)
      ∙ mod-eq_of_lt (power_small (d % 16) (omega arith))

  pub wide_is : 2 ^ (d % 16) * (1 + 65535 * bit_at d 4) % P ≡ 2 ^ (d % 32)
  wide_is =
      let place : d % 16 + 16 * bit_at d 4 ≡ d % 32 = omega arith in
      ap (λ n. 2 ^ (d % 16) * n % P) (factor_16 (bit_at d 4) (bit_at-lt d 4))
      ∙ ap (λ n. n % P) (sym (pow-add 2 (d % 16) (16 * bit_at d 4)) ∙ ap (λ n. 2 ^ n) place)
      ∙ mod-eq_of_lt (power_small (d % 32) (omega arith))
