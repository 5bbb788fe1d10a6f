-- The order of signed numbers.
use Rattle.std.proofs.Common.{◌≡◌, ◌⊎◌, ℕ, ◌^◌, ◌<◌, ◌≤◌, FitsSigned, unsigned_abs, to_z, of_z, w64, ℤ, pos, negsuc, ◌*ℤ◌, ◌<ℤ◌, ◌≤ℤ◌, Bool, true, false, inl}
use Rattle.std.proofs.Common.{inr, refl, sym, ap, ap₂, ◌∙◌, subst, arith, int_lt}
use Rattle.std.proofs.lemmas.Int.{ints, to_z-of_z, fits_signed_mul}
use Rattle.tv_word.specs.Operations.{signed_product}
use Rattle.tv_word.specs.Widths.{IsWidth}
use Rattle.tv_word.specs.Word.{signed}

-- one number is below another, or not
pub int_lt_cases : (a b : ℤ) → ((int_lt a b ≡ true) × (a <ℤ b)) ⊎ ((int_lt a b ≡ false) × (b ≤ℤ a))
int_lt_cases a b = by (int_lt a b) refl
  where
    by : (t : Bool) → int_lt a b ≡ t → ((int_lt a b ≡ true) × (a <ℤ b)) ⊎ ((int_lt a b ≡ false) × (b ≤ℤ a))
    by true e = inl (e, omega (arith, ints))
    by false e = inr (e, omega (arith, ints))

-- the product of two signed words, computed in 64 bits
signed_most : (w v : ℕ) → IsWidth w → v < 2 ^ w → unsigned_abs (signed w v) ≤ 2 ^ 31
signed_most w v width h = elim width [ inl half ↦ rw half (grind (arith, ints)) | inr whole ↦ rw whole (grind (arith, ints)) ]

small_fits : (z : ℤ) → unsigned_abs z ≤ 2 ^ 31 → FitsSigned w64 z
small_fits (pos n) h = omega arith
small_fits (negsuc n) h = omega arith

-- the fit and the value, of numbers that are these words
module _ (w s a : ℕ) (x y : ℤ) (width : IsWidth w) (h : s < 2 ^ w) (k : a < 2 ^ w) (is_x : x ≡ signed w s) (is_y : y ≡ signed w a) where
  numbers : to_z w64 (of_z w64 x) *ℤ to_z w64 (of_z w64 y) ≡ signed_product w s a
  numbers = ap₂ (λ x y. x *ℤ y) (ap (λ x. to_z w64 (of_z w64 x)) is_x ∙ to_z-of_z w64 (signed w s) (small_fits (signed w s) (signed_most w s width h)))
      (ap (λ y. to_z w64 (of_z w64 y)) is_y ∙ to_z-of_z w64 (signed w a) (small_fits (signed w a) (signed_most w a width k)))

  pub product_fits : FitsSigned w64 (to_z w64 (of_z w64 x) *ℤ to_z w64 (of_z w64 y))
  product_fits = subst (FitsSigned w64) (sym numbers)
      (fits_signed_mul w64 (signed w s) (signed w a) (2 ^ 31) (2 ^ 31) (signed_most w s width h) (signed_most w a width k) (omega arith))

  pub product_is : to_z w64 (of_z w64 (to_z w64 (of_z w64 x) *ℤ to_z w64 (of_z w64 y))) ≡ signed_product w s a
  product_is = to_z-of_z w64 (to_z w64 (of_z w64 x) *ℤ to_z w64 (of_z w64 y)) product_fits ∙ numbers
