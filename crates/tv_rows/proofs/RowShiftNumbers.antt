-- The numbers of rows that hold shifted words.
use Rattle.tv_core.proofs.Common.{◌≡◌, ◌≢◌, ℕ, ◌+◌, ◌-◌, ◌*◌, ◌/◌, ◌%◌, ◌^◌, ◌<◌, ◌≤◌, sym, subst, ◌∙◌, ap, arith, pow-le-pow_right, IsWidth}
use Rattle.std.proofs.Common.{mul_comm, mul_assoc}
use Rattle.std.proofs.Math.Nat.{div-div-eq-div-mul, mul-div_cancel}
use Rattle.std.proofs.lemmas.Nat.{mul-le, pow-add, pow_pos}
use Rattle.tv_bits.proofs.RowNumbers.{row_below, row_is, row_low, row_high, row_of, row_whole}
use Rattle.tv_bits.specs.DoubleRow.{IsRow, whole}
use Rattle.tv_core.proofs.PrimeLaws.{p_cancels}
use Rattle.tv_core.specs.declared.field.TheConstants.{P}
use Rattle.tv_rows.specs.RowShift.{right_low, right_high}

-- 2 ^ w is the power times that of what is left
power_parts : (w m : ℕ) → m < w → 2 ^ w ≡ 2 ^ (w - m) * 2 ^ m
power_parts w m h = let same : w - m + m ≡ w = omega arith in ap (λ n. 2 ^ n) (sym same) ∙ pow-add 2 (w - m) m

module _ (w : ℕ) (width : IsWidth w) (v m : ℕ) (word : v < 2 ^ w) (less : m < w) where
  power_most : 2 ^ m ≤ 2 ^ (w - 1)
  power_most = pow-le-pow_right (omega arith) (omega arith)

  moved : v * 2 ^ (w - m) * 2 ^ m ≡ 2 ^ w * v
  moved = mul_assoc v (2 ^ (w - m)) (2 ^ m) ∙ ap (λ n. v * n) (sym (power_parts w m less)) ∙ mul_comm v (2 ^ w)

  moved_back : v * 2 ^ (w - m) / 2 ^ w ≡ right_high v m
  moved_back =
      ap (λ n. v * 2 ^ (w - m) / n) (power_parts w m less) ∙ sym (div-div-eq-div-mul (v * 2 ^ (w - m)) (2 ^ (w - m)) (2 ^ m))
      ∙ ap (λ n. n / 2 ^ m) (mul-div_cancel v (let some = pow_pos (w - m) in omega arith))

  right_most : v * 2 ^ (w - m) ≤ 2 ^ w * (2 ^ w - 1)
  right_most = search (arith, pow-le-pow_right, mul-le, mul_comm)

  pub right_row : IsRow w (right_low w v m) (right_high v m)
  right_row = subst (λ high. IsRow w (right_low w v m) high) moved_back (row_of w width (v * 2 ^ (w - m)) right_most)

  pub right_whole : whole w (right_low w v m) (right_high v m) ≡ v * 2 ^ (w - m)
  right_whole = ap (λ n. whole w (right_low w v m) n) (sym moved_back) ∙ row_whole w (v * 2 ^ (w - m))

  pub right_times : whole w (right_low w v m) (right_high v m) * 2 ^ m ≡ 2 ^ w * v
  right_times = ap (λ n. n * 2 ^ m) right_whole ∙ moved

  -- the power cancels
  pub right_number : (low high : ℕ) → IsRow w low high → whole w low high * 2 ^ m % P ≡ 2 ^ w * v % P → whole w low high ≡ v * 2 ^ (w - m)
  right_number low high r e =
      let some = pow_pos m in
      let most = power_most in
      let small : v * 2 ^ (w - m) < P = (let most = right_most in grind arith) in
      let apart : 2 ^ m % P ≢ 0 = λ none. grind arith in
      let turned : 2 ^ m * whole w low high % P ≡ 2 ^ m * (v * 2 ^ (w - m)) % P =
      ap (λ n. n % P) (mul_comm (2 ^ m) (whole w low high)) ∙ e ∙ ap (λ n. n % P) (sym moved ∙ mul_comm (v * 2 ^ (w - m)) (2 ^ m)) in
      row_is (whole w low high) (v * 2 ^ (w - m)) (row_below w width low high r) small (p_cancels (2 ^ m) (whole w low high) (v * 2 ^ (w - m)) turned apart)

  -- the halves
  pub right_low_is : (low high : ℕ) → IsRow w low high → whole w low high ≡ v * 2 ^ (w - m) → low ≡ right_low w v m
  right_low_is low high r e = row_low w width low high (v * 2 ^ (w - m)) r.low_word e

  pub right_high_is : (low high : ℕ) → IsRow w low high → whole w low high ≡ v * 2 ^ (w - m) → high ≡ right_high v m
  right_high_is low high r e = row_high w width low high (v * 2 ^ (w - m)) r.low_word e ∙ moved_back
