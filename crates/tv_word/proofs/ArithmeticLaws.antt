-- Products and shifts of words.
use Rattle.std.proofs.Common.{◌≡◌, ℕ, ◌+◌, ◌-◌, ◌*◌, ◌/◌, ◌%◌, ◌^◌, ◌<◌, ◌≤◌, sym, ◌∙◌, ap, arith}
use Rattle.std.proofs.Math.Nat.{mul-mod_right, pow-le-pow_right, div-eq_of_lt}
use Rattle.std.proofs.lemmas.Nat.{mul-le, pow-add}
use Rattle.tv_word.specs.Widths.{IsWidth}

pub high_small : (w : ℕ) → IsWidth w → (s a : ℕ) → s < 2 ^ w → a < 2 ^ w → s * a / 2 ^ w < 2 ^ w
high_small w width s a h k =
    let most : s * a ≤ (2 ^ w - 1) * (2 ^ w - 1) = mul-le s a (2 ^ w - 1) (2 ^ w - 1) (omega arith) (omega arith) in
    grind arith

-- a shift by a word's width or more is 0
pub far_left : (w x y : ℕ) → w ≤ y → x * 2 ^ y % 2 ^ w ≡ 0
far_left w x y far =
    let whole : w + (y - w) ≡ y = omega arith in
    let moved : x * (2 ^ w * 2 ^ (y - w)) ≡ 2 ^ w * (x * 2 ^ (y - w)) = omega arith in
    ap (λ n. n % 2 ^ w) (ap (λ k. x * k) (ap (λ k. 2 ^ k) (sym whole) ∙ pow-add 2 w (y - w)) ∙ moved) ∙ mul-mod_right (2 ^ w) (x * 2 ^ (y - w))

pub far_right : (w x y : ℕ) → x < 2 ^ w → w ≤ y → x / 2 ^ y ≡ 0
far_right w x y small far = let more : 2 ^ w ≤ 2 ^ y = pow-le-pow_right (omega arith) far in div-eq_of_lt (omega arith)
