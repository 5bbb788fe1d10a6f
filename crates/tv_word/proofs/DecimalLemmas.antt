-- A number in decimal, and its digits.
use Rattle.std.proofs.Common.{◌≡◌, ℕ, ◌+◌, ◌/◌, ◌%◌, ◌^◌, ◌<◌, ◌≤◌, nat_le, Bool, true, ◌&&◌, List, [], ◌∷◌, ◌++◌, length, decimal, refl, ◌∙◌, arith}
use Rattle.std.proofs.Math.Nat.{pow-zero}
use Rattle.std.proofs.lemmas.Bool.{and_from, lt-ltb}
use Rattle.std.proofs.lemmas.Bool.Decides.{nat_tests}
use Rattle.std.proofs.lemmas.Fmt.{decimal_by_steps}
use Rattle.std.proofs.lemmas.List.{length-append}
use Rattle.std.proofs.lemmas.List.Folds.{list_all-append}
use Rattle.std.proofs.lemmas.List.Elements.{All-weaker}
use Rattle.std.proofs.lemmas.List.Sums.{AllPass-from_list_all, list_all-from_AllPass}
use Rattle.std.specs.Char.{digit_value, is_digit}
use Rattle.std.specs.List.{list_all}
use Rattle.tv_word.specs.Numeral.{is_numeral, positional}
use Rattle.tv_word.proofs.NumeralLemmas.{positional-append}

-- a decimal digit's byte
abbrev pub is_decimal_byte : ℕ → Bool
is_decimal_byte c = nat_le 48 c && nat_le c 57

-- decimal digits that represent a number
pub record IsDecimal (n : ℕ) (text : List ℕ) : Type 0 where
  pub some : 0 < length text
  pub bytes : list_all is_decimal_byte text ≡ true
  pub value : positional 10 text ≡ n

digit-byte : (d : ℕ) → d < 10 → is_decimal_byte (48 + d) ≡ true
digit-byte d h = grind (arith, nat_tests)

digit-value : (d : ℕ) → d < 10 → digit_value (48 + d) ≡ d
digit-value d h = grind (arith, nat_tests)

IsDecimal-one : (n : ℕ) → n < 10 → IsDecimal n ((48 + n) ∷ [])
IsDecimal-one n h = record {
  some = omega arith;
  bytes = and_from (is_decimal_byte (48 + n)) true (digit-byte n h) refl;
  value = rw (pow-zero, digit-value n h) (omega arith);
}

IsDecimal-more : (n : ℕ) (front : List ℕ) → 10 ≤ n → IsDecimal (n / 10) front → IsDecimal n (front ++ ((48 + n % 10) ∷ []))
IsDecimal-more n front h d =
    let low : n % 10 < 10 = omega arith in
    record {
      some = omega (arith, length-append front ((48 + n % 10) ∷ []));
      bytes =
          list_all-append is_decimal_byte front ((48 + n % 10) ∷ [])
          ∙ and_from (list_all is_decimal_byte front) (is_decimal_byte (48 + n % 10) && true) d.bytes
          (and_from (is_decimal_byte (48 + n % 10)) true (digit-byte (n % 10) low) refl);
      value =
          positional-append 10 front ((48 + n % 10) ∷ [])
          ∙ rw (d.value, pow-zero, digit-value (n % 10) low) (omega arith);
    }

-- a number's decimal digits represent it
pub IsDecimal-decimal : (n : ℕ) → n < 2 ^ 64 → IsDecimal n (decimal n)
IsDecimal-decimal n h = decimal_by_steps IsDecimal IsDecimal-one IsDecimal-more n h

pub all_weaker : (p q : ℕ → Bool) → ((c : ℕ) → p c ≡ true → q c ≡ true) → (xs : List ℕ) → list_all p xs ≡ true → list_all q xs ≡ true
all_weaker p q f xs h =
    list_all-from_AllPass q xs (All-weaker (λ c. p c ≡ true) (λ c. q c ≡ true) f xs (AllPass-from_list_all p xs h))

decimal-digit : (c : ℕ) → is_decimal_byte c ≡ true → is_digit c 10 ≡ true
decimal-digit c h = grind (arith, nat_tests)

-- they are digits of the base ten
pub IsDecimal-digits : (n : ℕ) (text : List ℕ) → IsDecimal n text → list_all (λ c. is_digit c 10) text ≡ true
IsDecimal-digits n text h = all_weaker is_decimal_byte (λ c. is_digit c 10) decimal-digit text h.bytes

-- and a numeral
pub IsDecimal-numeral : (n : ℕ) (text : List ℕ) → IsDecimal n text → is_numeral 10 text ≡ true
IsDecimal-numeral n text h = rw (lt-ltb 0 (length text) h.some, IsDecimal-digits n text h) refl
