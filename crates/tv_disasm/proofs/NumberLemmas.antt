-- Numbers in text, read back: decimals, hexadecimals and registers.
use Rattle.std.proofs.Common.{◌≡◌, ℕ, zero, suc, ◌-◌, ◌/◌, ◌%◌, ◌^◌, ◌<◌, ◌==◌, nat_eq, true, false, not, ◌||◌, List, [], ◌∷◌, ◌++◌, length, drop}
use Rattle.std.proofs.Common.{slice_index, codes, decimal, Some, Ok, refl, sym, ap, ◌∙◌, arith}
use Rattle.std.proofs.Math.Arith.{mod-mul}
use Rattle.std.proofs.Math.Nat.{one-le-pow, pow-zero, pow-succ'}
use Rattle.std.proofs.lemmas.Bool.{and_from, and_right, and_parts, lt-ltb, or_right}
use Rattle.std.proofs.lemmas.Bool.Decides.{nat_tests}
use Rattle.std.proofs.lemmas.Fmt.{decimal_digit, first_decimal}
use Rattle.std.proofs.lemmas.Str.{digit_value-digit_char}
use Rattle.std.specs.Char.{digit_char, is_digit}
use Rattle.std.specs.List.{list_all, starts_with}
use Rattle.tv_asm.specs.Operand.{number, register}
use Rattle.tv_word.proofs.DecimalLemmas.{all_weaker, is_decimal_byte, IsDecimal, IsDecimal-decimal, IsDecimal-digits}
use Rattle.tv_word.proofs.WidthLaws.{for_widths}
use Rattle.tv_word.specs.Numeral.{numeral, positional}
use Rattle.tv_word.specs.Widths.{IsWidth}
use Rattle.tv_disasm.specs.Disassembly.{hexadecimal, register_text}
use Rattle.tv_disasm.proofs.WordLemmas.{is_word_byte, IsWord, apart_from}

-- digits of a base that represent a number
pub record IsNumeral (base n : ℕ) (text : List ℕ) : Type 0 where
  pub some : 0 < length text
  pub digits : list_all (λ c. is_digit c base) text ≡ true
  pub value : positional base text ≡ n

-- they are read as that number
pub IsNumeral-numeral : (base bound n : ℕ) (text : List ℕ) → IsNumeral base n text → n < bound → numeral base bound text ≡ Some n
IsNumeral-numeral base bound n text h below =
    rw (h.digits, h.value, lt-ltb 0 (length text) h.some, lt-ltb n bound below) refl

decimal-word : (c : ℕ) → is_decimal_byte c ≡ true → is_word_byte c ≡ true
decimal-word c h = grind (arith, nat_tests)

pub IsDecimal-IsWord : (n : ℕ) (text : List ℕ) → IsDecimal n text → IsWord text
IsDecimal-IsWord n text h =
    record { some = h.some; bytes = all_weaker is_decimal_byte is_word_byte decimal-word text h.bytes }

pub IsDecimal-IsNumeral : (n : ℕ) (text : List ℕ) → IsDecimal n text → IsNumeral 10 n text
IsDecimal-IsNumeral n text h =
    record { some = h.some; digits = IsDecimal-digits n text h; value = h.value }

pub first-decimal : (n : ℕ) (text : List ℕ) → IsDecimal n text → is_decimal_byte (slice_index text 0) ≡ true
first-decimal n [] h = absurd (omega (arith, h.some))
first-decimal n (c ∷ cs) h = (and_parts (is_decimal_byte c) (list_all is_decimal_byte cs) h.bytes).0

-- decimal digits don't begin as a hexadecimal number
not_hexadecimal : (text : List ℕ) → list_all is_decimal_byte text ≡ true → starts_with nat_eq text (codes "0x") ≡ false
not_hexadecimal [] h = refl
not_hexadecimal (c ∷ []) h = and_right (nat_eq 48 c) false refl
not_hexadecimal (c ∷ d ∷ more) h =
    let both = and_parts (is_decimal_byte c) (list_all is_decimal_byte (d ∷ more)) h in
    let second = and_parts (is_decimal_byte d) (list_all is_decimal_byte more) both.1 in
    rw (apart_from is_decimal_byte d 120 second.0 refl) (and_right (nat_eq 48 c) false refl)

-- a decimal is the number that it writes
pub number-decimal : (w n : ℕ) → n < 2 ^ w → n < 2 ^ 64 → number w (decimal n) ≡ Ok n
unfolding number
number-decimal w n below h =
    let d = IsDecimal-decimal n h in
    rw (not_hexadecimal (decimal n) d.bytes, IsNumeral-numeral 10 (2 ^ w) n (decimal n) (IsDecimal-IsNumeral n (decimal n) d) below) refl

digit_char-digit : (d : ℕ) → d < 16 → is_digit (digit_char d) 16 ≡ true
digit_char-digit d h = rw (digit_value-digit_char d (omega arith)) (lt-ltb d 16 h)

digit_char-word : (d : ℕ) → d < 16 → is_word_byte (digit_char d) ≡ true
digit_char-word d h = grind (arith, nat_tests)

pub record IsHexadecimal (n v : ℕ) (text : List ℕ) : Type 0 where
  pub count : length text ≡ n
  pub bytes : list_all is_word_byte text ≡ true
  pub digits : list_all (λ c. is_digit c 16) text ≡ true
  pub value : positional 16 text ≡ v % 16 ^ n

mod-one : (v : ℕ) → 0 ≡ v % 16 ^ 0
mod-one v = rw (pow-zero) (omega arith)

pub IsHexadecimal-hexadecimal : (n v : ℕ) → IsHexadecimal n v (hexadecimal n v)
unfolding hexadecimal
IsHexadecimal-hexadecimal zero v =
    record { count = refl; bytes = refl; digits = refl; value = mod-one v }
IsHexadecimal-hexadecimal (suc n) v =
    let more = IsHexadecimal-hexadecimal n v in
    let d = v / 16 ^ n % 16 in
    let low : d < 16 = omega arith in
    record {
      count = ap suc more.count;
      bytes = and_from (is_word_byte (digit_char d)) (list_all is_word_byte (hexadecimal n v)) (digit_char-word d low) more.bytes;
      digits = and_from (is_digit (digit_char d) 16) (list_all (λ c. is_digit c 16) (hexadecimal n v)) (digit_char-digit d low) more.digits;
      value =
          rw (more.count, more.value, digit_value-digit_char d (omega arith), pow-succ' 16 n)
          (sym (mod-mul v {m = 16} {c = 16 ^ n} (omega arith) (one-le-pow n 16 (omega arith))));
    }

-- the digits of a whole word determine all of it
abbrev AllDigits : ℕ → Type 0
AllDigits w = (v : ℕ) → v < 2 ^ w → v % 16 ^ (w / 4) ≡ v

all_digits : (w : ℕ) → IsWidth w → AllDigits w
all_digits = for_widths AllDigits (λ v h. omega arith) (λ v h. omega arith)

-- and are the number that they write
pub number-hexadecimal : (w : ℕ) → IsWidth w → (v : ℕ) → v < 2 ^ w → number w (codes "0x" ++ hexadecimal (w / 4) v) ≡ Ok v
unfolding number
number-hexadecimal w width v h =
    let x = IsHexadecimal-hexadecimal (w / 4) v in
    let spells : IsNumeral 16 v (hexadecimal (w / 4) v) = record {
      some = omega (arith, x.count, width);
      digits = x.digits;
      value = x.value
          ∙ all_digits w width v h;
    } in
    rw (IsNumeral-numeral 16 (2 ^ w) v (hexadecimal (w / 4) v) spells h) refl

-- a word is below 2 ^ 64
abbrev IsWide : ℕ → Type 0
IsWide w = (v : ℕ) → v < 2 ^ w → v < 2 ^ 64

pub word_wide : (w : ℕ) → IsWidth w → IsWide w
word_wide = for_widths IsWide (λ v h. omega arith) (λ v h. omega arith)

-- the n lowest digits stand at the end of more
pub drop_hexadecimal : (w : ℕ) → IsWidth w → (v : ℕ) → drop (8 - w / 4) (hexadecimal 8 v) ≡ hexadecimal (w / 4) v
unfolding hexadecimal
drop_hexadecimal = for_widths (λ w. (v : ℕ) → drop (8 - w / 4) (hexadecimal 8 v) ≡ hexadecimal (w / 4) v) (λ v. refl) (λ v. refl)

no_leading_zero : (n : ℕ) → n < 2 ^ 64 → (length (decimal n) == 1 || not (slice_index (decimal n) 0 == 48)) ≡ true
no_leading_zero zero h = rw (decimal_digit 0 (omega arith)) refl
no_leading_zero (suc n) h =
    let first = first_decimal (suc n) (omega arith) h in
    or_right (length (decimal (suc n)) == 1) (not (slice_index (decimal (suc n)) 0 == 48)) (grind (arith, nat_tests))

-- a register is the number that it writes
pub register-register_text : (n : ℕ) → n < 16 → register (register_text n) ≡ Ok n
unfolding register
register-register_text n h =
    let wide : n < 2 ^ 64 = omega arith in
    let spells = IsDecimal-IsNumeral n (decimal n) (IsDecimal-decimal n wide) in
    rw (no_leading_zero n wide, IsNumeral-numeral 10 16 n (decimal n) spells h) refl

pub register-word : (n : ℕ) → n < 2 ^ 64 → IsWord (register_text n)
register-word n h =
    let d = IsDecimal-IsWord n (decimal n) (IsDecimal-decimal n h) in
    record { some = omega arith; bytes = d.bytes }
