-- What the machine's operations make of words of w bits: s is the word in the source register and a the operand, both below
-- 2 ^ w. An operation of the instruction `x` has the result `x_result` and the flag `x_flag`. They are those of the TinyRAM
-- architecture specification, version 2.000; the flags, and divisions by 0 and shifts by w bits or more, as in docs/MACHINE.md.
use Rattle.std.specs.Prelude.{ℕ, ◌+◌, ◌-◌, ◌*◌, ◌/◌, ◌%◌, ◌^◌, Bool, not, ◌==◌, nat_lt, nat_le, if◌then◌else◌, ℤ, ◌*ℤ◌, int_lt, int_le, bit_and, bit_or}
use Rattle.std.specs.Prelude.{bit_xor}
use Rattle.tv_word.specs.Twos.{twos, fits}
use Rattle.tv_word.specs.Word.{has_bit, signed}

-- ---- and, or, xor, not: bit by bit; the flag is set where the result v is 0
abbrev pub and_result : ℕ → ℕ → ℕ
and_result s a = bit_and s a

abbrev pub or_result : ℕ → ℕ → ℕ
or_result s a = bit_or s a

abbrev pub xor_result : ℕ → ℕ → ℕ
xor_result s a = bit_xor s a

abbrev pub not_result : ℕ → ℕ → ℕ
not_result w a = 2 ^ w - 1 - a

abbrev pub bitwise_flag : ℕ → Bool
bitwise_flag v = v == 0

-- ---- add: the sum modulo 2 ^ w; the flag is the carry
abbrev pub add_result : ℕ → ℕ → ℕ → ℕ
add_result w s a = (s + a) % 2 ^ w

abbrev pub add_flag : ℕ → ℕ → ℕ → Bool
add_flag w s a = nat_le (2 ^ w) (s + a)

-- ---- sub: the difference modulo 2 ^ w; the flag is the borrow
abbrev pub sub_result : ℕ → ℕ → ℕ → ℕ
sub_result w s a = (s + (2 ^ w - a)) % 2 ^ w

abbrev pub sub_flag : ℕ → ℕ → Bool
sub_flag s a = nat_lt s a

-- ---- mull and umulh: the low and the high word of the product; the flag of both is set where the product is no word
abbrev pub mull_result : ℕ → ℕ → ℕ → ℕ
mull_result w s a = s * a % 2 ^ w

abbrev pub umulh_result : ℕ → ℕ → ℕ → ℕ
umulh_result w s a = s * a / 2 ^ w

abbrev pub product_flag : ℕ → ℕ → ℕ → Bool
product_flag w s a = nat_le (2 ^ w) (s * a)

-- ---- smulh: the high word of the product of signed words, in two's complement; the flag is set where it is no signed word
abbrev pub signed_product : ℕ → ℕ → ℕ → ℤ
signed_product w s a = signed w s *ℤ signed w a

abbrev pub product_twos : ℕ → ℕ → ℕ → ℕ
product_twos w s a = twos (2 * w) (signed_product w s a)

abbrev pub smulh_result : ℕ → ℕ → ℕ → ℕ
smulh_result w s a = product_twos w s a / 2 ^ w

abbrev pub smulh_flag : ℕ → ℕ → ℕ → Bool
smulh_flag w s a = not (fits w (signed_product w s a))

-- ---- udiv and umod: the quotient, rounded down, and the remainder; by 0 both are 0, and the flag of both is set
abbrev pub udiv_result : ℕ → ℕ → ℕ
udiv_result s a = if a == 0 then 0 else s / a

abbrev pub umod_result : ℕ → ℕ → ℕ
umod_result s a = if a == 0 then 0 else s % a

abbrev pub division_flag : ℕ → Bool
division_flag a = a == 0

-- ---- shl and shr: s shifted by a bits, which is 0 from w bits on; the flag is the highest bit of s, and its lowest
abbrev pub shl_result : ℕ → ℕ → ℕ → ℕ
shl_result w s a = if nat_lt a w then s * 2 ^ a % 2 ^ w else 0

abbrev pub shl_flag : ℕ → ℕ → Bool
shl_flag w s = has_bit (w - 1) s

abbrev pub shr_result : ℕ → ℕ → ℕ → ℕ
shr_result w s a = if nat_lt a w then s / 2 ^ a else 0

abbrev pub shr_flag : ℕ → Bool
shr_flag s = has_bit 0 s

-- ---- cmpe, cmpa, cmpae, cmpg, cmpge: the flag is whether s equals a, is above it, at least it, and both as signed words
abbrev pub cmpe_flag : ℕ → ℕ → Bool
cmpe_flag s a = s == a

abbrev pub cmpa_flag : ℕ → ℕ → Bool
cmpa_flag s a = nat_lt a s

abbrev pub cmpae_flag : ℕ → ℕ → Bool
cmpae_flag s a = nat_le a s

abbrev pub cmpg_flag : ℕ → ℕ → ℕ → Bool
cmpg_flag w s a = int_lt (signed w a) (signed w s)

abbrev pub cmpge_flag : ℕ → ℕ → ℕ → Bool
cmpge_flag w s a = int_le (signed w a) (signed w s)
