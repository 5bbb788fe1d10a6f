-- Machine words of w bits, w a multiple of 8, as numbers below 2 ^ w and as bytes.
use Rattle.std.specs.Prelude.{ℕ, zero, suc, ◌+◌, ◌-◌, ◌*◌, ◌/◌, ◌%◌, ◌^◌, Bool, ◌==◌, List, [], ◌∷◌, take, drop, ℤ, pos, ◌-ℤ◌, nat_lt, if◌then◌else◌}

-- a word as a signed number, in two's complement
abbrev pub signed : ℕ → ℕ → ℤ
signed w v = if nat_lt v (2 ^ (w - 1)) then pos v else pos v -ℤ pos (2 ^ w)

-- a truth value as a number: 1 where it holds, else 0
abbrev pub flag_of : Bool → ℕ
flag_of holds = if holds then 1 else 0

-- whether bit number n of a word is 1
abbrev pub has_bit : ℕ → ℕ → Bool
has_bit n v = v / 2 ^ n % 2 == 1

-- the number with these bytes, the lowest first
abbrev pub little_endian : List ℕ → ℕ
little_endian [] = 0
little_endian (b ∷ bs) = b + 256 * little_endian bs

-- the word that stands at a place of bytes
abbrev pub word_at : ℕ → List ℕ → ℕ → ℕ
word_at w bytes at = little_endian (take (w / 8) (drop at bytes))

-- the n lowest bytes of a number, the lowest first
abbrev pub low_bytes : ℕ → ℕ → List ℕ
low_bytes zero v = []
low_bytes (suc n) v = v % 256 ∷ low_bytes n (v / 256)

-- the bytes of a word, the lowest first
abbrev pub word_bytes : ℕ → ℕ → List ℕ
word_bytes w v = low_bytes (w / 8) v
