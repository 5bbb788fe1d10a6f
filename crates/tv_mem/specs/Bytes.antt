-- Memory as a function from a byte's address to the byte, and its words of w bits, w a multiple of 8.
use Rattle.std.specs.Prelude.{ℕ, zero, suc, ◌+◌, ◌*◌, ◌/◌, ◌%◌, ◌^◌, ◌==◌, if◌then◌else◌, List, [], ◌∷◌}
use Rattle.tv_word.specs.Word.{little_endian}

-- the byte at each address
abbrev pub Bytes : Type 0
Bytes = ℕ → ℕ

-- byte number i of a number, from the lowest on
abbrev pub byte_of : ℕ → ℕ → ℕ
byte_of v i = v / 256 ^ i % 256

-- after a byte was written
abbrev pub with_byte : Bytes → ℕ → ℕ → Bytes
with_byte m at v x = if x == at then v else m x

-- after the word number j was written, its lowest byte first
abbrev pub with_word : ℕ → Bytes → ℕ → ℕ → Bytes
with_word w m j v x = if x / (w / 8) == j then byte_of v (x % (w / 8)) else m x

-- n bytes from an address on
abbrev pub bytes_from : Bytes → ℕ → ℕ → List ℕ
bytes_from m at zero = []
bytes_from m at (suc n) = m at ∷ bytes_from m (at + 1) n

-- the word number j
abbrev pub word_in : ℕ → Bytes → ℕ → ℕ
word_in w m j = little_endian (bytes_from m (j * (w / 8)) (w / 8))
