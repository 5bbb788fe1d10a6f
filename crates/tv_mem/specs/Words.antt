-- How the words of memory and its bytes go together, w being 16 or 32.
use Rattle.std.specs.Prelude.{◌≡◌, ◌≢◌, ℕ, ◌+◌, ◌*◌, ◌/◌, ◌%◌, ◌^◌, ◌<◌}
use Rattle.tv_word.specs.Widths.{IsWidth}
use Rattle.tv_mem.specs.Bytes.{Bytes, byte_of, with_byte, with_word, word_in}

-- memory is of bytes
abbrev pub AreBytes : Bytes → Type 0
AreBytes m = (at : ℕ) → m at < 256

-- its words are words
abbrev pub WordsAreSmall : Type 0
WordsAreSmall = (w : ℕ) → IsWidth w → (m : Bytes) → AreBytes m → (j : ℕ) → word_in w m j < 2 ^ w

-- the byte at an address is a byte of the word in which the address lies
abbrev pub ByteOfWord : Type 0
ByteOfWord = (w : ℕ) → IsWidth w → (m : Bytes) → AreBytes m → (at : ℕ) → byte_of (word_in w m (at / (w / 8))) (at % (w / 8)) ≡ m at

-- that word after a byte was written: the byte stands at its place in place of the one before
abbrev pub WordAfterByte : Type 0
WordAfterByte = (w : ℕ) → IsWidth w → (m : Bytes) (at v : ℕ) →
    word_in w (with_byte m at v) (at / (w / 8)) + m at * 256 ^ (at % (w / 8)) ≡ word_in w m (at / (w / 8)) + v * 256 ^ (at % (w / 8))

-- a word after it was written
abbrev pub WordAfterWord : Type 0
WordAfterWord = (w : ℕ) → IsWidth w → (m : Bytes) (j v : ℕ) → v < 2 ^ w → word_in w (with_word w m j v) j ≡ v

-- no other word changes where a byte is written, and where a word is
abbrev pub OthersAfterByte : Type 0
OthersAfterByte = (w : ℕ) → IsWidth w → (m : Bytes) (at v j : ℕ) → j ≢ at / (w / 8) → word_in w (with_byte m at v) j ≡ word_in w m j

abbrev pub OthersAfterWord : Type 0
OthersAfterWord = (w : ℕ) → IsWidth w → (m : Bytes) (i v j : ℕ) → j ≢ i → word_in w (with_word w m i v) j ≡ word_in w m j

-- memory stays of bytes
abbrev pub BytesAfterByte : Type 0
BytesAfterByte = (m : Bytes) (at v : ℕ) → AreBytes m → v < 256 → AreBytes (with_byte m at v)

abbrev pub BytesAfterWord : Type 0
BytesAfterWord = (w : ℕ) (m : Bytes) (j v : ℕ) → AreBytes m → AreBytes (with_word w m j v)
