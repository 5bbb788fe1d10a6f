-- The laws of an image and its program text, for words of w bits.
use Rattle.std.specs.Prelude.{◌≡◌, ℕ, ◌+◌, ◌*◌, ◌/◌, ◌%◌, ◌<◌, ◌≤◌, List, length, map, Ok}
use Rattle.std.specs.List.{All, flat_map}
use Rattle.std.specs.Simd.{first_chunks}
use Rattle.tv_asm.specs.Assembly.{assembled}
use Rattle.tv_asm.specs.Header.{width_of}
use Rattle.tv_word.specs.Widths.{IsWidth}
use Rattle.tv_word.specs.Word.{little_endian, word_bytes}
use Rattle.tv_disasm.specs.Disassembly.{disassembly_of}

-- the words of w bits in a list of bytes, one after another
abbrev pub words_in : ℕ → List ℕ → List ℕ
words_in w bytes = map little_endian (first_chunks (w / 8) (length bytes / (w / 8)) bytes)

-- the text of an image of whole instructions assembles to the words of the image, where that many words are allowed
abbrev pub DisassemblyAssembles : Type 0
DisassemblyAssembles =
    (w : ℕ) → IsWidth w → (image : List ℕ) (most : ℕ) → All (λ b. b < 256) image → length image % (w / 4) ≡ 0 → length image ≤ w / 8 * most
    → assembled w most (disassembly_of w image) ≡ Ok (words_in w image)

-- the text of an image determines the width that it was made for
abbrev pub DisassemblyFixesWidth : Type 0
DisassemblyFixesWidth =
    (w : ℕ) → IsWidth w → (image : List ℕ) → All (λ b. b < 256) image → width_of (disassembly_of w image) ≡ w

-- the bytes of these words are the image again
abbrev pub WordsSpellImage : Type 0
WordsSpellImage =
    (w : ℕ) → IsWidth w → (image : List ℕ) → All (λ b. b < 256) image → length image % (w / 8) ≡ 0 → flat_map (word_bytes w) (words_in w image) ≡ image

-- the text of an image is, but for its header, at most six times as long as the image
abbrev pub DisassemblyIsShort : Type 0
DisassemblyIsShort =
    (w : ℕ) → IsWidth w → (image : List ℕ) → All (λ b. b < 256) image → length (disassembly_of w image) ≤ 6 * length image + 20

-- with words of 32 bits, at most four times
abbrev pub DisassemblyOf32IsShorter : Type 0
DisassemblyOf32IsShorter =
    (image : List ℕ) → All (λ b. b < 256) image → length (disassembly_of 32 image) ≤ 4 * length image
