-- What one command makes of what another one writes.
use Rattle.std.specs.Prelude.{◌≡◌, ℕ, ◌%◌, ◌/◌, ◌<◌, ◌≤◌, List, length, Result, Ok, All}
use Rattle.tv_core.specs.declared.limits.TheConstants.{AUX_WORDS, TEXT_BYTES}
use Rattle.tv_disasm.specs.Disassembly.{disassembly_of}
use Rattle.tv_step.specs.Range.{AreWords}
use Rattle.tv_tape.specs.Tape.{text_of}
use Rattle.tv_plan.specs.declared.programs.Width.{Width}
use Rattle.tv_plan.specs.declared.refusal.Bad.{Bad}
use Rattle.tv_plan.specs.Programs.{bits, image_bytes_most, image_of}

-- what `disasm` writes of an image that it may read is a text that `asm` may read, whose image in bytes is
-- that image again
abbrev pub ImageComesBack : Type 0
ImageComesBack =
    (width : Width) (image : List ℕ) → All (λ b. b < 256) image → length image % (bits width / 4) ≡ 0 → length image ≤ image_bytes_most width
    → (length (disassembly_of (bits width) image) ≤ TEXT_BYTES) × (image_of (disassembly_of (bits width) image) ≡ Ok image)

-- the text that `extract` writes of words of a width, as many as an auxiliary tape may have, isn't too long for a text
abbrev pub TapeTextsFit : Type 0
TapeTextsFit = (width : Width) (words : List ℕ) → AreWords (bits width) words → length words ≤ AUX_WORDS → length (text_of words) ≤ TEXT_BYTES

-- the file of a tape that has that text, of at most this many words, is read as these words, whichever word names it
abbrev pub TapesComeBack : (ℕ → Width → List ℕ → Result (List ℕ) Bad) → ℕ → Type 0
TapesComeBack read most = (word : ℕ) (width : Width) (words : List ℕ) → AreWords (bits width) words → length words ≤ most
    → read word width (text_of words) ≡ Ok words
