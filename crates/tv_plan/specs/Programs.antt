-- The images of program texts, for words of either width.
use Rattle.std.specs.Prelude.{ℕ, ◌+◌, ◌*◌, ◌/◌, ◌≤◌, ◌==◌, List, [], ◌∷◌, length, Result, if◌then◌else◌}
use Rattle.std.specs.List.{flat_map}
use Rattle.tv_asm.specs.Assembly.{assembled}
use Rattle.tv_asm.specs.Header.{width_of}
use Rattle.tv_asm.specs.declared.fault.AsmFault.{AsmFault}
use Rattle.tv_asm.specs.declared.fault.AsmFault.TheVariants as asm
use Rattle.tv_core.specs.declared.limits.TheConstants.{TEXT_BYTES, IMAGE_WORDS, IMAGE_WORDS_16}
use Rattle.tv_step.specs.Range.{AreWords}
use Rattle.tv_word.specs.Word.{word_bytes}
use Rattle.tv_plan.specs.declared.programs.Program.{Program}
use Rattle.tv_plan.specs.declared.programs.Width.{Width}
use Rattle.tv_plan.specs.declared.programs.Width.TheVariants.{Bits16, Bits32}
use Rattle.tv_plan.specs.declared.refusal.Bad.{Bad}
use Rattle.tv_plan.specs.declared.refusal.Bad.TheVariants as bad
use Rattle.tv_plan.specs.declared.refusal.What.TheVariants.{ImageWords, TextBytes}
use Rattle.tv_plan.specs.declared.refusal.Stop.{Stop}
use Rattle.tv_plan.specs.declared.refusal.Stop.TheVariants.{Contents, Memory}
use Rattle.tv_plan.specs.Finds.{made_by}
use Rattle.tv_plan.specs.Flaws.{Flaw, Flaw.{OfProgram, OverLimit}}
use Rattle.tv_plan.specs.Plan.{within, map_ok}

-- how many bits a word has
abbrev pub bits : Width → ℕ
bits Bits16 = 16
bits Bits32 = 32

-- the most words of an image
abbrev pub image_words : Width → ℕ
image_words Bits16 = IMAGE_WORDS_16
image_words Bits32 = IMAGE_WORDS

-- the most bytes of an image file: those of the most words
abbrev pub image_bytes_most : Width → ℕ
image_bytes_most width = bits width / 8 * image_words width

-- the width of words that a text sets
abbrev pub width_of_text : List ℕ → Width
width_of_text text = if width_of text == 16 then Bits16 else Bits32

-- words of the width, and no more of them than there is memory for
pub record HasImage (program : Program) : Type 0 where
  pub short : length program.words ≤ image_words program.width
  pub words : AreWords (bits program.width) program.words

-- the bytes of a program's image: those of each word, the lowest first
abbrev pub image_bytes : Program → List ℕ
image_bytes program = flat_map (word_bytes (bits program.width)) program.words

-- what a fault of a program text is; it is two words more that pass the limit
abbrev pub asm_stop : AsmFault → Stop
asm_stop (asm.Bad line why) = Contents (bad.Program line why)
asm_stop (asm.TooMany line most) = Contents (bad.Limit ImageWords (most + 2) most)
asm_stop asm.Memory = Memory

-- what is found of a program text for words of a width
abbrev pub program_result : Width → Result (List ℕ) AsmFault → Result Program Bad
program_result width found = map_ok (λ words. record { width = width; words = words }) (made_by ImageWords asm_stop found)

-- a program text for words of a width
unfoldable pub program_by : Width → List ℕ → Result Program Bad
program_by width text = program_result width (assembled (bits width) (image_words width) text)

-- the program of a text, for words of the width that it sets
abbrev pub program_of : List ℕ → Result Program Bad
program_of text = program_by (width_of_text text) text

-- and its image, in bytes
unfoldable pub image_of : List ℕ → Result (List ℕ) Bad
image_of text = map_ok image_bytes (program_of text)

-- what the file of a program text may be refused for
abbrev pub program_flaws : List Flaw
program_flaws = OverLimit TextBytes ∷ OverLimit ImageWords ∷ OfProgram ∷ []

-- the file of a program text, which may have this many bytes: its program
abbrev pub program_in : List ℕ → Result Program Bad
program_in = within TextBytes TEXT_BYTES program_of
