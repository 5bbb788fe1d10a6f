-- The image of a program text, or its first fault.
use Rattle.std.specs.Prelude.{ℕ, ◌+◌, ◌==◌, nat_le, Bool, false, not, ◌||◌, List, [], ◌∷◌, ◌++◌, length, Option, Result, Ok, Err}
use Rattle.std.specs.List.{list_all}
use Rattle.std.specs.Option.{ok_or, option_map_or}
use Rattle.tv_asm.specs.Header.{is_good_header}
use Rattle.tv_asm.specs.Instruction.{words_of}
use Rattle.tv_asm.specs.Labels.{address, is_defined}
use Rattle.tv_asm.specs.Line.{code_of, is_text, said}
use Rattle.tv_asm.specs.Steps.{◌>>=◌, check}
use Rattle.tv_asm.specs.Text.{lines}
use Rattle.tv_asm.specs.declared.fault.AsmFault.{AsmFault}
use Rattle.tv_asm.specs.declared.fault.AsmFault.TheVariants.{Bad, TooMany}
use Rattle.tv_asm.specs.declared.fault.AsmWhy.{AsmWhy}
use Rattle.tv_asm.specs.declared.fault.AsmWhy.TheVariants.{NotText, BadHeader, BadLabel, DoubledLabel}

-- the words of an instruction part: none where it is empty
abbrev pub part_words : ℕ → (List ℕ → Option ℕ) → List ℕ → Result (List ℕ) AsmWhy
part_words w address [] = Ok []
part_words w address (c ∷ cs) = words_of w address (c ∷ cs)

-- the words of a line, or why it is refused: whether it is the first line, which labels earlier lines define, and
-- the address of each label
unfoldable pub line_words : ℕ → Bool → (List ℕ → Bool) → (List ℕ → Option ℕ) → List ℕ → Result (List ℕ) AsmWhy
line_words w first earlier address line = do
  _ ← check (list_all is_text (code_of line)) NotText
  _ ← check (not first || is_good_header w line) BadHeader
  s ← ok_or (said line) BadLabel
  _ ← check (not (option_map_or earlier s.label false)) DoubledLabel
  part_words w address s.instruction

-- a line's own answer, with the line's number
abbrev pub at_line : {A : Type 0} → ℕ → Result A AsmWhy → Result A AsmFault
at_line number (Ok x) = Ok x
at_line number (Err why) = Err (Bad number why)

-- where a line stands: its number, the first being 1; which labels earlier lines define; and the address of each label
pub record Context : Type 0 where
  pub number : ℕ
  pub earlier : List ℕ → Bool
  pub address : List ℕ → Option ℕ

-- the words after one line more: with its words there may be `most` at most
abbrev pub with_line : ℕ → ℕ → Context → List ℕ → List ℕ → Result (List ℕ) AsmFault
with_line w most context words line = do
  two ← at_line context.number (line_words w (context.number == 1) context.earlier context.address line)
  _ ← check (nat_le (length words + length two) most) (TooMany context.number most)
  Ok (words ++ two)

-- what the line after these is read with
abbrev pub context_after : ℕ → List (List ℕ) → List (List ℕ) → Context
context_after w all before = record { number = length before + 1; earlier = is_defined before; address = address w all }

-- the words of lines, after those of the lines before them; `all` are the lines of the text
abbrev pub image_of : ℕ → ℕ → List (List ℕ) → List (List ℕ) → List ℕ → List (List ℕ) → Result (List ℕ) AsmFault
image_of w most all before words [] = Ok words
image_of w most all before words (line ∷ more) = do
  next ← with_line w most (context_after w all before) words line
  image_of w most all (before ++ line ∷ []) next more

-- the image of a text for words of w bits, of at most `most` words, or the first fault
unfoldable pub assembled : ℕ → ℕ → List ℕ → Result (List ℕ) AsmFault
assembled w most text = image_of w most (lines text) [] [] (lines text)
