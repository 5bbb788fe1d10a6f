-- The program text of an image, for words of w bits.
use Rattle.std.specs.Prelude.{ℕ, zero, suc, ◌-◌, ◌/◌, ◌%◌, ◌^◌, ◌==◌, nat_lt, Bool, true, false, ◌&&◌, ◌||◌, if◌then◌else◌, List, [], ◌∷◌, ◌++◌, length, codes}
use Rattle.std.specs.Prelude.{decimal, Option, Some, None}
use Rattle.std.specs.List.{flat_map, join_by}
use Rattle.std.specs.Simd.{first_chunks}
use Rattle.tv_isa.specs.Instruction.{decode}
use Rattle.tv_isa.specs.Table.{TableRow, with_opcode}
use Rattle.tv_isa.specs.declared.instr.Instr.{Instr}
use Rattle.tv_isa.specs.declared.operation.Shape.{Shape}
use Rattle.tv_isa.specs.declared.operation.Shape.TheVariants.{DestSourceA, DestA, SourceA, OnlyA, ADest, Unused}
use Rattle.tv_word.specs.Word.{word_at}
pub use Rattle.std.specs.Char.{digit_char}

-- a register: `r` and its number
abbrev pub register_text : ℕ → List ℕ
register_text number = codes "r" ++ decimal number

-- the operand A: a number as it stands, or a register
abbrev pub last_text : Instr → List ℕ
last_text i = if i.imm then decimal i.a else register_text i.a

-- the operands that a form names, in the order of its text
abbrev pub operand_texts : Shape → Instr → List (List ℕ)
operand_texts DestSourceA i = register_text i.dest ∷ register_text i.source ∷ last_text i ∷ []
operand_texts DestA i = register_text i.dest ∷ last_text i ∷ []
operand_texts SourceA i = register_text i.source ∷ last_text i ∷ []
operand_texts OnlyA i = last_text i ∷ []
operand_texts ADest i = last_text i ∷ register_text i.dest ∷ []
operand_texts Unused i = []

-- operands with a comma and a space between each two
abbrev pub comma_separated : List (List ℕ) → List ℕ
comma_separated operands = join_by (λ operand. operand) (codes ", ") operands

-- an instruction by its name
abbrev pub instruction_text : List ℕ → Shape → Instr → List ℕ
instruction_text name shape i = name ++ codes " " ++ comma_separated (operand_texts shape i)

-- the n lowest hexadecimal digits of a number, the highest first
unfoldable pub hexadecimal : ℕ → ℕ → List ℕ
hexadecimal zero v = []
hexadecimal (suc n) v = digit_char (v / 16 ^ n % 16) ∷ hexadecimal n v

-- two words as they are
abbrev pub raw_text : ℕ → ℕ → ℕ → List ℕ
raw_text w h a = codes ".raw 0x" ++ hexadecimal (w / 4) h ++ codes ", " ++ decimal a

-- the register fields that a form doesn't name are 0
abbrev pub leaves_zero : Shape → Instr → Bool
leaves_zero DestSourceA i = true
leaves_zero DestA i = i.source == 0
leaves_zero SourceA i = i.dest == 0
leaves_zero OnlyA i = i.dest == 0 && i.source == 0
leaves_zero ADest i = i.source == 0
leaves_zero Unused i = false

-- an instruction's text determines all of its two words: no ignored bit is 1, no field that the form doesn't name is
-- used, and an A that isn't a number is one of the 16 registers
abbrev pub shows_all_bits : ℕ → ℕ → Shape → Instr → Bool
shows_all_bits w h shape i = h % 2 ^ (w - 14) == 0 && leaves_zero shape i && (i.imm || nat_lt i.a 16)

-- two words, by the row of the table that their opcode has: by name where that determines all of them
abbrev pub row_text : ℕ → ℕ → ℕ → Option TableRow → List ℕ
row_text w h a None = raw_text w h a
row_text w h a (Some row) =
    if shows_all_bits w h row.shape (decode w h a) then instruction_text row.name row.shape (decode w h a) else raw_text w h a

-- the text of two words, without the line's end
unfoldable pub two_words_text : ℕ → ℕ → ℕ → List ℕ
two_words_text w h a = row_text w h a (with_opcode (decode w h a).op)

-- the line of the bytes of two words, and its end
abbrev pub text_line_of : ℕ → List ℕ → List ℕ
text_line_of w two = two_words_text w (word_at w two 0) (word_at w two (w / 8)) ++ codes "\n"

-- the line that a text for words of 16 bits begins with: its header
abbrev pub header_of : ℕ → List ℕ
header_of w = if w == 16 then codes "; TinyRAM W=16 K=16\n" else []

-- the text of an image: a line for each two words, after the header
unfoldable pub disassembly_of : ℕ → List ℕ → List ℕ
disassembly_of w image = header_of w ++ flat_map (text_line_of w) (first_chunks (w / 4) (length image / (w / 4)) image)
