-- An instruction in text, and its two words.
use Rattle.std.specs.Prelude.{ℕ, ◌==◌, if◌then◌else◌, List, [], ◌∷◌, length, drop, map, Option, Result, Ok, Err, codes, slice_index_or}
use Rattle.std.specs.List.{before_first, slice_split}
use Rattle.std.specs.Option.{ok_or}
use Rattle.std.specs.Str.{bytes_eq}
use Rattle.tv_isa.specs.Instruction.{encode}
use Rattle.tv_isa.specs.Table.{with_name}
use Rattle.tv_isa.specs.declared.instr.Instr.{Instr}
use Rattle.tv_isa.specs.declared.operation.Shape.{Shape}
use Rattle.tv_isa.specs.declared.operation.Shape.TheVariants.{DestSourceA, DestA, SourceA, OnlyA, ADest, Unused}
use Rattle.tv_asm.specs.Operand.{register, number, operand}
use Rattle.tv_asm.specs.Steps.{◌>>=◌, check}
use Rattle.tv_asm.specs.Text.{is_blank, trimmed}
use Rattle.tv_asm.specs.declared.fault.AsmWhy.{AsmWhy}
use Rattle.tv_asm.specs.declared.fault.AsmWhy.TheVariants.{UnknownName, Operands}

-- the name ends at the first blank
abbrev pub name_of : List ℕ → List ℕ
name_of instruction = before_first is_blank instruction

-- what stands after a name is cut at commas; nothing after it is no operands
abbrev pub operands_in : List ℕ → List (List ℕ)
operands_in [] = []
operands_in (c ∷ cs) = map trimmed (slice_split (λ b. b == 44) (c ∷ cs))

-- an operand by its place, empty where there is none
abbrev pub operand_at : List (List ℕ) → ℕ → List ℕ
operand_at operands i = slice_index_or operands i []

-- how many operands an instruction has
abbrev pub operand_count : Shape → ℕ
operand_count DestSourceA = 3
operand_count DestA = 2
operand_count SourceA = 2
operand_count OnlyA = 1
operand_count ADest = 2
operand_count Unused = 0

-- an instruction's fields, those that it doesn't name being 0, from its operands in the order of the text
abbrev pub fields : ℕ → (List ℕ → Option ℕ) → ℕ → Shape → (ℕ → List ℕ) → Result Instr AsmWhy
fields w address op DestSourceA text = do
  dest ← register (text 0)
  source ← register (text 1)
  last ← operand w address (text 2)
  Ok (record { op = op; imm = last.imm; dest = dest; source = source; a = last.a })
fields w address op DestA text = do
  dest ← register (text 0)
  last ← operand w address (text 1)
  Ok (record { op = op; imm = last.imm; dest = dest; source = 0; a = last.a })
fields w address op SourceA text = do
  source ← register (text 0)
  last ← operand w address (text 1)
  Ok (record { op = op; imm = last.imm; dest = 0; source = source; a = last.a })
fields w address op OnlyA text = do
  last ← operand w address (text 0)
  Ok (record { op = op; imm = last.imm; dest = 0; source = 0; a = last.a })
fields w address op ADest text = do
  first ← operand w address (text 0)
  dest ← register (text 1)
  Ok (record { op = op; imm = first.imm; dest = dest; source = 0; a = first.a })
fields w address op Unused text = Err UnknownName

-- as many operands as wanted
abbrev pub counted : List (List ℕ) → ℕ → Result (Unit {0}) AsmWhy
counted operands wants = check (length operands == wants) (Operands (length operands) wants)

-- `.raw H, A`: the two words as they are
abbrev pub raw_words : ℕ → List (List ℕ) → Result (List ℕ) AsmWhy
raw_words w operands = do
  _ ← counted operands 2
  h ← number w (operand_at operands 0)
  a ← number w (operand_at operands 1)
  Ok (h ∷ a ∷ [])

-- an instruction of the table
abbrev pub table_words : ℕ → (List ℕ → Option ℕ) → List ℕ → List (List ℕ) → Result (List ℕ) AsmWhy
table_words w address name operands = do
  row ← ok_or (with_name name) UnknownName
  _ ← counted operands (operand_count row.shape)
  instr ← fields w address row.op row.shape (operand_at operands)
  Ok (encode w instr)

-- the two words of an instruction
unfoldable pub words_of : ℕ → (List ℕ → Option ℕ) → List ℕ → Result (List ℕ) AsmWhy
words_of w address instruction =
    let name = name_of instruction in
    let operands = operands_in (drop (length name) instruction) in
    if bytes_eq name (codes ".raw") then raw_words w operands else table_words w address name operands
