-- The 29 instructions: opcode, name and operands.
use Rattle.std.specs.Prelude.{ℕ, ◌==◌, List, [], ◌∷◌, Option, find, codes}
use Rattle.std.specs.Option.{option_map_or}
use Rattle.std.specs.Str.{bytes_eq}
use Rattle.tv_isa.specs.declared.operation.Operation.{Operation}
use Rattle.tv_isa.specs.declared.operation.Shape.{Shape}
use Rattle.tv_isa.specs.declared.operation.Shape.TheVariants.{DestSourceA, DestA, SourceA, OnlyA, ADest, Unused}

-- an instruction's opcode, its name in program text, and the operands that it names
pub record TableRow : Type 0 where
  pub op : ℕ
  pub name : List ℕ
  pub shape : Shape

-- an entry, as it is written below
abbrev row : ℕ → List ℕ → Shape → TableRow
row op name shape = record { op = op; name = name; shape = shape }

-- the table
unfoldable pub instructions : List TableRow
instructions =
    row 0 (codes "and") DestSourceA
    ∷ row 1 (codes "or") DestSourceA
    ∷ row 2 (codes "xor") DestSourceA
    ∷ row 3 (codes "not") DestA
    ∷ row 4 (codes "add") DestSourceA
    ∷ row 5 (codes "sub") DestSourceA
    ∷ row 6 (codes "mull") DestSourceA
    ∷ row 7 (codes "umulh") DestSourceA
    ∷ row 8 (codes "smulh") DestSourceA
    ∷ row 9 (codes "udiv") DestSourceA
    ∷ row 10 (codes "umod") DestSourceA
    ∷ row 11 (codes "shl") DestSourceA
    ∷ row 12 (codes "shr") DestSourceA
    ∷ row 13 (codes "cmpe") SourceA
    ∷ row 14 (codes "cmpa") SourceA
    ∷ row 15 (codes "cmpae") SourceA
    ∷ row 16 (codes "cmpg") SourceA
    ∷ row 17 (codes "cmpge") SourceA
    ∷ row 18 (codes "mov") DestA
    ∷ row 19 (codes "cmov") DestA
    ∷ row 20 (codes "jmp") OnlyA
    ∷ row 21 (codes "cjmp") OnlyA
    ∷ row 22 (codes "cnjmp") OnlyA
    ∷ row 26 (codes "store.b") ADest
    ∷ row 27 (codes "load.b") DestA
    ∷ row 28 (codes "store.w") ADest
    ∷ row 29 (codes "load.w") DestA
    ∷ row 30 (codes "read") DestA
    ∷ row 31 (codes "answer") OnlyA
    ∷ []

-- the instruction with an opcode, and with a name
unfoldable pub with_opcode : ℕ → Option TableRow
with_opcode op = find (λ r. r.op == op) instructions

unfoldable pub with_name : List ℕ → Option TableRow
with_name name = find (λ r. bytes_eq r.name name) instructions

-- the operands of the instruction with an opcode
abbrev pub shape_of : ℕ → Shape
shape_of op = option_map_or (λ r. r.shape) (with_opcode op) Unused

-- a row of the program's own table
abbrev pub row_of : Operation → TableRow
row_of o = row o.op o.name.now o.shape
