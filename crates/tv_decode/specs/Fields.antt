-- The fields of an instruction, as one-hot rows and a bit.
use Rattle.std.specs.Prelude.{◌≡◌, ℕ, ◌+◌, ◌-◌, ◌%◌, if◌then◌else◌, List, ◌++◌, slice_index}
use Rattle.tv_bits.specs.Bits.{HasBits, part}
use Rattle.tv_bits.specs.OneHot.{IsOneHot, onehot_of, onehot_values}
use Rattle.tv_bits.specs.declared.bit_wires.Bits.{Bits}
use Rattle.tv_core.specs.Circuits.{Circuit, pure, ◌>>=◌}
use Rattle.tv_core.specs.Laws.{Assigns, Meets, HasFrom, Fills, InField}
use Rattle.tv_decode.specs.declared.records.Fields.{Fields}
use Rattle.tv_isa.specs.Instruction.{decode}
use Rattle.tv_isa.specs.declared.instr.Instr.{Instr}
use Rattle.tv_word.specs.Widths.{IsWidth}

-- a row each for the opcode, the destination, the source and the second word's register; the immediate bit is one of
-- the first word's own
unfoldable pub fields_of : ℕ → Bits → Bits → Circuit Fields
fields_of w h a = do
  op ← onehot_of (part h (w - 5) 5)
  dest ← onehot_of (part h (w - 10) 4)
  source ← onehot_of (part h (w - 14) 4)
  reg ← onehot_of (part a 0 4)
  pure (record { op = op; imm = h.first + (w - 6); dest = dest; source = source; reg = reg })

-- what is returned, computed from the number of the first of these wires
abbrev pub fields_wires : ℕ → Bits → ℕ → Fields
fields_wires w h first = record { op = first; imm = h.first + (w - 6); dest = first + 32; source = first + 48; reg = first + 64 }

-- the values of the wires that are made, for an instruction
abbrev pub fields_values : Instr → List ℕ
fields_values i = onehot_values i.op 5 ++ (onehot_values i.dest 4 ++ (onehot_values i.source 4 ++ onehot_values (i.a % 16) 4))

-- the rows and the bit are those of an instruction; the last row is that of the register that its operand names
pub record AreFields (z : List ℕ) (fields : Fields) (i : Instr) : Type 0 where
  pub op : IsOneHot z fields.op 32 i.op
  pub imm : slice_index z fields.imm ≡ (if i.imm then 1 else 0)
  pub dest : IsOneHot z fields.dest 16 i.dest
  pub source : IsOneHot z fields.source 16 i.source
  pub reg : IsOneHot z fields.reg 16 (i.a % 16)

-- in an assignment that satisfies the constraints the result is the fields of the two words' instruction
abbrev pub FieldsAreSound : Type 0
FieldsAreSound = (w : ℕ) → IsWidth w → (z : List ℕ) (next : ℕ) (h a : Bits) (v u : ℕ) → Assigns z → HasBits z h.first w v → HasBits z a.first w u
    → Meets z (fields_of w h a next).list → AreFields z (fields_of w h a next).answer (decode w v u)

-- an assignment that has these values at the wires that were made satisfies the constraints
abbrev pub FieldsAreComplete : Type 0
FieldsAreComplete = (w : ℕ) → IsWidth w → (z : List ℕ) (next : ℕ) (h a : Bits) (v u : ℕ) → Assigns z → HasBits z h.first w v → HasBits z a.first w u
    → HasFrom z next (fields_values (decode w v u)) → Meets z (fields_of w h a next).list

-- what the circuit returns and where it ends; it has one value for each wire that it makes, all in the field
pub record FieldsSizes : Type 0 where
  pub answer : (w : ℕ) (h a : Bits) (next : ℕ) → (fields_of w h a next).answer ≡ fields_wires w h next
  pub end : (w : ℕ) (h a : Bits) (next : ℕ) → (fields_of w h a next).next ≡ next + 80
  pub fills : (w : ℕ) (h a : Bits) (i : Instr) → Fills (fields_of w h a) (fields_values i)
  pub in_field : (i : Instr) → InField (fields_values i)
