-- The two words of an instruction, with a one-hot row of the used opcodes in place of the opcode's bits.
use Rattle.std.specs.Prelude.{◌≡◌, ℕ, ◌+◌, ◌-◌, ◌*◌, ◌%◌, ◌^◌, ◌<◌, ◌==◌, true, if◌then◌else◌, List, [], ◌∷◌, ◌++◌, length, slice_index}
use Rattle.tv_bits.specs.Bits.{HasBits, part, bits_combination, bits_values, new_bits_of}
use Rattle.tv_bits.specs.Number.{number_of}
use Rattle.tv_bits.specs.OneHot.{IsOneHot, row_sum, one_at}
use Rattle.tv_bits.specs.Times.{kept_of}
use Rattle.tv_bits.specs.declared.bit_wires.Bits.{Bits}
use Rattle.tv_core.specs.Below.{each_below, weighted}
use Rattle.tv_core.specs.Circuits.{Circuit, put, pure, ◌>>=◌}
use Rattle.tv_core.specs.Combinations.{constant}
use Rattle.tv_core.specs.Constraints.{Combination, value}
use Rattle.tv_core.specs.Laws.{Assigns, Meets, HasFrom, Fills, InField}
use Rattle.tv_core.specs.Meanings.{terms_in}
use Rattle.tv_decode.specs.declared.records.InstructionWires.{InstructionWires}
use Rattle.tv_isa.specs.Instruction.{field, decode}
use Rattle.tv_isa.specs.Opcodes.{is_used, opcodes, place_of, opcode_at}
use Rattle.tv_word.specs.Widths.{IsWidth}
use Rattle.tv_word.specs.Word.{flag_of}

-- ---- the row of the used opcodes
-- the wire of a used opcode is 1, and the wire of each other one is 0
pub record IsOpcodeRow (z : List ℕ) (first op : ℕ) : Type 0 where
  pub used : is_used op ≡ true
  pub row : IsOneHot z first opcodes (place_of op)

-- the values of the row
abbrev pub opcode_values : ℕ → List ℕ
opcode_values op = each_below opcodes (one_at (place_of op))

-- ---- the circuit
-- the bits that name the source and the destination, and the register that the second word names; and the immediate bit
abbrev pub source_bits : ℕ → InstructionWires → Bits
source_bits w made = part made.low (w - 14) 4

abbrev pub dest_bits : ℕ → InstructionWires → Bits
dest_bits w made = part made.low (w - 10) 4

abbrev pub register_bits : InstructionWires → Bits
register_bits made = part made.second 0 4

abbrev pub imm_wire : ℕ → InstructionWires → ℕ
imm_wire w made = made.low.first + (w - 6)

-- the first word: the bits below the opcode, and the opcode above them, whose wire alone is 1; opcode 0 adds nothing
abbrev pub opcode_weight : ℕ → ℕ → ℕ
opcode_weight w j = opcode_at j * 2 ^ (w - 5)

abbrev pub head_of : ℕ → ℕ → ℕ → Combination
head_of w low op = bits_combination low (w - 5) ++ weighted (op + 1) (opcodes - 1) (λ j. opcode_weight w (j + 1))

-- the bits of the first word below the opcode, the row, the bits of the second word, and a wire for each word
unfoldable pub instruction_of : ℕ → Circuit InstructionWires
instruction_of w = do
  low ← new_bits_of (w - 5)
  row ← new_bits_of opcodes
  second ← new_bits_of w
  _ ← put (row_sum row.first opcodes) (constant 1) (constant 1)
  head ← kept_of (head_of w low.first row.first)
  tail ← kept_of (number_of second)
  pure (record { low = low; op = row.first; second = second; head = head; tail = tail })

-- what is returned, computed from the number of the first of these wires
abbrev pub instruction_wires : ℕ → ℕ → InstructionWires
instruction_wires w first = record {
  low = record { first = first; n = w - 5 };
  op = first + (w - 5);
  second = record { first = first + (w - 5) + opcodes; n = w };
  head = first + (w - 5) + opcodes + w;
  tail = first + (w - 5) + opcodes + w + 1;
}

-- the values of the wires that are made, for two words
abbrev pub instruction_values : ℕ → ℕ → ℕ → List ℕ
instruction_values w head tail =
    bits_values (head % 2 ^ (w - 5)) (w - 5) ++ (opcode_values (field (w - 5) 5 head) ++ (bits_values tail w ++ head ∷ tail ∷ []))

-- ---- the laws
-- the wires hold two words whose instruction has a used opcode, its row, its fields, and the bits of the second word
pub record IsDecoded (z : List ℕ) (w : ℕ) (made : InstructionWires) (h a : ℕ) : Type 0 where
  pub head_word : h < 2 ^ w
  pub tail_word : a < 2 ^ w
  pub head : slice_index z made.head ≡ h
  pub tail : slice_index z made.tail ≡ a
  pub opcode : IsOpcodeRow z made.op (decode w h a).op
  pub imm : slice_index z (imm_wire w made) ≡ (if (decode w h a).imm then 1 else 0)
  pub dest : value (number_of (dest_bits w made)) z ≡ (decode w h a).dest
  pub source : value (number_of (source_bits w made)) z ≡ (decode w h a).source
  pub register : value (number_of (register_bits made)) z ≡ a % 16
  pub second : HasBits z made.second.first w a

-- in an assignment that satisfies the constraints the wires hold two words and their instruction
abbrev pub InstructionIsSound : Type 0
InstructionIsSound = (w : ℕ) → IsWidth w → (z : List ℕ) (next : ℕ) → Assigns z → Meets z (instruction_of w next).list
    → let made = (instruction_of w next).answer in IsDecoded z w made (slice_index z made.head) (slice_index z made.tail)

-- an assignment that has the values of two words with a used opcode satisfies the constraints, and the wires hold these words
abbrev pub InstructionIsComplete : Type 0
InstructionIsComplete = (w : ℕ) → IsWidth w → (z : List ℕ) (next head tail : ℕ) → Assigns z → head < 2 ^ w → tail < 2 ^ w
    → is_used (decode w head tail).op ≡ true → HasFrom z next (instruction_values w head tail)
    → Meets z (instruction_of w next).list × IsDecoded z w (instruction_of w next).answer head tail

-- which wires are returned, and that the values are one number of the field for each wire that is made
pub record InstructionSizes : Type 0 where
  pub answer : (w next : ℕ) → (instruction_of w next).answer ≡ instruction_wires w next
  pub end : (w : ℕ) → IsWidth w → (next : ℕ) → (instruction_of w next).next ≡ next + (2 * w + 26)
  pub fills : (w : ℕ) → IsWidth w → (head tail : ℕ) → Fills (instruction_of w) (instruction_values w head tail)
  pub in_field : (w : ℕ) → IsWidth w → (head tail : ℕ) → head < 2 ^ w → tail < 2 ^ w → InField (instruction_values w head tail)

-- how many constraints and terms are put
pub record InstructionCosts : Type 0 where
  pub constraints : (w : ℕ) → IsWidth w → (next : ℕ) → length (instruction_of w next).list ≡ 2 * w + 27
  pub terms : (w : ℕ) → IsWidth w → (next : ℕ) → terms_in (instruction_of w next).list ≡ 8 * w + 130

-- the wire of an opcode is 1 exactly where it is the instruction's
abbrev pub OpcodeWireIsRight : Type 0
OpcodeWireIsRight = (z : List ℕ) (first op k : ℕ) → IsOpcodeRow z first op → is_used k ≡ true → slice_index z (first + place_of k) ≡ flag_of (k == op)
