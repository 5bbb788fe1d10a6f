-- The program counter after a step.
use Rattle.std.specs.Prelude.{◌≡◌, ℕ, ◌+◌, ◌-◌, ◌*◌, ◌/◌, ◌%◌, ◌^◌, ◌<◌, not, ◌==◌, if◌then◌else◌, List, [], ◌∷◌, ◌++◌, length, slice_index}
use Rattle.tv_bits.specs.Bit.{IsBit}
use Rattle.tv_bits.specs.Times.{times_of}
use Rattle.tv_core.specs.Circuits.{Circuit, ◌>>=◌}
use Rattle.tv_core.specs.Combinations.{wire}
use Rattle.tv_core.specs.Constraints.{Combination}
use Rattle.tv_core.specs.Inverse.{inverse_of}
use Rattle.tv_core.specs.Laws.{Assigns, Meets, HasFrom, Fills, InField}
use Rattle.tv_core.specs.Meanings.{terms_in}
use Rattle.tv_core.specs.declared.field.TheConstants.{P}
use Rattle.tv_isa.specs.Opcodes.{chosen, place_of}
use Rattle.tv_isa.specs.declared.instr.Instr.{Instr}
use Rattle.tv_isa.specs.declared.opcode.TheConstants.{JMP, CJMP, CNJMP, ANSWER}
use Rattle.tv_numbers.specs.Numbers.{operand_word}
use Rattle.tv_numbers.specs.Tables.{pcs}
use Rattle.tv_numbers.specs.Views.{View}
use Rattle.tv_word.specs.Widths.{IsWidth}
use Rattle.tv_inputs.specs.Accumulation.{accumulated_of}
use Rattle.tv_inputs.specs.Inputs.{StepWires}
use Rattle.tv_inputs.specs.OpcodeSums.{IsOpcode}
use Rattle.tv_inputs.specs.Operand.{upper_of, IsOperand}
use Rattle.tv_inputs.specs.Tapes.{if_zero_of}
use Rattle.tv_inputs.specs.declared.records.OperandWires.{OperandWires}
use Rattle.tv_inputs.specs.declared.records.StateWires.{StateWires}
use Rattle.tv_word.specs.Word.{flag_of}

-- 0 where the counter is that of the last instruction
abbrev pub from_last : ℕ → ℕ → Combination
from_last w pc = (P - (2 ^ w - w / 4), 0) ∷ (1, pc) ∷ []

-- 1 unless the step answers
abbrev pub goes_in : ℕ → Combination
goes_in op = (1, 0) ∷ (P - 1, op + place_of ANSWER) ∷ []

-- the place after an instruction of w / 4 bytes, which is 0 after the last one, where `wraps` is 1; where the step
-- answers the counter stays
abbrev pub after_in : ℕ → ℕ → ℕ → ℕ → Combination
after_in w pc answers wraps = (w / 4, 0) ∷ (1, pc) ∷ (P - w / 4, answers) ∷ (P - 2 ^ w, wraps) ∷ []

-- the place to which a jump goes, the operand without the bits that select a byte of an instruction, less that place
abbrev pub jump_in : ℕ → ℕ → ℕ → OperandWires → ℕ → Combination
jump_in w pc answers a wraps =
    (P - w / 4, 0) ∷ (P - 1, pc) ∷ (w / 4, answers) ∷ (upper_of (w / 4) a (w / 16 + 1) ++ (2 ^ w, wraps) ∷ [])

-- whether the counter wraps; whether a jump by the flag is taken, less whether it is one that is taken where the flag is
-- clear; the counter
unfoldable pub pc_of : ℕ → StateWires → ℕ → OperandWires → Circuit ℕ
pc_of w state op a = do
  wraps ← if_zero_of (goes_in op) (from_last w state.pc)
  by_flag ← times_of (wire state.flag) ((1, op + place_of CJMP) ∷ (P - 1, op + place_of CNJMP) ∷ [])
  accumulated_of (after_in w state.pc (op + place_of ANSWER) wraps)
      ((1, op + place_of JMP) ∷ (1, op + place_of CNJMP) ∷ (1, by_flag) ∷ []) (jump_in w state.pc (op + place_of ANSWER) a wraps)

-- the values of the wires that are made: whether the counter wraps, and the hint of that; the flag where a jump is
-- taken by it, or P less it; the counter
abbrev pub pc_values : ℕ → View → Instr → List ℕ
pc_values w v i =
    let from : ℕ = (v.pc + (P - (2 ^ w - w / 4))) % P in
    (if from == 0 then flag_of (not (i.op == ANSWER)) else 0) ∷ inverse_of from * flag_of (not (i.op == ANSWER)) % P
    ∷ v.flag * ((flag_of (i.op == CJMP) + (P - flag_of (i.op == CNJMP))) % P) % P
    ∷ chosen (pcs w v.pc (operand_word v i) v.flag) i.op ∷ []

-- z has what the counter is made from
pub record HasPc (w : ℕ) (z : List ℕ) (wires : StepWires) (v : View) (i : Instr) : Type 0 where
  pub assigns : Assigns z
  pub small : v.pc < 2 ^ w
  pub aligned : v.pc % (w / 4) ≡ 0
  pub bit : IsBit v.flag
  pub pc : slice_index z wires.state.pc ≡ v.pc
  pub flag : slice_index z wires.state.flag ≡ v.flag
  pub opcode : IsOpcode z wires.op i.op
  pub operand : IsOperand w z wires.operand (operand_word v i)

-- an assignment that satisfies the constraints has the counter after the step at the returned wire
abbrev pub PcIsSound : Type 0
PcIsSound = (w : ℕ) → IsWidth w → (z : List ℕ) (next : ℕ) (state : StateWires) (op : ℕ) (a : OperandWires) (v : View) (i : Instr)
    → HasPc w z (record { state = state; op = op; operand = a }) v i → Meets z (pc_of w state op a next).list
    → slice_index z (pc_of w state op a next).answer ≡ chosen (pcs w v.pc (operand_word v i) v.flag) i.op

-- an assignment that has these values at the wires that are made meets the constraints
abbrev pub PcIsComplete : Type 0
PcIsComplete = (w : ℕ) → IsWidth w → (z : List ℕ) (next : ℕ) (state : StateWires) (op : ℕ) (a : OperandWires) (v : View) (i : Instr)
    → HasPc w z (record { state = state; op = op; operand = a }) v i → HasFrom z next (pc_values w v i) → Meets z (pc_of w state op a next).list

-- which wire is returned, and that the values are one number of the field for each wire that is made
pub record PcSizes : Type 0 where
  pub answer : (w : ℕ) (state : StateWires) (op : ℕ) (a : OperandWires) (next : ℕ) → (pc_of w state op a next).answer ≡ next + 3
  pub end : (w : ℕ) (state : StateWires) (op : ℕ) (a : OperandWires) (next : ℕ) → (pc_of w state op a next).next ≡ next + 4
  pub fills : (w : ℕ) (state : StateWires) (op : ℕ) (a : OperandWires) (v : View) (i : Instr) → Fills (pc_of w state op a) (pc_values w v i)
  pub in_field : (w : ℕ) → IsWidth w → (v : View) (i : Instr) → v.pc < 2 ^ w → operand_word v i < 2 ^ w → InField (pc_values w v i)

-- four constraints; the terms are 29 for words of 32 bits, and 28 for words of 16
pub record PcCosts : Type 0 where
  pub constraints : (w : ℕ) (state : StateWires) (op : ℕ) (a : OperandWires) (next : ℕ) → length (pc_of w state op a next).list ≡ 4
  pub terms : (w : ℕ) → IsWidth w → (state : StateWires) (op : ℕ) (a : OperandWires) (next : ℕ) → terms_in (pc_of w state op a next).list ≡ w / 16 + 27
