-- The registers after a step.
use Rattle.std.specs.Prelude.{◌≡◌, ℕ, ◌+◌, ◌^◌, ◌<◌, Bool, true, List, [], ◌∷◌, length, slice_index}
use Rattle.std.specs.List.{range_with_len}
use Rattle.tv_bits.specs.Bit.{IsBit}
use Rattle.tv_core.specs.Circuits.{Circuit, ◌>>=◌}
use Rattle.tv_core.specs.Combinations.{wire}
use Rattle.tv_core.specs.Laws.{Assigns, Meets, HasFrom, Fills, InField}
use Rattle.tv_core.specs.Meanings.{terms_in}
use Rattle.tv_isa.specs.Opcodes.{among, writer_ops}
use Rattle.tv_isa.specs.declared.instr.Instr.{Instr}
use Rattle.tv_isa.specs.declared.opcode.TheConstants.{CMOV}
use Rattle.tv_numbers.specs.Numbers.{operand_word, other_word, writes, stepped, result_in}
use Rattle.tv_numbers.specs.Views.{View}
use Rattle.tv_bits.specs.Wires.{words_at}
use Rattle.tv_regs.specs.Update.{update_of}
use Rattle.tv_regs.specs.declared.triple.Triple.{Triple}
use Rattle.tv_inputs.specs.Accumulation.{accumulated_of}
use Rattle.tv_inputs.specs.Inputs.{StepInput, input_of}
use Rattle.tv_inputs.specs.OpcodeSums.{opcode_sum, IsOpcode}
use Rattle.tv_inputs.specs.declared.records.StateWires.{StateWires}
use Rattle.tv_step.specs.Range.{AreWords}
use Rattle.tv_word.specs.Widths.{IsWidth}
use Rattle.tv_word.specs.Word.{flag_of}

-- whether the destination is written, and the registers after it
unfoldable pub written_of : ℕ → StateWires → Triple → ℕ → Circuit (List ℕ)
written_of op state regs result = do
  on ← accumulated_of (opcode_sum op writer_ops) (opcode_sum op (CMOV ∷ [])) (wire state.flag)
  update_of on regs.dest regs.dest_word result state.regs

-- the values of the wires that are made: whether the destination is written, and the registers
abbrev pub written_values : ℕ → ℕ → View → Instr → ℕ → Bool → List ℕ
written_values w n v i o takes = flag_of (writes w n v i o takes) ∷ (stepped w n v i o takes).regs

-- the wires of the registers that are read are below a number
pub record TripleUnder (wires : ℕ) (regs : Triple) : Type 0 where
  pub dest : regs.dest < wires
  pub other : regs.other_word < wires
  pub named : regs.named_word < wires
  pub dest_word : regs.dest_word < wires

-- the wires that the registers are written by: those of the state, of the opcode's row, of the registers that the step
-- reads, and of its result
pub record WrittenWires : Type 0 where
  pub state : StateWires
  pub op : ℕ
  pub regs : Triple
  pub result : ℕ

-- z has what is written, and where: the destination's number and word, and at the opcodes that may write it the result
pub record HasWritten (w : ℕ) (z : List ℕ) (wires : WrittenWires) (step : StepInput) (takes : Bool) : Type 0 where
  pub assigns : Assigns z
  pub opcode : IsOpcode z wires.op step.instr.op
  pub size : length wires.state.regs ≡ 16
  pub words : words_at z wires.state.regs ≡ step.view.regs
  pub bit : IsBit step.view.flag
  pub flag : slice_index z wires.state.flag ≡ step.view.flag
  pub within : step.instr.dest < 16
  pub dest : slice_index z wires.regs.dest ≡ step.instr.dest
  pub dest_word : slice_index z wires.regs.dest_word ≡ slice_index step.view.regs step.instr.dest
  pub word : among (CMOV ∷ writer_ops) step.instr.op ≡ true
      → slice_index z wires.result ≡ result_in w step.words step.view step.instr step.low takes

-- in an assignment that meets the constraints the returned wires hold the registers after the step
abbrev pub WrittenIsSound : Type 0
WrittenIsSound = (w : ℕ) (z : List ℕ) (next n : ℕ) (state : StateWires) (op : ℕ) (regs : Triple) (result : ℕ) (v : View) (i : Instr) (o : ℕ) (takes : Bool)
    → HasWritten w z (record { state = state; op = op; regs = regs; result = result }) (input_of n v i o) takes
    → Meets z (written_of op state regs result next).list
    → words_at z (written_of op state regs result next).answer ≡ (stepped w n v i o takes).regs

-- an assignment that has these values at the wires that are made meets the constraints
abbrev pub WrittenIsComplete : Type 0
WrittenIsComplete = (w : ℕ) (z : List ℕ) (next n : ℕ) (state : StateWires) (op : ℕ) (regs : Triple) (result : ℕ) (v : View) (i : Instr) (o : ℕ) (takes : Bool)
    → HasWritten w z (record { state = state; op = op; regs = regs; result = result }) (input_of n v i o) takes
    → HasFrom z next (written_values w n v i o takes) → Meets z (written_of op state regs result next).list

-- which wires are returned, and that the values are one number of the field for each wire that is made
pub record WrittenSizes : Type 0 where
  pub answer : (op : ℕ) (state : StateWires) (regs : Triple) (result next : ℕ) → (written_of op state regs result next).answer ≡ range_with_len (next + 1) 16
  pub end : (op : ℕ) (state : StateWires) (regs : Triple) (result next : ℕ) → (written_of op state regs result next).next ≡ next + 17
  pub fills : (op : ℕ) (state : StateWires) (regs : Triple) (result w n : ℕ) (v : View) (i : Instr) (o : ℕ) (takes : Bool) → length v.regs ≡ 16
      → Fills (written_of op state regs result) (written_values w n v i o takes)
  pub in_field : (w : ℕ) → IsWidth w → (n : ℕ) (v : View) (i : Instr) (o : ℕ) (takes : Bool) → AreWords w v.regs → operand_word v i < 2 ^ w
      → other_word v i < 2 ^ w → o < 2 ^ w → InField (written_values w n v i o takes)

-- eighteen constraints of 118 terms
pub record WrittenCosts : Type 0 where
  pub constraints : (op : ℕ) (state : StateWires) (regs : Triple) (result next : ℕ) → length (written_of op state regs result next).list ≡ 18
  pub terms : (op : ℕ) (state : StateWires) (regs : Triple) (result next : ℕ) → terms_in (written_of op state regs result next).list ≡ 118
