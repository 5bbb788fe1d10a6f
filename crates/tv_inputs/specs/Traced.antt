-- A state as a trace has it, and what the values of a step are computed from.
use Rattle.std.specs.Prelude.{◌≡◌, ℕ, ◌^◌, ◌<◌}
use Rattle.tv_isa.specs.Instruction.{IsInstruction}
use Rattle.tv_numbers.specs.Numbers.{operand_word, other_word, takes_primary, found, old_in}
use Rattle.tv_numbers.specs.Views.{View}
use Rattle.tv_step.specs.declared.lines.TraceState.{TraceState}
use Rattle.tv_inputs.specs.Inputs.{StepInput, input_of}
use Rattle.tv_inputs.specs.declared.step_numbers.StepNumbers.{StepNumbers}
use Rattle.tv_word.specs.Word.{flag_of}

-- the view of a trace's state
abbrev pub traced_view : TraceState → View
traced_view state = record { pc = state.pc; regs = state.regs; flag = flag_of state.flag; taken = state.primary; ended = flag_of state.ended }

-- a step in numbers from a trace's state
abbrev pub traced_input : TraceState → StepNumbers → StepInput
traced_input state step = input_of step.n (traced_view state) step.instr step.low

-- the numbers of a step from a view, by its instruction, the row's low half, which is its data word where it has one,
-- and whether it takes that of the auxiliary tape
pub record AreNumbers (w : ℕ) (v : View) (step : StepNumbers) : Type 0 where
  pub fields : IsInstruction step.instr
  pub operand : step.operand ≡ operand_word v step.instr
  pub other : step.other ≡ other_word v step.instr
  pub primary : step.primary ≡ takes_primary v step.instr step.n
  pub finds : step.found ≡ found w step.n v step.instr step.low step.aux
  pub old : step.old ≡ old_in step.n v step.instr step.low
  pub operand_word : step.operand < 2 ^ w
  pub other_word : step.other < 2 ^ w
  pub low_word : step.low < 2 ^ w
  pub high_word : step.high < 2 ^ w
