-- What the parts of a step are made from: the wires of the parts before them, and numbers.
use Rattle.std.specs.Prelude.{ℕ}
use Rattle.tv_bits.specs.declared.bit_wires.Bits.{Bits}
use Rattle.tv_isa.specs.declared.instr.Instr.{Instr}
use Rattle.tv_numbers.specs.Views.{View}
use Rattle.tv_inputs.specs.declared.records.OperandWires.{OperandWires}
use Rattle.tv_inputs.specs.declared.records.StateWires.{StateWires}
use Rattle.tv_inputs.specs.declared.records.TapeWires.{TapeWires}

-- the wires of the state before a step, of its opcode's row, and of its operand
pub record StepWires : Type 0 where
  pub state : StateWires
  pub op : ℕ
  pub operand : OperandWires

-- these, and the wires of what the step does to the tapes
pub record TapedWires : Type 0 where
  pub state : StateWires
  pub op : ℕ
  pub operand : OperandWires
  pub tapes : TapeWires

-- the record of these wires
abbrev pub taped_of : StateWires → ℕ → OperandWires → TapeWires → TapedWires
taped_of state op operand tapes = record { state = state; op = op; operand = operand; tapes = tapes }

-- the wires that the flag is made from: those of the state, of the opcode's row, of the bits x of the other word, of the
-- test f, and of what the step does to the tapes
pub record FlagWires : Type 0 where
  pub state : StateWires
  pub op : ℕ
  pub x : Bits
  pub f : ℕ
  pub tapes : TapeWires

-- a step in numbers: how many words the primary tape has, the view before it, its instruction, and the low half of its
-- row, which is the data word where it has one
pub record StepInput : Type 0 where
  pub words : ℕ
  pub view : View
  pub instr : Instr
  pub low : ℕ

-- a step in these numbers
abbrev pub input_of : ℕ → View → Instr → ℕ → StepInput
input_of n v i low = record { words = n; view = v; instr = i; low = low }

-- its result, and the number whose test for 0 is its flag
pub record ResultNumbers : Type 0 where
  pub word : ℕ
  pub tested : ℕ

-- an operation in numbers: its opcode k, the other word x, and the operand a
pub record OperationNumbers : Type 0 where
  pub k : ℕ
  pub x : ℕ
  pub a : ℕ

-- the operation of these numbers
abbrev pub operation_of : ℕ → ℕ → ℕ → OperationNumbers
operation_of k x a = record { k = k; x = x; a = a }
