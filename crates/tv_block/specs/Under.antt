-- That what a step is made of are wires below a number.
use Rattle.std.specs.Prelude.{◌≡◌, ℕ, ◌+◌, ◌-◌, ◌≤◌, ◌<◌}
use Rattle.tv_core.specs.Combinations.{top}
use Rattle.tv_core.specs.declared.lines.LineLc.{LineLc}
use Rattle.tv_decode.specs.declared.records.InstructionWires.{InstructionWires}
use Rattle.tv_bits.specs.Wires.{wires_top}
use Rattle.tv_inputs.specs.States.{StateUnder, OperandUnder, ArithmeticUnder, TapesUnder, StoreUnder}
use Rattle.tv_parts.specs.Written.{TripleUnder}
use Rattle.tv_inputs.specs.declared.records.Spot.{Spot}
use Rattle.tv_inputs.specs.declared.records.StateWires.{StateWires}
use Rattle.tv_inputs.specs.declared.records.StoreWires.{StoreWires}
use Rattle.tv_inputs.specs.declared.records.TapeWires.{TapeWires}
use Rattle.tv_block.specs.declared.records.Block.{Block}
use Rattle.tv_block.specs.declared.records.Computed.{Computed}
use Rattle.tv_block.specs.declared.records.Effects.{Effects}

pub record LineUnder (wires : ℕ) (line : LineLc) : Type 0 where
  pub cell : top line.cell ≤ wires
  pub time : top line.time ≤ wires
  pub old : top line.old ≤ wires
  pub new : top line.new ≤ wires

pub record SpotUnder (wires : ℕ) (spot : Spot) : Type 0 where
  pub taken : spot.taken < wires
  pub word : spot.word < wires

-- all of a step but its lines
pub record BlockUnder (wires : ℕ) (made : Block) : Type 0 where
  pub next : StateUnder wires made.next
  pub spot : SpotUnder wires made.spot
  pub answers : made.answers < wires
  pub value : made.value < wires

-- an instruction of words of w bits
pub record InstructionUnder (w wires : ℕ) (i : InstructionWires) : Type 0 where
  pub low_size : i.low.n ≡ w - 5
  pub low : i.low.first + w ≤ wires
  pub op : i.op + 29 ≤ wires
  pub second_size : i.second.n ≡ w
  pub second : i.second.first + w ≤ wires

-- what a step computes
pub record ComputedUnder (w wires : ℕ) (c : Computed) : Type 0 where
  pub op : c.instruction.op + 29 ≤ wires
  pub regs : TripleUnder wires c.regs
  pub operand : OperandUnder w wires c.operand
  pub test : c.test < wires
  pub made : ArithmeticUnder w wires c.made

-- the state before a step, and what the step computes
pub record BeforeUnder (w wires : ℕ) (from : StateWires) (c : Computed) : Type 0 where
  pub state : StateUnder wires from
  pub computed : ComputedUnder w wires c

-- what it does to the tapes and memory, and its result
pub record DoneUnder (wires : ℕ) (t : TapeWires) (stored : StoreWires) (result : ℕ) : Type 0 where
  pub tapes : TapesUnder wires t
  pub memory : StoreUnder wires stored
  pub word : result < wires

-- what it does
pub record EffectsUnder (wires : ℕ) (e : Effects) : Type 0 where
  pub tapes : TapesUnder wires e.tapes
  pub memory : StoreUnder wires e.memory
  pub regs : wires_top e.regs ≤ wires
  pub flag : e.flag < wires
  pub pc : e.pc < wires
