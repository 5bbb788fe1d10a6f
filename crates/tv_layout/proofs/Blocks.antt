-- What a system needs of a step's circuit. A system's laws stand on these records alone; that the circuit of tv_block has
-- them is proved in Systems, and of its sizes here.
use Rattle.std.specs.Prelude.{◌≡◌, ℕ, ◌+◌, ◌/◌, ◌^◌, ◌<◌, Bool, List, length, Option, Some, is_some}
use Rattle.tv_block.specs.Block.{transition_in, IsMachineStep, block_of}
use Rattle.tv_block.specs.Complete.{olds_of, block_made}
use Rattle.tv_inputs.specs.States.{state_in}
use Rattle.tv_block.specs.declared.records.Block.{Block}
use Rattle.tv_inputs.specs.declared.records.StateWires.{StateWires}
use Rattle.tv_core.proofs.Common.{Assigns, Meets, HasFrom, InField, IsWidth}
use Rattle.tv_step.specs.Rows.{word_size}
use Rattle.tv_numbers.specs.Numbers.{Transition, lines_in}
use Rattle.tv_numbers.specs.Shown.{MayTake}
use Rattle.tv_numbers.specs.Views.{ViewInRange, Matches}
use Rattle.tv_step.specs.Range.{StateInRange}
use Rattle.tv_step.specs.Reads.{word_taken}
use Rattle.tv_step.specs.Runs.{IsDefined}
use Rattle.tv_step.specs.State.{State}
use Rattle.tv_step.specs.Trace.{step_lines}
use Rattle.tv_layout.specs.Blocks.{BlockCircuit, BlockValues, view_of}
use Rattle.tv_block.proofs.SizeFills.{block_sizes}

-- it makes `made` wires, and three lines, whatever its inputs
pub record BlockSizes (block : BlockCircuit) (made : ℕ) : Type 0 where
  pub next : (n : ℕ) (state : StateWires) (time next : ℕ) → (block n state time next).next ≡ next + made
  pub three : (n : ℕ) (state : StateWires) (time next : ℕ) → length (block n state time next).answer.lines ≡ 3

-- that of tv_block does
pub step_sized : (w : ℕ) → IsWidth w → BlockSizes (block_of w) (block_made w)
step_sized w width = record {
  next = λ n state time next. block_sizes.end w width n state time next;
  three = λ n state time next. block_sizes.three w n state time next;
}

-- the cells of a step's first two lines: it fetches its instruction's two words from neighbouring cells
pub record HasCells (w : ℕ) (b : Transition) : Type 0 where
  pub first : b.first.cell ≡ b.now.pc / word_size w
  pub second : b.second.cell ≡ b.first.cell + 1

pub record IsSoundStep (w : ℕ) (z x : List ℕ) (time : ℕ) (state : StateWires) (made : Block) : Type 0 where
  pub machine : IsMachineStep w z x time state made
  pub cells : HasCells w (transition_in z state made)

-- an assignment that satisfies its constraints, the state before being in range, has a step of the machine there
abbrev pub BlockIsSound : ℕ → BlockCircuit → Type 0
BlockIsSound w block = (z x : List ℕ) (state : StateWires) (time next : ℕ) → length x < 2 ^ 29 → time + 2 < 2 ^ 32 → Assigns z
    → ViewInRange w (length x) (state_in z state) → Meets z (block (length x) state time next).list
    → IsSoundStep w z x time state (block (length x) state time next).answer

-- ---- completeness
-- the state's wires hold a state of the machine that goes on or answers, and z has the values for it and for a word
-- that it may take
pub record Given (w : ℕ) (values : BlockValues) (z x : List ℕ) (state : StateWires) (time next : ℕ) (st : State) (word : Option ℕ) : Type 0 where
  pub short : length x < 2 ^ 29
  pub early : time + 2 < 2 ^ 32
  pub assigns : Assigns z
  pub range : ViewInRange w (length x) (state_in z state)
  pub machine : StateInRange w st
  pub matches : Matches x (state_in z state) st
  pub defined : IsDefined w st
  pub may : MayTake w (state_in z state) st word
  pub has : HasFrom z next (values (length x) (state_in z state) (olds_of w (length x) st time) word)

-- the lines are those of the machine's step, and the word is the one that was passed
pub record ShowsStep (w n time : ℕ) (st : State) (word : Option ℕ) (b : Transition) : Type 0 where
  pub lines : lines_in b ≡ step_lines w n st time
  pub takes : b.takes ≡ is_some word
  pub same : (v : ℕ) → word ≡ Some v → b.word ≡ v

-- The values are as many as wires and each below P for each state of the machine in range; and an assignment that is
-- given them satisfies the block's constraints, and shows the step.
pub record BlockIsComplete (w : ℕ) (block : BlockCircuit) (made : ℕ) (values : BlockValues) : Type 0 where
  pub many : (n time : ℕ) (st : State) (ended : Bool) → n < 2 ^ 29 → StateInRange w st
      → length (values n (view_of n st ended) (olds_of w n st time) (word_taken w st)) ≡ made
  pub below : (n time : ℕ) (st : State) (ended : Bool) → n < 2 ^ 29 → StateInRange w st
      → InField (values n (view_of n st ended) (olds_of w n st time) (word_taken w st))
  pub met : (z x : List ℕ) (state : StateWires) (time next : ℕ) (st : State) (word : Option ℕ) → Given w values z x state time next st word
      → Meets z (block (length x) state time next).list
  pub shows : (z x : List ℕ) (state : StateWires) (time next : ℕ) (st : State) (word : Option ℕ) → Given w values z x state time next st word
      → ShowsStep w (length x) time st word (transition_in z state (block (length x) state time next).answer)
