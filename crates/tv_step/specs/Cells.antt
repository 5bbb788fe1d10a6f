-- Memory and the primary tape as one function from cell to word, and what the lines of a step are of it.
use Rattle.std.specs.Prelude.{◌≡◌, ℕ, ◌+◌, ◌-◌, ◌*◌, ◌^◌, ◌<◌, ◌≤◌, Bool, true, false, nat_lt, if◌then◌else◌, List, [], ◌∷◌, ◌++◌, length, All, slice_index}
use Rattle.std.specs.Prelude.{slice_index_or}
use Rattle.tv_core.specs.Lines.{Line, written, memory_after, Honest}
use Rattle.tv_core.specs.declared.limits.TheConstants.{TAPE_CELLS}
use Rattle.tv_mem.specs.Bytes.{word_in}
use Rattle.tv_word.specs.Widths.{IsWidth}
use Rattle.tv_step.specs.Machine.{fetched, start, state_after}
use Rattle.tv_step.specs.Ops.{op_of}
use Rattle.tv_step.specs.Range.{AreWords, StateInRange}
use Rattle.tv_step.specs.Reads.{IsRest}
use Rattle.tv_step.specs.State.{State}
use Rattle.tv_step.specs.Trace.{data_line, step_lines, lines_of, states_of, traced_state_after}
use Rattle.tv_step.specs.declared.lines.TraceState.{TraceState}
use Rattle.tv_step.specs.declared.op.Op.{Op}
use Rattle.tv_step.specs.declared.op.Op.TheVariants.{StoreB, StoreW}

-- ---- a trace by place
abbrev pub LinesAreThreeAStep : Type 0
LinesAreThreeAStep = (w n time : ℕ) (st : State) (t : ℕ) → length (lines_of w n time st t) ≡ 3 * t

-- t steps have t + 1 states
abbrev pub StatesAreOneMore : Type 0
StatesAreOneMore = (w n m : ℕ) (st : State) (t : ℕ) → length (states_of w n m st t) ≡ t + 1

-- line 3 i + j is line j of step i
abbrev pub LinesByPlace : Type 0
LinesByPlace = (w n time : ℕ) (st : State) (t i j : ℕ) (past : Line) → i < t → j < 3
    → slice_index_or (lines_of w n time st t) (3 * i + j) past ≡ slice_index_or (step_lines w n (state_after w i st) (time + 3 * i)) j past

-- state i of the trace describes the state after i steps
abbrev pub StatesByPlace : Type 0
StatesByPlace = (w n m : ℕ) (st : State) (t i : ℕ) (past : TraceState) → i ≤ t
    → slice_index_or (states_of w n m st t) i past ≡ traced_state_after w n m st i

-- each line's time is its place, from the first one's on
abbrev pub TimesFollow : Type 0
TimesFollow = (w n time : ℕ) (st : State) (t i j : ℕ) (past : Line) → i < t → j < 3
    → (slice_index_or (lines_of w n time st t) (3 * i + j) past).time ≡ time + (3 * i + j)

-- ---- the words in cells
-- the word in a cell, x being the whole primary tape: a word of memory, or else of that tape, or 0
abbrev pub cell_word : ℕ → List ℕ → (ℕ → ℕ) → ℕ → ℕ
cell_word w x m c = if nat_lt c TAPE_CELLS then word_in w m c else slice_index x (c - TAPE_CELLS)

-- those of a state
abbrev pub cells_of : ℕ → List ℕ → State → ℕ → ℕ
cells_of w x st c = cell_word w x st.memory c

-- a state of a run on this primary tape, which is short enough that its cells lie below the null cell
pub record IsOn (w : ℕ) (x : List ℕ) (st : State) : Type 0 where
  pub short : length x < 2 ^ 29
  pub range : StateInRange w st
  pub rest : IsRest x st.primary

-- a line whose words are words, and whose cell is a word of memory or of the primary tape, or none
pub record IsLine (w : ℕ) (line : Line) : Type 0 where
  pub cell : line.cell < 2 ^ 31
  pub old : line.old < 2 ^ w
  pub new : line.new < 2 ^ w

-- a step's lines are such lines
abbrev pub LinesInRange : Type 0
LinesInRange = (w : ℕ) → IsWidth w → (n : ℕ) (st : State) (time : ℕ) → n < 2 ^ 29 → StateInRange w st → All (IsLine w) (step_lines w n st time)

-- the old of each is what its cell holds before the step
abbrev pub OldsAreInCells : Type 0
OldsAreInCells = (w : ℕ) → IsWidth w → (x : List ℕ) (st : State) (time : ℕ) → IsOn w x st
    → All (λ line. line.old ≡ cells_of w x st line.cell) (step_lines w (length x) st time)

-- and what the step changes of all cells is its data line
abbrev pub StepWritesItsLine : Type 0
StepWritesItsLine = (w : ℕ) → IsWidth w → (x : List ℕ) (st : State) (time : ℕ) → IsOn w x st
    → (c : ℕ) → cells_of w x (state_after w 1 st) c ≡ written (cells_of w x st) (data_line w (length x) st time) c

-- only a store's new word may differ from the old
abbrev pub is_store : Op → Bool
is_store StoreB = true
is_store StoreW = true
is_store _ = false

abbrev pub OnlyStoresWrite : Type 0
OnlyStoresWrite = (w n : ℕ) (st : State) (time : ℕ) → is_store (op_of (fetched w st).op) ≡ false → (data_line w n st time).new ≡ (data_line w n st time).old

-- ---- boot lines
-- the lines that write words, the first into this cell at this time
abbrev pub boot_from : ℕ → ℕ → List ℕ → List Line
boot_from cell time [] = []
boot_from cell time (word ∷ words) = record { cell = cell; time = time; old = 0; new = word } ∷ boot_from (cell + 1) (time + 1) words

-- those of an image and of a primary tape, which come before the lines of all steps
abbrev pub boot_lines : List ℕ → List ℕ → List Line
boot_lines image x = boot_from 0 0 image ++ boot_from TAPE_CELLS (length image) x

-- boot lines and those of t steps of a run on an image and two tapes
abbrev pub run_lines : ℕ → List ℕ → List ℕ → List ℕ → ℕ → List Line
run_lines w image x aux t = boot_lines image x ++ lines_of w (length x) (length image + length x) (start w image x aux) t

-- an image of words that memory's cells have room for, and tapes of words
pub record IsInput (w : ℕ) (image x aux : List ℕ) : Type 0 where
  pub width : IsWidth w
  pub image_words : AreWords w image
  pub fits : length image ≤ TAPE_CELLS
  pub primary_words : AreWords w x
  pub short : length x < 2 ^ 29
  pub aux_words : AreWords w aux

-- boot lines leave what the cells hold at the start, and all lines what they hold after the steps
abbrev pub BootLeavesTheStart : Type 0
BootLeavesTheStart = (w : ℕ) (image x aux : List ℕ) → IsInput w image x aux → (c : ℕ)
    → memory_after (boot_lines image x) c ≡ cells_of w x (start w image x aux) c

abbrev pub LinesLeaveTheState : Type 0
LinesLeaveTheState = (w : ℕ) (image x aux : List ℕ) (t : ℕ) → IsInput w image x aux
    → (c : ℕ) → memory_after (run_lines w image x aux t) c ≡ cells_of w x (state_after w t (start w image x aux)) c

-- and they are honest
abbrev pub LinesAreHonest : Type 0
LinesAreHonest = (w : ℕ) (image x aux : List ℕ) (t : ℕ) → IsInput w image x aux → Honest (run_lines w image x aux t)
