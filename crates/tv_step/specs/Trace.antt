-- The trace of a run: what each step does to memory and tapes, as lines, and the states.
use Rattle.std.specs.Prelude.{ℕ, zero, suc, ◌+◌, ◌-◌, ◌*◌, ◌/◌, Bool, if◌then◌else◌, List, [], ◌∷◌, ◌++◌, length, Option, Some, None, slice_get, ◌==◌}
use Rattle.tv_core.specs.Lines.{Line}
use Rattle.tv_core.specs.declared.limits.TheConstants.{TAPE_CELLS, NULL_CELL}
use Rattle.tv_mem.specs.Bytes.{word_in}
use Rattle.tv_step.specs.Machine.{fetched, operand, state_after}
use Rattle.tv_step.specs.Ops.{op_of}
use Rattle.tv_step.specs.Reads.{ended_after}
use Rattle.tv_step.specs.Rows.{word_size}
use Rattle.tv_step.specs.State.{State}
use Rattle.tv_step.specs.declared.lines.TraceState.{TraceState}
use Rattle.tv_step.specs.declared.op.Op.{Op}
use Rattle.tv_step.specs.declared.op.Op.TheVariants.{StoreB, LoadB, StoreW, LoadW, Read}

-- A line says that at a time a cell holds `old`, and from then on `new`. The word number j of memory is cell j,
-- the word number i of the primary tape cell TAPE_CELLS + i, and a cell of its own, which holds 0, stands for none.
abbrev pub tape_cell : ℕ → ℕ
tape_cell i = TAPE_CELLS + i

-- the line of an access to nothing
abbrev pub null_line : ℕ → Line
null_line time = record { cell = NULL_CELL; time = time; old = 0; new = 0 }

-- a cell that only is looked at
abbrev pub looked_at : ℕ → ℕ → ℕ → Line
looked_at cell time v = record { cell = cell; time = time; old = v; new = v }

-- a word of memory, before a step and after it
abbrev pub memory_line : ℕ → State → ℕ → ℕ → Line
memory_line w st j time = record { cell = j; time = time; old = word_in w st.memory j; new = word_in w (state_after w 1 st).memory j }

-- a read of the primary tape, of n words, that finds this
abbrev pub tape_line : ℕ → State → Option ℕ → ℕ → Line
tape_line n st None time = null_line time
tape_line n st (Some v) time = looked_at (tape_cell (n - length st.primary)) time v

-- the line of an instruction with the operand a: its word of memory, where it loads or stores; the next word of
-- the primary tape, of n words, where it reads that and finds one; else none
abbrev pub touched_line : ℕ → ℕ → Op → State → ℕ → ℕ → Line
touched_line w n StoreB st a time = memory_line w st (a / word_size w) time
touched_line w n LoadB st a time = memory_line w st (a / word_size w) time
touched_line w n StoreW st a time = memory_line w st (a / word_size w) time
touched_line w n LoadW st a time = memory_line w st (a / word_size w) time
touched_line w n Read st a time = tape_line n st (if a == 0 then slice_get st.primary 0 else None) time
touched_line w n _ st a time = null_line time

-- what a step does at a time besides fetching its instruction: its data line
abbrev pub data_line : ℕ → ℕ → State → ℕ → Line
data_line w n st time = touched_line w n (op_of (fetched w st).op) st (operand st (fetched w st)) time

-- the three lines of a step: its instruction's two words, and its data line
abbrev pub step_lines : ℕ → ℕ → State → ℕ → List Line
step_lines w n st time =
    let j = st.pc / word_size w in
    looked_at j time (word_in w st.memory j)
    ∷ looked_at (j + 1) (time + 1) (word_in w st.memory (j + 1))
    ∷ data_line w n st (time + 2)
    ∷ []

-- the lines of t steps from a state on, the first at a time; an answering step comes again
abbrev pub lines_of : ℕ → ℕ → ℕ → State → ℕ → List Line
lines_of w n time st zero = []
lines_of w n time st (suc t) = lines_of w n time st t ++ step_lines w n (state_after w t st) (time + 3 * t)

-- what a trace has of a state, the tapes having had n and m words: how many of them are gone, and whether a read of the
-- auxiliary tape has found nothing before
abbrev pub traced_state : ℕ → ℕ → State → Bool → TraceState
traced_state n m st ended = record { pc = st.pc; regs = st.regs; flag = st.flag; primary = n - length st.primary; aux = m - length st.aux; ended = ended }

-- what a trace has of the state after t steps from one on
abbrev pub traced_state_after : ℕ → ℕ → ℕ → State → ℕ → TraceState
traced_state_after w n m st t = traced_state n m (state_after w t st) (ended_after w t st)

-- the states before, between and after t steps
abbrev pub states_of : ℕ → ℕ → ℕ → State → ℕ → List TraceState
states_of w n m st zero = traced_state_after w n m st zero ∷ []
states_of w n m st (suc t) = states_of w n m st t ++ traced_state_after w n m st (suc t) ∷ []
