-- That a step in numbers is the machine's step.
use Rattle.std.specs.Prelude.{◌≡◌, ℕ, ◌+◌, ◌^◌, ◌<◌, Bool, true, false, List, [], ◌∷◌, length}
use Rattle.tv_isa.specs.Instruction.{decode}
use Rattle.tv_isa.specs.Opcodes.{among, unused_ops}
use Rattle.tv_mem.specs.Words.{AreBytes}
use Rattle.tv_step.specs.Cells.{cells_of, IsLine}
use Rattle.tv_step.specs.Machine.{next}
use Rattle.tv_step.specs.Reads.{reads_aux}
use Rattle.tv_step.specs.State.{State, Next}
use Rattle.tv_step.specs.Trace.{step_lines}
use Rattle.tv_word.specs.Widths.{IsWidth}
use Rattle.tv_numbers.specs.Numbers.{asks, Transition, lines_in, StepWords, step_words, transition_of}
use Rattle.tv_numbers.specs.Views.{View, ViewInRange, Matches}

-- the range of a step in numbers: the view is in range, the instruction's words and the data word are words, the
-- opcode is one that is used, and an auxiliary word is taken only where one is asked for
pub record AtNumbers (w n : ℕ) (v : View) (by : StepWords) : Type 0 where
  pub short : n < 2 ^ 29
  pub range : ViewInRange w n v
  pub head_word : by.head < 2 ^ w
  pub tail_word : by.tail < 2 ^ w
  pub data_word : by.word < 2 ^ w
  pub used : among unused_ops (decode w by.head by.tail).op ≡ false
  pub asked : by.takes ≡ true → asks v (decode w by.head by.tail) ≡ true

-- ---- a machine's state that the numbers are of
-- the lines' cells hold their olds
pub record HoldsOlds (w : ℕ) (x : List ℕ) (b : Transition) (st : State) : Type 0 where
  pub first : b.first.old ≡ cells_of w x st b.first.cell
  pub second : b.second.old ≡ cells_of w x st b.second.cell
  pub data_line : b.data_line.old ≡ cells_of w x st b.data_line.cell

-- the auxiliary tape fits what the step takes of it, and `rest` is then left: it begins with the word, or, where none
-- is taken and the step reads it, it is at its end
pub record AuxFits (w : ℕ) (st : State) (takes : Bool) (word : ℕ) (rest : List ℕ) : Type 0 where
  pub taken : takes ≡ true → st.aux ≡ word ∷ rest
  pub left : takes ≡ false → st.aux ≡ rest
  pub ends : takes ≡ false → reads_aux w st ≡ true → st.aux ≡ []

-- the machine goes on, to a state that the view after the step is of
pub record Leads (w : ℕ) (x : List ℕ) (b : Transition) (st : State) (rest : List ℕ) : Type 0 where
  pub state : State
  pub is : next w st ≡ Next.Gone state
  pub matches : Matches x b.after state
  pub aux : state.aux ≡ rest

-- the machine answers the value, and the numbers stay
pub record Halts (w : ℕ) (b : Transition) (st : State) : Type 0 where
  pub is : next w st ≡ Next.Answered b.value
  pub same : b.after ≡ b.now
  pub takes : b.takes ≡ false

-- ---- what a step in numbers does
-- Of the numbers alone: the lines are in range, their times follow, the fetched words stay; the ended bit never
-- falls, and where a word is taken it is clear before and after; the word and the answer are words.
-- And of each state that the view before is of and whose cells hold the lines' olds: the lines are those of the
-- machine's step, so that a store's new is its cell's word after it; a word is taken only where the step reads the
-- auxiliary tape, and a read of it that takes nothing sets the ended bit, which else stays; the machine goes on to the
-- view after, or answers.
pub record DoesStep (w : ℕ) (x : List ℕ) (time : ℕ) (b : Transition) : Type 0 where
  pub lines : IsLine w b.first × IsLine w b.second × IsLine w b.data_line
  pub times : (b.first.time ≡ time) × (b.second.time ≡ time + 1) × (b.data_line.time ≡ time + 2)
  pub fetches : (b.first.new ≡ b.first.old) × (b.second.new ≡ b.second.old)
  pub stays : b.now.ended ≡ 1 → b.after.ended ≡ 1
  pub takes_early : b.takes ≡ true → b.now.ended ≡ 0
  pub takes_open : b.takes ≡ true → b.after.ended ≡ 0
  pub word : b.takes ≡ true → b.word < 2 ^ w
  pub value : b.answers ≡ true → b.value < 2 ^ w
  pub traced : (st : State) → AreBytes st.memory → Matches x b.now st → HoldsOlds w x b st → lines_in b ≡ step_lines w (length x) st time
  pub reads : (st : State) → AreBytes st.memory → Matches x b.now st → HoldsOlds w x b st → b.takes ≡ true → reads_aux w st ≡ true
  pub sets : (st : State) → AreBytes st.memory → Matches x b.now st → HoldsOlds w x b st → reads_aux w st ≡ true → b.takes ≡ false → b.after.ended ≡ 1
  pub keeps : (st : State) → AreBytes st.memory → Matches x b.now st → HoldsOlds w x b st → (reads_aux w st ≡ true → b.takes ≡ true)
      → b.after.ended ≡ b.now.ended
  pub goes : (st : State) (rest : List ℕ) → AreBytes st.memory → Matches x b.now st → HoldsOlds w x b st → AuxFits w st b.takes b.word rest → b.answers ≡ false
      → Leads w x b st rest
  pub stands : (st : State) → AreBytes st.memory → Matches x b.now st → HoldsOlds w x b st → b.answers ≡ true → Halts w b st

-- the step in numbers is the machine's
abbrev pub NumbersDo : Type 0
NumbersDo = (w : ℕ) → IsWidth w → (x : List ℕ) (time : ℕ) (v : View) (head tail o : ℕ) (takes : Bool)
    → AtNumbers w (length x) v (step_words head tail o takes) → DoesStep w x time (transition_of w (length x) time v (step_words head tail o takes))

-- and keeps a view in range
abbrev pub NumbersStayInRange : Type 0
NumbersStayInRange = (w : ℕ) → IsWidth w → (n time : ℕ) (v : View) (head tail o : ℕ) (takes : Bool)
    → AtNumbers w n v (step_words head tail o takes) → ViewInRange w n (transition_of w n time v (step_words head tail o takes)).after
