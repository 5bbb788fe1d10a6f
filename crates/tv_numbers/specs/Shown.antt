-- What a step in numbers is made from, and that so made of a machine's step it shows that.
use Rattle.std.specs.Prelude.{◌≡◌, ℕ, ◌+◌, ◌/◌, ◌^◌, ◌<◌, ◌≤◌, true, is_some, List, length, Option, Some, None}
use Rattle.tv_core.specs.declared.limits.TheConstants.{NULL_CELL}
use Rattle.tv_mem.specs.Bytes.{word_in}
use Rattle.tv_step.specs.Range.{StateInRange}
use Rattle.tv_step.specs.Reads.{reads_aux}
use Rattle.tv_step.specs.Rows.{word_size}
use Rattle.tv_step.specs.Runs.{IsDefined}
use Rattle.tv_step.specs.State.{State}
use Rattle.tv_step.specs.Trace.{step_lines, data_line as traced_line}
use Rattle.tv_word.specs.Widths.{IsWidth}
use Rattle.tv_numbers.specs.Laws.{AtNumbers}
use Rattle.tv_numbers.specs.Numbers.{Transition, lines_in, step_words, transition_of}
use Rattle.tv_numbers.specs.Views.{View, seen, ViewInRange, Matches}

-- the data word: the word that is taken of the auxiliary tape, or else the old of the data line
abbrev pub data_word_of : ℕ → Option ℕ → ℕ
data_word_of old None = old
data_word_of old (Some word) = word

-- a word is passed only where the step reads the auxiliary tape, whose end was not found before
abbrev pub MayTake : ℕ → View → State → Option ℕ → Type 0
MayTake w v st None = Unit {0}
MayTake w v st (Some word) = (reads_aux w st ≡ true) × (v.ended ≡ 0) × (word < 2 ^ w)

-- The data line has the old word that was passed, where that is 0 for a line of the null cell.
abbrev pub OldsAreShown : Type 0
OldsAreShown = (w n time : ℕ) (v : View) (head tail old : ℕ) (word : Option ℕ)
    → AtNumbers w n v (step_words head tail (data_word_of old word) (is_some word))
    → ((transition_of w n time v (step_words head tail (data_word_of old word) (is_some word))).data_line.cell ≡ NULL_CELL → old ≡ 0)
    → (transition_of w n time v (step_words head tail (data_word_of old word) (is_some word))).data_line.old ≡ old

-- the words that a machine's step is made from: its instruction's two, and the data word
abbrev pub head_at : ℕ → State → ℕ
head_at w st = word_in w st.memory (st.pc / word_size w)

abbrev pub tail_at : ℕ → State → ℕ
tail_at w st = word_in w st.memory (st.pc / word_size w + 1)

abbrev pub data_at : ℕ → List ℕ → ℕ → State → Option ℕ → ℕ
data_at w x time st word = data_word_of (traced_line w (length x) st (time + 2)).old word

-- the step in numbers from a machine's state, of which v is the view, with the word that is passed
abbrev pub transition_at : ℕ → List ℕ → ℕ → View → State → Option ℕ → Transition
transition_at w x time v st word = transition_of w (length x) time v (step_words (head_at w st) (tail_at w st) (data_at w x time st word) (is_some word))

-- its numbers are in range, and its lines are those of the machine's step
pub record ShowsStep (w : ℕ) (x : List ℕ) (time : ℕ) (v : View) (st : State) (word : Option ℕ) : Type 0 where
  pub range : AtNumbers w (length x) v (step_words (head_at w st) (tail_at w st) (data_at w x time st word) (is_some word))
  pub lines : lines_in (transition_at w x time v st word) ≡ step_lines w (length x) st time

-- so it is of each state in range whose opcode is used
abbrev pub MachineShows : Type 0
MachineShows = (w : ℕ) → IsWidth w → (x : List ℕ) (time : ℕ) (v : View) (st : State) (word : Option ℕ)
    → length x < 2 ^ 29 → ViewInRange w (length x) v → Matches x v st → StateInRange w st → IsDefined w st → MayTake w v st word
    → ShowsStep w x time v st word

-- the view of a state in range is in range
abbrev pub SeenInRange : Type 0
SeenInRange = (w n : ℕ) (st : State) (taken ended : ℕ) → StateInRange w st → taken ≤ n → ended < 2 → ViewInRange w n (seen st taken ended)
