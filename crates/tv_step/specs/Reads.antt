-- What a run takes of its tapes.
use Rattle.std.specs.Prelude.{◌≡◌, ℕ, zero, suc, ◌+◌, ◌-◌, ◌<◌, ◌≤◌, ◌==◌, Bool, true, false, not, ◌&&◌, ◌||◌, nat_lt, if◌then◌else◌, List, [], ◌∷◌, ◌++◌}
use Rattle.std.specs.Prelude.{length, take, drop, Option, Some, None, is_some, slice_get, slice_index}
use Rattle.tv_step.specs.Machine.{fetched, operand, start, end_of, state_after}
use Rattle.tv_step.specs.Ops.{op_of}
use Rattle.tv_step.specs.State.{State}
use Rattle.tv_step.specs.declared.end.End.TheVariants as ends
use Rattle.tv_step.specs.declared.op.Op.{Op}
use Rattle.tv_step.specs.declared.op.Op.TheVariants.{Read}

-- whether an instruction is a read
abbrev pub is_read : Op → Bool
is_read Read = true
is_read _ = false

-- whether a step reads the auxiliary tape
abbrev pub reads_aux : ℕ → State → Bool
reads_aux w st = is_read (op_of (fetched w st).op) && (operand st (fetched w st) == 1)

-- the word that it takes of that tape
abbrev pub word_taken : ℕ → State → Option ℕ
word_taken w st = if reads_aux w st then slice_get st.aux 0 else None

-- whether it reads that tape and finds nothing
abbrev pub finds_end : ℕ → State → Bool
finds_end w st = reads_aux w st && not (is_some (slice_get st.aux 0))

-- the ended bit of the state after t steps: one of them has read the auxiliary tape and found nothing
abbrev pub ended_after : ℕ → ℕ → State → Bool
ended_after w zero st = false
ended_after w (suc t) st = ended_after w t st || finds_end w (state_after w t st)

-- a word that was taken, as a list
abbrev pub words_in : Option ℕ → List ℕ
words_in None = []
words_in (Some word) = word ∷ []

-- the words of the auxiliary tape that t steps take, in order
abbrev pub words_taken : ℕ → ℕ → State → List ℕ
words_taken w zero st = []
words_taken w (suc t) st = words_taken w t st ++ words_in (word_taken w (state_after w t st))

-- those that a run of at most t steps takes
abbrev pub Reads : ℕ → List ℕ → List ℕ → List ℕ → ℕ → List ℕ
Reads w image primary aux t = words_taken w t (start w image primary aux)

-- what is left of a tape is its end
pub record IsRest (whole rest : List ℕ) : Type 0 where
  pub short : length rest ≤ length whole
  pub is : rest ≡ drop (length whole - length rest) whole

abbrev pub TapesAreLeft : Type 0
TapesAreLeft = (w t : ℕ) (st : State) → IsRest st.primary (state_after w t st).primary × IsRest st.aux (state_after w t st).aux

-- the words that are taken are the front of the tape, as many as are gone
abbrev pub TakenAreTheFront : Type 0
TakenAreTheFront = (w t : ℕ) (st : State) → words_taken w t st ≡ take (length st.aux - length (state_after w t st).aux) st.aux

-- the word that step t takes, by the numbers of words that are gone before and after it
abbrev pub TakenByCounts : Type 0
TakenByCounts = (w t : ℕ) (st : State) →
    let before = length st.aux - length (state_after w t st).aux in
    let after = length st.aux - length (state_after w (t + 1) st).aux in
    word_taken w (state_after w t st) ≡ (if nat_lt before after then Some (slice_index st.aux before) else None)

-- the ended bit never falls, and where it is set no word is taken
abbrev pub EndedStays : Type 0
EndedStays = (w s t : ℕ) (st : State) → s ≤ t → ended_after w s st ≡ true → ended_after w t st ≡ true

abbrev pub EndedTakesNothing : Type 0
EndedTakesNothing = (w t : ℕ) (st : State) → ended_after w t st ≡ true → word_taken w (state_after w t st) ≡ None

-- a run of at most t steps that answers takes fewer than t words
abbrev pub AnsweringTakesFew : Type 0
AnsweringTakesFew = (w t : ℕ) (st : State) (v step : ℕ) → end_of w t st ≡ ends.Answer v step → length (words_taken w t st) < t
