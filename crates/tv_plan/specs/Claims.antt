-- What a command promises its user, in the forms that all commands share: what its files hold, and the one
-- exit that goes with it.
use Rattle.std.specs.Prelude.{◌≡◌, ℕ, ◌⊎◌, List, [], Option, Some, Result, Ok, Err}
use Rattle.tv_files.specs.Outside.{Names, Outside}
use Rattle.tv_word.specs.Counts.{Rose}
use Rattle.tv_plan.specs.declared.refusal.Bad.{Bad}
use Rattle.tv_plan.specs.declared.refusal.Ending.TheVariants.{Stopped, Finished}
use Rattle.tv_plan.specs.declared.refusal.Stop.TheVariants.{Contents}
use Rattle.tv_plan.specs.declared.status.Status.{Status}
use Rattle.tv_plan.specs.declared.status.Status.TheVariants.{FileFault, Memory}
use Rattle.tv_plan.specs.Answers.{words_of}
use Rattle.tv_plan.specs.Codes.{says}
use Rattle.tv_plan.specs.Ends.{AreRead, Said, files_with}
use Rattle.tv_plan.specs.Finds.{IsOneOf}
use Rattle.tv_plan.specs.Plan.{Named, Outcome, Write, files_of}
use Rattle.tv_plan.specs.Status.{bad_status, finish_status}

-- a call: what is outside before it and after it, and its status
pub record Call : Type 0 where
  pub before : Outside
  pub after : Outside
  pub status : Status

-- a file couldn't be read, or one of those that are written not be written, or the line not be printed; or memory ran out
abbrev pub IsStopped : List Named → Call → Type 0
IsStopped places call =
    ((word : ℕ) × (call.status ≡ FileFault word) × (Rose call.before.read_faults call.after.read_faults
    ⊎ (IsOneOf word (words_of places) × Rose call.before.write_faults call.after.write_faults)
    ⊎ Rose call.before.say_faults call.after.say_faults))
    ⊎ (call.status ≡ Memory)

-- the file is there, and what is read of it is this
pub record Holds {A : Type 0} (read : List ℕ → Result A Bad) (file : Option (List ℕ)) (held : Result A Bad) : Type 0 where
  pub bytes : List ℕ
  pub there : file ≡ Some bytes
  pub reads : read bytes ≡ held

-- the first is found, and with it the second is this; or the first is refused for this
abbrev pub Then : {A B : Type 0} → (Result A Bad → Type 0) → (A → Result B Bad → Type 0) → Result B Bad → Type 0
Then {A} {B} First Second held = ((x : A) × First (Ok x) × Second x held) ⊎ ((bad : Bad) × First (Err bad) × (held ≡ Err bad))

-- the answer where files hold this
abbrev pub status_by : {A : Type 0} → (A → Outcome) → Result A Bad → Status
status_by ends (Ok x) = finish_status (ends x).finish
status_by ends (Err bad) = bad_status bad

-- the line where files hold this, unless nothing is said
abbrev pub line_by : {A : Type 0} → (A → Outcome) → Result A Bad → Option (List ℕ)
line_by ends (Ok x) = says (Finished (ends x).finish)
line_by ends (Err bad) = says (Stopped (Contents bad))

-- the files that are written where files hold this: none where it is refused
abbrev pub written_by : {A : Type 0} → List Named → (A → Outcome) → Result A Bad → List Write
written_by places ends (Ok x) = files_of places (ends x).files
written_by places ends (Err bad) = []

-- The files held this, of which this is so: the answer and the line that was said go by it, each file that is
-- written holds what is due and is read as that, and no other file changed.
pub record Answered {A : Type 0} (places : List Named) (ends : A → Outcome) (Held : Result A Bad → Type 0) (files : Names) (call : Call) : Type 0 where
  pub held : Result A Bad
  pub is : Held held
  pub status : call.status ≡ status_by ends held
  pub contents : call.after.contents ≡ files_with (written_by places ends held) (Some files)
  pub read : AreRead (written_by places ends held)
  pub said : Said call.before call.after (line_by ends held)

-- How a call ends over files whose contents are known: they held something, or were refused for something, of which
-- this is so, and the answer, the line and what the files hold after the call go by it; or it was stopped. A name has
-- one contents, and what is read of it is a function of these: so each answer comes exactly where it is due.
abbrev pub AnswersOrStops : {A : Type 0} → List Named → (A → Outcome) → (Result A Bad → Type 0) → Names → Call → Type 0
AnswersOrStops places ends Held files call = Answered places ends Held files call ⊎ IsStopped places call
