-- How a call may end, given the answer that its words and files call for.
use Rattle.std.specs.Prelude.{◌≡◌, ℕ, ◌≤◌, ◌⊎◌, List, [], ◌∷◌, ◌++◌, take, Option, Some, None, option_map, Result, Ok, Err, IfOk, OnOk, MatchResult}
use Rattle.tv_files.specs.Outside.{Names, Outside, NoneFell, OnlyWrites, RanOut, SameCounts, with_bytes}
use Rattle.tv_core.specs.declared.sink.SinkFault.{SinkFault}
use Rattle.tv_core.specs.declared.sink.SinkFault.TheVariants as sink
use Rattle.tv_word.specs.Counts.{Rose}
use Rattle.tv_plan.specs.declared.refusal.Ending.{Ending}
use Rattle.tv_plan.specs.declared.refusal.Finish.{Finish}
use Rattle.tv_plan.specs.declared.refusal.Stop.{Stop}
use Rattle.tv_plan.specs.declared.refusal.Stop.TheVariants as stop
use Rattle.tv_plan.specs.declared.status.Status.{Status}
use Rattle.tv_plan.specs.declared.status.Status.TheVariants.{FileFault, Memory}
use Rattle.tv_plan.specs.Codes.{says}
use Rattle.tv_plan.specs.Contents.{bytes_in, IsRead}
use Rattle.tv_plan.specs.Plan.{Named, Outcome, Write, Answer, files_of}
use Rattle.tv_plan.specs.Status.{ending_status}

-- the files, where they are known, once these were written
abbrev pub files_with : List Write → Option Names → Option Names
files_with [] files = files
files_with (w ∷ ws) files = files_with ws (option_map (with_bytes w.name (bytes_in w.content)) files)

-- all is as it was, or the name has a prefix of its bytes
abbrev pub HasPartOf : Write → Option Names → Option Names → Type 0
HasPartOf w old new = (new ≡ old) ⊎ ((n : ℕ) × (new ≡ option_map (with_bytes w.name (take n (bytes_in w.content))) old))

-- some of these were written whole, and the next, whose name stands at this word, is as it was or has a
-- prefix of its bytes
abbrev pub IsCutAt : ℕ → List Write → Option Names → Option Names → Type 0
IsCutAt word [] old new = ⊥
IsCutAt word (w ∷ ws) old new =
    ((word ≡ w.word) × HasPartOf w old new) ⊎ IsCutAt word ws (option_map (with_bytes w.name (bytes_in w.content)) old) new

-- what each of these holds is read of its file
abbrev pub AreRead : List Write → Type 0
AreRead [] = Unit {0}
AreRead (w ∷ ws) = IsRead w.content × AreRead ws

-- the bytes were added to what is said
abbrev pub Added : Outside → Outside → List ℕ → Type 0
Added old new bytes = new.said ≡ option_map (λ said. said ++ bytes) old.said

-- this was said, or nothing where there is nothing to say
abbrev pub Said : Outside → Outside → Option (List ℕ) → Type 0
Said old new None = new.said ≡ old.said
Said old new (Some bytes) = Added old new bytes

-- no more than a prefix of this was said
abbrev pub SaidPart : Outside → Outside → Option (List ℕ) → Type 0
SaidPart old new says = (bytes : List ℕ) × (n : ℕ) × (says ≡ Some bytes) × Added old new (take n bytes)

-- the answer happened whole
pub record IsAnswered (answer : Answer) (files : Names) (old new : Outside) (result : Status) : Type 0 where
  pub status : result ≡ ending_status answer.ending
  pub contents : new.contents ≡ files_with answer.writes (Some files)
  pub read : AreRead answer.writes
  pub said : Said old new (says answer.ending)

-- nothing outside has changed
pub record IsUntouched (old new : Outside) : Type 0 where
  pub contents : new.contents ≡ old.contents
  pub said : new.said ≡ old.said

pub record IsCutInWriting (word : ℕ) (answer : Answer) (files : Names) (old new : Outside) : Type 0 where
  pub contents : IsCutAt word answer.writes (Some files) new.contents
  pub said : new.said ≡ old.said

-- all was written, and a prefix of the line was said
pub record IsCutInSaying (answer : Answer) (files : Names) (old new : Outside) : Type 0 where
  pub contents : new.contents ≡ files_with answer.writes (Some files)
  pub said : SaidPart old new (says answer.ending)

-- nothing has changed, or writing or saying was cut short
abbrev pub IsCutShort : Answer → Names → Outside → Outside → Type 0
IsCutShort answer files old new =
    IsUntouched old new ⊎ ((word : ℕ) × IsCutInWriting word answer files old new) ⊎ IsCutInSaying answer files old new

-- The call ended as the answer says, or by a fault of a file that the answer looked at, of one that it writes or of
-- printing its line, or because memory ran out; both leave no more than a prefix.
abbrev pub Ends : Answer → ℕ → Names → Outside → Outside → Status → Type 0
Ends answer words files old new result =
    IsAnswered answer files old new result
    ⊎ ((word : ℕ) × (result ≡ FileFault word) × (word ≤ answer.looked) × IsUntouched old new)
    ⊎ ((word : ℕ) × (result ≡ FileFault word) × IsCutInWriting word answer files old new)
    ⊎ ((result ≡ FileFault words) × IsCutInSaying answer files old new)
    ⊎ ((result ≡ Memory) × IsCutShort answer files old new)

-- the line of this end was printed, and its status returned; or printing it failed, or ran out of memory
abbrev pub IsConcluded : Ending → ℕ → Outside → Outside → Status → Type 0
IsConcluded ending words old new result =
    ((result ≡ ending_status ending) × Said old new (says ending))
    ⊎ ((result ≡ FileFault words) × Rose old.say_faults new.say_faults × SaidPart old new (says ending))
    ⊎ ((result ≡ Memory) × RanOut old new × SaidPart old new (says ending))

-- no count changed; or the answer is a fault, or memory that the files ran out of, which leaves every other count
abbrev pub IsQuiet : Outside → Outside → Status → Type 0
IsQuiet old new result = SameCounts old new ⊎ ((word : ℕ) × (result ≡ FileFault word)) ⊎ ((result ≡ Memory) × RanOut old new)

-- what saying the line of an end does
pub record Concludes (ending : Ending) (words : ℕ) (old new : Outside) (result : Status) : Type 0 where
  pub ended : IsConcluded ending words old new result
  pub quiet : IsQuiet old new result
  pub contents : new.contents ≡ old.contents
  pub later : NoneFell old new
  pub absent : new.absent ≡ old.absent

-- writing these was cut short by this: what is written is never refused for its contents
abbrev pub IsCut : List Write → Outside → Outside → Stop → Type 0
IsCut writes old new (stop.Fault word) = IsCutAt word writes old.contents new.contents × Rose old.write_faults new.write_faults
IsCut writes old new stop.Memory = (word : ℕ) × IsCutAt word writes old.contents new.contents × RanOut old new
IsCut writes old new (stop.Contents bad) = ⊥

-- what writing files does
pub record Writes {X : Type 0} (writes : List Write) (old new : Outside) (result : Result X Stop) : Type 0 where
  pub ended : MatchResult result (λ _. (new.contents ≡ files_with writes old.contents) × AreRead writes) (λ stop. IsCut writes old new stop)
  pub quiet : OnOk result (SameCounts old new)
  pub only : OnlyWrites old new

-- what is done with an outcome once it was found: its files are written, and unless that is cut short, it ends so; or
-- memory ran out before the first of them
pub record Completes (places : List Named) (outcome : Outcome) (old new : Outside) (result : Result Finish Stop) : Type 0 where
  pub writes : Writes (files_of places outcome.files) old new result ⊎ ((result ≡ Err stop.Memory) × (new ≡ old))
  pub finish : IfOk result (λ finish. finish ≡ outcome.finish)

-- the end that a refusal of a sink leads to that writes the file at a word, and how its writing ended
abbrev pub sink_stop : ℕ → SinkFault → Stop
sink_stop word sink.Failed = stop.Fault word
sink_stop word sink.Memory = stop.Memory

abbrev pub streamed : ℕ → Result (Unit {0}) SinkFault → Result (Unit {0}) Stop
streamed word (Ok done) = Ok done
streamed word (Err fault) = Err (sink_stop word fault)
