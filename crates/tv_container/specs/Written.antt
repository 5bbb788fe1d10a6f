-- Bytes that are written to a file a piece at a time, and what of them it has.
use Rattle.std.specs.Prelude.{◌≡◌, ℕ, List, ◌++◌, take, Some, Result, Ok, Err, MatchResult, OnOk, OnErr}
use Rattle.tv_container.specs.Faults.{sink_fault}
use Rattle.tv_core.specs.declared.sink.SinkFault.{SinkFault}
use Rattle.tv_core.specs.declared.sink.SinkFault.TheVariants.{Failed, Memory}
use Rattle.tv_files.specs.Calls.{Creates}
use Rattle.tv_files.specs.Outside.{Outside, WhereKnown, RanOut, SameCounts, OnlyWrites}
use Rattle.tv_files.specs.Whole.{HasBytes, HasPart}
use Rattle.tv_files.specs.declared.calls.FileRefusal.{FileRefusal}
use Rattle.tv_word.specs.Counts.{Rose}

-- where contents are known, the name has these bytes
abbrev pub HasNow : Outside → List ℕ → List ℕ → Type 0
HasNow outside name bytes = WhereKnown outside (λ files. files name ≡ Some bytes)

-- where contents are known, the name has a first part of these bytes, and the rest of them is held
abbrev pub HasBut : Outside → List ℕ → List ℕ → List ℕ → Type 0
HasBut outside name held bytes = WhereKnown outside (λ files. (front : List ℕ) × (files name ≡ Some front) × (front ++ held ≡ bytes))

-- where contents are known, the name has the first few of these bytes
abbrev pub HasFront : Outside → List ℕ → List ℕ → Type 0
HasFront outside name bytes = WhereKnown outside (λ files. (n : ℕ) × (files name ≡ Some (take n bytes)))

-- the creation of a name was refused with this fault
pub record NotCreated (old new : Outside) (name : List ℕ) (fault : SinkFault) : Type 0 where
  pub why : FileRefusal
  pub is : fault ≡ sink_fault why
  pub call : Creates old new name (Err why)

-- the cause of a fault: the count of faults of writing rose, or memory ran out
abbrev pub Caused : SinkFault → Outside → Outside → Type 0
Caused Failed old new = Rose old.write_faults new.write_faults
Caused Memory old new = RanOut old new

-- no count changed, or the fault has its cause
abbrev pub HasCause : Outside → Outside → Result (Unit {0}) SinkFault → Type 0
HasCause old new result = MatchResult result (λ _. SameCounts old new) (λ fault. Caused fault old new)

-- what calls leave of the counts, from the outcome before them to that after them: what this outcome says; but
-- after a refusal nothing is done, and it stays the outcome
abbrev pub HasCauseFrom : Result (Unit {0}) SinkFault → Outside → Outside → Result (Unit {0}) SinkFault → Type 0
HasCauseFrom (Ok done) old new after = HasCause old new after
HasCauseFrom (Err fault) old new after = (after ≡ Err fault) × (new ≡ old)

-- how many faults of writing what writes has met, by its outcome, and how often it ran out of memory
abbrev pub faults_in : Result (Unit {0}) SinkFault → ℕ
faults_in (Err Failed) = 1
faults_in _ = 0

abbrev pub wants_in : Result (Unit {0}) SinkFault → ℕ
wants_in (Err Memory) = 1
wants_in _ = 0

-- What writing a file one piece after another leads to, from before it is created to after its last byte: where
-- contents are known, the name has these bytes, or after a refusal is as it was or has the first few of them. Every other file
-- is as it was, and no count changed, or the refusal has its cause.
pub record IsStreamed (old new : Outside) (name bytes : List ℕ) (result : Result (Unit {0}) SinkFault) : Type 0 where
  pub whole : OnOk result (HasBytes old new name bytes)
  pub part : OnErr result (HasPart old new name bytes)
  pub cause : HasCause old new result
  pub only : OnlyWrites old new
