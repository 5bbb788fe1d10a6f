-- A taker of values that writes them to a file, one at a time.
use Rattle.std.specs.Prelude.{◌≡◌, refl, ℕ, ◌<◌, false, is_err, List, Result, Ok, OnOk, OnErr}
use Rattle.std.proofs.Common.{◌∙◌}
use Rattle.std.specs.Borrow.{GName}
use Rattle.std.specs.List.{All}
use Rattle.tv_container.proofs.Buffers.{nothing_appended, appends_then, cause_here, cause_from_then}
use Rattle.tv_container.specs.Writing.{OnlyAppends}
use Rattle.tv_container.specs.Written.{HasBut, HasCause, HasCauseFrom, HasFront, HasNow, faults_in, wants_in}
use Rattle.tv_core.specs.Values.{ValuesMeaning}
use Rattle.tv_core.specs.declared.field.TheConstants.{P}
use Rattle.tv_core.specs.declared.sink.SinkFault.{SinkFault}
use Rattle.tv_files.specs.Outside.{Outside}
use Rattle.tv_wtns.specs.Bytes.{head_bytes, file_bytes}
use Rattle.tv_wtns.specs.declared.file_values.FileValues.{FileValues}

-- how far writing has come: the number of values that the file's head has, the bytes that are still to be
-- appended, and whether all was answered so far, or the refusal that broke it
pub record ValuesProgress : Type 0 where
  pub count : ℕ
  pub held : List ℕ
  pub outcome : Result (Unit {0}) SinkFault

-- all that stands before the values is held
abbrev pub begun : ℕ → ValuesProgress
begun count = record { count = count; held = head_bytes count; outcome = Ok tt }

-- a taker that writes: the outside, the borrow through which it is written, the file's name, and how far
-- writing has come
pub record Taker : Type 0 where
  pub outside : Outside
  pub borrow : GName
  pub name : List ℕ
  pub progress : ValuesProgress

-- a taker, as it sees the outside
abbrev pub taker_of : {D : Type 0} → (D → Outside) → FileValues D → Taker
taker_of seen taker = record {
  outside = seen taker.files.now;
  borrow = taker.files.ghost_name;
  name = taker.name.now;
  progress = record { count = taker.count; held = taker.pending.buffer; outcome = taker.pending.outcome };
}

-- the values are numbers of the field; where contents are known, the name has the first bytes of their file,
-- and those that are held come next
pub record Stands (taker : Taker) (values : List ℕ) : Type 0 where
  pub whole : is_err taker.progress.outcome ≡ false
  pub canonical : All (λ v. v < P) values
  pub written : HasBut taker.outside taker.name taker.progress.held (file_bytes taker.progress.count values)

-- after a refusal, where contents are known: the name has a first part of the values' file
pub record Tried (taker : Taker) (values : List ℕ) : Type 0 where
  pub written : HasFront taker.outside taker.name (file_bytes taker.progress.count values)

-- what every call keeps: the file is the same, through the same borrow, its head has the same count, the
-- outside is as it was but for bytes appended to the file, no count changes until a refusal breaks the taker, and
-- that refusal has its cause
pub record KeepsFile (old new : Taker) : Type 0 where
  pub borrow : new.borrow ≡ old.borrow
  pub name : new.name ≡ old.name
  pub count : new.progress.count ≡ old.progress.count
  pub outside : OnlyAppends old.outside new.outside old.name
  pub cause : HasCauseFrom old.progress.outcome old.outside new.outside new.progress.outcome

-- what such a taker means, however it is seen; its faults are those of writing, of which it meets one at most
abbrev pub taker_giving : {V : Type 0} → (V → Taker) → ValuesMeaning V
taker_giving {V} seen = record {
  stands = λ taker values. Stands (seen taker) values;
  tried = λ taker values. Tried (seen taker) values;
  broken = λ taker. is_err (seen taker).progress.outcome;
  faults = λ taker. faults_in (seen taker).progress.outcome;
  wants = λ taker. wants_in (seen taker).progress.outcome;
  Keeps = λ old new. KeepsFile (seen old) (seen new);
  keeps_same = λ taker. record {
    borrow = refl;
    name = refl;
    count = refl;
    outside = nothing_appended (seen taker).outside (seen taker).name;
    cause = cause_here (seen taker).progress.outcome (seen taker).outside;
  };
  keeps_then = λ old mid new p q. record {
    borrow = q.borrow ∙ p.borrow;
    name = q.name ∙ p.name;
    count = q.count ∙ p.count;
    outside = appends_then (seen old).outside (seen mid).outside (seen new).outside (seen old).name p.outside (rw p.name at q.outside);
    cause = cause_from_then (seen old).progress.outcome (seen mid).progress.outcome (seen new).progress.outcome
        (seen old).outside (seen mid).outside (seen new).outside p.cause q.cause;
  };
}

-- what the last call does: the file is that of the values that were passed, or after a refusal a first part of it;
-- nothing but bytes of the file changed, and the cause is known
pub record Finishes (taker : Taker) (new : Outside) (result : Result (Unit {0}) SinkFault) : Type 0 where
  pub whole : (values : List ℕ) → Stands taker values → OnOk result (HasNow new taker.name (file_bytes taker.progress.count values))
  pub part : (values : List ℕ) → Stands taker values → OnErr result (HasFront new taker.name (file_bytes taker.progress.count values))
  pub only : OnlyAppends taker.outside new taker.name
  pub cause : HasCause taker.outside new result
