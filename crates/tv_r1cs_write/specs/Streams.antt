-- A sink that writes its constraints to a file, one at a time.
use Rattle.std.specs.Prelude.{◌≡◌, refl, ℕ, ◌+◌, false, is_err, List, [], ◌++◌, length, Result, Ok, OnOk, OnErr}
use Rattle.std.proofs.Common.{◌∙◌}
use Rattle.std.specs.Borrow.{GName}
use Rattle.std.specs.List.{All}
use Rattle.tv_container.proofs.Buffers.{nothing_appended, appends_then, cause_here, cause_from_then}
use Rattle.tv_container.specs.Writing.{OnlyAppends}
use Rattle.tv_core.specs.Constraints.{Constraint, System}
use Rattle.tv_core.specs.Sinks.{Meaning}
use Rattle.tv_core.specs.declared.lines.Counts.{Counts}
use Rattle.tv_files.specs.Outside.{Outside}
use Rattle.tv_core.specs.declared.sink.SinkFault.{SinkFault}
use Rattle.tv_r1cs_read.specs.R1cs.{r1cs_system}
use Rattle.tv_r1cs_write.specs.Bytes.{file_bytes, head_bytes, rows_bytes, system_bytes}
use Rattle.tv_r1cs_write.specs.Narrow.{IsNarrow}
use Rattle.tv_r1cs_write.specs.declared.stream.StreamSink.{StreamSink}
use Rattle.tv_container.specs.Written.{HasBut, HasCause, HasCauseFrom, HasFront, HasNow, IsStreamed, faults_in, wants_in}

-- how far writing has come: the counts and the number of labels that the file's head has, the bytes that
-- are still to be appended, how many wires and constraints there are, and whether all was answered so far, or the
-- refusal that broke it
pub record SystemProgress : Type 0 where
  pub counts : Counts
  pub labels : ℕ
  pub held : List ℕ
  pub wires : ℕ
  pub constraints : ℕ
  pub outcome : Result (Unit {0}) SinkFault

-- all that stands before the constraints is held; there are the constant wire and one for each public number
abbrev pub begun : Counts → ℕ → SystemProgress
begun counts labels = record {
  counts = counts;
  labels = labels;
  held = head_bytes counts labels;
  wires = 1 + counts.outputs + counts.inputs;
  constraints = 0;
  outcome = Ok tt;
}

-- a sink that writes: the outside, the borrow through which it is written, the file's name, and how far
-- writing has come
pub record Stream : Type 0 where
  pub outside : Outside
  pub borrow : GName
  pub name : List ℕ
  pub progress : SystemProgress

-- a sink, as it sees the outside
abbrev pub stream : {D : Type 0} → (D → Outside) → StreamSink D → Stream
stream seen sink = record {
  outside = seen sink.files.now;
  borrow = sink.files.ghost_name;
  name = sink.name.now;
  progress = record {
    counts = sink.counts;
    labels = sink.labels;
    held = sink.pending.buffer;
    wires = sink.wires;
    constraints = sink.constraints;
    outcome = sink.pending.outcome;
  };
}

-- the front of each file of these counts whose constraints begin with the list
abbrev pub begun_bytes : SystemProgress → List Constraint → List ℕ
begun_bytes progress list = head_bytes progress.counts progress.labels ++ rows_bytes list

-- the list's constraints are of wires that were made, and the format can hold them; where contents are known, the name
-- has the first bytes of each file whose constraints begin with the list, and those that are held come next
pub record Stands (stream : Stream) (list : List Constraint) : Type 0 where
  pub counted : stream.progress.constraints ≡ length list
  pub whole : is_err stream.progress.outcome ≡ false
  pub narrow : All (IsNarrow stream.progress.wires) list
  pub written : HasBut stream.outside stream.name stream.progress.held (begun_bytes stream.progress list)

-- a sink that writes to a file of this name, whose head has these counts and this number of labels; no constraint was put
pub record Begins (file : List ℕ) (counts : Counts) (labels : ℕ) (stream : Stream) : Type 0 where
  pub name : stream.name ≡ file
  pub begun : stream.progress ≡ begun counts labels
  pub stands : Stands stream []

-- after a refusal, where contents are known: the name has a first part of these bytes
pub record Tried (stream : Stream) (list : List Constraint) : Type 0 where
  pub written : HasFront stream.outside stream.name (begun_bytes stream.progress list)

-- what every call keeps: the file is the same, through the same borrow, its head has the same counts, the
-- outside is as it was but for bytes appended to the file, no count changes until a refusal breaks the sink, and that
-- refusal has its cause
pub record KeepsFile (old new : Stream) : Type 0 where
  pub borrow : new.borrow ≡ old.borrow
  pub name : new.name ≡ old.name
  pub counts : new.progress.counts ≡ old.progress.counts
  pub labels : new.progress.labels ≡ old.progress.labels
  pub outside : OnlyAppends old.outside new.outside old.name
  pub cause : HasCauseFrom old.progress.outcome old.outside new.outside new.progress.outcome

-- what such a sink means, however it is seen as a stream; its faults are those of writing, of which it meets one at
-- most
abbrev pub stream_meaning : {S : Type 0} → (S → Stream) → Meaning S
stream_meaning {S} seen = record {
  stands = λ sink list. Stands (seen sink) list;
  tried = λ sink list. Tried (seen sink) list;
  wires = λ sink. (seen sink).progress.wires;
  constraints = λ sink. (seen sink).progress.constraints;
  broken = λ sink. is_err (seen sink).progress.outcome;
  faults = λ sink. faults_in (seen sink).progress.outcome;
  wants = λ sink. wants_in (seen sink).progress.outcome;
  Keeps = λ old new. KeepsFile (seen old) (seen new);
  keeps_same = λ sink. record {
    borrow = refl;
    name = refl;
    counts = refl;
    labels = refl;
    outside = nothing_appended (seen sink).outside (seen sink).name;
    cause = cause_here (seen sink).progress.outcome (seen sink).outside;
  };
  keeps_then = λ old mid new p q. record {
    borrow = q.borrow ∙ p.borrow;
    name = q.name ∙ p.name;
    counts = q.counts ∙ p.counts;
    labels = q.labels ∙ p.labels;
    outside = appends_then (seen old).outside (seen mid).outside (seen new).outside (seen old).name p.outside (rw p.name at q.outside);
    cause = cause_from_then (seen old).progress.outcome (seen mid).progress.outcome (seen new).progress.outcome
        (seen old).outside (seen mid).outside (seen new).outside p.cause q.cause;
  };
}

-- the bytes of the file once the constraints are the list and the wires have these labels
abbrev pub finished_bytes : SystemProgress → List Constraint → List ℕ → List ℕ
finished_bytes progress list labels = file_bytes progress.counts progress.labels list labels

-- what the last call does, which writes labels: the file is that of the list that the sink stands for, or
-- after a refusal a first part of it; nothing but bytes of the file changed, and the cause is known
pub record Finishes (sink : Stream) (new : Outside) (labels : List ℕ) (result : Result (Unit {0}) SinkFault) : Type 0 where
  pub whole : (list : List Constraint) → Stands sink list → OnOk result (HasNow new sink.name (finished_bytes sink.progress list labels))
  pub part : (list : List Constraint) → Stands sink list → OnErr result (HasFront new sink.name (finished_bytes sink.progress list labels))
  pub only : OnlyAppends sink.outside new sink.name
  pub cause : HasCause sink.outside new result

-- a system whose wires have labels, and the number of labels that the head of its file has: a label says which wire of
-- another system it is
pub record LabelledSystem : Type 0 where
  pub system : System
  pub count : ℕ
  pub labels : List ℕ

abbrev pub labelled : System → ℕ → List ℕ → LabelledSystem
labelled system count labels = record { system = system; count = count; labels = labels }

-- what a call did that streamed such a system to a file; a whole file is read as the system again
pub record IsSystemStreamed (old new : Outside) (name : List ℕ) (written : LabelledSystem) (result : Result (Unit {0}) SinkFault) : Type 0 where
  pub file : IsStreamed old new name (system_bytes written.system written.count written.labels) result
  pub read : OnOk result (r1cs_system (system_bytes written.system written.count written.labels) ≡ Ok written.system)
