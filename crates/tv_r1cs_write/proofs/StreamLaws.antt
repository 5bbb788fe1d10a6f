-- From what a sink that writes promises to what streaming a system is.
use Rattle.tv_core.proofs.Common.{◌≡◌, ◌+◌, ◌^◌, ◌<◌, ◌≤◌, ℕ, List, [], ◌∷◌, ◌++◌, length, Result, Ok, Err, inr, append_assoc, refl, sym, ap, ◌∙◌, Circuit}
use Rattle.tv_core.proofs.Common.{PutsAll}
use Rattle.tv_container.proofs.Buffers.{caused_seen, quiet_from}
use Rattle.tv_container.proofs.Streamed.{streamed_last, streamed_part}
use Rattle.tv_container.specs.Written.{HasFront}
use Rattle.tv_core.specs.Constraints.{System}
use Rattle.tv_core.specs.Meanings.{system_counts}
use Rattle.tv_core.specs.Sinks.{PutsSome}
use Rattle.tv_core.specs.declared.lines.Counts.{Counts}
use Rattle.tv_core.specs.declared.sink.SinkFault.{SinkFault}
use Rattle.tv_files.proofs.Cases.{OnOk-map}
use Rattle.tv_files.specs.Calls.{Creates}
use Rattle.tv_files.specs.Outside.{Outside}
use Rattle.tv_r1cs_read.specs.R1cs.{r1cs_system}
use Rattle.tv_r1cs_write.proofs.Files.{files_are_fronts, files_of_systems}
use Rattle.tv_r1cs_write.proofs.Systems.{systems_come_back}
use Rattle.tv_r1cs_write.specs.Bytes.{system_bytes}
use Rattle.tv_r1cs_write.specs.Streams.{Stream, SystemProgress, Stands, Finishes, IsSystemStreamed, KeepsFile, begun, labelled, stream_meaning, finished_bytes}

-- what a sink is that was begun with the counts of a system, whose constraints are a circuit's, and a number of labels
pub record IsBegun {S A : Type 0} (seen : S → Stream) (name : List ℕ) (old : Outside) (sink : S) (circuit : Circuit A) (system : System) (counts : Counts)
    (count : ℕ) : Type 0 where
  pub creates : Creates old (seen sink).outside name (Ok tt)
  pub named : (seen sink).name ≡ name
  pub begins : (seen sink).progress ≡ begun counts count
  pub stands : Stands (seen sink) []
  pub counted : counts ≡ system_counts system
  pub list : (circuit (1 + system.outputs + system.inputs)).list ≡ system.constraints
  pub next : (circuit (1 + system.outputs + system.inputs)).next ≡ system.wires
  pub publics : 1 + system.outputs + system.inputs ≤ system.wires
  pub wires_fit : counts.wires < 2 ^ 32
  pub constraints_fit : counts.constraints < 2 ^ 32

-- `labels` are those of the wires, by the number of these
module _ {S A : Type 0} (seen : S → Stream) (name : List ℕ) (old : Outside) (sink : S) (circuit : Circuit A) (system : System) (counts : Counts) (count : ℕ)
    (labels : ℕ → List ℕ) (is : IsBegun seen name old sink circuit system counts count) where
  -- the first wire that is made
  first : (seen sink).progress.wires ≡ 1 + system.outputs + system.inputs
  first = ap (λ (p : SystemProgress). p.wires) is.begins ∙ ap (λ (counts : Counts). 1 + counts.outputs + counts.inputs) is.counted

  list : (circuit (seen sink).progress.wires).list ≡ system.constraints
  list = ap (λ n. (circuit n).list) first ∙ is.list

  -- the bytes of the file follow from what every call keeps
  bytes : (new : S) → KeepsFile (seen sink) (seen new)
      → finished_bytes (seen new).progress system.constraints (labels (seen new).progress.counts.wires) ≡ system_bytes system count (labels system.wires)
  bytes new keeps =
      rw (keeps.counts, keeps.labels, is.begins, is.counted)
      (files_of_systems (system_counts system) count system.constraints (labels system.wires) (record { constraints = refl; terms = refl }))

  -- a constraint was refused
  pub streamed_some : (new : S) (fault : SinkFault) → PutsSome (stream_meaning seen) sink new circuit fault
      → IsSystemStreamed old (seen new).outside name (labelled system count (labels system.wires)) (Err fault)
  streamed_some new fault some =
      let tried = some.front ++ some.refused ∷ [] in
      let named : (seen new).name ≡ name = some.keeps.name ∙ is.named in
      let whole : tried ++ some.back ≡ system.constraints = append_assoc some.front (some.refused ∷ []) some.back ∙ sym some.at ∙ list in
      let front : HasFront (seen new).outside name (system_bytes system count (labels system.wires)) = rw (named, whole, bytes new some.keeps) at
      (files_are_fronts (seen new) tried some.back (labels (seen new).progress.counts.wires) (inr (some.tried [] is.stands))) in
      let cause = caused_seen (λ s. (seen s).progress.outcome) (λ s. (seen s).outside) sink new fault is.stands.whole some.keeps.cause some.cause in
      record {
        file = streamed_part old (seen sink).outside (seen new).outside name is.creates (rw is.named at some.keeps.outside)
            (system_bytes system count (labels system.wires)) fault front cause;
        read = tt;
      }

  -- all constraints were put, and the file was finished, or finishing it was refused
  pub streamed_all : (done : S) (new : Outside) (answer : A) (result : Result (Unit {0}) SinkFault) → length (labels system.wires) ≡ system.wires
      → PutsAll (stream_meaning seen) sink done circuit answer
      → Finishes (seen done) new (labels (seen done).progress.counts.wires) result
      → IsSystemStreamed old new name (labelled system count (labels system.wires)) result
  streamed_all done new answer result each all finishes =
      let named : (seen done).name ≡ name = all.keeps.name ∙ is.named in
      let stands : Stands (seen done) system.constraints = rw list at (all.stands [] is.stands) in
      let wires : (seen done).progress.wires ≡ system.wires = all.next ∙ ap (λ n. (circuit n).next) first ∙ is.next in
      let now = rw (named, bytes done all.keeps) at (finishes.whole system.constraints stands) in
      let front = rw (named, bytes done all.keeps) at (finishes.part system.constraints stands) in
      let read : r1cs_system (system_bytes system count (labels system.wires)) ≡ Ok system =
      systems_come_back system count (labels system.wires)
      (record {
        wires = rw is.counted at is.wires_fit;
        publics = is.publics;
        constraints = rw is.counted at is.constraints_fit;
        narrow = rw wires at stands.narrow;
      }) each in
      record {
        file = streamed_last old (seen sink).outside (seen done).outside new name (system_bytes system count (labels system.wires)) result is.creates
            (rw is.named at all.keeps.outside) (quiet_from _ _ _ _ all.keeps.cause stands.whole).1 (rw named at finishes.only) now front finishes.cause;
        read = OnOk-map result (λ _. read) now;
      }
