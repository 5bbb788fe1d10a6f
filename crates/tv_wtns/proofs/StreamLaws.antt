-- From what a taker that writes promises to what streaming an assignment is.
use Rattle.tv_core.proofs.Common.{◌≡◌, ◌^◌, ◌<◌, ℕ, List, [], ◌∷◌, ◌++◌, length, Result, Ok, Err, inr, append_assoc, sym, ◌∙◌, refl, GivesAll}
use Rattle.std.specs.Prelude.{OnOk}
use Rattle.tv_container.proofs.Buffers.{caused_seen, quiet_from}
use Rattle.tv_container.proofs.Streamed.{streamed_last, streamed_part}
use Rattle.tv_container.specs.Written.{HasFront, IsStreamed}
use Rattle.tv_core.specs.Values.{GivesSome}
use Rattle.tv_core.specs.declared.sink.SinkFault.{SinkFault}
use Rattle.tv_files.proofs.Cases.{OnOk-map}
use Rattle.tv_files.specs.Calls.{Creates}
use Rattle.tv_files.specs.Outside.{Outside}
use Rattle.tv_wtns.proofs.Files.{come_back, files_are_fronts, files_of_assignments}
use Rattle.tv_wtns.specs.Bytes.{assignment_bytes, file_bytes}
use Rattle.tv_wtns.specs.Takers.{Taker, Stands, Finishes, KeepsFile, taker_giving}
use Rattle.tv_wtns.specs.Wtns.{assignment_of}

-- what a call did that streamed an assignment to a file; a whole file is read as the assignment again
pub record IsAssignmentStreamed (old new : Outside) (name values : List ℕ) (result : Result (Unit {0}) SinkFault) : Type 0 where
  pub file : IsStreamed old new name (assignment_bytes values) result
  pub read : OnOk result (assignment_of (assignment_bytes values) ≡ Ok values)

-- what a taker is that was begun with the number of an assignment's values
pub record IsBegun {V : Type 0} (seen : V → Taker) (name : List ℕ) (old : Outside) (taker : V) (values : List ℕ) : Type 0 where
  pub creates : Creates old (seen taker).outside name (Ok tt)
  pub named : (seen taker).name ≡ name
  pub stands : Stands (seen taker) []
  pub count : (seen taker).progress.count ≡ length values
  pub few : length values < 2 ^ 32

module _ {V : Type 0} (seen : V → Taker) (name : List ℕ) (old : Outside) (taker : V) (values : List ℕ) (is : IsBegun seen name old taker values) where
  bytes : (new : V) → KeepsFile (seen taker) (seen new) → file_bytes (seen new).progress.count values ≡ assignment_bytes values
  bytes new keeps = rw (keeps.count, is.count) (files_of_assignments (length values) values refl)

  -- a value was refused
  pub streamed_some : (new : V) (fault : SinkFault) → GivesSome (taker_giving seen) taker new values fault
      → IsAssignmentStreamed old (seen new).outside name values (Err fault)
  streamed_some new fault some =
      let tried = some.front ++ some.refused ∷ [] in
      let named : (seen new).name ≡ name = some.keeps.name ∙ is.named in
      let list : tried ++ some.back ≡ values = append_assoc some.front (some.refused ∷ []) some.back ∙ sym some.at in
      let front : HasFront (seen new).outside name (assignment_bytes values) = rw (named, list, bytes new some.keeps) at
      (files_are_fronts (seen new) tried some.back (inr (some.tried [] is.stands))) in
      let cause = caused_seen (λ v. (seen v).progress.outcome) (λ v. (seen v).outside) taker new fault is.stands.whole some.keeps.cause some.cause in
      record {
        file = streamed_part old (seen taker).outside (seen new).outside name is.creates (rw is.named at some.keeps.outside)
            (assignment_bytes values) fault front cause;
        read = tt;
      }

  -- all values were given, and the file was finished, or finishing it was refused
  pub streamed_all : (done : V) (new : Outside) (result : Result (Unit {0}) SinkFault) → GivesAll (taker_giving seen) taker done values
      → Finishes (seen done) new result → IsAssignmentStreamed old new name values result
  streamed_all done new result all finishes =
      let named : (seen done).name ≡ name = all.keeps.name ∙ is.named in
      let stands : Stands (seen done) values = all.stands [] is.stands in
      let now = rw (named, bytes done all.keeps) at (finishes.whole values stands) in
      let front = rw (named, bytes done all.keeps) at (finishes.part values stands) in
      record {
        file = streamed_last old (seen taker).outside (seen done).outside new name (assignment_bytes values) result is.creates
            (rw is.named at all.keeps.outside) (quiet_from _ _ _ _ all.keeps.cause stands.whole).1 (rw named at finishes.only) now front finishes.cause;
        read = OnOk-map result (λ _. come_back values is.few stands.canonical) now;
      }
