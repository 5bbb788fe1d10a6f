-- What was created and then appended to is one file that was streamed.
use Rattle.tv_core.proofs.Common.{◌≡◌, ◌⊎◌, ℕ, List, [], Option, Some, None, take, Result, Ok, Err, inl, inr, ap, refl, sym, ◌∙◌, arith}
use Rattle.std.proofs.Common.{option_map}
use Rattle.std.specs.Prelude.{OnOk, OnErr}
use Rattle.tv_container.proofs.Buffers.{appends_then, cause_then, counts_then, is_cause}
use Rattle.tv_container.specs.Writing.{OnlyAppends}
use Rattle.tv_container.specs.Written.{Caused, HasCause, HasNow, HasFront, IsStreamed, NotCreated}
use Rattle.tv_core.specs.declared.sink.SinkFault.{SinkFault}
use Rattle.tv_files.proofs.NamedFiles.{with_bytes-here}
use Rattle.tv_files.proofs.Written.{written_grows}
use Rattle.tv_files.specs.Calls.{Creates}
use Rattle.tv_files.specs.Outside.{Names, Outside, OnlyWrites, SameCounts, with_bytes}
use Rattle.tv_files.specs.Whole.{HasBytes, HasPart}

-- it wasn't created
pub not_created : (old new : Outside) (name bytes : List ℕ) (fault : SinkFault) → NotCreated old new name fault → IsStreamed old new name bytes (Err fault)
not_created old new name bytes fault none =
    let is = none.is in
    rw is (record {
      whole = tt;
      part = elim none.call.refused [ inl same ↦ inl same | inr empty ↦ inr (0, empty) ];
      cause = is_cause old new none.why (Err none.why) refl none.call.failed none.call.memory;
      only = record { said = none.call.said; absent = λ files known. none.call.absent; later = none.call.later };
    })

module _ (old begun new : Outside) (name : List ℕ) (creates : Creates old begun name (Ok tt)) (appends : OnlyAppends begun new name) where
  grown : HasBytes old new name appends.more
  grown = written_grows old begun new name [] appends.more creates.done appends.contents

  known : (files : Names) → old.contents ≡ Some files → new.contents ≡ Some (with_bytes name appends.more files)
  known files is = grown ∙ ap (option_map (with_bytes name appends.more)) is

  missed : (files : Names) → old.contents ≡ Some files → (new.absent ≡ begun.absent) ⊎ (with_bytes name [] files name ≡ None) → new.absent ≡ old.absent
  missed files is (inl same) = same ∙ creates.absent
  missed files is (inr none) = let here : Some [] ≡ None = sym (with_bytes-here name [] files) ∙ none in cc

  only_writes : OnlyWrites old new
  only_writes = record {
    said = appends.said ∙ creates.said;
    absent = λ files is. missed files is (appends.there (with_bytes name [] files) (creates.done ∙ ap (option_map (with_bytes name [])) is));
    later = record {
      read_faults = omega (arith, creates.later.read_faults, appends.later.read_faults);
      write_faults = omega (arith, creates.later.write_faults, appends.later.write_faults);
      say_faults = omega (arith, creates.later.say_faults, appends.later.say_faults);
      wants = omega (arith, creates.later.wants, appends.later.wants);
      absent = omega (arith, creates.later.absent, appends.later.absent);
    };
  }

  whole_by : (bytes : List ℕ) (contents : Option Names) → old.contents ≡ contents → HasNow new name bytes → HasBytes old new name bytes
  whole_by bytes None is now = grown ∙ ap (option_map (with_bytes name appends.more)) is ∙ sym (ap (option_map (with_bytes name bytes)) is)
  whole_by bytes (Some files) is now =
      let both : Some appends.more ≡ Some bytes = sym (with_bytes-here name appends.more files) ∙ now (with_bytes name appends.more files) (known files is) in
      let same : appends.more ≡ bytes = cc in
      grown ∙ ap (λ l. option_map (with_bytes name l) old.contents) same

  part_by : (bytes : List ℕ) (contents : Option Names) → old.contents ≡ contents → HasFront new name bytes → HasPart old new name bytes
  part_by bytes None is front = inl (grown ∙ ap (option_map (with_bytes name appends.more)) is ∙ sym is)
  part_by bytes (Some files) is front =
      let part = front (with_bytes name appends.more files) (known files is) in
      let both : Some appends.more ≡ Some (take part.0 bytes) = sym (with_bytes-here name appends.more files) ∙ part.1 in
      let same : appends.more ≡ take part.0 bytes = cc in
      inr (part.0, grown ∙ ap (λ l. option_map (with_bytes name l) old.contents) same)

  -- all of its bytes were written, and nothing else changed
  pub written_whole : (bytes : List ℕ) → HasNow new name bytes → HasBytes old new name bytes × OnlyWrites old new
  written_whole bytes now = (whole_by bytes old.contents refl now, only_writes)

  -- the last of its bytes was written
  pub streamed_whole : (bytes : List ℕ) (done : Unit {0}) → HasNow new name bytes → SameCounts begun new → IsStreamed old new name bytes (Ok done)
  streamed_whole bytes done now same = record {
    whole = whole_by bytes old.contents refl now;
    part = tt;
    cause = counts_then creates.counts same;
    only = only_writes;
  }

  -- or one of them was refused
  pub streamed_part : (bytes : List ℕ) (fault : SinkFault) → HasFront new name bytes → Caused fault begun new → IsStreamed old new name bytes (Err fault)
  streamed_part bytes fault front cause = record {
    whole = tt;
    part = part_by bytes old.contents refl front;
    cause = cause_then old begun new (Err fault) creates.counts cause;
    only = only_writes;
  }

-- bytes were appended, and then the last of them, or these were refused
pub streamed_last : (old begun mid new : Outside) (name bytes : List ℕ) (result : Result (Unit {0}) SinkFault) → Creates old begun name (Ok tt)
    → OnlyAppends begun mid name → SameCounts begun mid → OnlyAppends mid new name →
    OnOk result (HasNow new name bytes) → OnErr result (HasFront new name bytes) → HasCause mid new result → IsStreamed old new name bytes result
streamed_last old begun mid new name bytes (Ok done) creates appends same last now front cause =
    streamed_whole old begun new name creates (appends_then begun mid new name appends last) bytes done now (counts_then same cause)
streamed_last old begun mid new name bytes (Err fault) creates appends same last now front cause =
    streamed_part old begun new name creates (appends_then begun mid new name appends last) bytes fault front (cause_then begun mid new (Err fault) same cause)
