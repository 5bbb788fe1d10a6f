use Rattle.tv_core.proofs.Common.{◌≡◌, ℕ, List, Result, Ok, Err, inl, refl, rules}
use Rattle.std.proofs.Common.{OnOk, OnErr}
use Rattle.tv_files.specs.Whole.{HasBytes, HasPart}
use Rattle.tv_files.specs.declared.calls.FileRefusal.{FileRefusal}
use Rattle.tv_files.specs.declared.calls.FileRefusal.TheVariants as refusal
use Rattle.tv_plan.specs.Contents.{Content.{Bytes}}
use Rattle.tv_plan.specs.Plan.{named, one_write}
use Rattle.tv_plan.proofs.Common.{Outside, OnlyWrites, RanOut, SameCounts, Rose, Named, Stop, Fault, Memory, Writes}
use Rattle.tv_plan.proofs.ContainerReads.{came}
use Rattle.tv_plan.proofs.output.write_bytes.Goals as goal

-- what a refusal of the file at a word stops
abbrev stop_of : ℕ → FileRefusal → Stop
stop_of word refusal.Failed = Fault word
stop_of word refusal.Memory = Memory

wrote : (place : Named) (bytes : List ℕ) (old new : Outside) (written : Result (Unit {0}) FileRefusal) → OnOk written (HasBytes old new place.name bytes)
    → OnErr written (HasPart old new place.name bytes) →
    (written ≡ Err refusal.Failed → Rose old.write_faults new.write_faults) → (written ≡ Err refusal.Memory → RanOut old new)
    → OnOk written (SameCounts old new) → OnlyWrites old new → Writes (one_write place (Bytes bytes)) old new (came (stop_of place.word) written)
wrote place bytes old new (Ok done) whole part faulty wanting quiet only = record { ended = (whole, (tt, tt)); quiet = quiet; only = only }
wrote place bytes old new (Err refusal.Failed) whole part faulty wanting quiet only = record {
  ended = (inl (refl, part), faulty refl);
  quiet = tt;
  only = only;
}
wrote place bytes old new (Err refusal.Memory) whole part faulty wanting quiet only = record {
  ended = (place.word, inl (refl, part), wanting refl);
  quiet = tt;
  only = only;
}

pub returns : goal.returns
returns g c =
    let came : c.map_err.result ≡ came (stop_of c.args.place.word) c.write_file.result = search rules in
    rw came (wrote
    (named c.args.place) c.args.bytes.now _ _ c.write_file.result c.write_file.ensures.whole c.write_file.ensures.part c.write_file.ensures.failed
    c.write_file.ensures.memory c.write_file.ensures.counts c.write_file.ensures.only)
