-- The end of a file: the labels, and the last bytes that are held.
use Rattle.tv_core.proofs.Common.{◌≡◌, ℕ, ◌*◌, List, [], ◌++◌, length, Some, Result, Ok, Err, append_assoc, append-nil, ap, sym, ◌∙◌, arith, Constraint}
use Rattle.tv_container.specs.Bytes.{section_head}
use Rattle.tv_container.specs.Taking.{PassesOn}
use Rattle.tv_core.specs.declared.sink.SinkFault.{SinkFault}
use Rattle.tv_files.specs.Outside.{Outside}
use Rattle.tv_r1cs_write.specs.Bytes.{head_bytes, rows_bytes, label_bytes}
use Rattle.tv_r1cs_write.specs.Streams.{SystemProgress, Stream, Finishes, begun_bytes, finished_bytes}
use Rattle.tv_r1cs_write.proofs.Sizes.{length-label_bytes}
use Rattle.tv_container.proofs.Written.{has_more, has_front}

-- what stands after the constraints
abbrev pub last_bytes : SystemProgress → List ℕ → List ℕ
last_bytes progress labels = section_head 3 (8 * progress.counts.wires) ++ label_bytes labels

-- the bytes before the labels, and then these, are the file
finished : (progress : SystemProgress) (list : List Constraint) (labels : List ℕ) → length labels ≡ progress.counts.wires →
    begun_bytes progress list ++ last_bytes progress labels ≡ finished_bytes progress list labels
finished progress list labels each =
    let size : 8 * progress.counts.wires ≡ length (label_bytes labels) = omega (arith, each, length-label_bytes labels) in
    append_assoc (head_bytes progress.counts progress.labels) (rows_bytes list) (last_bytes progress labels)
    ∙ ap (λ n. head_bytes progress.counts progress.labels ++ (rows_bytes list ++ (section_head 3 n ++ label_bytes labels))) size

-- the last call answers what became of these bytes
pub finished_by : (sink : Stream) (new : Outside) (labels held : List ℕ) (outcome : Result (Unit {0}) SinkFault) → length labels ≡ sink.progress.counts.wires →
    PassesOn sink.outside new sink.name (sink.progress.held ++ last_bytes sink.progress labels) held outcome → held ≡ [] → Finishes sink new labels outcome
finished_by sink new labels held (Ok unit) each passes none = record {
  whole = λ list stands files known.
      let has = has_more sink.outside new sink.name sink.progress.held (begun_bytes sink.progress list)
      (last_bytes sink.progress labels) held stands.written passes.done files known in
      has.1 ∙ ap Some (sym (append-nil has.0) ∙ ap (λ rest. has.0 ++ rest) (sym none) ∙ has.2 ∙ finished sink.progress list labels each);
  part = λ list stands. tt;
  only = passes.only;
  cause = passes.cause;
}
finished_by sink new labels held (Err fault) each passes none = record {
  whole = λ list stands. tt;
  part = λ list stands.
      rw (← finished sink.progress list labels each)
      (has_front sink.outside new sink.name sink.progress.held (begun_bytes sink.progress list)
      (last_bytes sink.progress labels) stands.written passes.refused);
  only = passes.only;
  cause = passes.cause;
}
