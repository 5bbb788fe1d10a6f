-- The last bytes that are held.
use Rattle.tv_core.proofs.Common.{◌≡◌, ℕ, List, [], ◌++◌, Some, Result, Ok, Err, append-nil, ap, sym, ◌∙◌}
use Rattle.tv_container.specs.Taking.{PassesOn}
use Rattle.tv_container.proofs.Written.{has_more, has_front}
use Rattle.tv_core.specs.declared.sink.SinkFault.{SinkFault}
use Rattle.tv_files.specs.Outside.{Outside}
use Rattle.tv_wtns.specs.Bytes.{file_bytes}
use Rattle.tv_wtns.specs.Takers.{Taker, Finishes}

-- the last call answers what became of them
pub finished : (taker : Taker) (new : Outside) (held : List ℕ) (outcome : Result (Unit {0}) SinkFault) →
    PassesOn taker.outside new taker.name (taker.progress.held ++ []) held outcome → held ≡ [] → Finishes taker new outcome
finished taker new held (Ok unit) passes none = record {
  whole = λ values stands files known.
      let bytes = file_bytes taker.progress.count values in
      let has = has_more taker.outside new taker.name taker.progress.held bytes [] held stands.written passes.done files known in
      has.1 ∙ ap Some (sym (append-nil has.0) ∙ ap (λ rest. has.0 ++ rest) (sym none) ∙ has.2 ∙ append-nil bytes);
  part = λ values stands. tt;
  only = passes.only;
  cause = passes.cause;
}
finished taker new held (Err fault) passes none = record {
  whole = λ values stands. tt;
  part = λ values stands.
      let bytes = file_bytes taker.progress.count values in
      rw (← append-nil bytes) (has_front taker.outside new taker.name taker.progress.held bytes [] stands.written passes.refused);
  only = passes.only;
  cause = passes.cause;
}
