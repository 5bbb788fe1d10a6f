use Rattle.tv_core.proofs.Common.{◌≡◌, ℕ, List, Result, refl, ap, ◌∙◌}
use Rattle.tv_tape.specs.Tape.{text_of}
use Rattle.tv_plan.specs.Contents.{Content.{Bytes}}
use Rattle.tv_plan.proofs.Common.{Named, Outside, Writes}
use Rattle.tv_plan.specs.declared.refusal.Stop.{Stop}
use Rattle.tv_plan.specs.Plan.{one_write}
use Rattle.tv_plan.proofs.AnswerLaws.{completes_whole, completes_cut, completes_without_memory}
use Rattle.tv_plan.proofs.StreamLaws.{writes_first, writes_next}
use Rattle.tv_top.proofs.extract.write_run.Goals as goal

-- a file of bytes that are these
written : {X : Type 0} (place : Named) (bytes text : List ℕ) (old new : Outside) (result : Result X Stop) → bytes ≡ text
    → Writes (one_write place (Bytes bytes)) old new result → Writes (one_write place (Bytes text)) old new result
written place bytes text old new result is writes = rw (← is) writes

pub returns-in_err-tape : goal.returns-in_err-tape
returns-in_err-tape g c = completes_without_memory _ _ _ _ c.from_residual.ensures.1

pub returns-in_err-aux : goal.returns-in_err-aux
returns-in_err-aux g c = completes_without_memory _ _ _ _ c.from_residual-in_err-aux.ensures.1

pub returns-in_err-write_bytes : goal.returns-in_err-write_bytes
returns-in_err-write_bytes g c =
    let tape = written _ _ _ _ _ _ (c.deref.ensures.value ∙ c.in_ok-tape.ensures ∙ ap text_of c.as_slice.ensures) c.in_err-write_bytes.ensures in
    completes_cut _ _ _ _ _ _ (writes_first _ _ _ _ _ tape) c.from_residual-in_err-write_bytes.ensures.1

pub returns-in_err-write_bytes-2 : goal.returns-in_err-write_bytes-2
returns-in_err-write_bytes-2 g c =
    let tape = written _ _ _ _ _ _ (c.deref.ensures.value ∙ c.in_ok-tape.ensures ∙ ap text_of c.as_slice.ensures) c.in_ok-write_bytes.ensures in
    let aux = written _ _ _ _ _ _ (c.deref-2.ensures.value ∙ c.in_ok-aux.ensures ∙ ap text_of c.as_slice-2.ensures) c.in_err-write_bytes-2.ensures in
    completes_cut _ _ _ _ _ _ (writes_next _ _ _ _ _ _ _ tape aux) c.from_residual-in_err-write_bytes-2.ensures.1

pub returns : goal.returns
returns g c =
    let tape = written _ _ _ _ _ _ (c.deref.ensures.value ∙ c.in_ok-tape.ensures ∙ ap text_of c.as_slice.ensures) c.in_ok-write_bytes.ensures in
    let aux = written _ _ _ _ _ _ (c.deref-2.ensures.value ∙ c.in_ok-aux.ensures ∙ ap text_of c.as_slice-2.ensures) c.in_ok-write_bytes-2.ensures in
    completes_whole _ _ _ _ _ _ refl (writes_next _ _ _ _ _ _ _ tape aux)
