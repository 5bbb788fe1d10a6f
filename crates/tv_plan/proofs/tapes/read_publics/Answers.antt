use Rattle.tv_core.proofs.Common.{sym, ◌∙◌, arith}
use Rattle.tv_core.specs.declared.field.TheConstants.{P}
use Rattle.tv_core.specs.declared.limits.TheConstants.{CHECK_WORDS}
use Rattle.tv_tape.proofs.Narrow.{residues_same}
use Rattle.tv_plan.proofs.LookLaws.{finds_passed, finds_view, finds_without_memory}
use Rattle.tv_plan.proofs.tapes.read_publics.Goals as goal

pub returns-in_err-numbers : goal.returns-in_err-numbers
returns-in_err-numbers g c = finds_passed _ c.from_residual.ensures.1 c.in_err-numbers.ensures.found

pub returns-in_err-residues : goal.returns-in_err-residues
returns-in_err-residues g c = finds_without_memory _ c.from_residual-in_err-residues.ensures.1 c.in_ok-numbers.ensures.found

pub returns : goal.returns
returns g c =
    let known = c.in_ok-numbers.ensures.known in
    let same = residues_same known.0 c.in_ok-numbers.numbers.items P CHECK_WORDS P (omega arith) known.1 in
    let residues = rw c.deref.ensures.value at c.in_ok-residues.ensures in
    finds_view (sym (residues ∙ same)) c.in_ok-numbers.ensures.found
