use Rattle.tv_core.proofs.Common.{refused, some_first, then_in}
use Rattle.tv_scan.specs.Scan.{look_of}
use Rattle.tv_scan.proofs.scans.look.Goals as goal

pub returns-in_err-same-clause-emits : goal.returns-in_err-same-clause-emits
unfolding look_of
returns-in_err-same-clause-emits g c =
    let flag = rw (c.minus.ensures.terms, c.from_terms-apart.ensures, c.terms.ensures.terms) at c.in_err-same.ensures.emits in
    refused _ _ _ c.from_residual.ensures.1 (some_first _ flag)

pub returns-clause-emits : goal.returns-clause-emits
unfolding look_of
returns-clause-emits g c =
    let flag = rw (c.minus.ensures.terms, c.from_terms-apart.ensures, c.terms.ensures.terms) at c.in_ok-same.ensures.emits in
    then_in _ _ _ _ _ flag c.select.ensures.emits
