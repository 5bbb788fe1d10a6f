use Rattle.tv_core.proofs.Common.{refused_whole, some_first, all_last, refl}
use Rattle.tv_regs.specs.Triple.{passes_of}
use Rattle.tv_regs.proofs.triple.passes.Goals as goal

pub returns-in_err-ratio_by : goal.returns-in_err-ratio_by
unfolding passes_of
returns-in_err-ratio_by g c =
    let sides = rw (c.set_cubic.ensures.terms, c.set_departure.ensures.terms) at c.in_err-ratio_by.ensures.emits in
    refused_whole _ _ _ c.from_residual.ensures (some_first _ sides)

pub returns : goal.returns
unfolding passes_of
returns g c = record { emits = all_last _ (rw (c.set_cubic.ensures.terms, c.set_departure.ensures.terms) at c.in_ok-ratio_by.ensures.emits) refl }
