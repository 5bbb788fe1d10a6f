use Rattle.tv_core.proofs.Common.{ap, inl, inr, ◌∙◌}
use Rattle.tinyr1cs_tools.proofs.FileSize.{text_is}
use Rattle.tinyr1cs_tools.specs.Sizes.{counts_text, program_system}
use Rattle.tinyr1cs_tools.proofs.sizes.print_sizes.Goals as goal

pub returns-in-Ok-text_of : goal.returns-in-Ok-text_of
returns-in-Ok-text_of g c =
    let text = c.deref.ensures.value ∙ c.in-Ok-text_of.ensures ∙ ap counts_text c.counts_of.ensures.counts
    ∙ text_is (program_system c.args.args.now.net c.args.args.now.n c.args.args.now.t c.in-Ok.program) in
    inr (c.in-Ok.program, _, c.in-Ok.ensures.found, inl (rw text at c.print.ensures))
