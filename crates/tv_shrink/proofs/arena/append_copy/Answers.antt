use Rattle.tv_core.proofs.Common.{arith}
use Rattle.tv_shrink.proofs.Spans.{span_copied}
use Rattle.tv_shrink.proofs.arena.append_copy.Goals as goal

pub returns-clause-made : goal.returns-clause-made
returns-clause-made c =
    span_copied c.args.out.now.items c.args.terms.now c.args.span.now c.len-start.result (omega (arith, c.len-start.ensures)) c.requires
