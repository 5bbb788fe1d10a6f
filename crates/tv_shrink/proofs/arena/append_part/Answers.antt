use Rattle.tv_core.proofs.Common.{arith, ap, length, length-append}
use Rattle.tv_shrink.specs.Substitution.{replaced}
use Rattle.tv_shrink.proofs.Linear.{replaced_short}
use Rattle.tv_shrink.proofs.arena.append_part.Goals as goal

pub overflow_cast-result : goal.overflow_cast-result
overflow_cast-result c =
    omega (
      arith,
      replaced_short 255 c.args.by.now.wire c.args.by.now.terms c.args.terms.now (omega arith) c.requires.fits (omega arith),
      ap length c.in_ok-append_replaced.ensures,
      length-append c.args.out.now.items (replaced c.args.by.now.wire c.args.by.now.terms c.args.terms.now),
    )
