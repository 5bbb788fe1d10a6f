use Rattle.tv_core.proofs.Common.{◌≡◌, ◌+◌, arith}
use Rattle.tv_limb.specs.Sum.{add_of}
use Rattle.tv_limb.proofs.sums.add.Goals as goal

pub returns-clause-emits : goal.returns-clause-emits
unfolding add_of
returns-clause-emits g c =
    let two : g.row.W + 1 + 1 ≡ g.row.W + 2 = omega arith in
    rw (c.plus_to.ensures.terms, c.lc-sum.ensures.terms, c.requires.x_word.size, c.requires.y_word.size, two) at c.split.ensures.emits
