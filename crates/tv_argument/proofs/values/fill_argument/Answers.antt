use Rattle.tv_core.proofs.Common.{length, first_given, in_given, gives_refused_whole}
use Rattle.tv_argument.proofs.FillingLaws.{checks_moved, given_in}
use Rattle.tv_network.specs.Filling.{pair_at}
use Rattle.tv_stages.specs.Stages.{bit_in, through_stages}
use Rattle.tv_argument.proofs.values.fill_argument.Goals as goal

pub returns-in_err-fill_network : goal.returns-in_err-fill_network
returns-in_err-fill_network g c =
    gives_refused_whole _ _ _ _ _ _ c.from_residual.ensures (first_given _ (rw c.network_on.ensures at c.in_err-fill_network.ensures.gives))

pub returns-clause-gives : goal.returns-clause-gives
returns-clause-gives g c =
    let moved = rw c.network_on.ensures at c.in_ok-fill_network.ensures.moved in
    let same = checks_moved (g.L.LineNumbers.checks c.args.lines.now) (length c.args.items.now)
    (through_stages c.args.net (length c.args.items.now) (bit_in c.args.net (length c.args.items.now) c.args.bits.now) (pair_at c.args.items.now)) _
    (g.L.LineNumbers.lines c.args.lines.now) c.requires.items moved in
    in_given _ _ _ (rw c.network_on.ensures at c.in_ok-fill_network.ensures.gives) (given_in g.V.Values.giving _ _ _ _ same _ c.fill_checks.ensures.gives)
