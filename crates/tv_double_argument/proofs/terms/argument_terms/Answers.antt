use Rattle.tv_core.proofs.Common.{◌^◌}
use Rattle.tv_double_argument.proofs.Made.{items_taken}
use Rattle.tv_double_argument.proofs.terms.argument_terms.Goals as goal

pub network_terms-requires-clause-items : goal.network_terms-requires-clause-items
network_terms-requires-clause-items g c =
    rw (c.network_on-on.ensures, c.count.ensures) (items_taken c.args.net (2 ^ g.row.W) c.args.first (g.L.DoubleLines.lines c.args.lines.now) c.requires.few
    c.requires.made)
