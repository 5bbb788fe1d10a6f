use Rattle.tv_core.proofs.Common.{◌≤◌, ap, arith, length}
use Rattle.std.proofs.lemmas.Option.{slice_get_past}
use Rattle.tv_outline.proofs.TurnLaws.{coefficient_same}
use Rattle.tv_outline.proofs.turn.coefficient_in.Goals as goal

pub returns-in-None : goal.returns-in-None
returns-in-None c =
    let past : length c.args.region.now.rates.items ≤ c.args.term.rate = omega (arith, c.in-None.ensures.lookup.3, ap length c.deref.ensures.value) in
    let same = coefficient_same c.args.region.now c.args.values.now c.args.term (slice_get_past _ _ past) in
    cc (same)
