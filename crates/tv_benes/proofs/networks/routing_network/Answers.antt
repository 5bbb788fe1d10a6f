use Rattle.tv_core.proofs.Common.{◌≡◌, suc, ◌-◌, ◌^◌, subst, arith}
use Rattle.std.specs.Prelude.{IfOk}
use Rattle.tv_benes.proofs.Bounds.{power_is}
use Rattle.tv_benes.proofs.NetworkChain.{ends_below}
use Rattle.tv_benes.specs.Places.{AreBelow}
use Rattle.tv_benes.proofs.networks.routing_network.Goals as goal

pub level-requires-clause-made : goal.level-requires-clause-made
level-requires-clause-made g c = rw (← power_is c.args.k c.requires.some) c.requires.made

pub returns-clause-below : goal.returns-clause-below
returns-clause-below g c =
    let m = g.S.Sink.meaning in
    let level : suc (c.args.k - 1) ≡ c.args.k = omega (arith, c.requires.some) in
    subst (λ k. IfOk c.level.result (λ o. AreBelow o (2 ^ k) (m.wires c.level.new.s))) level
    (ends_below m c.args.net (g.I.Inputs.pair c.args.inputs.now) (c.args.k - 1) _ _ _ _ c.level.result c.level.ensures.emits)
