use Rattle.tv_core.proofs.Common.{some_then, some_first, refused_whole}
use Rattle.tv_core.proofs.Chain.{then_in}
use Rattle.tv_network.specs.Network.{kept_of}
use Rattle.tv_network.proofs.emission.kept.Goals as goal

pub returns-in_err-put : goal.returns-in_err-put
unfolding kept_of
returns-in_err-put g c =
    let put = rw (c.set_wire.ensures.terms, c.set_wire-2.ensures.terms) at c.in_err-put.ensures.emits in
    refused_whole _ _ _ c.from_residual.ensures (some_then _ c.fresh-first.ensures.emits (some_first _ put))

pub returns : goal.returns
unfolding kept_of
returns g c =
    let first = rw (c.set_wire.ensures.terms, c.set_wire-2.ensures.terms) at c.in_ok-put.ensures.emits in
    let second = rw (c.set_wire.ensures.terms, c.set_wire-3.ensures.terms) at c.put-2.ensures.emits in
    record { emits = then_in _ _ 1 2 _ c.fresh-first.ensures.emits (then_in _ _ 1 1 _ first (then_in _ _ 0 1 _ c.fresh-second.ensures.emits second)) }
