use Rattle.tv_core.proofs.Common.{◌*◌, sequence, EmitsAll}
use Rattle.tv_network.specs.Stages.{form_of, item_at, lower_slot, upper_slot}
use Rattle.tv_network.specs.Switches.{width, switch_of}
use Rattle.tv_network.proofs.emission.stage.Given as goal

abbrev pub invariant-loop-at : goal.invariant-loop-at
invariant-loop-at g k =
    let n = k.levels.network in
    let item = item_at n k.levels.first (g.I.Inputs.pair k.items) k.fn.l in
    record {
      emits : EmitsAll g.S.Sink.meaning k.initial.s k.s
          (sequence k.at (λ at. switch_of (form_of n k.fn.l) (item (lower_slot n k.fn.l at)) (item (upper_slot n k.fn.l at))))
          (k.at * width (form_of n k.fn.l)) (k.at * width (form_of n k.fn.l)) tt;
    }
