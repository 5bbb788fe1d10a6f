use Rattle.tv_core.proofs.Common.{sequence, EmitsAll}
use Rattle.tv_network.specs.Stages.{item_at, stage_of, wires_before}
use Rattle.tv_network.proofs.emission.stages.Given as goal

abbrev pub invariant-loop-l : goal.invariant-loop-l
invariant-loop-l g k =
    let n = k.levels.network in
    record {
      emits : EmitsAll g.S.Sink.meaning k.initial.s k.s
          (sequence k.l (λ m. stage_of n m (item_at n k.levels.first (g.I.Inputs.pair k.items) m))) (wires_before n k.l) (wires_before n k.l) tt;
    }
