use Rattle.tv_core.proofs.Common.{◌*◌, sequence, EmitsAll}
use Rattle.tv_network.specs.Network.{kept_of, loose_slot}
use Rattle.tv_network.specs.Stages.{output_at}
use Rattle.tv_network.proofs.emission.loose.Given as goal

abbrev pub invariant-loop-j : goal.invariant-loop-j
invariant-loop-j g l =
    let n = l.levels.network in
    record {
      emits : EmitsAll g.S.Sink.meaning l.initial.s l.s
          (sequence l.j (λ j. kept_of (output_at n l.levels.first (g.I.Inputs.pair l.items) (loose_slot n j)))) (l.j * 2) (l.j * 2) tt;
    }
