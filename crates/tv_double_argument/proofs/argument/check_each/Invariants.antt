use Rattle.tv_core.specs.Below.{sum_below}
use Rattle.tv_core.proofs.Common.{◌^◌, sequence, EmitsAll}
use Rattle.tv_double_argument.specs.Checks.{check_of, check_made, check_added}
use Rattle.tv_network.specs.Network.{output_of}
use Rattle.tv_double_argument.proofs.argument.check_each.Given as goal

abbrev pub invariant-loop-i : goal.invariant-loop-i
invariant-loop-i g l =
    let all = g.L.DoubleLines.lines l.lines in
    record {
      emits : EmitsAll g.S.Sink.meaning l.initial.s l.s
          (sequence l.i (λ i. check_of (2 ^ g.row.W) (all.kind i) (all.new i) (output_of l.outputs.network l.outputs.first i)))
          (sum_below l.i (λ i. check_made (all.kind i))) (sum_below l.i (λ i. check_added (all.kind i))) tt;
    }
