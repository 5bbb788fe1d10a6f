use Rattle.tv_core.specs.Below.{sum_below}
use Rattle.tv_core.proofs.Common.{sequence, EmitsAll}
use Rattle.tv_lines.specs.Placed.{line_in}
use Rattle.tv_argument.specs.Checks.{check_of, check_made, check_added}
use Rattle.tv_network.specs.Network.{output_of}
use Rattle.tv_argument.proofs.argument.check_all.Given as goal

abbrev pub invariant-loop-i : goal.invariant-loop-i
invariant-loop-i g l =
    let checks = g.L.CompactLines.checks l.lines in
    record {
      emits : EmitsAll g.S.Sink.meaning l.initial.s l.s
          (sequence l.i (λ i. check_of (checks.kind i) (output_of l.outputs.network l.outputs.first i) (line_in (g.L.CompactLines.lines l.lines) i)))
          (sum_below l.i (λ i. check_made (checks.kind i))) (sum_below l.i (λ i. check_added (checks.kind i))) tt;
    }
