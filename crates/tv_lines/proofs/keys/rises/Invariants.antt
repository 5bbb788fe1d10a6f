use Rattle.tv_core.proofs.Common.{ℕ, ◌≤◌, turns, less, top, wire, Combination, EmitsAll}
use Rattle.tv_bits.specs.Prefixes.{next_product}
use Rattle.tv_lines.specs.SortedPair.{prefix_less}
use Rattle.tv_lines.proofs.keys.rises.Given as goal

abbrev pub invariant-loop-i : goal.invariant-loop-i
invariant-loop-i g l =
    let factor : ℕ → Combination = λ j. less (prefix_less l.apart l.before l.after j) (wire l.size) in
    record {
      emits : EmitsAll g.S.Sink.meaning l.initial.s l.s (turns l.i (next_product factor) (factor 0)) l.i l.i l.scratch.a;
      made : top l.scratch.a ≤ g.S.Sink.meaning.wires l.s;
    }
