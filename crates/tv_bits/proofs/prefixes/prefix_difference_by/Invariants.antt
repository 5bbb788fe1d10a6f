use Rattle.tv_core.proofs.Common.{ℕ, ◌*◌, ◌≤◌, turns, top, Combination, EmitsAll}
use Rattle.tv_bits.specs.Prefixes.{prefix_less, next_product}
use Rattle.tv_bits.proofs.prefixes.prefix_difference_by.Given as goal

abbrev pub invariant-loop-i : goal.invariant-loop-i
invariant-loop-i g l =
    let factor : ℕ → Combination = λ j. prefix_less l.x l.y l.d (l.chunk * j) in
    record {
      emits : EmitsAll g.S.Sink.meaning l.initial.s l.s (turns l.i (next_product factor) (factor 0)) l.i l.i l.scratch.a;
      made : top l.scratch.a ≤ g.S.Sink.meaning.wires l.s;
    }
