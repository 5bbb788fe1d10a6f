use Rattle.tv_core.proofs.Common.{◌≡◌, ◌++◌, ℕ, map, take, drop, length}
use Rattle.tv_r1cs_write.specs.Bytes.{others}
use Rattle.tv_shrink.proofs.arena.renumber_terms.Given as goal

abbrev pub invariant-loop-term : goal.invariant-loop-term
invariant-loop-term l =
    l.terms ≡ map (λ (t : ℕ × ℕ). (t.0, length (others t.1 l.numbers))) (take l.term-index l.initial.terms) ++ drop l.term-index l.initial.terms
