use Rattle.tv_core.proofs.Common.{◌∙◌, ℕ, arith, ap, get_or, set, length}
use Rattle.std.proofs.lemmas.List.{get_or_default}
use Rattle.std.proofs.lemmas.List.Edits.{map_over_more}
use Rattle.tv_r1cs_write.specs.Bytes.{others}
use Rattle.tv_shrink.proofs.arena.renumber_terms.Goals as goal

pub loop-term-preserved : goal.loop-term-preserved
loop-term-preserved c =
    let term : ℕ × ℕ = get_or c.loop-term.terms c.loop-term.term-index c.term-item.result in
    ap (λ w. set c.loop-term.terms c.loop-term.term-index (term.0, w)) c.get.ensures
    ∙ map_over_more (λ (t : ℕ × ℕ). (t.0, length (others t.1 c.args.numbers.now))) c.args.terms.now c.loop-term.terms c.loop-term.term-index term
    (omega arith) c.loop-term.invariant (get_or_default c.loop-term.terms c.loop-term.term-index c.term-item.result term (omega arith))
