use Rattle.tv_core.proofs.Common.{◌∙◌, ◌*◌, ◌%◌, ℕ, arith, ap, get_or, set}
use Rattle.std.proofs.lemmas.List.{get_or_default}
use Rattle.std.proofs.lemmas.List.Edits.{map_over_more}
use Rattle.tv_core.specs.declared.field.TheConstants.{P}
use Rattle.tv_shrink.proofs.row.scale.Goals as goal

pub loop-term-preserved : goal.loop-term-preserved
loop-term-preserved c =
    let term : ℕ × ℕ = get_or c.loop-term.terms c.loop-term.term-index c.term-item.result in
    ap (λ k. set c.loop-term.terms c.loop-term.term-index (k, term.1)) c.mul-term.ensures
    ∙ map_over_more (λ (t : ℕ × ℕ). (c.args.factor * t.0 % P, t.1)) c.args.terms.now c.loop-term.terms c.loop-term.term-index term
    (omega arith) c.loop-term.invariant (get_or_default c.loop-term.terms c.loop-term.term-index c.term-item.result term (omega arith))
