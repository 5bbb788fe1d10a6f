use Rattle.tv_core.proofs.Common.{ℕ, ◌++◌, ◌∷◌, ◌∙◌, ap, ap₂, append_assoc, get_or, sym, take, []}
use Rattle.std.proofs.lemmas.List.{take_more}
use Rattle.tv_shrink.proofs.row.append.Goals as goal

pub loop-term-preserved : goal.loop-term-preserved
loop-term-preserved c =
    let terms = c.args.terms.now in
    let at = c.loop-term.term-index in
    let term : ℕ × ℕ = get_or terms at c.term-item.result in
    c.in_ok-push.ensures.items
    ∙ ap₂ (λ items last. items ++ last ∷ []) c.loop-term.invariant c.term-item.is
    ∙ append_assoc c.args.out.now.items (take at terms) (term ∷ [])
    ∙ ap (λ items. c.args.out.now.items ++ items) (sym (take_more terms at c.term-item.result c.loop-term-test.true))
