use Rattle.tv_core.proofs.Common.{◌∷◌, [], ◌++◌, ◌∙◌, sym, ap, length, arith}
use Rattle.tv_outline.proofs.ListLaws.{off, on}
use Rattle.tv_outline.proofs.TurnLaws.{combination_none, combination_passed, combination_taken}
use Rattle.tv_outline.proofs.turn.set_combination.Goals as goal
use Rattle.tv_outline.proofs.turn.set_combination.Goals.{then-ne, else-ne}

pub loop-term-init : goal.loop-term-init
loop-term-init c = record {
  terms = c.clear.ensures ∙ sym (combination_none c.args.region.now c.args.values.now);
  few = omega (arith, ap length c.clear.ensures);
}

pub loop-term-preserved : goal.loop-term-preserved
loop-term-preserved c =
    let k = c.coefficient_in-coefficient.result in
    elim c.if-ne.branch [
      | then-ne w ↦ record {
        terms = w.lc-is ∙ w.plus.ensures.terms ∙ ap (λ l. l ++ (k, w.wire_in.result) ∷ []) c.loop-term.invariant.terms
            ∙ sym (combination_taken c.args.region.now c.args.values.now c.args.terms.now c.loop-term.term-index c.term-item.result k w.wire_in.result
            c.loop-term-test.true c.term-item.is c.coefficient_in-coefficient.ensures w.wire_in.ensures (off _ (sym c.ne.ensures ∙ w.if-ne.true)));
        few = omega (arith, ap length w.lc-is, w.plus.ensures.len);
      }
      | else-ne w ↦ record {
        terms = w.lc-is ∙ c.loop-term.invariant.terms
            ∙ sym (combination_passed c.args.region.now c.args.values.now c.args.terms.now c.loop-term.term-index c.term-item.result k
            c.loop-term-test.true c.term-item.is c.coefficient_in-coefficient.ensures (on _ (sym c.ne.ensures ∙ w.if-ne.false)));
        few = omega (arith, ap length w.lc-is);
      }
    ]
