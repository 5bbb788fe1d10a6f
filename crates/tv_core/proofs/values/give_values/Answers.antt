use Rattle.std.proofs.Common.{sym, subst}
use Rattle.std.proofs.lemmas.List.{take_all}
use Rattle.tv_core.proofs.ValuesChain.{gives_next, gives_next_refused, gives_refused}
use Rattle.tv_core.specs.Values.{GivesAll}
use Rattle.tv_core.proofs.values.give_values.Goals as goal

pub returns-in_err-give-clause-gives : goal.returns-in_err-give-clause-gives
returns-in_err-give-clause-gives g c =
    gives_refused g.V.Values.giving _ _ _ c.from_residual.result c.from_residual.ensures.1
    (gives_next_refused g.V.Values.giving c.args.values.now c.loop-value.value-index c.value-item.result c.loop-value-test.true (sym c.value-item.is) _ _ _ _
    c.loop-value.invariant.0 c.in_err-give.ensures.gives)

pub loop-value-preserved : goal.loop-value-preserved
loop-value-preserved g c = (
  gives_next g.V.Values.giving c.args.values.now c.loop-value.value-index c.value-item.result c.loop-value-test.true (sym c.value-item.is) _ _ _
      c.loop-value.invariant.0 c.in_ok-give.ensures.gives,
  c.in_ok-give.ensures.whole,
)

pub returns : goal.returns
returns g c = record {
  gives = subst (λ l. GivesAll g.V.Values.giving c.args.v.now c.loop-value.v l) (take_all c.loop-value.value-index c.args.values.now c.loop-value-test.false)
      c.loop-value.invariant.0;
  whole = c.loop-value.invariant.1;
}
