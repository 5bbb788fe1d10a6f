use Rattle.std.proofs.Common.{◌≡◌, get_or, sym, ◌∙◌, subst}
use Rattle.std.proofs.lemmas.List.{take_all, get_or_default}
use Rattle.tv_core.proofs.ValuesChain.{gives_next, gives_next_refused, gives_refused}
use Rattle.tv_core.specs.Values.{GivesAll}
use Rattle.tv_core.proofs.values.give_words.Goals as goal

pub returns-in_err-give-clause-gives : goal.returns-in_err-give-clause-gives
returns-in_err-give-clause-gives g c =
    let xs = c.args.words.now in
    let i = c.loop-word.word-index in
    let x = c.from.result in
    let read : get_or xs i x ≡ x = get_or_default xs i x 0 c.loop-word-test.true ∙ sym c.from.ensures in
    gives_refused g.V.Values.giving _ _ _ c.from_residual.result c.from_residual.ensures.1
    (gives_next_refused g.V.Values.giving xs i x c.loop-word-test.true read _ _ _ _ c.loop-word.invariant.0 c.in_err-give.ensures.gives)

pub loop-word-preserved : goal.loop-word-preserved
loop-word-preserved g c =
    let xs = c.args.words.now in
    let i = c.loop-word.word-index in
    let x = c.from.result in
    let read : get_or xs i x ≡ x = get_or_default xs i x 0 c.loop-word-test.true ∙ sym c.from.ensures in
    let given = gives_next g.V.Values.giving xs i x c.loop-word-test.true read _ _ _ c.loop-word.invariant.0 c.in_ok-give.ensures.gives in
    (given, c.in_ok-give.ensures.whole)

pub returns : goal.returns
returns g c = record {
  gives = subst (λ l. GivesAll g.V.Values.giving c.args.v.now c.loop-word.v l) (take_all c.loop-word.word-index c.args.words.now c.loop-word-test.false)
      c.loop-word.invariant.0;
  whole = c.loop-word.invariant.1;
}
