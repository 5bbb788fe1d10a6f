use Rattle.tv_core.proofs.Common.{All, arith, refl, subst}
use Rattle.std.proofs.lemmas.List.{take_all}
use Rattle.std.proofs.lemmas.List.Elements.{All-more}
use Rattle.tv_outline.specs.Expansion.{IsShort}
use Rattle.tv_outline.proofs.outline.are_short.Goals as goal

pub loop-row-preserved : goal.loop-row-preserved
loop-row-preserved c =
    let short : IsShort c.row-item.result = record { a = omega arith; b = omega arith; c = omega arith } in
    All-more IsShort c.args.rows.now c.loop-row.row-index c.row-item.result c.loop-row-test.true c.loop-row.invariant (subst IsShort c.row-item.is short)

pub returns : goal.returns
returns c = (λ _. subst (All IsShort) (take_all c.loop-row.row-index c.args.rows.now c.loop-row-test.false) c.loop-row.invariant, λ _. refl)
