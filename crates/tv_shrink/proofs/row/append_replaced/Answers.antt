use Rattle.tv_core.proofs.Common.{◌++◌, sym, ◌∙◌, ap, append_assoc, subst, IsNormalFrom}
use Rattle.std.proofs.Common.{is_some}
use Rattle.std.proofs.lemmas.Result.{on_ok_weaker}
use Rattle.tv_shrink.specs.Substitution.{replaced}
use Rattle.tv_shrink.proofs.Constants.{parted}
use Rattle.tv_shrink.proofs.Linear.{replaced-made, replaced-lacking}
use Rattle.tv_shrink.proofs.row.append_replaced.Goals as goal

pub returns-in_default : goal.returns-in_default
returns-in_default c = rw (← c.by.view_is)
    (on_ok_weaker c.append.result (λ items. items
    ∙ ap (λ u. c.args.out.now.items ++ u)
    (sym (replaced-lacking c.by.inside.wire c.by.inside.replacement.now c.args.terms.now
    (sym (c.split.ensures.none (ap is_some c.in_default.is)))))) c.append.ensures)

pub merge-requires-clause-left : goal.merge-requires-clause-left
merge-requires-clause-left c =
    (parted 0 c.by.inside.wire c.in-Some.parts.1 c.in-Some.parts.0.now c.in-Some.parts.2.now
    (subst (IsNormalFrom 0) c.in-Some.ensures.parts c.requires)).front

pub returns : goal.returns
returns c = rw (← c.by.view_is)
    (on_ok_weaker c.append-2.result (λ items. items
    ∙ ap (λ u. u ++ c.in-Some.parts.2.now) c.in_ok-merge.ensures
    ∙ append_assoc c.args.out.now.items _ c.in-Some.parts.2.now
    ∙ ap (λ u. c.args.out.now.items ++ u)
    (replaced-made c.by.inside.wire _ c.by.inside.replacement.now c.in-Some.parts.0.now c.in-Some.parts.2.now
    (subst (IsNormalFrom 0) c.in-Some.ensures.parts c.requires) c.by.invariant.below
    ∙ ap (replaced c.by.inside.wire c.by.inside.replacement.now) (sym c.in-Some.ensures.parts))) c.append-2.ensures)
