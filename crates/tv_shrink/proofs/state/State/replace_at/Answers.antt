use Rattle.tv_core.proofs.Common.{◌≤◌, ◌∙◌, None, ap, arith, get_or, length, refl, subst, sym}
use Rattle.std.proofs.lemmas.List.{set-get_or, set_past}
use Rattle.tv_shrink.specs.Pass.{row_fits}
use Rattle.tv_shrink.specs.Occurrences.{has_row}
use Rattle.tv_shrink.specs.Tidy.{RowIsNormal, State}
use Rattle.tv_shrink.proofs.Elements.{each_at}
use Rattle.tv_shrink.proofs.Passes.{lacks_below, row-lacking-same}
use Rattle.tv_shrink.proofs.States.{kept_more, kept_replaced}
use Rattle.tv_shrink.proofs.state.State.replace_at.Goals as goal

pub row_has-requires : goal.row_has-requires
row_has-requires c = subst RowIsNormal (sym c.get.ensures) (each_at RowIsNormal c.self.inside.rows c.args.at None tt c.self.invariant.normal)

pub replace-requires-clause-normal : goal.replace-requires-clause-normal
replace-requires-clause-normal c = each_at RowIsNormal c.self.inside.rows c.args.at None tt c.self.invariant.normal

pub replace-requires-clause-fits : goal.replace-requires-clause-fits
replace-requires-clause-fits c =
    ap (λ (s : State). row_fits c.args.by.now.wire c.args.by.now.terms (get_or s.pass.rows c.args.at None)) c.self.view_is ∙ c.requires

pub returns-then-at-len : goal.returns-then-at-len
returns-then-at-len c =
    let past : length c.args.self.now.pass.rows ≤ c.args.at =
    omega (arith, c.if-at-len.true, c.len.ensures, ap (λ (s : State). length s.pass.rows) c.self.view_is) in
    rw set_past refl

pub returns-then-not-row_has : goal.returns-then-not-row_has
returns-then-not-row_has c =
    let lacks = rw c.get.ensures at (sym c.row_has.ensures ∙ c.if-not-row_has.true) in
    rw (
      ← c.self.view_is,
      ← c.by.view_is,
      row-lacking-same c.by.inside.wire c.by.inside.replacement.now (get_or c.self.inside.rows c.args.at None) lacks,
      set-get_or,
    ) refl

pub invariant_of-self : goal.invariant_of-self
invariant_of-self c =
    kept_more c.self.inside.publics c.self.inside.rows (has_row c.self.inside.occurrences) (has_row c.file.new.self) c.self.invariant c.file.ensures.more

pub invariant_of-self-2 : goal.invariant_of-self-2
invariant_of-self-2 c =
    kept_replaced c.self.inside.publics c.by.inside.wire c.args.at c.by.inside.replacement.now c.self.inside.rows
    (has_row c.self.inside.occurrences) (has_row c.file.new.self) c.self.invariant
    (lacks_below c.by.inside.wire c.by.inside.replacement.now c.by.invariant.below)
    c.in_ok-file.ensures.more
    c.in_ok-file.ensures.added
    c.replace.result c.replace.new.self (rw (← c.by.view_is) at c.replace.ensures.replaces) c.replace.ensures.err
