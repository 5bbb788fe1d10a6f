use Rattle.tv_core.proofs.Common.{◌≡◌, ◌∙◌, None, true, false, refl, set, sym}
use Rattle.std.specs.List.{list_all}
use Rattle.tv_shrink.specs.Pass.{attempted, dropped, row_fits}
use Rattle.tv_shrink.proofs.pass.Pass.eliminate.Goals as goal

pub returns-then-not-branch : goal.returns-then-not-branch
unfolding attempted dropped
returns-then-not-branch c =
    let off : list_all (row_fits c.args.wire c.args.self.now.form.items) (set c.args.self.now.state.pass.rows c.args.at None) ≡ false =
    rw (← c.deref.ensures.value) (sym c.in_ok-others_fit.ensures.fit ∙ c.if-not-branch.true) in
    rw (c.others_fit.ensures.same, off) refl

pub substitute-requires-clause-fit : goal.substitute-requires-clause-fit
unfolding dropped
substitute-requires-clause-fit c = rw (c.remove.ensures, c.others_fit.ensures.same) (sym c.in_ok-others_fit.ensures.fit ∙ c.if-not-branch.false)

pub returns : goal.returns
unfolding attempted dropped
returns c =
    let fits : list_all (row_fits c.args.wire c.args.self.now.form.items) (set c.args.self.now.state.pass.rows c.args.at None) ≡ true =
    rw (← c.deref.ensures.value) (sym c.in_ok-others_fit.ensures.fit ∙ c.if-not-branch.false) in
    rw fits (rw (c.deref.ensures.value, c.remove.ensures, c.others_fit.ensures.same) at c.substitute.ensures)
