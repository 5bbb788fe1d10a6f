use Rattle.tv_core.proofs.Common.{Ok, ap, None, set, sym}
use Rattle.tv_shrink.specs.Occurrences.{has_row}
use Rattle.tv_shrink.proofs.Passes.{all-fit-there, not-all_fit}
use Rattle.tv_shrink.proofs.States.{kept_more}
use Rattle.tv_shrink.proofs.state.State.others_fit.Goals as goal

pub misfit-requires : goal.misfit-requires
misfit-requires c = c.self.invariant.normal

pub returns-in_default-clause-fit : goal.returns-in_default-clause-fit
returns-in_default-clause-fit c =
    rw (← c.self.view_is)
    (sym (all-fit-there c.args.by.now.wire c.args.but c.args.by.now.terms c.self.inside.publics c.self.inside.rows (has_row c.self.inside.occurrences)
    c.self.invariant.covers (rw (← c.self.view_is) at c.requires) (c.in_ok-misfit.ensures.none (ap Ok c.in_default.is))))

pub invariant_of-self : goal.invariant_of-self
invariant_of-self c =
    kept_more c.self.inside.publics c.self.inside.rows (has_row c.self.inside.occurrences) (has_row c.add.new.self) c.self.invariant c.add.ensures.more

pub invariant_of-self-2 : goal.invariant_of-self-2
invariant_of-self-2 c =
    kept_more c.self.inside.publics c.self.inside.rows (has_row c.self.inside.occurrences) (has_row c.add.new.self) c.self.invariant c.add.ensures.more

pub returns-in_err-add-clause-same : goal.returns-in_err-add-clause-same
returns-in_err-add-clause-same c = c.self.view_is

pub returns-clause-same : goal.returns-clause-same
returns-clause-same c = c.self.view_is

pub returns-clause-fit : goal.returns-clause-fit
returns-clause-fit c =
    let found = rw c.in-Some.is at c.in_ok-misfit.ensures.some in
    rw (← c.self.view_is) (not-all_fit c.args.by.now.wire c.args.by.now.terms (set c.self.inside.rows c.args.but None) c.in-Some.row found)
