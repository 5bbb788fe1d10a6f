use Rattle.tv_core.proofs.Common.{ℕ, List, ap, subst, first_given, in_given, gives_refused_whole}
use Rattle.tv_core.proofs.ValuesChain.{some_given}
use Rattle.tv_core.specs.Values.{GivesIn}
use Rattle.tv_regs.specs.declared.triple.Curve.{Curve}
use Rattle.tv_regs.proofs.Alike.{some_as, values_by}
use Rattle.tv_regs.proofs.triple.fill_triple.Goals as goal

pub returns-in_err-fill_roots : goal.returns-in_err-fill_roots
returns-in_err-fill_roots g c = gives_refused_whole _ _ _ _ _ _ c.from_residual.ensures (first_given _ c.in_err-fill_roots.ensures.gives)

pub returns-in_err-give_values : goal.returns-in_err-give_values
returns-in_err-give_values g c =
    let same = ap (λ (k : Curve). values_by c.args.other c.args.named c.args.dest c.args.regs.now k) c.curve_through-curve.ensures in
    gives_refused_whole _ _ _ _ _ _ c.from_residual-in_err-give_values.ensures
    (some_as same (some_given _ c.in_ok-fill_roots.ensures.gives (first_given _ c.in_err-give_values.ensures.gives)))

pub returns-in_err-fill_passing : goal.returns-in_err-fill_passing
returns-in_err-fill_passing g c =
    let same = ap (λ (k : Curve). values_by c.args.other c.args.named c.args.dest c.args.regs.now k) c.curve_through-curve.ensures in
    gives_refused_whole _ _ _ _ _ _ c.from_residual-in_err-fill_passing.ensures
    (some_as same (some_given _ c.in_ok-fill_roots.ensures.gives (some_given _ c.in_ok-give_values.ensures.gives
    (first_given _ c.in_err-fill_passing.ensures.gives))))

pub returns-in_err-fill_point : goal.returns-in_err-fill_point
returns-in_err-fill_point g c =
    let same = ap (λ (k : Curve). values_by c.args.other c.args.named c.args.dest c.args.regs.now k) c.curve_through-curve.ensures in
    gives_refused_whole _ _ _ _ _ _ c.from_residual-in_err-fill_point.ensures
    (some_as same (some_given _ c.in_ok-fill_roots.ensures.gives (some_given _ c.in_ok-give_values.ensures.gives
    (some_given _ c.in_ok-fill_passing.ensures.gives (first_given _ c.in_err-fill_point.ensures.gives)))))

pub returns-in_err-fill_point-2 : goal.returns-in_err-fill_point-2
returns-in_err-fill_point-2 g c =
    let same = ap (λ (k : Curve). values_by c.args.other c.args.named c.args.dest c.args.regs.now k) c.curve_through-curve.ensures in
    gives_refused_whole _ _ _ _ _ _ c.from_residual-in_err-fill_point-2.ensures
    (some_as same (some_given _ c.in_ok-fill_roots.ensures.gives (some_given _ c.in_ok-give_values.ensures.gives
    (some_given _ c.in_ok-fill_passing.ensures.gives (some_given _ c.in_ok-fill_point.ensures.gives
    (first_given _ c.in_err-fill_point-2.ensures.gives))))))

pub returns-clause-gives : goal.returns-clause-gives
returns-clause-gives g c =
    let same = ap (λ (k : Curve). values_by c.args.other c.args.named c.args.dest c.args.regs.now k) c.curve_through-curve.ensures in
    subst (λ (l : List ℕ). GivesIn g.V.Values.giving c.args.v.now c.fill_point-3.new.v l c.fill_point-3.result) same
    (in_given _ _ _ c.in_ok-fill_roots.ensures.gives (in_given _ _ _ c.in_ok-give_values.ensures.gives
    (in_given _ _ _ c.in_ok-fill_passing.ensures.gives (in_given _ _ _ c.in_ok-fill_point.ensures.gives
    (in_given _ _ _ c.in_ok-fill_point-2.ensures.gives c.fill_point-3.ensures.gives)))))
