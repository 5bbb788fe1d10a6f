use Rattle.tv_core.proofs.Common.{refl}
use Rattle.tv_plan.proofs.CheckClaim.{check_twice, finds_once, finds_verdict, finds_wires}
use Rattle.tv_plan.proofs.LookLaws.{finds_on, finds_short, finds_still}
use Rattle.tv_plan.proofs.check.verdict_on.Goals as goal

pub returns-in_err-counts : goal.returns-in_err-counts
unfolding check_twice
returns-in_err-counts g c = finds_once _ _ _ _ _ _ (finds_short _ _ _ _ c.from_residual.ensures.1 c.in_err-counts.ensures)

pub returns-in_err-first : goal.returns-in_err-first
unfolding check_twice
returns-in_err-first g c = finds_once _ _ _ _ _ _
    (finds_on _ c.in_ok-counts.ensures (finds_short _ _ _ _ c.from_residual-in_err-first.ensures.1 c.in_err-first.ensures))

pub returns-in_err-publics : goal.returns-in_err-publics
unfolding check_twice
returns-in_err-publics g c = finds_once _ _ _ _ _ _
    (finds_on _ c.in_ok-counts.ensures (finds_on _ c.in_ok-first.ensures
    (finds_short _ _ _ _ c.from_residual-in_err-publics.ensures.1 c.in_err-publics.ensures)))

pub returns-then-first-counts : goal.returns-then-first-counts
unfolding check_twice
returns-then-first-counts g c =
    finds_once _ _ _ _ _ _ (finds_on _ c.in_ok-counts.ensures (finds_on _ c.in_ok-first.ensures (finds_on _ c.in_ok-publics.ensures
    (finds_verdict _ _ _ _ _ _ _ c.if-first-counts.true (rw (c.deref.ensures.value, c.deref-then-first-counts.ensures.value) at c.judge_system.ensures)))))

pub returns-in_err-survey_system : goal.returns-in_err-survey_system
unfolding check_twice
returns-in_err-survey_system g c =
    finds_once _ _ _ _ _ _ (finds_on _ c.in_ok-counts.ensures (finds_on _ c.in_ok-first.ensures (finds_on _ c.in_ok-publics.ensures
    (finds_wires _ _ _ _ _ _ _ c.if-first-counts.false (finds_short _ _ _ _ c.from_residual-in_err-survey_system.ensures.1 c.in_err-survey_system.ensures)))))

pub returns : goal.returns
unfolding check_twice
returns g c =
    finds_once _ _ _ _ _ _ (finds_on _ c.in_ok-counts.ensures (finds_on _ c.in_ok-first.ensures (finds_on _ c.in_ok-publics.ensures
    (finds_wires _ _ _ _ _ _ _ c.if-first-counts.false
    (finds_on _ c.in_ok-survey_system.ensures (finds_still (λ files known. rw (c.from.ensures, c.from-2.ensures) refl)))))))
