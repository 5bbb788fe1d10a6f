use Rattle.tv_core.proofs.Common.{Ok, refl}
use Rattle.tv_top.specs.Trial.{trial_asks, no_look, trial_ends}
use Rattle.tv_plan.proofs.AnswerLaws.{does_found, completes_nothing, completes_without_memory}
use Rattle.tv_plan.proofs.LookLaws.{finds_still}
use Rattle.tv_top.proofs.trial.TrialArgsJob.perform.Goals as goal

pub returns-in_err-trial : goal.returns-in_err-trial
returns-in_err-trial g c =
    does_found (trial_asks c.args.self) (λ (u : Unit {0}). u) (λ _. trial_ends c.args.self.seed c.args.self.k) no_look tt _ _ _ _ refl refl
    (finds_still (λ _ _. refl)) (completes_without_memory _ _ _ _ c.from_residual.ensures.1)

pub returns : goal.returns
returns g c =
    does_found (trial_asks c.args.self) (λ (u : Unit {0}). u) (λ _. trial_ends c.args.self.seed c.args.self.k) no_look tt _ _ _ _ refl refl
    (finds_still (λ _ _. refl)) (completes_nothing _ _ (Ok _) _ (rw (c.in_ok-trial.ensures, c.number.ensures.number) refl))
