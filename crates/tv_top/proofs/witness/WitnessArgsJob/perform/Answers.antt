use Rattle.tv_core.proofs.Common.{refl}
use Rattle.tv_plan.specs.Inputs.{run_end}
use Rattle.tv_top.specs.Witness.{witness_asks}
use Rattle.tv_plan.proofs.AnswerLaws.{does_stopped, does_found}
use Rattle.tv_top.proofs.WitnessClaim.{may_end}
use Rattle.tv_top.proofs.witness.WitnessArgsJob.perform.Goals as goal

pub returns-in_err-inputs : goal.returns-in_err-inputs
returns-in_err-inputs g c = does_stopped (witness_asks c.args.self) _ _ _ _ _ _ _ refl c.in_err-inputs.ensures.found c.from_residual.ensures.1

pub returns-in-Bits16 : goal.returns-in-Bits16
returns-in-Bits16 g c =
    does_found (witness_asks c.args.self) _ _ _ _ _ _ _ _ refl
    (may_end c.args.self.net c.args.self.t c.in_ok-inputs.inputs
    (run_end c.args.self.t c.in_ok-inputs.inputs)) c.in_ok-inputs.ensures.found c.write_witness.ensures

pub returns : goal.returns
returns g c =
    does_found (witness_asks c.args.self) _ _ _ _ _ _ _ _ refl
    (may_end c.args.self.net c.args.self.t c.in_ok-inputs.inputs
    (run_end c.args.self.t c.in_ok-inputs.inputs)) c.in_ok-inputs.ensures.found c.write_witness-in-Bits32.ensures
