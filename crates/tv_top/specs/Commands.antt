-- What `command` promises.
use Rattle.std.specs.Prelude.{ℕ, List}
use Rattle.tv_plan.specs.Answers.{Answers}
use Rattle.tv_plan.specs.Asm.{OnAsm}
use Rattle.tv_top.specs.Build.{OnBuild}
use Rattle.tv_plan.specs.Check.{OnCheck}
use Rattle.tv_plan.specs.Claims.{Call}
use Rattle.tv_plan.specs.Disasm.{OnDisasm}
use Rattle.tv_top.specs.Extract.{OnExtract}
use Rattle.tv_top.specs.Form.{form}
use Rattle.tv_top.specs.Listing.{OnListing}
use Rattle.tv_plan.specs.Plan.{request_of}
use Rattle.tv_plan.specs.Run.{OnRun}
use Rattle.tv_top.specs.Shrink.{OnShrink}
use Rattle.tv_top.specs.Trial.{OnTrial}
use Rattle.tv_top.specs.Witness.{OnWitness}

-- what a call with these words does, of which there are `count`: what every call does, and what the command does whose
-- words they are
pub record Commands (words : List (List ℕ)) (count : ℕ) (call : Call) : Type 0 where
  pub answers : Answers (request_of (form words)) count call.before call.after call.status
  pub asm : OnAsm words call
  pub disasm : OnDisasm words call
  pub check : OnCheck words call
  pub run : OnRun words call
  pub build : OnBuild words call
  pub witness : OnWitness words call
  pub extract : OnExtract words call
  pub trial : OnTrial words count call
  pub shrink : OnShrink words call
  pub listing : OnListing words call
