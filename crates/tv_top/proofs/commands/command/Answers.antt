use Rattle.tv_plan.proofs.AsmClaim.{asms}
use Rattle.tv_top.proofs.BuildClaim.{builds}
use Rattle.tv_plan.proofs.CheckClaim.{checks}
use Rattle.tv_plan.proofs.DisasmClaim.{disasms}
use Rattle.tv_top.proofs.ExtractClaim.{extracts}
use Rattle.tv_top.proofs.ListingClaim.{lists}
use Rattle.tv_plan.proofs.RunClaim.{runs}
use Rattle.tv_top.proofs.ShrinkClaim.{shrinks}
use Rattle.tv_top.proofs.TrialClaim.{trials}
use Rattle.tv_top.proofs.WitnessClaim.{witnesses}
use Rattle.tv_core.proofs.Common.{ℕ, List, refl}
use Rattle.tv_plan.proofs.Common.{Answers, Call, request_of}
use Rattle.tv_top.specs.Commands.{Commands}
use Rattle.tv_top.specs.Form.{form}
use Rattle.tv_top.proofs.commands.command.Goals as goal

commands : (words : List (List ℕ)) (count : ℕ) (call : Call) → Answers (request_of (form words)) count call.before call.after call.status
    → Commands words count call
commands words count call answers = record {
  answers = answers;
  asm = asms form (λ _. refl) words count call answers;
  disasm = disasms form (λ _. refl) words count call answers;
  check = checks form (λ _. refl) words count call answers;
  run = runs form (λ _. refl) words count call answers;
  build = builds form (λ _. refl) words count call answers;
  witness = witnesses form (λ _. refl) words count call answers;
  extract = extracts form (λ _. refl) words count call answers;
  trial = trials form (λ _. refl) words count call answers;
  shrink = shrinks form (λ _. refl) words count call answers;
  listing = lists form (λ _. refl) words count call answers;
}

pub returns : goal.returns
returns g c = commands _ _ _ c.answer.ensures
