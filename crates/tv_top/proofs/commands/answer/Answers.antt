use Rattle.tv_core.proofs.Common.{◌≡◌, ℕ, ◌<◌, List, [], ◌∷◌, length, map, Err, refl, arith, rules, common_steps}
use Rattle.std.proofs.Common.{string_bytes}
use Rattle.tv_top.specs.Form.{form}
use Rattle.tv_plan.specs.Plan.{request_of}
use Rattle.tv_plan.specs.declared.refusal.Refusal.TheVariants.{Usage}
use Rattle.tv_plan.proofs.AnswerLaws.{answers_refused}
use Rattle.tv_top.proofs.commands.answer.Goals as goal

none_asked : {A : Type 0} (f : A → List ℕ) (xs : List A) → length xs < 1 → request_of (form (map f xs)) ≡ Err Usage
none_asked f [] few = refl
none_asked f (x ∷ xs) few = absurd (omega (arith, few))

pub returns-in_default : goal.returns-in_default
returns-in_default g c = answers_refused _ _ _ _ _ _ (none_asked string_bytes c.args.words.now c.in_default.len_below) c.conclude.ensures

pub returns-in_default-as_str : goal.returns-in_default-as_str
returns-in_default-as_str g c =
    let asked : request_of (form (map string_bytes c.args.words.now)) ≡ Err Usage = search rules in
    answers_refused _ _ _ _ _ _ asked c.conclude-in_default-as_str.ensures

pub returns-in-asm : goal.returns-in-asm
returns-in-asm g c = grind (arith, common_steps)

pub returns-in-disasm : goal.returns-in-disasm
returns-in-disasm g c = grind (arith, common_steps)

pub returns-in-run : goal.returns-in-run
returns-in-run g c = grind (arith, common_steps)

pub returns-in-build : goal.returns-in-build
returns-in-build g c = grind (arith, common_steps)

pub returns-in-witness : goal.returns-in-witness
returns-in-witness g c = grind (arith, common_steps)

pub returns-in-check : goal.returns-in-check
returns-in-check g c = grind (arith, common_steps)

pub returns-in-extract : goal.returns-in-extract
returns-in-extract g c = grind (arith, common_steps)

pub returns-in-trial : goal.returns-in-trial
returns-in-trial g c = grind (arith, common_steps)

pub returns-in-shrink : goal.returns-in-shrink
returns-in-shrink g c = grind (arith, common_steps)

pub returns-in-listing : goal.returns-in-listing
returns-in-listing g c = grind (arith, common_steps)
