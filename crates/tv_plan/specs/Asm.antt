-- `asm TEXT IMAGE`: the image of a program text.
use Rattle.std.specs.Prelude.{◌≡◌, ◌≢◌, ℕ, codes, List, [], ◌∷◌, Result, Option, None, Some}
use Rattle.tv_files.specs.Outside.{Names, WhereKnown}
use Rattle.tv_core.specs.declared.limits.TheConstants.{TEXT_BYTES}
use Rattle.tv_plan.specs.declared.asm.AsmArgs.{AsmArgs}
use Rattle.tv_plan.specs.declared.refusal.Bad.{Bad}
use Rattle.tv_plan.specs.declared.refusal.What.TheVariants.{TextBytes}
use Rattle.tv_plan.specs.Claims.{Call, Holds, AnswersOrStops}
use Rattle.tv_plan.specs.Kinds.{is_quiet}
use Rattle.tv_plan.specs.Plan.{Named, Plan, named, within, input, outcome_by, one_name, writes_bytes, name_at}
use Rattle.tv_plan.specs.Programs.{image_of, program_flaws}

-- the file of a program text, which may have this many bytes: its image, in bytes
abbrev pub image_in : List ℕ → Result (List ℕ) Bad
image_in = within TextBytes TEXT_BYTES image_of

abbrev pub asm_plan : Named → Named → Plan
asm_plan text image = record {
  reads = text ∷ [];
  writes = image ∷ [];
  amounts = [];
  flaws = program_flaws;
  ends_by = is_quiet;
  leads_to = λ files. outcome_by writes_bytes (input text image_in files);
}

-- the plan that the command's words ask for
abbrev pub asm_asks : AsmArgs → Plan
asm_asks args = asm_plan (named args.text) (named args.image)

-- the plan of the words after the command's name, where they have its form
abbrev pub asm_form : List (List ℕ) → Option Plan
asm_form (text ∷ image ∷ []) = Some (asm_plan (name_at 1 text) (name_at 2 image))
asm_form _ = None

-- What `asm` promises over files whose contents are known, the two names being different: TEXT holds a program text of
-- this image, which IMAGE then holds, or it is refused for this.
abbrev pub Asms : Names → List ℕ → List ℕ → Call → Type 0
Asms files text image = AnswersOrStops (one_name 2 image) writes_bytes (Holds image_in (files text)) files

-- What a call promises that has these words, where they are those of `asm`.
abbrev pub OnAsm : List (List ℕ) → Call → Type 0
OnAsm words call = (text image : List ℕ) → words ≡ codes "asm" ∷ text ∷ image ∷ [] → text ≢ image
    → WhereKnown call.before (λ files. Asms files text image call)
