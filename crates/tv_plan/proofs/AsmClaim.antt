-- `asm`: what it promises.
use Rattle.tv_core.proofs.Common.{[], ◌∷◌, refl}
use Rattle.std.proofs.Common.{codes}
use Rattle.tv_plan.specs.Asm.{image_in, asm_form, asm_plan, OnAsm}
use Rattle.tv_plan.specs.Plan.{name_at, writes_bytes}
use Rattle.tv_plan.proofs.Common.{Holds, input}
use Rattle.tv_plan.proofs.ClaimLaws.{Form, FormOf, Promises, leads_to, shows_input}

pub asms : (form : Form) → FormOf form (codes "asm") asm_form → Promises form OnAsm
asms form named words count call answers text image are differ files known =
    leads_to (asm_plan (name_at 1 text) (name_at 2 image)) writes_bytes (input (name_at 1 text) image_in)
    (Holds image_in (files text)) (form words) count files call (rw (are, named (text ∷ image ∷ [])) refl) ((differ, tt), (tt, tt)) tt refl known answers
    (shows_input (name_at 1 text) image_in files)
