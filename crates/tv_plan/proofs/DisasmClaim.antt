-- `disasm`: what it promises.
use Rattle.tv_core.proofs.Common.{◌∷◌, refl}
use Rattle.std.proofs.Common.{codes}
use Rattle.tv_plan.proofs.Common.{Holds, input}
use Rattle.tv_plan.specs.Disasm.{text_in, disasm_form, disasm_plan, OnDisasm}
use Rattle.tv_plan.specs.Plan.{name_at, writes_bytes}
use Rattle.tv_plan.proofs.ClaimLaws.{Form, FormOf, Promises, leads_to, shows_input}

pub disasms : (form : Form) → FormOf form (codes "disasm") disasm_form → Promises form OnDisasm
disasms form named words count call answers image text last width are is differ files known =
    leads_to (disasm_plan width (name_at 1 image) (name_at 2 text)) writes_bytes (input (name_at 1 image) (text_in width))
    (Holds (text_in width) (files image)) (form words) count files call
    (rw (are, named (image ∷ text ∷ last), is) refl) ((differ, tt), (tt, tt)) tt refl known answers (shows_input (name_at 1 image) (text_in width) files)
