-- `extract`: what it promises.
use Rattle.tv_core.proofs.Common.{◌∷◌, refl, arith}
use Rattle.std.proofs.Common.{codes}
use Rattle.tv_top.specs.Assignment.{assigned_of, HasAssigned}
use Rattle.tv_top.specs.Extract.{extract_ends, extract_form, extract_plan, OnExtract}
use Rattle.tv_plan.specs.Plan.{name_at}
use Rattle.tv_top.proofs.AssignmentLaws.{assigned_shown}
use Rattle.tv_plan.proofs.ClaimLaws.{Form, FormOf, Promises, leads_to}

pub extracts : (form : Form) → FormOf form (codes "extract") extract_form → Promises form OnExtract
extracts form named words count call answers text first second witness tape aux last net n t are is_net is_n is_t a b c d e few some most files known =
    leads_to
    (extract_plan
    (record { net = net; text = name_at 1 text; n = n; t = t; witness = name_at 4 witness; tape = name_at 5 tape; aux = name_at 6 aux }))
    (extract_ends net n t)
    (assigned_of (name_at 1 text) (name_at 4 witness)) (HasAssigned net n t (files text) (files witness)) (form words) count files call
    (rw (are, named (text ∷ first ∷ second ∷ witness ∷ tape ∷ aux ∷ last), is_net, is_n, is_t) refl) ((a, (b, tt)), ((c, (d, tt)), ((e, tt), (tt, tt))))
    (omega arith, few, (omega arith, most, tt)) refl known answers
    (assigned_shown net files text n t witness few some most)
