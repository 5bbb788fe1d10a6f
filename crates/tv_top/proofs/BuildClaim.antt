-- `build`: what it promises.
use Rattle.tv_core.proofs.Common.{◌∷◌, refl, arith}
use Rattle.std.proofs.Common.{codes}
use Rattle.tv_layout.proofs.NormalLaws.{system_normal}
use Rattle.tv_layout.proofs.Systems.{system_reduces}
use Rattle.tv_top.specs.Build.{program_system, build_ends, build_form, build_plan, HasSystem, OnBuild, program_runs}
use Rattle.tv_plan.proofs.Common.{name_at, input, program_in}
use Rattle.tv_plan.proofs.ClaimLaws.{Form, FormOf, Promises, leads_to, if_ok, shows_input, shows_more}
use Rattle.tv_plan.proofs.ProgramLaws.{has_image}
use Rattle.tv_top.proofs.SystemLimits.{within_limits}

pub builds : (form : Form) → FormOf form (codes "build") build_form → Promises form OnBuild
unfolding program_system
builds form named words count call answers text first second system last net n t are is_net is_n is_t differ few some most files known =
    leads_to (build_plan (record { net = net; text = name_at 1 text; n = n; t = t; system = name_at 4 system })) (build_ends net n t)
    (input (name_at 1 text) program_in)
    (HasSystem net n t (files text)) (form words) count files call
    (rw (are, named (text ∷ first ∷ second ∷ system ∷ last), is_net, is_n, is_t) refl) ((differ, tt), (tt, tt))
    (omega arith, few, (omega arith, most, tt)) refl known answers
    (shows_more _ _ _ (shows_input (name_at 1 text) program_in files) (λ held holds. record {
      holds = holds;
      reduces = if_ok held _ (λ program is. system_reduces net (program_runs n t program)
          (within_limits program n t (has_image (files text) program (rw is at holds)) few (omega arith) most));
      normal = if_ok held _ (λ program is. system_normal net (program_runs n t program)
          (within_limits program n t (has_image (files text) program (rw is at holds)) few (omega arith) most));
    }))
