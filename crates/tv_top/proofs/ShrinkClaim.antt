-- `shrink`: what it promises.
use Rattle.tv_core.proofs.Common.{◌≡◌, ℕ, Bool, true, false, Option, Some, None, Result, Ok, Err, if◌then◌else◌, [], ◌∷◌, refl, sym, List}
use Rattle.std.proofs.Common.{ltb, codes}
use Rattle.std.specs.Prelude.{IfOk}
use Rattle.tv_check.proofs.Room.{has_room}
use Rattle.tv_core.specs.Constraints.{System}
use Rattle.tv_r1cs_read.specs.R1cs.{r1cs_system}
use Rattle.tv_shrink.proofs.Solutions.{keeps_solutions, solutions_are_one, keeps_publics}
use Rattle.tv_shrink.proofs.Whole.{systems_are_over}
use Rattle.tv_shrink.specs.Answers.{most, all_terms, first_wide}
use Rattle.tv_shrink.specs.Laws.{IsWhole}
use Rattle.tv_r1cs_write.specs.Shrunken.{Shrunken}
use Rattle.tv_plan.proofs.Common.{Holds, Then, name_at, input, settled}
use Rattle.tv_plan.specs.declared.refusal.Bad.{Bad}
use Rattle.tv_plan.specs.Containers.{system_bad, system_in}
use Rattle.tv_top.specs.Shrink.{terms_bad, narrow_shrunk, shrunk_of, shrunk_look, shrink_ends, shrink_form, shrink_plan, Keeps, IsShrunk, OnShrink}
use Rattle.tv_plan.proofs.ClaimLaws.{Form, FormOf, Promises, leads_to, shows_input, shows_then, shows_made, shows_more}
use Rattle.tv_plan.proofs.ContainerReads.{read_of}

whole : (system : System) (file : Option (List ℕ)) → Holds system_in file (Ok system) → IsWhole system
whole system file holds = let is = read_of system_bad (r1cs_system holds.bytes) system holds.reads in
    record { publics = rw is at (has_room holds.bytes); within = rw is at (systems_are_over holds.bytes) }

kept_by : (system : System) (held : Result Shrunken Bad) (long : Bool) (wide : Option ℕ) → IsWhole system
    → (if long then Err (terms_bad (all_terms system)) else narrow_shrunk wide system) ≡ held → IfOk held (Keeps system)
kept_by system held true wide whole e = rw (← e) tt
kept_by system held false None whole e = rw (← e)
    (record { solutions = keeps_solutions system whole; one = solutions_are_one system whole; publics = keeps_publics system whole })
kept_by system held false (Some has) whole e = rw (← e) tt

pub shrinks : (form : Form) → FormOf form (codes "shrink") shrink_form → Promises form OnShrink
unfolding shrunk_look
shrinks form named words count call answers system out are differ files known =
    leads_to (shrink_plan (name_at 1 system) (name_at 2 out)) shrink_ends (shrunk_look (name_at 1 system))
    (Then (Holds system_in (files system)) IsShrunk) (form words) count files call
    (rw (are, named (system ∷ out ∷ [])) refl) ((differ, tt), (tt, tt)) tt refl known answers
    (shows_then (input (name_at 1 system) system_in files) (λ s. settled (shrunk_of s)) _ _ (shows_input (name_at 1 system) system_in files) (λ s holds.
    shows_more _ _ _ (shows_made (shrunk_of s))
    (λ held is. record { is = sym is; keeps = kept_by s held (ltb most (all_terms s)) (first_wide s.constraints) (whole s (files system) holds) (sym is) })))
