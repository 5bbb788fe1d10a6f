-- `listing`: what it promises.
use Rattle.tv_core.proofs.Common.{[], ◌∷◌, refl, arith}
use Rattle.std.proofs.Common.{codes}
use Rattle.tv_stages.specs.declared.nets.Net.TheVariants.{Benes}
use Rattle.tv_listing.proofs.Traces.{satisfying_are_listed}
use Rattle.tv_top.specs.Build.{program_system, program_runs}
use Rattle.tv_top.specs.Assignment.{assigned_of}
use Rattle.tv_top.specs.Listing.{listing_ends, listing_form, listing_plan, HasListed, OnListing}
use Rattle.tv_plan.specs.Plan.{name_at}
use Rattle.tv_top.proofs.AssignmentLaws.{assigned_fits, assigned_shown}
use Rattle.tv_plan.proofs.ClaimLaws.{Form, FormOf, Promises, leads_to, if_ok, shows_more}

pub lists : (form : Form) → FormOf form (codes "listing") listing_form → Promises form OnListing
unfolding program_system
lists form named words count call answers text first second witness order out by n t are is_by is_n is_t a b few some most files known =
    leads_to (listing_plan (record { by = by; text = name_at 1 text; n = n; t = t; witness = name_at 4 witness; out = name_at 6 out })) (listing_ends by n t)
    (assigned_of (name_at 1 text) (name_at 4 witness)) (HasListed n t (files text) (files witness)) (form words) count files call
    (rw (are, named (text ∷ first ∷ second ∷ witness ∷ order ∷ out ∷ []), is_by, is_n, is_t) refl) ((a, tt), ((b, tt), (tt, tt)))
    (omega arith, few, (omega arith, most, tt)) refl known answers
    (shows_more _ _ _ (assigned_shown Benes files text n t witness few some most) (λ held has. record {
      assigned = has;
      satisfying = if_ok held _ (λ assigned is sat. satisfying_are_listed Benes (program_runs n t assigned.program) assigned.z
          (assigned_fits n t files text witness assigned few some most (rw is at has.holds)) sat);
    }))
