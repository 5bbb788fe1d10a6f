-- `trial`: what it promises.
use Rattle.tv_core.proofs.Common.{◌≡◌, ℕ, ◌+◌, ◌*◌, ◌≤◌, true, List, [], ◌∷◌, length, All, if◌then◌else◌, Ok, inl, inr, refl, ap, ◌∙◌, arith, eq-eqb}
use Rattle.tv_core.proofs.Common.{Constraint, value}
use Rattle.std.proofs.Common.{codes, count_by}
use Rattle.std.proofs.lemmas.List.Elements.{All-head, All-tail}
use Rattle.std.proofs.lemmas.List.Sums.{sum_by-cons}
use Rattle.tv_stages.specs.declared.nets.Net.TheVariants.{Benes}
use Rattle.tv_core.specs.Constraints.{Holds}
use Rattle.tv_core.specs.Meanings.{holds, product_in}
use Rattle.tv_core.specs.declared.limits.TheConstants.{DRAWS}
use Rattle.tv_draw.proofs.RunLaws.{drawn_is}
use Rattle.tv_draw.specs.Program.{image_drawn, tape_drawn, aux_drawn, IsDrawn}
use Rattle.tv_plan.proofs.Common.{Call, Answers, IsStopped, request_of}
use Rattle.tv_layout.proofs.Systems.{system_complete}
use Rattle.tv_layout.specs.Places.{WithinLimits, runs_like}
use Rattle.tv_step.specs.Machine.{Accepts}
use Rattle.tv_step.specs.Range.{AreWords}
use Rattle.tv_plan.specs.declared.status.Status.TheVariants.{FileFault}
use Rattle.tv_top.specs.Trial.{trial_of, trial_form, trial_plan, IsTrial, Tries, OnTrial, drawn_run}
use Rattle.tv_plan.proofs.ClaimLaws.{Form, FormOf, due_or_stopped, granted}

all_hold : (z : List ℕ) (list : List Constraint) → All (λ constraint. Holds constraint z) list → count_by (holds z) list ≡ length list
all_hold z [] each = refl
all_hold z (one ∷ rest) each =
    let here : holds z one ≡ true = eq-eqb (product_in z one) (value one.c z) (All-head (λ constraint. Holds constraint z) one rest each) in
    sum_by-cons (λ constraint. if holds z constraint then 1 else 0) one rest ∙ ap (λ b. (if b then 1 else 0) + count_by (holds z) rest) here
    ∙ ap (λ n. 1 + n) (all_hold z rest (All-tail (λ constraint. Holds constraint z) one rest each)) ∙ omega arith

-- a drawn program has a system, and its run answers 0
pub drawn_within : (k : ℕ) (image tape : List ℕ) → k ≤ DRAWS → AreWords 32 image → length image ≡ k * 2 + 2 → length tape ≡ 2
    → WithinLimits (runs_like 32 image tape (k + 1))
drawn_within k image tape few words many two = record {
  width = inr refl;
  words = words;
  image_fits = omega (arith, many, few);
  tape_fits = omega (arith, two);
  some = omega arith;
  steps_fit = omega (arith, few);
}

pub drawn_accepts : (k : ℕ) (image tape aux : List ℕ) → IsDrawn k image tape aux → Accepts 32 image tape aux (k + 1) 0
drawn_accepts k image tape aux is = (k + 1, omega arith, is.answers)

trial_is : (seed k : ℕ) → k ≤ DRAWS → IsTrial seed k
unfolding trial_of
trial_is seed k few =
    let is = drawn_is seed k few in
    let accepts = drawn_accepts k (image_drawn seed k) (tape_drawn seed k) (aux_drawn seed k) is in
    let fills = system_complete Benes (drawn_run seed k) 0
    (drawn_within k _ _ few is.image_words is.image_count is.tape_count) is.tape_words is.aux_words accepts in
    record { answers = is.answers; fills = fills; satisfied = all_hold _ _ fills.sat.holds }

-- no file is read or written, so a fault is of saying
stopped : (words seed k : ℕ) (call : Call) → Answers (Ok (trial_plan seed k)) words call.before call.after call.status → IsStopped [] call
    → Tries words seed k call
stopped words seed k call answers (inl fault) = elim (answers.caused fault.0 fault.1) [
  | inl read ↦ absurd read.0
  | inr (inl wrote) ↦ absurd wrote.0
  | inr (inr said) ↦ inr (inl (fault.1 ∙ ap FileFault said.0, said.1))
]
stopped words seed k call answers (inr memory) = inr (inr memory)

pub trials : (form : Form) → FormOf form (codes "trial") trial_form → (words : List (List ℕ)) (count : ℕ) (call : Call) →
    Answers (request_of (form words)) count call.before call.after call.status → OnTrial words count call
trials form named words count call asked first second seed k are is_seed is_k some most files known =
    let answers =
    granted (trial_plan seed k) (form words) count call (rw (are, named (first ∷ second ∷ []), is_seed, is_k) refl) tt (omega arith, most, tt) asked in
    record {
      ended = elim (due_or_stopped (trial_plan seed k) count files call answers (answers.ends files known)) [
        | inl answered ↦ inl (answered.status, answered.said)
        | inr cut ↦ stopped count seed k call answers cut
      ];
      contents = answers.contents;
      trial = trial_is seed k most;
    }
