-- The lines of a satisfying assignment up to a step, and those of the trace of its run.
use Rattle.tv_core.proofs.Common.{◌≡◌, ℕ, zero, suc, ◌+◌, ◌*◌, ◌≤◌, List, ◌++◌, length, take, refl, sym, ap, ◌∙◌, subst, arith, inl, inr, cases_eq}
use Rattle.tv_core.proofs.Common.{length-append, Line}
use Rattle.std.proofs.Math.Seq.{take-append-add}
use Rattle.std.proofs.lemmas.List.{take_all, take-append-le}
use Rattle.tv_block.specs.Block.{block_of}
use Rattle.tv_extract.proofs.ExtractLaws.{extracted_is_run, satisfying_have_runs}
use Rattle.tv_extract.specs.declared.run.Run.{Run}
use Rattle.tv_layout.proofs.Boot.{length-boot_lines}
use Rattle.tv_layout.proofs.Systems.{system_sound}
use Rattle.tv_layout.specs.Layout.{taken_of}
use Rattle.tv_layout.specs.Places.{boot_count, runs_of, runs_like}
use Rattle.tv_layout.specs.RunInputs.{run_on}
use Rattle.tv_layout.specs.Sound.{all_lines}
use Rattle.tv_step.proofs.PlaceLaws.{lines_are_three_a_step}
use Rattle.tv_step.specs.Cells.{boot_lines, run_lines}
use Rattle.tv_step.specs.Machine.{start}
use Rattle.tv_step.specs.State.{State}
use Rattle.tv_step.specs.Trace.{lines_of}
use Rattle.tv_listing.specs.Laws.{ListsRun, ListingIsTrace, SatisfyingAreListed}
use Rattle.tv_listing.specs.Listing.{lines_at, assigned_lines, traced_lines, text_by}

-- the first steps' lines among all
lines_front : (w n time : ℕ) (st : State) (t step : ℕ) → step ≤ t → take (3 * step) (lines_of w n time st t) ≡ lines_of w n time st step
lines_front w n time st zero step h = let none : step ≡ 0 = omega arith in rw none refl
lines_front w n time st (suc t) step h = elim (cases_eq step (suc t)) [
  | inl whole ↦ rw whole (take_all (3 * suc t) (lines_of w n time st (suc t)) (omega (arith, lines_are_three_a_step w n time st (suc t))))
  | inr apart ↦ take-append-le (3 * step) (lines_of w n time st t) _ (omega (arith, lines_are_three_a_step w n time st t))
      ∙ lines_front w n time st t step (omega arith)
]

module _ (w : ℕ) (image x aux : List ℕ) (t step : ℕ) (h : step ≤ t) where
  abbrev steps : List Line
  steps = lines_of w (length x) (length image + length x) (start w image x aux) t

  traced : traced_lines image x step steps ≡ run_lines w image x aux step
  traced = ap (λ l. boot_lines image x ++ l) (lines_front w (length x) (length image + length x) (start w image x aux) t step h)

  run_front : take (boot_count image (length x) + 3 * step) (all_lines w image x aux t) ≡ run_lines w image x aux step
  run_front =
      let boot = length-boot_lines image x in
      let many = lines_are_three_a_step w (length x) (length image + length x) (start w image x aux) t in
      take-append-le (boot_count image (length x) + 3 * step) (run_lines w image x aux t) _
      (omega (arith, length-append (boot_lines image x) steps, boot, many))
      ∙ ap (λ m. take (m + 3 * step) (run_lines w image x aux t)) (sym boot)
      ∙ take-append-add (boot_lines image x) steps (3 * step)
      ∙ traced

pub listing_is_trace : ListingIsTrace
listing_is_trace net runs x z step fits long within has sat =
    let run = system_sound net runs x z fits long has sat in
    let aux : List ℕ = taken_of (block_of runs.width) runs z in
    let lines : assigned_lines (runs_like runs.width runs.image x runs.t) step z ≡ run_lines runs.width runs.image x aux step =
    ap (take (boot_count runs.image (length x) + 3 * step)) (ap (λ n. lines_at (runs_of runs.width runs.image n runs.t) z) long ∙ run.lines)
    ∙ run_front runs.width runs.image x aux runs.t step within in
    record {
      lines = lines;
      text = λ trace is by. ap (text_by by)
          (ap (traced_lines runs.image x step) is.lines ∙ traced runs.width runs.image x aux runs.t step within ∙ sym lines);
    }

pub satisfying_are_listed : SatisfyingAreListed
satisfying_are_listed net runs z fits sat =
    let has = satisfying_have_runs net runs z fits sat in
    let run : Run = has.run in
    let is = extracted_is_run net runs z run has.is in
    record {
      has = has;
      lists = subst (λ aux. ListsRun (run_on runs.width runs.image run.tape aux runs.t) z run.step) (sym is.aux)
          (listing_is_trace net runs run.tape z run.step fits is.many is.within is.tape sat);
    }
