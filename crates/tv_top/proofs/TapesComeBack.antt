-- The tapes that `extract` writes are read again.
use Rattle.tv_core.proofs.Common.{◌≡◌, ℕ, zero, suc, ◌-◌, ◌^◌, ◌<◌, ◌≤◌, ◌==◌, Bool, true, false, List, ◌∷◌, length, refl, ap, arith, slice_index}
use Rattle.tv_core.proofs.Common.{length-append, length-map, joined_below}
use Rattle.std.proofs.lemmas.List.Elements.{All-cons}
use Rattle.tv_block.specs.Block.{block_of}
use Rattle.tv_inputs.specs.declared.records.Spot.{Spot}
use Rattle.tv_core.proofs.JoinedLaws.{joined_below-zero, joined_below-suc}
use Rattle.tv_extract.specs.Runs.{IsRunOf}
use Rattle.tv_extract.specs.declared.run.Run.{Run}
use Rattle.tv_layout.specs.Layout.{taken_wire, taken_wires, taken_of, step_block}
use Rattle.tv_layout.specs.Places.{runs_of}
use Rattle.tv_plan.proofs.Common.{bits}
use Rattle.tv_plan.specs.declared.programs.Width.{Width}
use Rattle.tv_plan.proofs.ProgramLaws.{is_width}
use Rattle.tv_plan.proofs.TapeTexts.{primary_comes_back, aux_comes_back, publics_come_back}
use Rattle.tv_step.proofs.EndLaws.{end_answers}
use Rattle.tv_step.proofs.RangeLaws.{start_in_range, run_keeps_range, answer_is_word}
use Rattle.tv_step.specs.Machine.{start}
use Rattle.tv_step.specs.Range.{AreWords}
use Rattle.tv_top.specs.Taken.{ExtractedAreTaken}

-- a step takes at most one word, and t steps at most t
one_taken : (z : List ℕ) (spot : Spot) → length (taken_wire z spot) ≤ 1
one_taken z spot = by_test (slice_index z spot.taken == 1) refl
  where
    by_test : (b : Bool) → (slice_index z spot.taken == 1) ≡ b → length (taken_wire z spot) ≤ 1
    by_test true is = rw is (omega arith)
    by_test false is = rw is (omega arith)

joined_few : (t : ℕ) (f : ℕ → List ℕ) → ((i : ℕ) → length (f i) ≤ 1) → length (joined_below t f) ≤ t
joined_few zero f few = omega (arith, ap length (joined_below-zero f))
joined_few (suc t) f few = omega (arith, ap length (joined_below-suc t f), length-append (joined_below t f) (f t), joined_few t f few, few t)

few_taken : (w : ℕ) (image : List ℕ) (n t : ℕ) (z : List ℕ) → length (taken_of (block_of w) (runs_of w image n t) z) ≤ t
unfolding taken_wires
few_taken w image n t z =
    let wires = joined_few t (λ i. taken_wire z (step_block (block_of w) (runs_of w image n t) i).spot) (λ i. one_taken z _) in
    omega (arith, length-map (taken_wires (block_of w) (runs_of w image n t) z) (slice_index z), wires)

-- the answer of a run on tapes of words is a word
answer_small : (width : Width) (image z : List ℕ) (n t : ℕ) (run : Run) → IsRunOf (runs_of (bits width) image n t) z run → run.answer < 2 ^ bits width
answer_small width image z n t run is =
    let w = bits width in
    let from = start w image run.tape run.aux in
    let ends = end_answers w t from run.answer run.step is.answers in
    answer_is_word w (is_width width) _ run.answer
    (run_keeps_range w (is_width width) from (t - 1) (start_in_range w (is_width width) image run.tape run.aux is.tape_words is.aux_words)) ends.last

pub extracted_are_taken : ExtractedAreTaken
extracted_are_taken width image z n t run n_fits t_fits is =
    let few : length run.aux ≤ t = rw is.aux (few_taken (bits width) image n t z) in
    let publics : AreWords (bits width) (run.answer ∷ run.tape) = All-cons (λ v. v < 2 ^ bits width) run.answer run.tape
    (answer_small width image z n t run is) is.tape_words in
    record {
      tape = primary_comes_back 2 width run.tape is.tape_words (omega (arith, is.many));
      aux = aux_comes_back 3 width run.aux is.aux_words (omega arith);
      publics = publics_come_back 3 width (run.answer ∷ run.tape) publics (omega (arith, is.many));
    }
