use Rattle.tv_core.proofs.Common.{◌≡◌, ℕ, ◌+◌, List, ap, ap₂, ◌∙◌, arith}
use Rattle.tv_stages.specs.declared.nets.Net.TheVariants.{Benes}
use Rattle.tv_core.specs.Constraints.{System}
use Rattle.tv_draw.specs.Program.{image_drawn, tape_drawn, aux_drawn}
use Rattle.tv_layout.specs.Places.{runs_like}
use Rattle.tv_layout.specs.RunInputs.{run_on}
use Rattle.tv_layout.specs.Systems.{system_of, run_values}
use Rattle.tv_top.specs.Trial.{drawn_values, tested, trial_of}
use Rattle.tv_top.proofs.TrialClaim.{drawn_within, drawn_accepts}
use Rattle.tv_top.proofs.trial.trial_of.Goals as goal

pub values_of-requires : goal.values_of-requires
values_of-requires c =
    let is = rw (← c.as_slice-image.ensures, ← c.as_slice-tape.ensures, ← c.as_slice.ensures) at c.in_ok-drawn.ensures.run in
    record {
      limits = drawn_within c.args.k _ _ c.requires is.image_words is.image_count is.tape_count;
      tape = is.tape_words;
      aux = is.aux_words;
      aux_few = let count = is.aux_count in rw count (omega arith);
      accepts = drawn_accepts c.args.k _ _ _ is;
    }

pub tested-requires : goal.tested-requires
tested-requires c =
    let is = rw (← c.as_slice-image.ensures, ← c.as_slice-tape.ensures, ← c.as_slice.ensures) at c.in_ok-drawn.ensures.run in
    search (drawn_within c.args.k _ _ c.requires is.image_words is.image_count is.tape_count)

pub returns : goal.returns
unfolding trial_of
returns c =
    let image : c.as_slice-image.result.now ≡ image_drawn c.args.seed c.args.k = c.as_slice-image.ensures ∙ c.in_ok-drawn.ensures.image in
    let tape : c.as_slice-tape.result.now ≡ tape_drawn c.args.seed c.args.k = c.as_slice-tape.ensures ∙ c.in_ok-drawn.ensures.tape in
    let aux : c.as_slice.result.now ≡ aux_drawn c.args.seed c.args.k = c.as_slice.ensures ∙ c.in_ok-drawn.ensures.aux in
    let values : c.as_slice-2.result.now ≡ drawn_values c.args.seed c.args.k =
    c.as_slice-2.ensures ∙ c.in_ok-values.ensures
    ∙ ap₂ (λ (image tape : List ℕ). run_values Benes (run_on 32 image tape c.as_slice.result.now (c.args.k + 1)) 0) image tape
    ∙ ap (λ (aux : List ℕ). run_values Benes (run_on 32 (image_drawn c.args.seed c.args.k) (tape_drawn c.args.seed c.args.k) aux (c.args.k + 1)) 0) aux in
    c.tested.ensures
    ∙ ap₂ (λ (s : System) (z : List ℕ). tested (c.args.k + 1) s z)
    (ap₂ (λ (image tape : List ℕ). system_of Benes (runs_like 32 image tape (c.args.k + 1))) image tape) values
