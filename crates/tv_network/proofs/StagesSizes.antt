-- The values of a network's stages are in the field.
use Rattle.tv_core.proofs.Common.{ℕ, zero, suc, ◌<◌, Bool, true, false, sym, subst, arith, inl, inr, InField}
use Rattle.std.proofs.lemmas.Bool.{cases_Bool}
use Rattle.tv_core.proofs.FieldLaws.{InField-joined_below}
use Rattle.tv_core.specs.declared.field.TheConstants.{P}
use Rattle.tv_core.specs.declared.lines.PairNum.{PairNum}
use Rattle.tv_network.proofs.StageLaws.{stage_kept, stage_passed}
use Rattle.tv_network.proofs.SwitchSizes.{switch_sizes}
use Rattle.tv_network.specs.Stages.{form_of, switches_in, lower_slot, upper_slot, stage_values, stages_values}
use Rattle.tv_network.specs.Switches.{passed}
use Rattle.tv_network.specs.declared.shape.Network.{Network}
use Rattle.tv_stages.proofs.Moves.{switched_on}
use Rattle.tv_stages.proofs.Numbers.{switches_numbered}
use Rattle.tv_stages.proofs.Slots.{flip_near}
use Rattle.tv_stages.specs.Stages.{depth, flip, is_switched, number, remove_bit, stage, stage_count, through_first}
use Rattle.tv_stages.specs.declared.nets.Net.{Net}

-- what holds of all items holds of what stands at the slots later
module _ {X : Type 0} (Q : X → Type 0) (net : Net) (L : ℕ) (bit : ℕ → ℕ → Bool) where
  passed_keeps : (b : Bool) (x y : X) → Q x → Q y → Q (passed b x y)
  passed_keeps true x y p q = q
  passed_keeps false x y p q = p

  stage_keeps : (l : ℕ) (v : ℕ → X) → ((x : ℕ) → x < L → Q (v x)) → (x : ℕ) → x < L → Q (stage net L bit l v x)
  stage_keeps l v each x h =
      let d = depth L l in
      elim (cases_Bool (is_switched net L l x)) [
        | inl on ↦
            let near = (switched_on net L l x on).near in
            let other : flip d x < L = omega (arith, flip_near d x) in
            subst Q (sym (stage_passed net L l bit v x on)) (passed_keeps (bit l (remove_bit d x)) (v x) (v (flip d x)) (each x h) (each (flip d x) other))
        | inr off ↦ subst Q (sym (stage_kept net L l bit v x off)) (each x h)
      ]

  pub through_keeps : (v : ℕ → X) → ((x : ℕ) → x < L → Q (v x)) → (m x : ℕ) → x < L → Q (through_first net L bit m v x)
  unfolding through_first
  through_keeps v each zero x h = each x h
  through_keeps v each (suc m) x h = stage_keeps m (through_first net L bit m v) (through_keeps v each m) x h

-- ---- the values
abbrev pub IsSmall : PairNum → Type 0
IsSmall x = (x.first < P) × (x.second < P)

stage_small : (n : Network) (l : ℕ) (bit : ℕ → Bool) (v : ℕ → PairNum) → l < stage_count n.items → ((x : ℕ) → x < n.items → IsSmall (v x))
    → InField (stage_values n l bit v)
unfolding stage_values
stage_small n l bit v within small =
    InField-joined_below _ (switches_in n l) (λ at h.
    let upper = (switches_numbered.switch n.net n.items l at within h).upper in
    switch_sizes.in_field (form_of n l) (bit (number n.net n.items l at)) (v (lower_slot n l at)) (v (upper_slot n l at))
    (small (lower_slot n l at) (omega arith)) (small (upper_slot n l at) upper))

pub stages_small : (n : Network) (bit : ℕ → ℕ → Bool) (v : ℕ → PairNum) → ((x : ℕ) → x < n.items → IsSmall (v x)) → InField (stages_values n bit v)
unfolding stages_values
stages_small n bit v small =
    InField-joined_below _ (stage_count n.items) (λ l within.
    stage_small n l (bit l) (through_first n.net n.items bit l v) within (through_keeps IsSmall n.net n.items bit v small l))
