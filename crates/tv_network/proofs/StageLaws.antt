-- Where the wires of stages stand, and what a stage passes on.
use Rattle.tv_core.proofs.Common.{◌≡◌, ℕ, zero, suc, ◌+◌, ◌*◌, ◌^◌, ◌<◌, Bool, true, false, if◌then◌else◌, List, sym, ◌∙◌, ap, ap₂, arith, inl}
use Rattle.tv_core.proofs.Common.{inr, Circuit, turns, here, pure, ◌>>=◌}
use Rattle.std.specs.Prelude.{◌&&◌}
use Rattle.std.proofs.lemmas.Bool.{cases_Bool}
use Rattle.tv_core.proofs.LoopLaws.{turns-next}
use Rattle.tv_core.specs.Lines.{pair_value}
use Rattle.tv_core.specs.declared.lines.Pair.{Pair}
use Rattle.tv_core.specs.declared.lines.PairNum.{PairNum}
use Rattle.tv_network.proofs.SwitchSizes.{switch_sizes}
use Rattle.tv_network.specs.Stages.{form_of, switches_in, wires_before, stages_wires, switch_wire, wire_at, item_at, lower_slot, upper_slot, stage_of}
use Rattle.tv_network.specs.Stages.{stages_of}
use Rattle.tv_network.specs.Switches.{width, switch_of, passed_to, passed, bit_at, IsSwitch}
use Rattle.tv_network.specs.declared.shape.Network.{Network}
use Rattle.tv_stages.proofs.Moves.{switched_on}
use Rattle.tv_stages.proofs.Numbers.{switches_numbered}
use Rattle.tv_stages.proofs.Slots.{low_low, low_high, flip_low, flip_high, flip_near, high_more}
use Rattle.tv_stages.specs.declared.nets.Net.{Net}
use Rattle.tv_stages.specs.Stages.{depth, flip, is_low, is_switched, is_exchanged, position, remove_bit, stage, stage_count}

-- ---- where stages end
pub stage_next : (n : Network) (l : ℕ) (item : ℕ → Pair) (next : ℕ) → (stage_of n l item next).next ≡ next + switches_in n l * width (form_of n l)
unfolding stage_of
stage_next n l item next =
    turns-next (λ at _. switch_of (form_of n l) (item (lower_slot n l at)) (item (upper_slot n l at))) tt next (width (form_of n l)) (switches_in n l)
    (λ at a w. switch_sizes.end (form_of n l) (item (lower_slot n l at)) (item (upper_slot n l at)) w)

-- the stages of a network over items of any kind
abbrev pub stage_turn : Network → (ℕ → ℕ → Pair) → ℕ → Unit {0} → Circuit (Unit {0})
stage_turn n item l _ = stage_of n l (item l)

pub stages_next : (n : Network) (item : ℕ → ℕ → Pair) (m next : ℕ) → (turns m (stage_turn n item) tt next).next ≡ next + wires_before n m
unfolding turns pure ◌>>=◌ wires_before
stages_next n item zero next = omega arith
stages_next n item (suc m) next = stage_next n m (item m) _ ∙ omega (arith, stages_next n item m next)

pub stages_end : (n : Network) (item : ℕ → Pair) (next : ℕ) → (stages_of n item next).next ≡ next + stages_wires n
unfolding stages_of here pure ◌>>=◌
stages_end n item next = stages_next n (item_at n next item) (stage_count n.items) next

-- ---- what stands at a slot after a stage
module _ (n : Network) (first : ℕ) (item : ℕ → Pair) (l x : ℕ) where
  pub item_kept : is_switched n.net n.items l x ≡ false → item_at n first item (suc l) x ≡ item_at n first item l x
  unfolding item_at
  item_kept e =
      let before = item_at n first item l x in
      let after = passed_to (form_of n l) (is_low (depth n.items l) x) (wire_at n first l x) before in
      ap (λ (b : Bool). if b then after else before) e

  pub item_passed : is_switched n.net n.items l x ≡ true
      → item_at n first item (suc l) x ≡ passed_to (form_of n l) (is_low (depth n.items l) x) (wire_at n first l x) (item_at n first item l x)
  unfolding item_at
  item_passed e =
      let before = item_at n first item l x in
      let after = passed_to (form_of n l) (is_low (depth n.items l) x) (wire_at n first l x) before in
      ap (λ (b : Bool). if b then after else before) e

-- ---- what a stage does to what stands at a slot
module _ {X : Type 0} (net : Net) (L l : ℕ) (bit : ℕ → ℕ → Bool) (v : ℕ → X) (x : ℕ) where
  pub stage_kept : is_switched net L l x ≡ false → stage net L bit l v x ≡ v x
  unfolding stage is_exchanged
  stage_kept e = ap (λ (on : Bool). if on && bit l (remove_bit (depth L l) x) then v (flip (depth L l) x) else v x) e

  pub stage_passed : is_switched net L l x ≡ true → stage net L bit l v x ≡ passed (bit l (remove_bit (depth L l) x)) (v x) (v (flip (depth L l) x))
  unfolding stage is_exchanged
  stage_passed e = ap (λ (on : Bool). if on && bit l (remove_bit (depth L l) x) then v (flip (depth L l) x) else v x) e

-- over items that are the same below L
pub stage_same : {X : Type 0} (net : Net) (L l : ℕ) (bit : ℕ → ℕ → Bool) (v w : ℕ → X) → ((x : ℕ) → x < L → v x ≡ w x) → (x : ℕ) → x < L
    → stage net L bit l v x ≡ stage net L bit l w x
stage_same net L l bit v w same x h =
    let d = depth L l in
    let b = bit l (remove_bit d x) in
    elim (cases_Bool (is_switched net L l x)) [
      | inl on ↦
          let near = (switched_on net L l x on).near in
          let other : flip d x < L = omega (arith, flip_near d x) in
          stage_passed net L l bit v x on ∙ ap₂ (λ a c. passed b a c) (same x h) (same (flip d x) other) ∙ sym (stage_passed net L l bit w x on)
      | inr off ↦ stage_kept net L l bit v x off ∙ same x h ∙ sym (stage_kept net L l bit w x off)
    ]

-- a stage's switches, in an assignment
abbrev pub AreSwitches : List ℕ → Network → ℕ → (ℕ → Pair) → ℕ → Type 0
AreSwitches z n first item l = (at : ℕ) → at < switches_in n l
    → IsSwitch z (form_of n l) (item_at n first item l (lower_slot n l at)) (item_at n first item l (upper_slot n l at)) (switch_wire n first l at)

-- what stands after a stage is what its bits pass
module _ (z : List ℕ) (n : Network) (first : ℕ) (item : ℕ → Pair) (l : ℕ) (within : l < stage_count n.items) (switch : AreSwitches z n first item l)
    (bit : ℕ → ℕ → Bool) where
  abbrev before : ℕ → Pair
  before = item_at n first item l

  abbrev values : ℕ → PairNum
  values y = pair_value z (before y)

  abbrev d : ℕ
  d = depth n.items l

  passed_on : (x : ℕ) → is_switched n.net n.items l x ≡ true
      → pair_value z (passed_to (form_of n l) (is_low d x) (wire_at n first l x) (before x))
      ≡ passed (bit_at z (wire_at n first l x)) (values x) (values (flip d x))
  passed_on x e =
      let on = switches_numbered.slot n.net n.items l x within e in
      let place = position n.net n.items l (remove_bit d x) in
      let is = switch place on.early in
      let w = wire_at n first l x in
      elim (cases_Bool (is_low d x)) [
        | inl lower ↦
            let here : lower_slot n l place ≡ x = on.slot ∙ low_low d x lower in
            let there : upper_slot n l place ≡ flip d x = ap (λ y. y + 2 ^ d) here ∙ sym (flip_low d x lower) in
            ap (λ b. pair_value z (passed_to (form_of n l) b w (before x))) lower
            ∙ ap (λ y. pair_value z (passed_to (form_of n l) true w (before y))) (sym here) ∙ is.lower
            ∙ ap₂ (λ a b. passed (bit_at z w) (values a) (values b)) here there
        | inr upper ↦
            let there : lower_slot n l place ≡ flip d x = on.slot ∙ low_high d x upper in
            let back : flip d x + 2 ^ d ≡ x = let down = flip_high d x upper in let more = high_more d x upper in omega arith in
            let here : upper_slot n l place ≡ x = ap (λ y. y + 2 ^ d) there ∙ back in
            ap (λ b. pair_value z (passed_to (form_of n l) b w (before x))) upper
            ∙ ap (λ y. pair_value z (passed_to (form_of n l) false w (before y))) (sym here) ∙ is.upper
            ∙ ap₂ (λ a b. passed (bit_at z w) (values a) (values b)) here there
      ]

  -- by bits that the assignment has at the switches
  pub stage_values_are : ((x : ℕ) → is_switched n.net n.items l x ≡ true → bit_at z (wire_at n first l x) ≡ bit l (remove_bit d x))
      → (x : ℕ) → pair_value z (item_at n first item (suc l) x) ≡ stage n.net n.items bit l values x
  stage_values_are bits x = elim (cases_Bool (is_switched n.net n.items l x)) [
    | inl on ↦
        ap (pair_value z) (item_passed n first item l x on) ∙ passed_on x on ∙ ap (λ b. passed b (values x) (values (flip d x))) (bits x on)
        ∙ sym (stage_passed n.net n.items l bit values x on)
    | inr off ↦ ap (pair_value z) (item_kept n first item l x off) ∙ sym (stage_kept n.net n.items l bit values x off)
  ]
