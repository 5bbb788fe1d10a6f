-- A network is sound.
use Rattle.tv_core.proofs.Common.{◌≡◌, ℕ, zero, suc, ◌+◌, ◌*◌, ◌<◌, ◌≤◌, List, if◌then◌else◌, refl, ◌∙◌, ap₂, subst, arith, Circuit}
use Rattle.tv_core.proofs.Common.{here, pure, ◌>>=◌, Assigns, Meets}
use Rattle.tv_core.proofs.LoopLaws.{turn_met, turns-next}
use Rattle.tv_core.specs.Lines.{pair_value}
use Rattle.tv_core.specs.declared.lines.Pair.{Pair}
use Rattle.tv_network.proofs.StageLaws.{stages_next, stage_turn, AreSwitches, stage_values_are}
use Rattle.tv_network.proofs.SwitchLaws.{switch_sound}
use Rattle.tv_network.proofs.SwitchSizes.{switch_sizes}
use Rattle.tv_network.specs.Stages.{form_of, switches_in, item_at, lower_slot, upper_slot, stage_of, stages_of, wire_bit, StagesAreSound}
use Rattle.tv_network.specs.Switches.{width, switch_of, IsSwitch}
use Rattle.tv_network.specs.declared.shape.Network.{Network}
use Rattle.tv_stages.specs.Stages.{depth, flip, is_exchanged, stage, stage_count, through_first, through_stages}

-- the switches of a stage
pub stage_sound : (z : List ℕ) (n : Network) (l : ℕ) (item : ℕ → Pair) (next : ℕ) → Assigns z → Meets z (stage_of n l item next).list → (at : ℕ)
    → at < switches_in n l → IsSwitch z (form_of n l) (item (lower_slot n l at)) (item (upper_slot n l at)) (next + at * width (form_of n l))
unfolding stage_of
stage_sound z n l item next assigns meets at within =
    let piece : ℕ → Unit {0} → Circuit (Unit {0}) = λ at _. switch_of (form_of n l) (item (lower_slot n l at)) (item (upper_slot n l at)) in
    let start = turns-next piece tt next (width (form_of n l)) at
    (λ at a w. switch_sizes.end (form_of n l) (item (lower_slot n l at)) (item (upper_slot n l at)) w) in
    subst (λ w. IsSwitch z (form_of n l) (item (lower_slot n l at)) (item (upper_slot n l at)) w) start
    (switch_sound z (form_of n l) (item (lower_slot n l at)) (item (upper_slot n l at)) _ assigns (turn_met z piece tt next (switches_in n l) at within meets))

-- those of each stage of a network
pub stages_switches : (z : List ℕ) (n : Network) (next : ℕ) (item : ℕ → Pair) → Assigns z → Meets z (stages_of n item next).list → (l : ℕ)
    → l < stage_count n.items → AreSwitches z n next item l
unfolding stages_of here pure ◌>>=◌
stages_switches z n next item assigns meets l within at h =
    let piece = stage_turn n (item_at n next item) in
    let met = turn_met z piece tt next (stage_count n.items) l within meets in
    subst (λ w. IsSwitch z (form_of n l) (item_at n next item l (lower_slot n l at)) (item_at n next item l (upper_slot n l at)) (w + at * width (form_of n l)))
    (stages_next n (item_at n next item) l next)
    (stage_sound z n l (item_at n next item l) _ assigns met at h)

-- what stands before stage m is what goes through those before it
values_before : (z : List ℕ) (n : Network) (first : ℕ) (item : ℕ → Pair) → ((l : ℕ) → l < stage_count n.items → AreSwitches z n first item l) → (m : ℕ)
    → m ≤ stage_count n.items → (x : ℕ)
    → pair_value z (item_at n first item m x) ≡ through_first n.net n.items (wire_bit z n first) m (λ j. pair_value z (item j)) x
unfolding item_at through_first stage
values_before z n first item switch zero within x = refl
values_before z n first item switch (suc m) within x =
    let before = values_before z n first item switch m (omega arith) in
    let on = is_exchanged n.net n.items (wire_bit z n first) m x in
    stage_values_are z n first item m (omega arith) (switch m (omega arith)) (wire_bit z n first) (λ y e. refl) x
    ∙ ap₂ (λ p q. if on then p else q) (before (flip (depth n.items m) x)) (before x)

pub stages_sound : StagesAreSound
unfolding through_stages
stages_sound z n next item assigns meets =
    let switch = stages_switches z n next item assigns meets in
    record {
      bits = λ l at within h. (switch l within at h).bit;
      outputs = λ x. values_before z n next item switch (stage_count n.items) (omega arith) x;
    }
