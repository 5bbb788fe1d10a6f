-- The values of a network satisfy its constraints.
use Rattle.tv_core.proofs.Common.{◌≡◌, ℕ, zero, suc, ◌+◌, ◌*◌, ◌<◌, ◌≤◌, ◌==◌, Bool, true, List, length, sym, ◌∙◌, ap, ap₂, subst, arith, inl, inr}
use Rattle.tv_core.proofs.Common.{cases_eq, slice_index}
use Rattle.tv_core.proofs.Common.{HasFrom-split, Circuit, here, pure, ◌>>=◌, joined_below, Assigns, Meets, HasFrom, flag_of}
use Rattle.std.proofs.Common.{length-append}
use Rattle.tv_core.proofs.JoinedLaws.{joined_below-zero, joined_below-suc, length-joined_below, has_each_list}
use Rattle.tv_core.proofs.LoopLaws.{turns_met, turns-next}
use Rattle.tv_core.specs.Lines.{pair_value}
use Rattle.tv_core.specs.declared.lines.Pair.{Pair}
use Rattle.tv_core.specs.declared.lines.PairNum.{PairNum}
use Rattle.tv_network.proofs.StagesSound.{stage_sound}
use Rattle.tv_network.proofs.StageLaws.{stages_next, stage_turn, stage_same, AreSwitches, stage_values_are}
use Rattle.tv_network.proofs.SwitchLaws.{flag_of-is, switch_complete}
use Rattle.tv_network.proofs.SwitchSizes.{switch_sizes}
use Rattle.tv_network.specs.Stages.{form_of, switches_in, wires_before, wire_at, item_at, lower_slot, upper_slot, stage_of, stages_of, stage_values}
use Rattle.tv_network.specs.Stages.{stages_values, AreValues, StagesAreComplete}
use Rattle.tv_network.specs.Switches.{width, switch_of, switch_values, bit_at}
use Rattle.tv_network.specs.declared.shape.Network.{Network}
use Rattle.tv_stages.proofs.Numbers.{switches_numbered}
use Rattle.tv_stages.specs.Stages.{depth, is_switched, number, position, remove_bit, stage_count, through_first, through_stages}

-- ---- how many values there are
module _ (n : Network) (l : ℕ) (bit : ℕ → Bool) (v : ℕ → PairNum) where
  abbrev pub values_at : ℕ → List ℕ
  values_at at = switch_values (form_of n l) (bit (number n.net n.items l at)) (v (lower_slot n l at)) (v (upper_slot n l at))

  values_at-length : (at : ℕ) → at < switches_in n l → length (values_at at) ≡ width (form_of n l)
  values_at-length at h = switch_sizes.values (form_of n l) (bit (number n.net n.items l at)) (v (lower_slot n l at)) (v (upper_slot n l at))

  pub stage_values-length : length (stage_values n l bit v) ≡ switches_in n l * width (form_of n l)
  unfolding stage_values
  stage_values-length = length-joined_below (switches_in n l) (width (form_of n l)) values_at values_at-length

  -- an assignment that has them has those of each switch
  has_switch : (z : List ℕ) (next : ℕ) → HasFrom z next (stage_values n l bit v) → (at : ℕ) → at < switches_in n l
      → HasFrom z (next + at * width (form_of n l)) (values_at at)
  unfolding stage_values
  has_switch z next has at h = has_each_list z next (switches_in n l) (width (form_of n l)) values_at values_at-length has at h

module _ (n : Network) (bit : ℕ → ℕ → Bool) (v : ℕ → PairNum) where
  abbrev pub stage_at : ℕ → List ℕ
  stage_at l = stage_values n l (bit l) (through_first n.net n.items bit l v)

  stages_length : (m : ℕ) → length (joined_below m stage_at) ≡ wires_before n m
  unfolding wires_before
  stages_length zero = ap length (joined_below-zero stage_at)
  stages_length (suc m) =
      ap length (joined_below-suc m stage_at) ∙ length-append (joined_below m stage_at) (stage_at m)
      ∙ ap₂ (λ a b. a + b) (stages_length m) (stage_values-length n m (bit m) (through_first n.net n.items bit m v))

  pub stages_values-length : length (stages_values n bit v) ≡ wires_before n (stage_count n.items)
  unfolding stages_values
  stages_values-length = stages_length (stage_count n.items)

  -- an assignment that has the values of stages has those of each
  has_stage : (z : List ℕ) (next m : ℕ) → HasFrom z next (joined_below m stage_at) → (l : ℕ) → l < m → HasFrom z (next + wires_before n l) (stage_at l)
  has_stage z next zero has l h = absurd (omega arith)
  has_stage z next (suc m) has l h =
      let parts = HasFrom-split z next (joined_below m stage_at) (stage_at m) (subst (HasFrom z next) (joined_below-suc m stage_at) has) in
      elim (cases_eq l m) [
        | inl same ↦
            subst (λ k. HasFrom z (next + wires_before n k) (stage_at k)) (sym same)
            (subst (λ w. HasFrom z (next + w) (stage_at m)) (stages_length m) parts.1)
        | inr apart ↦ has_stage z next m parts.0 l (omega arith)
      ]

-- ---- a stage
record HasStage (z : List ℕ) (n : Network) (l : ℕ) (item : ℕ → Pair) (next : ℕ) (bit : ℕ → Bool) : Type 0 where
  meets : Meets z (stage_of n l item next).list
  bits : (at : ℕ) → at < switches_in n l → slice_index z (next + at * width (form_of n l)) ≡ flag_of (bit (number n.net n.items l at))

stage_complete : (z : List ℕ) (n : Network) (l : ℕ) (item : ℕ → Pair) (next : ℕ) (bit : ℕ → Bool) (v : ℕ → PairNum) → l < stage_count n.items
    → Assigns z → AreValues z n item v → HasFrom z next (stage_values n l bit v) → HasStage z n l item next bit
unfolding stage_of
stage_complete z n l item next bit v within assigns is has =
    let f = form_of n l in
    let piece : ℕ → Unit {0} → Circuit (Unit {0}) = λ at _. switch_of f (item (lower_slot n l at)) (item (upper_slot n l at)) in
    let each : (at : ℕ) → at < switches_in n l → Meets z (switch_of f (item (lower_slot n l at)) (item (upper_slot n l at)) (next + at * width f)).list
    × (slice_index z (next + at * width f) ≡ flag_of (bit (number n.net n.items l at))) = λ at h.
    let place = switches_numbered.switch n.net n.items l at within h in
    let upper = place.upper in
    switch_complete z f (item (lower_slot n l at)) (item (upper_slot n l at)) (next + at * width f) (bit (number n.net n.items l at)) assigns
    (subst (λ values. HasFrom z (next + at * width f) values)
    (sym (ap₂ (switch_values f (bit (number n.net n.items l at))) (is (lower_slot n l at) (omega arith)) (is (upper_slot n l at) upper)))
    (has_switch n l bit v z next has at h)) in
    record {
      meets = turns_met z piece tt next (switches_in n l) (λ at h. subst (λ w. Meets z (piece at tt w).list)
          (sym (turns-next piece tt next (width f) at (λ i a w. switch_sizes.end f (item (lower_slot n l i)) (item (upper_slot n l i)) w))) (each at h).0);
      bits = λ at h. (each at h).1;
    }

-- ---- the network
module _ (z : List ℕ) (n : Network) (next : ℕ) (item : ℕ → Pair) (bit : ℕ → ℕ → Bool) (v : ℕ → PairNum) (assigns : Assigns z)
    (is : AreValues z n item v) (has : HasFrom z next (stages_values n bit v)) where
  abbrev through : ℕ → ℕ → PairNum
  through l = through_first n.net n.items bit l v

  has_values : (l : ℕ) → l < stage_count n.items → HasFrom z (next + wires_before n l) (stage_values n l (bit l) (through l))
  unfolding stages_values
  has_values l within = has_stage n bit v z next (stage_count n.items) has l within

  -- a stage before which the numbers that go through stand
  filled_by : (l : ℕ) → l < stage_count n.items → AreValues z n (item_at n next item l) (through l)
      → HasStage z n l (item_at n next item l) (next + wires_before n l) (bit l)
  filled_by l within before =
      stage_complete z n l (item_at n next item l) (next + wires_before n l) (bit l) (through l) within assigns before (has_values l within)

  bits_are : (l : ℕ) → l < stage_count n.items → HasStage z n l (item_at n next item l) (next + wires_before n l) (bit l) → (x : ℕ)
      → is_switched n.net n.items l x ≡ true → bit_at z (wire_at n next l x) ≡ bit l (remove_bit (depth n.items l) x)
  bits_are l within filled x e =
      let on = switches_numbered.slot n.net n.items l x within e in
      let at = position n.net n.items l (remove_bit (depth n.items l) x) in
      ap (λ k. k == 1) (filled.bits at on.early) ∙ flag_of-is (bit l (number n.net n.items l at)) ∙ ap (bit l) on.numbered

  -- what stands before stage m
  values_filled : (m : ℕ) → m ≤ stage_count n.items → AreValues z n (item_at n next item m) (through m)
  unfolding item_at through_first
  values_filled zero within x h = is x h
  values_filled (suc m) within x h =
      let before = values_filled m (omega arith) in
      let filled = filled_by m (omega arith) before in
      let switch : AreSwitches z n next item m = λ at k. stage_sound z n m (item_at n next item m) (next + wires_before n m) assigns filled.meets at k in
      stage_values_are z n next item m (omega arith) switch bit (bits_are m (omega arith) filled) x
      ∙ stage_same n.net n.items m bit (λ y. pair_value z (item_at n next item m y)) (through m) before x h

  filled : (l : ℕ) → l < stage_count n.items → HasStage z n l (item_at n next item l) (next + wires_before n l) (bit l)
  filled l within = filled_by l within (values_filled l (omega arith))

  all_met : Meets z (stages_of n item next).list
  unfolding stages_of here pure ◌>>=◌
  all_met =
      let piece = stage_turn n (item_at n next item) in
      turns_met z piece tt next (stage_count n.items) (λ l within. subst (λ w. Meets z (piece l tt w).list)
      (sym (stages_next n (item_at n next item) l next)) (filled l within).meets)

pub stages_complete : StagesAreComplete
unfolding through_stages
stages_complete z n next item bit v assigns is has = record {
  meets = all_met z n next item bit v assigns is has;
  bits = λ l at within h. (filled z n next item bit v assigns is has l within).bits at h;
  outputs = λ x h. values_filled z n next item bit v assigns is has (stage_count n.items) (omega arith) x h;
}
