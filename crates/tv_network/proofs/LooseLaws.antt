-- The wires of the loose slots.
use Rattle.tv_core.proofs.Common.{◌≡◌, ℕ, ◌+◌, ◌*◌, ◌<◌, List, length, refl, sym, ◌∙◌, ap, subst, arith, Circuit, fresh, put, turns, ◌>>=◌}
use Rattle.tv_core.proofs.Common.{Assigns, Meets, HasFrom, AreNormal, terms_in, joined_below, value-wire}
use Rattle.tv_core.proofs.CombinationLaws.{value-once}
use Rattle.tv_core.proofs.JoinedLaws.{has_each_list}
use Rattle.tv_core.proofs.LineLaws.{pair_same}
use Rattle.tv_core.proofs.LoopLaws.{turn_met, turns_met, turns-next}
use Rattle.tv_core.proofs.NormalCircuits.{normal_turns}
use Rattle.tv_core.specs.Lines.{pair_value}
use Rattle.tv_core.specs.declared.lines.Pair.{Pair}
use Rattle.tv_core.specs.declared.lines.PairNum.{PairNum}
use Rattle.tv_network.proofs.LastStage.{loose_within}
use Rattle.tv_network.proofs.SwitchSizes.{wire_normal}
use Rattle.tv_network.specs.Network.{kept_of, kept_terms, kept_values, loose_count, loose_of, loose_slot}
use Rattle.tv_network.specs.Stages.{output_at}
use Rattle.tv_network.specs.Switches.{wires_at, IsNormalPair}
use Rattle.tv_network.specs.declared.shape.Network.{Network}

-- ---- one slot
module _ (x : Pair) (next : ℕ) where
  pub kept_next : (kept_of x next).next ≡ next + 2
  unfolding kept_of fresh put ◌>>=◌
  kept_next = omega arith

  pub kept_count : length (kept_of x next).list ≡ 2
  unfolding kept_of fresh put ◌>>=◌
  kept_count = refl

  pub kept_cost : terms_in (kept_of x next).list ≡ kept_terms x
  unfolding kept_of fresh put ◌>>=◌
  kept_cost = omega arith

  kept_normal : IsNormalPair x next → AreNormal (kept_of x next).list
  unfolding kept_of fresh put ◌>>=◌
  kept_normal n = (
    record { a = n.first; b = wire_normal 0; c = wire_normal next },
    (record { a = n.second; b = wire_normal 0; c = wire_normal (next + 1) }, tt),
  )

  module _ (z : List ℕ) (assigns : Assigns z) where
    kept_sound : Meets z (kept_of x next).list → pair_value z (wires_at next) ≡ pair_value z x
    unfolding kept_of fresh put ◌>>=◌
    kept_sound meets = pair_same _ _ _ _ (sym meets.0 ∙ value-once z x.first assigns) (sym meets.1.0 ∙ value-once z x.second assigns)

    kept_complete : HasFrom z next (kept_values (pair_value z x)) → Meets z (kept_of x next).list
    unfolding kept_of fresh put ◌>>=◌
    kept_complete has = (
      value-once z x.first assigns ∙ sym has.0 ∙ sym (value-wire assigns next),
      (value-once z x.second assigns ∙ sym has.1.0 ∙ sym (value-wire assigns (next + 1)), tt),
    )

-- ---- all
module _ (n : Network) (first : ℕ) (item : ℕ → Pair) (next : ℕ) where
  abbrev at : ℕ → Pair
  at j = output_at n first item (loose_slot n j)

  abbrev piece : ℕ → Unit {0} → Circuit (Unit {0})
  piece j _ = kept_of (at j)

  loose_turn : (m : ℕ) → (turns m piece tt next).next ≡ next + m * 2
  loose_turn m = turns-next piece tt next 2 m (λ j a w. kept_next (at j) w)

  pub loose_next : (loose_of n first item next).next ≡ next + 2 * loose_count n
  loose_next = omega (arith, loose_turn (loose_count n))

  pub loose_sound : (z : List ℕ) → Assigns z → Meets z (loose_of n first item next).list → (j : ℕ) → j < loose_count n
      → pair_value z (wires_at (next + 2 * j)) ≡ pair_value z (at j)
  loose_sound z assigns meets j h =
      let place : next + 2 * j ≡ (turns j piece tt next).next = omega (arith, loose_turn j) in
      ap (λ w. pair_value z (wires_at w)) place ∙ kept_sound (at j) _ z assigns (turn_met z piece tt next (loose_count n) j h meets)

  pub loose_complete : (z : List ℕ) (v : ℕ → PairNum) → Assigns z → ((x : ℕ) → x < n.items → pair_value z (output_at n first item x) ≡ v x)
      → HasFrom z next (joined_below (loose_count n) (λ j. kept_values (v (loose_slot n j)))) → Meets z (loose_of n first item next).list
  loose_complete z v assigns is has = turns_met z piece tt next (loose_count n) (λ j h.
      let own = has_each_list z next (loose_count n) 2 (λ j. kept_values (v (loose_slot n j))) (λ i h. refl) has j h in
      let number = subst (λ p. HasFrom z (next + j * 2) (kept_values p)) (sym (is (loose_slot n j) (loose_within n j h))) own in
      kept_complete (at j) _ z assigns (subst (λ w. HasFrom z w (kept_values (pair_value z (at j)))) (sym (loose_turn j)) number))

  pub loose_normal : ((x : ℕ) → x < n.items → IsNormalPair (output_at n first item x) next) → AreNormal (loose_of n first item next).list
  loose_normal normal = normal_turns piece tt next (loose_count n) (λ j h.
      let own = normal (loose_slot n j) (loose_within n j h) in
      let after = loose_turn j in
      kept_normal (at j) _ (record {
        first = own.first;
        second = own.second;
        first_below = omega (arith, own.first_below, after);
        second_below = omega (arith, own.second_below, after);
      }))
