-- The laws of a network: those of its stages, and of the loose slots' wires.
use Rattle.tv_core.proofs.Common.{◌≡◌, ℕ, ◌+◌, ◌<◌, List, [], ◌∷◌, ◌++◌, length, refl, sym, ◌∙◌, ap, subst, arith, inl, inr, here, pure, ◌>>=◌}
use Rattle.tv_core.proofs.Common.{Bool, Assigns, Meets, InField, InField-cons, InField-none, Meets-split, Meets-join, HasFrom-split, joined_below, append-nil}
use Rattle.std.proofs.Common.{length-append}
use Rattle.std.proofs.lemmas.Bool.{cases_Bool}
use Rattle.tv_core.proofs.FieldLaws.{InField-append, InField-joined_below}
use Rattle.tv_core.proofs.JoinedLaws.{length-joined_below}
use Rattle.tv_core.proofs.NormalCircuits.{normal_both}
use Rattle.tv_core.specs.Lines.{pair_value}
use Rattle.tv_core.specs.declared.lines.Pair.{Pair}
use Rattle.tv_core.specs.declared.lines.PairNum.{PairNum}
use Rattle.tv_network.proofs.LastStage.{loose_within, loose_wire, numbered, output_is, wire_own, wire_below}
use Rattle.tv_network.proofs.LooseLaws.{loose_next, loose_sound, loose_complete, loose_normal}
use Rattle.tv_network.proofs.StageLaws.{stages_end}
use Rattle.tv_network.proofs.StagesComplete.{stages_complete, stages_values-length}
use Rattle.tv_network.proofs.StagesItems.{stages_normal}
use Rattle.tv_network.proofs.StagesSizes.{through_keeps, stages_small, IsSmall}
use Rattle.tv_network.proofs.StagesSound.{stages_sound}
use Rattle.tv_network.specs.Network.{is_loose, loose_count, loose_number, loose_of, loose_slot, network_of, network_values, network_wires, output_of}
use Rattle.tv_network.specs.Network.{kept_values, NetworkIsSound, NetworkIsComplete, NetworkIsNormal, NetworkFills}
use Rattle.tv_network.specs.Stages.{output_at, stages_of, stages_values, stages_wires}
use Rattle.tv_network.specs.Switches.{wires_at}
use Rattle.tv_network.specs.declared.shape.Network.{Network}
use Rattle.tv_stages.specs.Stages.{stage_count, through_stages}
pub use Rattle.tv_network.proofs.NetworkCosts.{network_counted}

module _ (n : Network) (next : ℕ) (item : ℕ → Pair) where
  -- the loose slots' wires follow those of the stages
  pub network_list : (network_of n item next).list ≡ (stages_of n item next).list ++ (loose_of n next item (next + stages_wires n)).list
  unfolding network_of here pure ◌>>=◌
  network_list =
      ap (λ l. (stages_of n item next).list ++ l) (append-nil (loose_of n next item (stages_of n item next).next).list
      ∙ ap (λ w. (loose_of n next item w).list) (stages_end n item next))

  pub network_next : (network_of n item next).next ≡ next + network_wires n
  unfolding network_of here pure ◌>>=◌
  network_next = omega (arith, loose_next n next item (stages_of n item next).next, stages_end n item next)

  answer_is : (network_of n item next).answer ≡ next
  unfolding network_of here pure ◌>>=◌
  answer_is = refl

  -- an output is what stands there after the last stage
  outputs_are : (z : List ℕ) → Assigns z → Meets z (loose_of n next item (next + stages_wires n)).list → (x : ℕ) → x < n.items
      → pair_value z (output_of n next x) ≡ pair_value z (output_at n next item x)
  outputs_are z assigns meets x within = elim (cases_Bool (is_loose n x)) [
    | inl is ↦
        let number = numbered n x within is in
        ap (λ w. pair_value z (wires_at w)) (loose_wire n next x within is)
        ∙ loose_sound n next item (next + stages_wires n) z assigns meets (loose_number n x) number.0
        ∙ ap (λ y. pair_value z (output_at n next item y)) number.1
    | inr is ↦ ap (pair_value z) (sym (output_is n x within is next item))
  ]

pub network_sound : NetworkIsSound
network_sound z n next item assigns meets x within =
    let parts = Meets-split z (stages_of n item next).list _ (subst (Meets z) (network_list n next item) meets) in
    outputs_are n next item z assigns parts.1 x within ∙ (stages_sound z n next item assigns parts.0).outputs x

pub network_complete : NetworkIsComplete
unfolding network_values
network_complete z n next item bit v assigns is has =
    let parts = HasFrom-split z next (stages_values n bit v) _ has in
    let filled = stages_complete z n next item bit v assigns is parts.0 in
    let start : next + length (stages_values n bit v) ≡ next + stages_wires n = ap (λ k. next + k) (stages_values-length n bit v) in
    let loose = loose_complete n next item (next + length (stages_values n bit v)) z (through_stages n.net n.items bit v) assigns filled.outputs parts.1 in
    let met = subst (λ w. Meets z (loose_of n next item w).list) start loose in
    record {
      meets = subst (Meets z) (sym (network_list n next item)) (Meets-join z (stages_of n item next).list _ filled.meets met);
      outputs = λ x within. outputs_are n next item z assigns met x within ∙ filled.outputs x within;
    }

pub network_normal : NetworkIsNormal
network_normal n next item normal = rw network_list
    (normal_both (stages_of n item next).list _ (stages_normal.puts n next item normal)
    (loose_normal n next item (next + stages_wires n) (stages_normal.outputs n next item normal)))

-- ---- sizes
pub values_length : (n : Network) (bit : ℕ → ℕ → Bool) (v : ℕ → PairNum) → length (network_values n bit v) ≡ network_wires n
unfolding network_values
values_length n bit v =
    let kept : ℕ → List ℕ = λ j. kept_values (through_stages n.net n.items bit v (loose_slot n j)) in
    length-append (stages_values n bit v) (joined_below (loose_count n) kept)
    ∙ omega (arith, stages_values-length n bit v, length-joined_below (loose_count n) 2 kept (λ j h. refl))

values_small : (n : Network) (bit : ℕ → ℕ → Bool) (v : ℕ → PairNum) → ((x : ℕ) → x < n.items → IsSmall (v x)) → InField (network_values n bit v)
unfolding network_values through_stages
values_small n bit v small =
    InField-append (stages_values n bit v) _ (stages_small n bit v small)
    (InField-joined_below _ (loose_count n) (λ j h.
    let x = loose_slot n j in
    let out : IsSmall (through_stages n.net n.items bit v x) = through_keeps IsSmall n.net n.items bit v small (stage_count n.items) x (loose_within n j h) in
    let second = (through_stages n.net n.items bit v x).second in
    InField-cons _ (second ∷ []) out.0 (InField-cons second [] out.1 InField-none)))

pub network_fills : NetworkFills
network_fills = record {
  answer = λ n next item. answer_is n next item;
  ends = λ n next item. network_next n next item;
  fills = λ n item bit v next. network_next n next item ∙ ap (λ k. next + k) (sym (values_length n bit v));
  own = λ n next x within. wire_own n next x within;
  below = λ n next x within. wire_below n next x within;
  small = values_small;
}
