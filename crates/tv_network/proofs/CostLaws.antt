-- How many constraints and terms a network has.
use Rattle.tv_core.proofs.Common.{◌≡◌, ℕ, zero, suc, ◌+◌, ◌*◌, ◌<◌, List, [], ◌++◌, length, refl, sym, ap, ap₂, ◌∙◌, arith, length-append, Circuit}
use Rattle.tv_core.proofs.Common.{fresh, here, pure, put, turns, ◌>>=◌, Constraint, terms_in, add-one}
use Rattle.std.proofs.lemmas.List.Sums.{sum_by-append}
use Rattle.tv_bits.proofs.GateLaws.{length-negated}
use Rattle.tv_bits.specs.Bit.{bit_of}
use Rattle.tv_bits.specs.Select.{pick_of}
use Rattle.tv_core.proofs.BelowLaws.{sum_below-zero, sum_below-suc}
use Rattle.tv_core.specs.Below.{sum_below}
use Rattle.tv_core.specs.Meanings.{terms_of}
use Rattle.tv_core.specs.declared.lines.Pair.{Pair}
use Rattle.tv_network.proofs.StageLaws.{stage_turn}
use Rattle.tv_network.proofs.SwitchSizes.{switch_sizes}
use Rattle.tv_network.specs.Costs.{bound_of, bound_before, switch_terms, stage_terms, stages_terms, StagesAreCounted}
use Rattle.tv_network.specs.Stages.{form_of, switches_in, wires_before, item_at, lower_slot, upper_slot, stage_of, stages_of}
use Rattle.tv_network.specs.Switches.{width, remainder_of, product_of, switch_of}
use Rattle.tv_network.specs.declared.shape.Network.{Network}
use Rattle.tv_network.specs.declared.switches.Form.{Form}
use Rattle.tv_network.specs.declared.switches.Form.TheVariants.{Bound, Open}
use Rattle.tv_stages.specs.Stages.{first_switch, stage_count}

-- ---- what adds up over the constraints of a list
pub record IsMeasure (m : List Constraint → ℕ) : Type 0 where
  pub nothing : m [] ≡ 0
  pub adds : (a b : List Constraint) → m (a ++ b) ≡ m a + m b

pub lengths : IsMeasure length
lengths = record { nothing = refl; adds = λ a b. length-append a b }

pub terms : IsMeasure terms_in
terms = record { nothing = refl; adds = λ a b. sum_by-append (λ (c : Constraint). terms_of c) a b }

module _ (m : List Constraint → ℕ) (law : IsMeasure m) where
  -- of a loop: the sum over its turns
  pub turns_cost : {A : Type 0} (piece : ℕ → A → Circuit A) (x : A) (next : ℕ) (c : ℕ → ℕ) (n : ℕ)
      → ((i : ℕ) → i < n → (a : A) (at : ℕ) → m (piece i a at).list ≡ c i)
      → m (turns n piece x next).list ≡ sum_below n c
  unfolding turns pure ◌>>=◌
  turns_cost piece x next c zero each = law.nothing ∙ sym (sum_below-zero c)
  turns_cost piece x next c (suc n) each =
      law.adds (turns n piece x next).list _
      ∙ ap₂ (λ a b. a + b) (turns_cost piece x next c n (λ i h. each i (omega arith)))
      (each n (omega arith) (turns n piece x next).answer (turns n piece x next).next)
      ∙ sym (sum_below-suc n c)

  -- of a network, by that of its switches
  module _ (cost : Form → Pair → Pair → ℕ) (switch : (form : Form) (x y : Pair) (at : ℕ) → m (switch_of form x y at).list ≡ cost form x y) (n : Network) where
    abbrev stage_cost : ℕ → (ℕ → Pair) → ℕ
    stage_cost l item = sum_below (switches_in n l) (λ at. cost (form_of n l) (item (lower_slot n l at)) (item (upper_slot n l at)))

    stage_costs : (l : ℕ) (item : ℕ → Pair) (next : ℕ) → m (stage_of n l item next).list ≡ stage_cost l item
    unfolding stage_of
    stage_costs l item next =
        turns_cost (λ at _. switch_of (form_of n l) (item (lower_slot n l at)) (item (upper_slot n l at))) tt next
        (λ at. cost (form_of n l) (item (lower_slot n l at)) (item (upper_slot n l at))) (switches_in n l)
        (λ at h a w. switch (form_of n l) (item (lower_slot n l at)) (item (upper_slot n l at)) w)

    stages_costs : (item : ℕ → Pair) (next : ℕ) → m (stages_of n item next).list ≡ sum_below (stage_count n.items) (λ l. stage_cost l (item_at n next item l))
    unfolding stages_of here pure ◌>>=◌
    stages_costs item next =
        turns_cost (stage_turn n (item_at n next item)) tt next (λ l. stage_cost l (item_at n next item l)) (stage_count n.items)
        (λ l h a at. stage_costs l (item_at n next item l) at)

-- ---- constraints
pub sum_same : (n k : ℕ) → sum_below n (λ _. k) ≡ n * k
sum_same zero k = sum_below-zero (λ _. k) ∙ omega arith
sum_same (suc n) k = sum_below-suc n (λ _. k) ∙ omega (arith, sum_same n k)

stages_wires : (n : Network) (m : ℕ) → sum_below m (λ l. sum_below (switches_in n l) (λ _. width (form_of n l))) ≡ wires_before n m
unfolding wires_before
stages_wires n zero = sum_below-zero (λ l. sum_below (switches_in n l) (λ _. width (form_of n l)))
stages_wires n (suc m) =
    sum_below-suc m (λ l. sum_below (switches_in n l) (λ _. width (form_of n l)))
    ∙ ap₂ (λ a b. a + b) (stages_wires n m) (sum_same (switches_in n m) (width (form_of n m)))

form_wires : (form : Form) (k : ℕ) → k * width form ≡ 3 * k + 2 * bound_of form k
form_wires Bound k = omega arith
form_wires Open k = omega arith

wires_are : (n : Network) (l : ℕ) → wires_before n l ≡ 3 * first_switch n.net n.items l + 2 * bound_before n l
unfolding wires_before bound_before first_switch
wires_are n zero = refl
wires_are n (suc l) = omega (arith, wires_are n l, form_wires (form_of n l) (switches_in n l))

-- ---- terms
switch_cost : (form : Form) (x y : Pair) (next : ℕ) → terms_in (switch_of form x y next).list ≡ switch_terms form x y
unfolding switch_of remainder_of product_of bit_of pick_of pure fresh put ◌>>=◌
switch_cost Bound x y next = omega (arith, length-negated x.first (next + 1), length-negated x.second (next + 1 + 1))
switch_cost Open x y next = omega arith

pub stages_counted : StagesAreCounted
unfolding stages_terms stage_terms
stages_counted = record {
  constraints = λ n item next.
      stages_costs length lengths (λ form x y. width form) switch_sizes.count n item next ∙ stages_wires n (stage_count n.items);
  wires = λ n. wires_are n (stage_count n.items);
  terms = λ n item next. stages_costs terms_in terms switch_terms switch_cost n item next;
}

-- ---- what the code adds up
pub stage_terms-zero : (n : Network) (l : ℕ) (item : ℕ → Pair)
    → 0 ≡ sum_below 0 (λ at. switch_terms (form_of n l) (item (lower_slot n l at)) (item (upper_slot n l at)))
stage_terms-zero n l item = sym (sum_below-zero _)

pub stage_terms-more : (n : Network) (l : ℕ) (item : ℕ → Pair) (at : ℕ) →
    let each : ℕ → ℕ = λ at. switch_terms (form_of n l) (item (lower_slot n l at)) (item (upper_slot n l at)) in
    sum_below at each + each at ≡ sum_below (at + 1) each
stage_terms-more n l item at =
    let each : ℕ → ℕ = λ at. switch_terms (form_of n l) (item (lower_slot n l at)) (item (upper_slot n l at)) in
    sym (sum_below-suc at each) ∙ ap (λ k. sum_below k each) (sym (add-one at))

pub stages_terms-zero : (n : Network) (first : ℕ) (item : ℕ → Pair) → 0 ≡ sum_below 0 (λ l. stage_terms n l (item_at n first item l))
stages_terms-zero n first item = sym (sum_below-zero _)

pub stages_terms-more : (n : Network) (first : ℕ) (item : ℕ → Pair) (l : ℕ) →
    let each : ℕ → ℕ = λ l. stage_terms n l (item_at n first item l) in
    sum_below l each + each l ≡ sum_below (l + 1) each
stages_terms-more n first item l =
    let each : ℕ → ℕ = λ l. stage_terms n l (item_at n first item l) in
    sym (sum_below-suc l each) ∙ ap (λ k. sum_below k each) (sym (add-one l))
