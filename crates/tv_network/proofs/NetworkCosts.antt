-- What a network costs.
use Rattle.tv_core.proofs.Common.{◌≡◌, ℕ, zero, suc, ◌+◌, ◌-◌, ◌*◌, ◌/◌, ◌^◌, ◌<◌, ◌≤◌, ◌++◌, List, length, ◌∙◌, ap, subst, arith, inl, inr}
use Rattle.tv_core.proofs.Common.{add-one, cases_eq, mod-lt, pow-le-pow_right, Constraint, Combination, less}
use Rattle.tv_core.proofs.Common.{terms_in, append-nil, here, pure, ◌>>=◌, length-append}
use Rattle.std.proofs.Math.Nat.{mul-le-mul_left, mul-le-mul_right}
use Rattle.std.proofs.lemmas.Nat.{pow_pos}
use Rattle.tv_bits.proofs.GateLaws.{length-less}
use Rattle.tv_core.proofs.BelowLaws.{sum_below-zero, sum_below-suc}
use Rattle.tv_core.proofs.NormalLaws.{length-normal}
use Rattle.tv_core.specs.Below.{sum_below}
use Rattle.tv_core.specs.declared.lines.Pair.{Pair}
use Rattle.tv_network.proofs.CostLaws.{IsMeasure, lengths, terms, turns_cost, sum_same, stages_counted}
use Rattle.tv_network.proofs.LastStage.{loose_few, loose_within}
use Rattle.tv_network.proofs.LooseLaws.{kept_count, kept_cost}
use Rattle.tv_network.proofs.Shapes.{stages_few, width_few}
use Rattle.tv_network.proofs.SlotLaws.{items_short}
use Rattle.tv_network.specs.Costs.{number_terms, stage_terms, stages_terms, switch_terms}
use Rattle.tv_network.specs.Network.{kept_of, kept_terms, loose_count, loose_of, loose_slot, network_of, network_terms, network_wires, NetworkIsCounted}
use Rattle.tv_network.specs.Stages.{form_of, item_at, lower_slot, upper_slot, output_at, stages_of, switches_in, wires_before}
use Rattle.tv_network.specs.Switches.{ArePairsMade, IsPairMade}
use Rattle.tv_network.specs.declared.shape.Network.{Network}
use Rattle.tv_network.specs.declared.switches.Form.{Form}
use Rattle.tv_network.specs.declared.switches.Form.TheVariants.{Bound, Open}
use Rattle.tv_stages.proofs.Depths.{stage_count_is}
use Rattle.tv_stages.proofs.Heights.{height_right}
use Rattle.tv_stages.proofs.Numbers.{count_middle, count_pairs, count_le, switches_numbered}
use Rattle.tv_stages.proofs.Slots.{whole}
use Rattle.tv_stages.specs.Stages.{depth, height, stage_count, pairs, middle_count, number_count, switch_count}

-- ---- constraints and terms
network_cost : (m : List Constraint → ℕ) → IsMeasure m → (cost : Pair → ℕ) → ((x : Pair) (at : ℕ) → m (kept_of x at).list ≡ cost x)
    → (n : Network) (item : ℕ → Pair) (next : ℕ)
    → m (network_of n item next).list ≡ m (stages_of n item next).list + sum_below (loose_count n) (λ j. cost (output_at n next item (loose_slot n j)))
unfolding network_of here pure ◌>>=◌
network_cost m law cost each n item next =
    let start = (stages_of n item next).next in
    law.adds (stages_of n item next).list _
    ∙ ap (λ k. m (stages_of n item next).list + k) (ap m (append-nil (loose_of n next item start).list)
    ∙ turns_cost m law (λ j _. kept_of (output_at n next item (loose_slot n j))) tt start (λ j. cost (output_at n next item (loose_slot n j))) (loose_count n)
    (λ j h a w. each (output_at n next item (loose_slot n j)) w))

-- ---- at most how many wires
pairs_half : (L d : ℕ) → 2 * pairs L d ≤ L
unfolding pairs
pairs_half L d =
    let pos = pow_pos d in
    let is = whole (2 * 2 ^ d) L (omega arith) in
    let rest = mod-lt L {m = 2 * 2 ^ d} (omega arith) in
    let twice : L / (2 * 2 ^ d) * (2 * 2 ^ d) ≡ 2 * (2 ^ d * (L / (2 * 2 ^ d))) = grind arith in
    omega arith

twice : (k : ℕ) → 2 ^ (k + 1) ≡ 2 * 2 ^ k
twice k = let two : 2 ^ suc k ≡ 2 * 2 ^ k = omega arith in ap (λ m. 2 ^ m) (add-one k) ∙ two

module _ (L h : ℕ) (few : L ≤ 2 ^ (h + 1)) where
  low : height L ≤ h + 1
  low = height_right.least L (h + 1) few

  middle_few : 1 ≤ height L → middle_count L ≤ 2 ^ h
  unfolding middle_count
  middle_few some =
      let k : ℕ = height L - 1 in
      let up : height L ≡ k + 1 = omega arith in
      let most : L ≤ 2 ^ (k + 1) = subst (λ m. L ≤ 2 ^ m) up (height_right.enough L) in
      let less : 2 ^ k ≤ 2 ^ h = pow-le-pow_right (omega arith) (omega (arith, low)) in
      omega (arith, twice k)

  numbers_few : (l : ℕ) → l < stage_count L → number_count L l ≤ 2 ^ h
  numbers_few l within = elim (cases_eq l (height L)) [
    | inl same ↦
        let some : 1 ≤ height L = omega (arith, stage_count_is L) in
        omega (arith, count_middle L l same, middle_few some)
    | inr other ↦ omega (arith, count_pairs L l other, pairs_half L (depth L l), twice h)
  ]

switches_few : (n : Network) (l : ℕ) → switches_in n l ≤ number_count n.items l
unfolding switch_count
switches_few n l = omega arith

wires_few : (n : Network) (h : ℕ) → n.items ≤ 2 ^ (h + 1) → (l : ℕ) → l ≤ stage_count n.items → wires_before n l ≤ 5 * (l * 2 ^ h)
unfolding wires_before
wires_few n h few zero within = omega arith
wires_few n h few (suc l) within =
    let before = wires_few n h few l (omega arith) in
    let wide = mul-le-mul_left (switches_in n l) (width_few (form_of n l)).1 in
    let more : suc l * 2 ^ h ≡ l * 2 ^ h + 2 ^ h = grind arith in
    omega (arith, switches_few n l, numbers_few n.items h few l (omega arith))

most_wires : (n : Network) (h : ℕ) → n.items ≤ 2 ^ (h + 1) → network_wires n ≤ 5 * ((2 * h + 1) * 2 ^ h) + 4
most_wires n h few =
    let stages : stage_count n.items ≤ 2 * h + 1 = omega (arith, stage_count_is n.items, low n.items h few) in
    let all = mul-le-mul_right (2 ^ h) stages in
    omega (arith, wires_few n h few (stage_count n.items) (omega arith), (loose_few n).0)

-- ---- at most how many terms
sum_few : (n b : ℕ) (f : ℕ → ℕ) → ((i : ℕ) → i < n → f i ≤ b) → sum_below n f ≤ n * b
sum_few zero b f each = omega (arith, sum_below-zero f)
sum_few (suc n) b f each =
    let more : suc n * b ≡ n * b + b = grind arith in
    omega (arith, sum_below-suc n f, sum_few n b f (λ i h. each i (omega arith)), each n (omega arith))

numbers_short : (form : Form) (x y : Combination) → length x ≤ 64 → length y ≤ 64 → number_terms form x y ≤ 325
numbers_short Bound x y h k =
    omega (arith, length-normal (less y x), length-less y x, length-normal (x ++ y), length-append x y)
numbers_short Open x y h k = omega (arith, length-normal (less x y), length-less x y)

switches_short : (form : Form) (x y : Pair) (v w : ℕ) → IsPairMade 64 x v → IsPairMade 64 y w → switch_terms form x y ≤ 655
switches_short form x y v w p q =
    omega (arith, numbers_short form x.first y.first p.first_short q.first_short, numbers_short form x.second y.second p.second_short q.second_short)

module _ (n : Network) (item : ℕ → Pair) (next : ℕ) (few : n.items ≤ 2 ^ 25) (made : ArePairsMade 15 item n.items next) where
  stage_short : (l : ℕ) → l < stage_count n.items → stage_terms n l (item_at n next item l) ≤ 2 ^ 25 * 655
  unfolding stage_terms
  stage_short l within =
      let each = sum_few (switches_in n l) 655 _ (λ at h.
      let up = (switches_numbered.switch n.net n.items l at within h).upper in
      switches_short (form_of n l) (item_at n next item l (lower_slot n l at)) (item_at n next item l (upper_slot n l at)) _ _
      (items_short n next item few made l (omega arith) (lower_slot n l at) (omega arith))
      (items_short n next item few made l (omega arith) (upper_slot n l at) up)) in
      omega (arith, switches_few n l, count_le n.items l, each)

  terms_few : network_terms n next item < 2 ^ 43
  unfolding network_terms stages_terms
  terms_few =
      let stages = sum_few (stage_count n.items) (2 ^ 25 * 655) (λ l. stage_terms n l (item_at n next item l)) stage_short in
      let loose = sum_few (loose_count n) 132 (λ j. kept_terms (output_at n next item (loose_slot n j))) (λ j h.
      let out = items_short n next item few made (stage_count n.items) (omega arith) (loose_slot n j) (loose_within n j h) in
      omega (arith, out.first_short, out.second_short)) in
      omega (arith, stages, loose, stages_few n.items few, (loose_few n).0)

pub network_counted : NetworkIsCounted
unfolding network_terms
network_counted = record {
  constraints = λ n item next.
      network_cost length lengths (λ x. 2) kept_count n item next
      ∙ omega (arith, stages_counted.constraints n item next, sum_same (loose_count n) 2);
  wires = λ n. ap (λ k. k + 2 * loose_count n) (stages_counted.wires n);
  most = most_wires;
  terms = λ n item next.
      network_cost terms_in terms kept_terms kept_cost n item next
      ∙ ap (λ k. k + sum_below (loose_count n) (λ j. kept_terms (output_at n next item (loose_slot n j)))) (stages_counted.terms n item next);
  few = λ n item next few made. terms_few n item next few made;
}
