-- The last stage: its switches have the slots that are not loose, and its outputs are wires.
use Rattle.tv_core.proofs.Common.{◌≡◌, ◌≢◌, ℕ, suc, ◌+◌, ◌-◌, ◌*◌, ◌/◌, ◌%◌, ◌^◌, ◌<◌, ◌≤◌, ◌==◌, nat_lt, Bool, true, false, not, if◌then◌else◌, refl, sym}
use Rattle.tv_core.proofs.Common.{◌∙◌, ap, ap₂, subst, arith, inl, inr, cases_eq, cases_lt, eq-eqb, ne_eqb, eqb-true, lt-ltb, le-ltb, cond_both}
use Rattle.std.specs.Prelude.{◌&&◌}
use Rattle.std.proofs.lemmas.Bool.{cases_Bool, eqb-false, ltb-true, ltb-false}
use Rattle.std.proofs.Math.Nat.{zero-mod}
use Rattle.tv_core.specs.declared.lines.Pair.{Pair}
use Rattle.tv_network.proofs.StageLaws.{item_passed}
use Rattle.tv_network.proofs.Shapes.{wires_before-suc}
use Rattle.tv_network.specs.Network.{left_out, loose_count, loose_slot, loose_number, is_loose, output_wire, output_of, network_wires}
use Rattle.tv_network.specs.Stages.{form_of, switches_in, wires_before, stages_wires, wire_at, item_at, output_at}
use Rattle.tv_network.specs.Switches.{width, passed_to, wires_at}
use Rattle.tv_network.specs.declared.shape.Network.{Network}
use Rattle.tv_network.specs.declared.switches.Form.TheVariants.{Bound, Open}
use Rattle.tv_stages.proofs.Depths.{stage_count_is, depth_before, depth_after}
use Rattle.tv_stages.proofs.Heights.{height_right, height_more}
use Rattle.tv_stages.proofs.Numbers.{count_middle, count_pairs, position_past, out_past}
use Rattle.tv_stages.proofs.Slots.{low_made}
use Rattle.tv_stages.specs.Stages.{depth, height, stage_count, is_low, low, remove_bit, pairs, middle_count, number_count, gap_start, gap_size}
use Rattle.tv_stages.specs.Stages.{switch_count, is_left_out, is_switched, position}
use Rattle.tv_stages.specs.declared.nets.Net.{Net}
use Rattle.tv_stages.specs.declared.nets.Net.TheVariants.{Benes, Waksman}

-- ---- loose slots
record IsLeft (left L : ℕ) : Type 0 where
  two : left ≤ 2
  few : left ≤ L
  even : left % 2 ≡ 0

left_few : (net : Net) (L : ℕ) → IsLeft (left_out net L) L
left_few Benes L = record { two = omega arith; few = omega arith; even = refl }
left_few Waksman L = elim (cases_lt 2 L) [
  | inl more ↦ rw (lt-ltb 2 L more) (record { two = omega arith; few = omega arith; even = refl })
  | inr few ↦ rw (le-ltb 2 L few) (record { two = omega arith; few = omega arith; even = refl })
]

module _ (n : Network) where
  abbrev L : ℕ
  L = n.items

  -- by whether there are an odd number of slots
  loose_odd : L % 2 ≡ 1 → loose_count n ≡ 1
  loose_odd odd = ap (λ (b : Bool). if b then 1 else left_out n.net L) (eq-eqb (L % 2) 1 odd)

  loose_even : L % 2 ≢ 1 → loose_count n ≡ left_out n.net L
  loose_even even = ap (λ (b : Bool). if b then 1 else left_out n.net L) (ne_eqb (L % 2) 1 even)

  pub loose_few : (loose_count n ≤ 2) × (loose_count n ≤ L)
  loose_few = elim (cases_eq (L % 2) 1) [
    | inl odd ↦ let one = loose_odd odd in (omega arith, omega arith)
    | inr even ↦ let same = loose_even even in let left = left_few n.net L in (omega (arith, left.two), omega (arith, left.few))
  ]

  loose_half : (L - loose_count n) / 2 ≡ L / 2 - loose_count n / 2
  loose_half = elim (cases_eq (L % 2) 1) [
    | inl odd ↦ let one = loose_odd odd in omega arith
    | inr even ↦ let same = loose_even even in omega (arith, (left_few n.net L).even, (left_few n.net L).two)
  ]

  pub loose_within : (j : ℕ) → j < loose_count n → loose_slot n j < L
  loose_within j h = elim (cases_eq (L % 2) 1) [
    | inl odd ↦ rw (eq-eqb (L % 2) 1 odd) (omega arith)
    | inr even ↦ rw (ne_eqb (L % 2) 1 even) (omega (arith, loose_few.1))
  ]

  module _ (x : ℕ) (within : x < L) where
    -- a loose slot has a number
    pub numbered : is_loose n x ≡ true → (loose_number n x < loose_count n) × (loose_slot n (loose_number n x) ≡ x)
    numbered is = elim (cases_eq (L % 2) 1) [
      | inl odd ↦
          let test = eq-eqb (L % 2) 1 odd in
          let last : x ≡ L - 1 = eqb-true x (L - 1) (rw test at is) in
          rw test (omega arith, sym last)
      | inr even ↦
          let test = ne_eqb (L % 2) 1 even in
          rw test (ltb-true x (left_out n.net L) (rw test at is), refl)
    ]

    -- another one's pair is whole, and after those that are left out
    apart : is_loose n x ≡ false → (x / 2 * 2 + 1 < L) × (loose_count n / 2 ≤ x / 2)
    apart is = elim (cases_eq (L % 2) 1) [
      | inl odd ↦
          let test = eq-eqb (L % 2) 1 odd in
          let other : x ≢ L - 1 = eqb-false x (L - 1) (rw test at is) in
          let one = loose_odd odd in
          elim (cases_eq x (L - 1)) [ inl same ↦ absurd (other same) | inr ne ↦ (omega arith, omega arith) ]
      | inr even ↦
          let past = ltb-false x (left_out n.net L) (rw (ne_eqb (L % 2) 1 even) at is) in
          let some = loose_even even in
          (omega arith, omega arith)
    ]

-- ---- the last stage
module _ (net : Net) (L : ℕ) (some : 2 ≤ L) where
  abbrev last : ℕ
  last = stage_count L - 1

  high : 1 ≤ height L
  high = elim (cases_lt 0 (height L)) [
    | inl h ↦ omega arith
    | inr h ↦ let none : height L ≡ 0 = omega arith in let few : L ≤ 2 ^ 0 = subst (λ k. L ≤ 2 ^ k) none (height_right.enough L) in absurd (omega arith)
  ]

  last_is : last + 2 ≡ 2 * height L
  last_is = omega (arith, stage_count_is L, high)

  last_deep : depth L last ≡ 0
  last_deep = elim (cases_lt last (height L)) [
    | inl before ↦ depth_before L last before ∙ omega (arith, last_is, high)
    | inr past ↦ depth_after L last 0 past (omega (arith, last_is))
  ]

  last_pairs : pairs L 0 ≡ L / 2
  unfolding pairs
  last_pairs = omega arith

  last_middle : height L ≡ 2 → middle_count L ≡ L / 2
  unfolding middle_count
  last_middle two =
      let few : L ≤ 2 ^ 2 = subst (λ k. L ≤ 2 ^ k) two (height_right.enough L) in
      let more : 2 ^ (2 - 1) < L = subst (λ k. 2 ^ (k - 1) < L) two (height_more L high) in
      ap (λ k. L - 2 ^ (k - 1)) two ∙ omega arith

  numbers : number_count L last ≡ L / 2
  numbers = elim (cases_eq last (height L)) [
    | inl same ↦ count_middle L last same ∙ last_middle (omega (arith, last_is))
    | inr other ↦ count_pairs L last other ∙ ap (pairs L) last_deep ∙ last_pairs
  ]

  start_none : gap_start L last ≡ 0
  unfolding gap_start
  start_none =
      ap (λ d. let stride = 2 ^ d in if L / stride % 2 == 0 then L % stride else 0) last_deep
      ∙ cond_both (L / 2 ^ 0 % 2 == 0) (L % 2 ^ 0) 0 (λ k. k ≡ 0) (λ e. omega arith) (λ e. refl)

-- how many switches the last stage leaves out: one for two loose slots
module _ (L : ℕ) (some : 2 ≤ L) where
  abbrev gap_by : ℕ → ℕ → ℕ
  gap_by k stride = if nat_lt (last Waksman L some) k then 0 else if L / stride == 2 then 0 else if L / stride % 2 == 0 then stride - L % stride else L % stride

  gap_is : gap_size Waksman L (last Waksman L some) ≡ gap_by (height L) (2 ^ 0)
  unfolding gap_size
  gap_is = ap (λ d. gap_by (height L) (2 ^ d)) (last_deep Waksman L some)

  waksman_gap : gap_size Waksman L (last Waksman L some) ≡ (if L % 2 == 1 then 1 else if nat_lt 2 L then 2 else 0) / 2
  waksman_gap =
      let is = last_is Waksman L some in
      let k = high Waksman L some in
      gap_is ∙ elim (cases_eq L 2) [
        | inl two ↦
            let low : height L ≤ 1 = height_right.least L 1 (omega arith) in
            rw (lt-ltb (last Waksman L some) (height L) (omega arith), two) refl
        | inr more ↦
            let deep : 2 ≤ height L = elim (cases_lt 1 (height L)) [
              | inl h ↦ omega arith
              | inr low ↦
                  let one : height L ≡ 1 = omega arith in
                  let few : L ≤ 2 ^ 1 = subst (λ k. L ≤ 2 ^ k) one (height_right.enough L) in
                  absurd (omega arith)
            ] in
            rw (le-ltb (last Waksman L some) (height L) (omega arith), ne_eqb (L / 2 ^ 0) 2 (λ e. more (omega arith)), lt-ltb 2 L (omega arith))
            (elim (cases_eq (L % 2) 1) [
              | inl odd ↦ rw (eq-eqb (L % 2) 1 odd, ne_eqb (L / 2 ^ 0 % 2) 0 (λ e. absurd (omega arith))) (omega arith)
              | inr even ↦ rw (ne_eqb (L % 2) 1 even, eq-eqb (L / 2 ^ 0 % 2) 0 (omega arith)) (omega arith)
            ])
      ]

last_gap : (net : Net) (L : ℕ) (some : 2 ≤ L) → gap_size net L (stage_count L - 1) ≡ (if L % 2 == 1 then 1 else left_out net L) / 2
unfolding gap_size
last_gap Benes L some = cond_both (L % 2 == 1) 1 0 (λ k. 0 ≡ k / 2) (λ e. refl) (λ e. refl)
last_gap Waksman L some = waksman_gap L some

-- ---- where the outputs stand
module _ (n : Network) (some : 2 ≤ n.items) where
  abbrev top : ℕ
  top = stage_count n.items - 1

  last_count : switches_in n top ≡ n.items / 2 - loose_count n / 2
  unfolding switch_count
  last_count = ap₂ (λ a b. a - b) (numbers n.net n.items some) (last_gap n.net n.items some)

  last_bound : form_of n top ≡ Bound
  last_bound =
      let zero_is : depth n.items top % n.rate ≡ 0 = ap (λ d. d % n.rate) (last_deep n.net n.items some) ∙ zero-mod n.rate in
      ap (λ (b : Bool). if b then Bound else Open) (eq-eqb (depth n.items top % n.rate) 0 zero_is)

-- the wires before the last stage, and its own
pub last_wires : (n : Network) → wires_before n (stage_count n.items - 1) + 5 * ((n.items - loose_count n) / 2) ≡ stages_wires n
last_wires n = elim (cases_lt n.items 2) [
  | inl few ↦
      let flat = height_right.least n.items 0 (omega arith) in
      let none : stage_count n.items ≡ 0 = omega (arith, stage_count_is n.items) in
      let last : wires_before n (stage_count n.items - 1) ≡ stages_wires n = ap (wires_before n) (omega arith) in
      omega arith
  | inr some ↦
      let l : ℕ = stage_count n.items - 1 in
      let all : stage_count n.items ≡ suc l = omega (arith, stage_count_is n.items, high n.net n.items some) in
      let made : switches_in n l * width (form_of n l) ≡ (n.items / 2 - loose_count n / 2) * 5 =
      ap₂ (λ a b. a * b) (last_count n some) (ap width (last_bound n some)) in
      omega (arith, ap (wires_before n) all, wires_before-suc n l, made, loose_half n)
]

-- an output that is not loose
abbrev pub side : Bool → ℕ
side low = if low then 1 else 3

passed_bound : (low : Bool) (w : ℕ) (x : Pair) → passed_to Bound low w x ≡ wires_at (w + side low)
passed_bound true w x = refl
passed_bound false w x = refl

module _ (n : Network) (x : ℕ) (within : x < n.items) (is : is_loose n x ≡ false) where
  some : 2 ≤ n.items
  some = omega (arith, (apart n x within is).0)

  abbrev l : ℕ
  l = stage_count n.items - 1

  half : remove_bit (depth n.items l) x ≡ x / 2
  unfolding remove_bit
  half = ap (λ d. x / 2 ^ d / 2 * 2 ^ d + x % 2 ^ d) (last_deep n.net n.items some) ∙ omega arith

  switched : is_switched n.net n.items l x ≡ true
  unfolding is_switched
  switched =
      let d = depth n.items l in
      let free = apart n x within is in
      let pair : low 0 x + 2 ^ 0 < n.items = omega (arith, low_made 0 x, free.0) in
      let near = lt-ltb (low d x + 2 ^ d) n.items (subst (λ e. low e x + 2 ^ e < n.items) (sym (last_deep n.net n.items some)) pair) in
      let below = lt-ltb (remove_bit d x) (number_count n.items l) (omega (arith, half, numbers n.net n.items some, free.0)) in
      let present : is_left_out n.net n.items l (remove_bit d x) ≡ false = ap (is_left_out n.net n.items l) half
      ∙ out_past n.net n.items l (x / 2) (omega (arith, start_none n.net n.items some, last_gap n.net n.items some, free.1)) in
      ap₂ (λ a b. a && b) (ap₂ (λ a b. a && b) near below) (ap not present)

  place : position n.net n.items l (remove_bit (depth n.items l) x) ≡ x / 2 - loose_count n / 2
  place =
      ap (position n.net n.items l) half ∙ position_past n.net n.items l (x / 2) (omega (arith, start_none n.net n.items some))
      ∙ ap (λ g. x / 2 - g) (last_gap n.net n.items some)

  module _ (first : ℕ) where
    abbrev w : ℕ
    w = wire_at n first l x

    wire_is : output_wire n first x ≡ w + side (is_low 0 x)
    wire_is = ap (λ (b : Bool). if b then first + stages_wires n + 2 * loose_number n x else w + side (is_low 0 x)) is

    place_is : w ≡ first + wires_before n l + (x / 2 - loose_count n / 2) * 5
    place_is = ap₂ (λ at wide. first + wires_before n l + at * wide) place (ap width (last_bound n some))

    odd_side : x % 2 ≢ 0 → 3 ≡ 1 + 2 * (x % 2)
    odd_side odd = omega arith

    pub switch_wire : output_wire n first x ≡ first + wires_before n l + (5 * (x / 2 - loose_count n / 2) + 1 + 2 * (x % 2))
    unfolding is_low
    switch_wire =
        let low : is_low 0 x ≡ (x % 2 == 0) = ap (λ k. k % 2 == 0) (omega arith) in
        let add : side (x % 2 == 0) ≡ 1 + 2 * (x % 2) =
        cond_both (x % 2 == 0) 1 3 (λ k. k ≡ 1 + 2 * (x % 2)) (λ e. omega (arith, eqb-true (x % 2) 0 e)) (λ e. odd_side (eqb-false (x % 2) 0 e)) in
        wire_is ∙ omega (arith, place_is, ap side low, add)

    switch_fits : 5 * (x / 2 - loose_count n / 2) + 5 ≤ 5 * ((n.items - loose_count n) / 2)
    switch_fits = omega (arith, loose_half n, (apart n x within is).0, (apart n x within is).1)

    pub switch_below : output_wire n first x + 1 < first + stages_wires n
    switch_below = omega (arith, switch_wire, switch_fits, last_wires n)

    pub output_is : (item : ℕ → Pair) → output_at n first item x ≡ output_of n first x
    output_is item =
        let all : stage_count n.items ≡ suc l = omega (arith, stage_count_is n.items, high n.net n.items some) in
        let before = item_at n first item l x in
        ap (λ m. item_at n first item m x) all ∙ item_passed n first item l x switched
        ∙ ap₂ (λ f d. passed_to f (is_low d x) w before) (last_bound n some) (last_deep n.net n.items some)
        ∙ passed_bound (is_low 0 x) w before ∙ ap wires_at (sym wire_is)

-- ---- every output
module _ (n : Network) (first x : ℕ) (within : x < n.items) where
  pub loose_wire : is_loose n x ≡ true → output_wire n first x ≡ first + stages_wires n + 2 * loose_number n x
  loose_wire is =
      ap (λ (b : Bool). if b then first + stages_wires n + 2 * loose_number n x
      else wire_at n first (stage_count n.items - 1) x + side (is_low 0 x)) is

  pub wire_own : first ≤ output_wire n first x
  wire_own = elim (cases_Bool (is_loose n x)) [
    | inl is ↦ omega (arith, loose_wire is)
    | inr is ↦ omega (arith, switch_wire n x within is first)
  ]

  pub wire_below : output_wire n first x + 1 < first + network_wires n
  wire_below = elim (cases_Bool (is_loose n x)) [
    | inl is ↦ omega (arith, loose_wire is, (numbered n x within is).0)
    | inr is ↦ omega (arith, switch_below n x within is first)
  ]
