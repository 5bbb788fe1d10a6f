-- What stands at the slots while a stage's switches are taken in turn.
use Rattle.tv_core.proofs.Common.{◌≡◌, ◌≢◌, ℕ, zero, suc, ◌+◌, ◌^◌, ◌<◌, ◌≤◌, Bool, true, false, not, nat_lt, if◌then◌else◌, List, length, set, refl, sym}
use Rattle.tv_core.proofs.Common.{◌∙◌, ap, ap₂}
use Rattle.tv_core.proofs.Common.{subst, arith, inl, inr, cases_eq, cases_lt, lt-ltb, le-ltb, get_or, joined_below, add-one, ◌++◌}
use Rattle.std.specs.Prelude.{◌&&◌}
use Rattle.std.proofs.lemmas.Bool.{cases_Bool}
use Rattle.std.proofs.lemmas.List.{get_or-set_same, get_or-set_other, get_or_default, length-set}
use Rattle.std.proofs.lemmas.List.FromFn.{fill_by_all}
use Rattle.std.proofs.lemmas.Nat.{pow_pos}
use Rattle.tv_core.proofs.JoinedLaws.{joined_below-zero, joined_below-suc}
use Rattle.tv_core.specs.Values.{ValuesMeaning, GivesAll, GivesSome}
use Rattle.tv_core.specs.declared.lines.PairNum.{PairNum}
use Rattle.tv_core.specs.declared.sink.SinkFault.{SinkFault}
use Rattle.tv_network.proofs.StageLaws.{stage_kept, stage_passed}
use Rattle.tv_network.specs.Filling.{pair_at, exchanged}
use Rattle.tv_network.specs.Stages.{form_of, switches_in, lower_slot, upper_slot, stage_values}
use Rattle.tv_network.specs.Switches.{passed, switch_values}
use Rattle.tv_network.specs.declared.shape.Network.{Network}
use Rattle.tv_network.specs.declared.switches.Form.{Form}
use Rattle.tv_stages.proofs.Numbers.{switches_numbered}
use Rattle.tv_stages.proofs.Slots.{flip_flip, flip_low, low_low, low_high, remove_flip}
use Rattle.tv_stages.specs.Stages.{depth, flip, is_low, is_left_out, is_switched, low, number, number_count, places, position, remove_bit, stage}
use Rattle.tv_stages.specs.Stages.{stage_count, switch_count}
use Rattle.tv_stages.specs.Stages.{switch_slot, bit_in, first_switch, through_first}
use Rattle.tv_stages.specs.declared.nets.Net.{Net}

none : PairNum
none = record { first = 0; second = 0 }

-- an item that is read
pub read_item : (xs : List PairNum) (j : ℕ) (x : PairNum) → j < length xs → x ≡ get_or xs j x → x ≡ pair_at xs j
unfolding none
read_item xs j x within is = is ∙ get_or_default xs j x none within

-- a list whose items are those of a function is its list of places
pub is_places : (n : ℕ) (f : ℕ → PairNum) (xs : List PairNum) → length xs ≡ n → ((x : ℕ) → x < n → pair_at xs x ≡ f x) → xs ≡ places n f
unfolding places none
is_places n f xs long each = fill_by_all f xs n none long each

-- values that are those of another list
module _ {V : Type 0} {m : ValuesMeaning V} {old new : V} {xs ys : List ℕ} (same : xs ≡ ys) where
  pub all_as : GivesAll m old new xs → GivesAll m old new ys
  all_as p = subst (λ l. GivesAll m old new l) same p

  pub some_as : {fault : SinkFault} → GivesSome m old new xs fault → GivesSome m old new ys fault
  some_as {fault} p = subst (λ l. GivesSome m old new l fault) same p

pub values_as : (form form' : Form) (b b' : Bool) (x x' y y' : PairNum) → form ≡ form' → b ≡ b' → x ≡ x' → y ≡ y'
    → switch_values form b x y ≡ switch_values form' b' x' y'
values_as form form' b b' x x' y y' f p q r =
    ap₂ (λ g c. switch_values g c x y) f p ∙ ap₂ (λ m n. switch_values form' b' m n) q r

-- values of a stage over the same numbers
pub joined_same : (n : ℕ) (f g : ℕ → List ℕ) → ((i : ℕ) → i < n → f i ≡ g i) → joined_below n f ≡ joined_below n g
joined_same zero f g same = joined_below-zero f ∙ sym (joined_below-zero g)
joined_same (suc n) f g same =
    joined_below-suc n f ∙ ap₂ (λ a b. a ++ b) (joined_same n f g (λ i h. same i (omega arith))) (same n (omega arith)) ∙ sym (joined_below-suc n g)

pub stage_values_same : (n : Network) (l : ℕ) (bit : ℕ → Bool) (v w : ℕ → PairNum) → l < stage_count n.items
    → ((x : ℕ) → x < n.items → v x ≡ w x) → stage_values n l bit v ≡ stage_values n l bit w
unfolding stage_values
stage_values_same n l bit v w within same = joined_same (switches_in n l) _ _ (λ at h.
    let up = (switches_numbered.switch n.net n.items l at within h).upper in
    ap₂ (switch_values (form_of n l) (bit (number n.net n.items l at))) (same (lower_slot n l at) (omega arith)) (same (upper_slot n l at) up))

pub first_none : (net : Net) (L : ℕ) → 0 ≡ first_switch net L 0
unfolding first_switch
first_none net L = refl

pub first_more : (net : Net) (L l : ℕ) → first_switch net L l + switch_count net L l ≡ first_switch net L (l + 1)
unfolding first_switch
first_more net L l = ap (first_switch net L) (sym (add-one l))

pub through_more : (net : Net) (L : ℕ) (bit : ℕ → ℕ → Bool) (l : ℕ) (v : ℕ → PairNum) (x : ℕ)
    → stage net L bit l (through_first net L bit l v) x ≡ through_first net L bit (l + 1) v x
unfolding through_first
through_more net L bit l v x = ap (λ k. through_first net L bit k v x) (sym (add-one l))

-- ---- exchanged numbers
module _ (b : Bool) (x y : ℕ) (xs : List PairNum) (within : x < length xs) (within' : y < length xs) (apart : x ≢ y) where
  abbrev first : List PairNum
  first = set xs x (passed b (pair_at xs x) (pair_at xs y))

  exchanged_lower : pair_at (exchanged b x y xs) x ≡ passed b (pair_at xs x) (pair_at xs y)
  unfolding none
  exchanged_lower = get_or-set_other first y x _ none apart ∙ get_or-set_same xs x _ none within

  exchanged_upper : pair_at (exchanged b x y xs) y ≡ passed b (pair_at xs y) (pair_at xs x)
  unfolding none
  exchanged_upper = get_or-set_same first y _ none (omega (arith, length-set xs x (passed b (pair_at xs x) (pair_at xs y))))

  exchanged_other : (z : ℕ) → z ≢ x → z ≢ y → pair_at (exchanged b x y xs) z ≡ pair_at xs z
  unfolding none
  exchanged_other z p q = get_or-set_other first y z _ none q ∙ get_or-set_other xs x z _ none p

pub exchanged_length : (b : Bool) (x y : ℕ) (xs : List PairNum) → length (exchanged b x y xs) ≡ length xs
exchanged_length b x y xs = length-set (set xs x (passed b (pair_at xs x) (pair_at xs y))) y _ ∙ length-set xs x _

-- ---- a stage of which so many switches were taken
module _ (net : Net) (L l : ℕ) (bit : ℕ → ℕ → Bool) (v : ℕ → PairNum) where
  abbrev place : ℕ → ℕ
  place z = position net L l (remove_bit (depth L l) z)

  -- what stands at a slot
  abbrev pub part : ℕ → ℕ → PairNum
  part at z = if is_switched net L l z && nat_lt (place z) at then stage net L bit l v z else v z

  part_by : (at z : ℕ) (b : Bool) → (is_switched net L l z && nat_lt (place z) at) ≡ b → part at z ≡ (if b then stage net L bit l v z else v z)
  part_by at z b e = ap (λ (t : Bool). if t then stage net L bit l v z else v z) e

  no_more : (b : Bool) → (b && false) ≡ false
  no_more true = refl
  no_more false = refl

  pub part_before : (at z : ℕ) → at ≤ place z → part at z ≡ v z
  part_before at z h = part_by at z false (ap (λ t. is_switched net L l z && t) (le-ltb (place z) at h) ∙ no_more (is_switched net L l z))

  part_after : (at z : ℕ) → is_switched net L l z ≡ true → place z < at → part at z ≡ stage net L bit l v z
  part_after at z on h = part_by at z true (ap₂ (λ a b. a && b) on (lt-ltb (place z) at h))

  part_off : (at z : ℕ) → is_switched net L l z ≡ false → part at z ≡ v z
  part_off at z off = part_by at z false (ap (λ t. t && nat_lt (place z) at) off)

  pub part_none : (z : ℕ) → part 0 z ≡ v z
  part_none z = part_before 0 z (omega arith)

  pub part_all : (z : ℕ) → l < stage_count L → part (switch_count net L l) z ≡ stage net L bit l v z
  part_all z within = elim (cases_Bool (is_switched net L l z)) [
    | inl on ↦ part_after (switch_count net L l) z on (switches_numbered.slot net L l z within on).early
    | inr off ↦ part_off (switch_count net L l) z off ∙ sym (stage_kept net L l bit v z off)
  ]

  -- the switch at a position
  module _ (within : l < stage_count L) (at : ℕ) (few : at < switch_count net L l) where
    abbrev d : ℕ
    d = depth L l

    abbrev x : ℕ
    x = switch_slot net L l at

    abbrev y : ℕ
    y = x + 2 ^ d

    is_flip : flip d x ≡ y
    is_flip = flip_low d x (switches_numbered.switch net L l at within few).low_bit

    on : is_switched net L l x ≡ true
    unfolding is_switched
    on =
        let s = switches_numbered.switch net L l at within few in
        let near = lt-ltb (low d x + 2 ^ d) L (subst (λ k. k + 2 ^ d < L) (sym (low_low d x s.low_bit)) s.upper) in
        let below = ap (λ i. nat_lt i (number_count L l)) s.numbered ∙ lt-ltb (number net L l at) (number_count L l) s.below in
        let present = ap (λ i. not (is_left_out net L l i)) s.numbered ∙ ap not s.present in
        ap₂ (λ a b. a && b) (ap₂ (λ a b. a && b) near below) present

    place_lower : place x ≡ at
    place_lower =
        let s = switches_numbered.switch net L l at within few in
        ap (position net L l) s.numbered ∙ s.placed

    on_upper : is_switched net L l y ≡ true
    on_upper = ap (is_switched net L l) (sym is_flip) ∙ switches_numbered.both net L l x ∙ on

    remove_upper : remove_bit d y ≡ remove_bit d x
    remove_upper = ap (remove_bit d) (sym is_flip) ∙ remove_flip d x

    place_upper : place y ≡ at
    place_upper = ap (position net L l) remove_upper ∙ place_lower

    -- its bit in a list
    pub bit_there : (bits : List Bool) (from : ℕ) → from ≡ first_switch net L l → get_or bits (from + at) false ≡ bit_in net L bits l (number net L l at)
    bit_there bits from e =
        ap₂ (λ a c. get_or bits (a + c) false) e (sym (switches_numbered.switch net L l at within few).placed)

    -- before it is taken the items stand at its slots, and after it what it passes on
    pub lower_before : part at x ≡ v x
    lower_before = part_before at x (omega (arith, place_lower))

    pub upper_before : part at y ≡ v y
    upper_before = part_before at y (omega (arith, place_upper))

    abbrev b : Bool
    b = bit l (number net L l at)

    lower_after : part (at + 1) x ≡ passed b (v x) (v y)
    lower_after =
        let s = switches_numbered.switch net L l at within few in
        part_after (at + 1) x on (omega (arith, place_lower)) ∙ stage_passed net L l bit v x on
        ∙ ap₂ (λ i z. passed (bit l i) (v x) (v z)) s.numbered is_flip

    upper_after : part (at + 1) y ≡ passed b (v y) (v x)
    upper_after =
        let s = switches_numbered.switch net L l at within few in
        part_after (at + 1) y on_upper (omega (arith, place_upper)) ∙ stage_passed net L l bit v y on_upper
        ∙ ap₂ (λ i z. passed (bit l i) (v y) (v z)) (remove_upper ∙ s.numbered) (ap (flip d) (sym is_flip) ∙ flip_flip d x)

    -- nothing else changes
    other_place : (z : ℕ) → z ≢ x → z ≢ y → is_switched net L l z ≡ true → place z ≢ at
    other_place z p q there same =
        let slot = (switches_numbered.slot net L l z within there).slot in
        let is : x ≡ low d z = ap (switch_slot net L l) (sym same) ∙ slot in
        elim (cases_Bool (is_low d z)) [
          | inl e ↦ p (sym (is ∙ low_low d z e))
          | inr e ↦ q (sym (flip_flip d z) ∙ ap (flip d) (sym (is ∙ low_high d z e)) ∙ is_flip)
        ]

    other_after : (z : ℕ) → z ≢ x → z ≢ y → part (at + 1) z ≡ part at z
    other_after z p q = elim (cases_Bool (is_switched net L l z)) [
      | inl there ↦
          let ne = other_place z p q there in
          elim (cases_lt (place z) at) [
            | inl before ↦ part_after (at + 1) z there (omega arith) ∙ sym (part_after at z there before)
            | inr past ↦ let more : at ≢ place z = λ e. ne (sym e) in
                elim (cases_lt at (place z)) [
                  | inl h ↦ part_before (at + 1) z (omega arith) ∙ sym (part_before at z past)
                  | inr h ↦ absurd (ne (omega arith))
                ]
          ]
      | inr off ↦ part_off (at + 1) z off ∙ sym (part_off at z off)
    ]

    pub part_more : (c : Bool) (xs : List PairNum) → c ≡ b → length xs ≡ L → ((z : ℕ) → z < L → pair_at xs z ≡ part at z) → (z : ℕ) → z < L
        → pair_at (exchanged c x y xs) z ≡ part (at + 1) z
    part_more c xs is long before z h =
        let s = switches_numbered.switch net L l at within few in
        let up = s.upper in
        let pos = pow_pos d in
        let lower : x < length xs = omega arith in
        let upper : y < length xs = omega arith in
        let apart : x ≢ y = λ e. absurd (omega arith) in
        let at_x = before x (omega arith) ∙ lower_before in
        let at_y = before y up ∙ upper_before in
        elim (cases_eq z x) [
          | inl e ↦
              ap (pair_at (exchanged c x y xs)) e ∙ exchanged_lower c x y xs lower upper apart ∙ ap₂ (passed c) at_x at_y
              ∙ ap (λ k. passed k (v x) (v y)) is ∙ sym lower_after ∙ ap (part (at + 1)) (sym e)
          | inr p ↦ elim (cases_eq z y) [
            | inl e ↦
                ap (pair_at (exchanged c x y xs)) e ∙ exchanged_upper c x y xs lower upper apart ∙ ap₂ (passed c) at_y at_x
                ∙ ap (λ k. passed k (v y) (v x)) is ∙ sym upper_after ∙ ap (part (at + 1)) (sym e)
            | inr q ↦ exchanged_other c x y xs lower upper apart z p q ∙ before z h ∙ sym (other_after z p q)
          ]
        ]
