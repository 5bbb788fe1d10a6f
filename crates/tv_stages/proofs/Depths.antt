-- One depth: the stage of that depth before and the one after, by the bits of a colouring, bring what is asked where the
-- stages within bring what is left.
use Rattle.std.proofs.Common.{◌≡◌, ℕ, suc, ◌+◌, ◌-◌, ◌*◌, ◌/◌, ◌%◌, ◌^◌, ◌<◌, ◌≤◌, inl, inr, Bool, true, false, not}
use Rattle.std.proofs.Common.{nat_lt, ◌&&◌, if◌then◌else◌, refl, sym, ◌∙◌, ap, ap₂, subst, arith, eq-eqb}
use Rattle.std.proofs.Math.Nat.{mul-le-mul_left, mod-eq_of_lt, div-eq_of_lt}
use Rattle.std.proofs.lemmas.Bool.{cases_lt, cases_eq, cases_Bool, lt-ltb, le-ltb, ne_eqb}
use Rattle.std.proofs.lemmas.Nat.{pow_pos}
use Rattle.tv_stages.specs.Stages.{insert_bit, remove_bit, is_low, flip, low, pairs, middle_count}
use Rattle.tv_stages.specs.Stages.{stage_count, depth, number_count, is_left_out, is_switched, is_exchanged, height}
use Rattle.tv_stages.specs.Settings.{sorted}
use Rattle.tv_stages.specs.Walks.{IsShuffle, IsEven}
use Rattle.tv_stages.proofs.Moves.{moved, run, span, switched_on, moved_stays, moved_flips, run_none, run_more, run_front}
use Rattle.tv_stages.specs.declared.nets.Net.{Net}
use Rattle.tv_stages.proofs.Slots.{whole, low_is, low_low, is_low_low, insert_remove, remove_low}
use Rattle.tv_stages.proofs.Sorts.{sorted_stays, sorted_flips}
use Rattle.tv_stages.proofs.Shuffles.{IsColouring, two_even, keeps_below, input_colour, inputs_rest, within, within_made}
use Rattle.tv_stages.proofs.Gaps.{left_out}
use Rattle.tv_stages.proofs.Heights.{height_right}

-- ---- switches that there are
pub pairs_all : (L d y : ℕ) → is_low d y ≡ true → y + 2 ^ d < L → remove_bit d y < pairs L d
unfolding remove_bit pairs
pairs_all L d y l h =
    let S = 2 ^ d in
    let pos = pow_pos d in
    let t = y / S / 2 in
    let m = L / (2 * S) in
    let e = L % (2 * S) in
    let half : y / S ≡ 2 * t = omega (arith, low_is d y l) in
    let made : y ≡ 2 * t * S + y % S = whole S y pos ∙ ap (λ z. z * S + y % S) half in
    let total : L ≡ m * (2 * S) + e = whole (2 * S) L (omega arith) in
    let less : y % S < S = omega arith in
    let short : e < 2 * S = omega arith in
    elim (cases_lt t m) [
      | inl lt ↦ let le : suc t ≤ m = omega arith in omega (arith, mul-le-mul_left S le)
      | inr ge ↦ elim (cases_lt m t) [
        | inl gt ↦ let le : suc m ≤ t = omega arith in absurd (omega (arith, mul-le-mul_left S le))
        | inr le ↦ let same : t ≡ m = omega arith in let prod : t * S ≡ m * S = ap (λ z. z * S) same in omega arith
      ]
    ]

-- what holds where a slot is at no switch of stage l, its depth being d
module _ (net : Net) (L l d : ℕ) (deep : depth L l ≡ d) (w : ℕ → Bool) (rest : (x : ℕ) → is_low d x ≡ true → L ≤ x + 2 ^ d → w x ≡ true)
    (first : height L ≤ l → (x : ℕ) → x < 2 ^ d → IsEven L d x → w x ≡ true)
    (middle : l ≡ height L → (y : ℕ) → is_low d y ≡ true → y + 2 ^ d < L → middle_count L ≤ remove_bit d y → w y ≡ true) where
  left_stays : (y : ℕ) → is_low d y ≡ true → is_left_out net L l (remove_bit d y) ≡ true → w y ≡ true
  unfolding insert_bit
  left_stays y l_y e =
      let i = remove_bit d y in
      let is = left_out net L l d i deep e in
      let own : i ≡ y =
      sym (ap₂ (λ a b. a * (2 * 2 ^ d) + b) (div-eq_of_lt is.first) (mod-eq_of_lt is.first) ∙ omega arith) ∙ insert_remove d y ∙ low_low d y l_y in
      subst (λ z. w z ≡ true) own (first is.back i is.first is.even)

  unswitched_stays : (x : ℕ) → is_switched net L l x ≡ false → w (low d x) ≡ true
  unfolding is_switched number_count
  unswitched_stays x off =
      let y = low d x in
      let i = remove_bit d x in
      let own : remove_bit d y ≡ i = remove_low d x in
      let here : ((nat_lt (y + 2 ^ d) L && nat_lt i (number_count L l)) && not (is_left_out net L l i)) ≡ false =
      ap (λ e. (nat_lt (low e x + 2 ^ e) L && nat_lt (remove_bit e x) (number_count L l)) && not (is_left_out net L l (remove_bit e x))) (sym deep) ∙ off in
      elim (cases_lt (y + 2 ^ d) L) [
        | inr far ↦ rest y (is_low_low d x) far
        | inl near ↦ elim (cases_Bool (is_left_out net L l i)) [
          | inl out ↦ left_stays y (is_low_low d x) (ap (λ z. is_left_out net L l z) own ∙ out)
          | inr there ↦ elim (cases_lt i (number_count L l)) [
            | inl few ↦ absurd (apart (sym (ap₂ (λ a b. a && b)
                (ap₂ (λ a b. a && b) (lt-ltb (y + 2 ^ d) L near) (lt-ltb i (number_count L l) few)) (ap not there)) ∙ here))
            | inr past ↦ elim (cases_eq l (height L)) [
              | inl same ↦
                  let count : number_count L l ≡ middle_count L =
                  ap (λ (b : Bool). if b then middle_count L else pairs L (depth L l)) (eq-eqb l (height L) same) in
                  middle same y (is_low_low d x) near (omega arith)
              | inr other ↦
                  let count : number_count L l ≡ pairs L d =
                  ap (λ (b : Bool). if b then middle_count L else pairs L (depth L l)) (ne_eqb l (height L) other) ∙ ap (λ e. pairs L e) deep in
                  absurd (let all = pairs_all L d y (is_low_low d x) near in omega arith)
            ]
          ]
        ]
      ]
    where
      apart : true ≡ false → ⊥
      apart e = cc

  -- a stage whose bits say where the lower slot's colour is false sorts by these colours
  sorts : (bit : ℕ → ℕ → Bool) → ((i : ℕ) → i < number_count L l → is_left_out net L l i ≡ false → bit l i ≡ not (w (insert_bit d i)))
      → (x : ℕ) → moved net L bit l x ≡ sorted d w x
  unfolding is_exchanged
  sorts bit bits x = elim (cases_Bool (is_switched net L l x)) [
    | inl on ↦
        let is = switched_on net L l x on in
        let number : remove_bit (depth L l) x ≡ remove_bit d x = ap (λ c. remove_bit c x) deep in
        let there = is.present in
        let few = is.few in
        let asked : bit l (remove_bit (depth L l) x) ≡ not (w (low d x)) =
        ap (λ i. bit l i) number ∙ bits (remove_bit d x) (omega arith) (ap (λ i. is_left_out net L l i) (sym number) ∙ there)
        ∙ ap (λ y. not (w y)) (insert_remove d x) in
        elim (cases_Bool (w (low d x))) [
          | inl up ↦ moved_stays net L bit l x (ap₂ (λ a b. a && b) on (asked ∙ ap not up)) ∙ sym (sorted_stays d w x up)
          | inr down ↦ moved_flips net L bit l x (ap₂ (λ a b. a && b) on (asked ∙ ap not down)) ∙ ap (λ c. flip c x) deep ∙ sym (sorted_flips d w x down)
        ]
    | inr off ↦
        let up = unswitched_stays x off in
        moved_stays net L bit l x (ap (λ a. a && bit l (remove_bit (depth L l) x)) off) ∙ sym (sorted_stays d w x up)
  ]

pub stage_count_is : (L : ℕ) → stage_count L ≡ 2 * height L - 1
unfolding stage_count
stage_count_is L = refl

pub depth_before : (L l : ℕ) → l < height L → depth L l ≡ l
unfolding depth
depth_before L l h = ap (λ (b : Bool). if b then l else 2 * height L - 2 - l) (lt-ltb l (height L) h)

pub depth_after : (L l d : ℕ) → height L ≤ l → l + d + 2 ≡ 2 * height L → depth L l ≡ d
unfolding depth
depth_after L l d h place =
    let deep : 2 * height L - 2 - l ≡ d = omega arith in
    ap (λ (b : Bool). if b then l else 2 * height L - 2 - l) (le-ltb l (height L) h) ∙ deep

pub depth_past : (L l : ℕ) → height L ≤ l → l < stage_count L → l + depth L l + 2 ≡ 2 * height L
depth_past L l h within =
    let n = stage_count_is L in
    let deep = depth_after L l (2 * height L - 2 - l) h (omega arith) in
    omega arith

-- nothing is left to bring at the last depth
pub asked_last : (L : ℕ) (q r : ℕ → ℕ) → IsShuffle L (height L) q r → (x : ℕ) → q x ≡ x
asked_last L q r is x = elim (cases_lt x L) [
  | inl less ↦
      let fits = height_right.enough L in
      let b = keeps_below L (height L) q r is x less in
      let small : q x < 2 ^ height L = omega arith in
      let own : x < 2 ^ height L = omega arith in
      sym (mod-eq_of_lt small) ∙ is.class x ∙ mod-eq_of_lt own
  | inr more ↦ is.rest x more
]

module _ (L d : ℕ) (q r : ℕ → ℕ) (s : IsShuffle L d q r) (v : ℕ → Bool) (col : IsColouring L d q r v) where
  -- in the last depth the lower slots stay
  last_stays : suc d ≡ height L → (y : ℕ) → is_low d y ≡ true → v y ≡ true
  last_stays deep y l = elim (cases_lt (y + 2 ^ d) L) [
    | inr alone ↦ col.rest y l alone
    | inl near ↦
        let twice : 2 ^ height L ≡ 2 * 2 ^ d = ap (λ n. 2 ^ n) (sym deep) ∙ omega arith in
        let fits = height_right.enough L in
        let small : y < 2 ^ d = omega arith in
        col.first y small (two_even L d y l small near (omega arith))
  ]

  -- and so do those of stage k that are at no switch
  middle_stays : height L ≡ suc (suc d) → (y : ℕ) → is_low d y ≡ true → y + 2 ^ d < L → middle_count L ≤ remove_bit d y → v y ≡ true
  unfolding remove_bit middle_count
  middle_stays deep y l near past =
      let S = 2 ^ d in
      let pos = pow_pos d in
      let t = y / S / 2 in
      let half : y / S ≡ 2 * t = omega (arith, low_is d y l) in
      let made : y ≡ 2 * t * S + y % S = whole S y pos ∙ ap (λ z. z * S + y % S) half in
      let two : height L - 1 ≡ suc d = omega arith in
      let double : 2 ^ (height L - 1) ≡ 2 * 2 ^ d = ap (λ n. 2 ^ n) two ∙ omega arith in
      let four : 2 ^ height L ≡ 4 * 2 ^ d = ap (λ n. 2 ^ n) deep ∙ omega arith in
      let fits = height_right.enough L in
      let less : y % S < S = omega arith in
      elim (cases_lt t 1) [
        | inl none ↦
            let zero : t ≡ 0 = omega arith in
            let own : y ≡ y % S = made ∙ ap (λ z. 2 * z * S + y % S) zero ∙ omega arith in
            let index : t * S + y % S ≡ y = ap (λ z. z * S + y % S) zero ∙ omega arith in
            let small : y < 2 ^ d = omega arith in
            col.first y small (two_even L d y l small near (omega arith))
        | inr some ↦ elim (cases_lt t 2) [
          | inl one ↦
              let is : t ≡ 1 = omega arith in
              let prod : t * S ≡ S = ap (λ z. z * S) is ∙ omega arith in
              absurd (omega arith)
          | inr more ↦ absurd (omega (arith, mul-le-mul_left S more))
        ]
      ]

  module _ (net : Net) (bit : ℕ → ℕ → Bool) where
    -- the bits of a stage are not those colours
    abbrev pub HasBits : ℕ → (ℕ → Bool) → Type 0
    HasBits l w = (i : ℕ) → i < number_count L l → is_left_out net L l i ≡ false → bit l i ≡ not (w (insert_bit d i))

    stage_before : d < height L → HasBits d (λ x. v (r x)) → (x : ℕ) → moved net L bit d x ≡ sorted d (λ y. v (r y)) x
    unfolding input_colour
    stage_before h before x =
        sorts net L d d (depth_before L d h) (λ y. v (r y)) (inputs_rest L d q r s v col) (λ past. absurd (omega arith))
        (λ e. absurd (omega arith)) bit before x

    stage_after : (l : ℕ) → height L ≤ l → l + d + 2 ≡ 2 * height L → HasBits l v → (x : ℕ) → moved net L bit l x ≡ sorted d v x
    stage_after l h place after x =
        sorts net L l d (depth_after L l d h place) v col.rest (λ past. col.first) (λ e. middle_stays (omega arith)) bit after x

    pub around : d < height L → HasBits d (λ x. v (r x)) → ((l : ℕ) → height L ≤ l → l + d + 2 ≡ 2 * height L → HasBits l v)
        → ((x : ℕ) → run net L bit (suc d) (span L (suc d)) x ≡ within L d q r s v col x) → (x : ℕ) → run net L bit d (span L d) x ≡ q x
    unfolding span input_colour
    around h before after inner x = elim (cases_eq (suc d) (height L)) [
      | inl last ↦
          let one : 2 * (height L - d) - 1 ≡ suc 0 = omega arith in
          let here : d + 0 ≡ d = omega arith in
          let stays : sorted d v x ≡ x = sorted_stays d v x (last_stays last (low d x) (is_low_low d x)) in
          let none : 2 * (height L - suc d) - 1 ≡ 0 = omega arith in
          let left : x ≡ within L d q r s v col x = sym (ap (λ n. run net L bit (suc d) n x) none ∙ run_none net L bit (suc d) x) ∙ inner x in
          ap (λ n. run net L bit d n x) one ∙ run_more net L bit d 0 x ∙ run_none net L bit d (moved net L bit (d + 0) x) ∙ ap (λ l. moved net L bit l x) here
          ∙ stage_before h before x ∙ ap (λ y. sorted d (λ z. v (r z)) y) (left ∙ ap (λ y. within L d q r s v col y) (sym stays))
          ∙ within_made L d q r s v col x
      | inr more ↦
          let n = 2 * (height L - suc d) - 1 in
          let longer : 2 * (height L - d) - 1 ≡ suc (suc n) = omega arith in
          let last = d + suc n in
          let y = moved net L bit last x in
          let past : height L ≤ last = omega arith in
          let place : last + d + 2 ≡ 2 * height L = omega arith in
          let outer : y ≡ sorted d v x = stage_after last past place (after last past place) x in
          ap (λ m. run net L bit d m x) longer ∙ run_more net L bit d (suc n) x ∙ run_front net L bit d n y
          ∙ stage_before h before (run net L bit (suc d) n y) ∙ ap (λ z. sorted d (λ w. v (r w)) z) (inner y ∙ ap (λ z. within L d q r s v col z) outer)
          ∙ within_made L d q r s v col x
    ]

-- what is brought where nothing is left
pub innermost : (net : Net) (L : ℕ) (bit : ℕ → ℕ → Bool) (q r : ℕ → ℕ) → IsShuffle L (height L) q r → (x : ℕ)
    → run net L bit (height L) (span L (height L)) x ≡ q x
unfolding span
innermost net L bit q r is x =
    let none : 2 * (height L - height L) - 1 ≡ 0 = omega arith in
    ap (λ n. run net L bit (height L) n x) none ∙ run_none net L bit (height L) x ∙ sym (asked_last L q r is x)

-- all stages
pub span_all : (L : ℕ) → span L 0 ≡ stage_count L
unfolding span stage_count
span_all L = omega arith
