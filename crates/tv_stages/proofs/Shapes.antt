-- What the code of a stage's figures needs.
use Rattle.std.proofs.Common.{◌≡◌, ℕ, suc, ◌+◌, ◌-◌, ◌*◌, ◌^◌, ◌<◌, ◌≤◌, inl, inr, Bool, true, false, not}
use Rattle.std.proofs.Common.{nat_lt, ◌&&◌, if◌then◌else◌, Some, None, refl, sym, ◌∙◌, ap, ap₂, subst, arith}
use Rattle.std.proofs.Math.Nat.{pow-le-pow_right, mul-le-mul}
use Rattle.std.proofs.lemmas.Bool.{cases_lt, lt-ltb, le-ltb}
use Rattle.tv_stages.specs.Stages.{insert_bit, remove_bit, low, height, stage_count, depth, number_count, gap_start, gap_size}
use Rattle.tv_stages.specs.Stages.{switch_count, first_switch, position, number, switch_slot, is_left_out, is_switched, switch_at}
use Rattle.tv_stages.specs.Shape.{IsStage}
use Rattle.tv_stages.specs.declared.nets.Net.{Net}
use Rattle.tv_stages.proofs.Heights.{height_right, height_more}
use Rattle.tv_stages.proofs.Slots.{insert_remove}
use Rattle.tv_stages.proofs.Depths.{stage_count_is, depth_before, depth_after}
use Rattle.tv_stages.proofs.Numbers.{upper_within, number_below, number_before, number_past}
use Rattle.tv_stages.proofs.Numbers.{position_before, position_past, out_before, out_past, out_at, gap_within, count_le}

-- the height by a logarithm rounded down
pub height_log : (L e : ℕ) → 2 ^ e ≤ L - 1 → L - 1 < 2 ^ suc e → 2 ≤ L → e + 1 ≡ height L
height_log L e from to more =
    let k = height L in
    let enough = height_right.enough L in
    let least = height_right.least L (suc e) (omega arith) in
    elim (cases_lt e k) [
      | inl h ↦ omega arith
      | inr h ↦ absurd (let low : 2 ^ k ≤ 2 ^ e = pow-le-pow_right (omega arith) h in omega arith)
    ]

pub height_few : (L : ℕ) → L < 2 → 0 ≡ height L
height_few L h = let least = height_right.least L 0 (omega arith) in omega arith

pub stride_few : (d : ℕ) → d < 31 → 2 * 2 ^ d ≤ 2 ^ 31
stride_few d h = let e : 2 ^ suc d ≤ 2 ^ 31 = pow-le-pow_right (omega arith) h in omega arith

pub depth_less : (L l : ℕ) → l < stage_count L → depth L l < height L
depth_less L l h =
    let n = stage_count_is L in
    elim (cases_lt l (height L)) [
      | inl before ↦ let d = depth_before L l before in omega arith
      | inr past ↦ let d = depth_after L l (2 * height L - 2 - l) past (omega arith) in omega arith
    ]

pub power_few : (d : ℕ) → d < 31 → 2 ^ d ≤ 2 ^ 30
power_few d h = let le : d ≤ 30 = omega arith in pow-le-pow_right (omega arith) le

-- ---- a stage's figures
module _ {net : Net} {L l d n start g : ℕ} (s : IsStage net L l d n start g) where
  pub stage_deep : d < 31
  stage_deep =
      let less = depth_less L l s.within in
      let least = height_right.least L 31 s.small in
      omega (arith, s.deep)

  pub stage_gap : g ≤ n
  stage_gap = elim (gap_within net L l s.within) [ inl none ↦ omega (arith, s.gap) | inr room ↦ omega (arith, s.gap, s.numbers) ]

  pub stage_few : n ≤ L
  stage_few = let few = count_le L l in omega (arith, s.numbers)

  pub stage_number : (at : ℕ) → at < switch_count net L l → number net L l at < 2 ^ 31
  stage_number at h = let few = count_le L l in omega (arith, number_below net L l at h, s.small)

  pub slot_few : (at i : ℕ) → at < switch_count net L l → i ≡ number net L l at → insert_bit d i < 2 ^ 31
  slot_few at i h is =
      let within = upper_within L l (number net L l at) s.within (number_below net L l at h) in
      subst (λ x. x < 2 ^ 31) (sym (ap₂ (λ e j. insert_bit e j) s.deep is)) (omega (arith, s.small))

  pub stage_slot : (at : ℕ) → at < switch_count net L l → switch_slot net L l at + 2 ^ depth L l < L
  stage_slot at h = upper_within L l (number net L l at) s.within (number_below net L l at h)

  pub stage_before : (at : ℕ) → at < start → at ≡ number net L l at
  stage_before at h = sym (number_before net L l at (omega (arith, s.starts)))

  pub stage_past : (at : ℕ) → start ≤ at → at + g ≡ number net L l at
  stage_past at h = ap (λ m. at + m) s.gap ∙ sym (number_past net L l at (omega (arith, s.starts)))

  module _ (x i : ℕ) (is : i ≡ remove_bit d x) where
    here : i ≡ remove_bit (depth L l) x
    here = is ∙ ap (λ e. remove_bit e x) s.deep

    near : i < n → low (depth L l) x + 2 ^ depth L l < L
    near h =
        let up = upper_within L l i s.within (omega (arith, s.numbers)) in
        subst (λ y. y + 2 ^ depth L l < L) (ap (λ j. insert_bit (depth L l) j) here ∙ insert_remove (depth L l) x) up

    switch_on : i < n → is_left_out net L l i ≡ false → Some (position net L l i) ≡ switch_at net L l x
    unfolding is_switched
    switch_on few there =
        let test : is_switched net L l x ≡ true =
        ap (λ j. (nat_lt (low (depth L l) x + 2 ^ depth L l) L && nat_lt j (number_count L l)) && not (is_left_out net L l j)) (sym here)
        ∙ ap₂ (λ a b. a && not b) (ap₂ (λ a b. a && b) (lt-ltb _ L (near few)) (lt-ltb i (number_count L l) (omega (arith, s.numbers)))) there in
        ap (λ j. Some (position net L l j)) here ∙ sym (ap (λ (b : Bool). if b then Some (position net L l (remove_bit (depth L l) x)) else None) test)

    pub switch_before : i < n → i < start → Some i ≡ switch_at net L l x
    switch_before few h =
        let b : i < gap_start L l = omega (arith, s.starts) in
        ap Some (sym (position_before net L l i b)) ∙ switch_on few (out_before net L l i b)

    pub switch_past : i < n → start + g ≤ i → Some (i - g) ≡ switch_at net L l x
    switch_past few h =
        let b : gap_start L l + gap_size net L l ≤ i = omega (arith, s.starts, s.gap) in
        ap Some (ap (λ m. i - m) s.gap ∙ sym (position_past net L l i (omega arith))) ∙ switch_on few (out_past net L l i b)

    off : is_switched net L l x ≡ false → None ≡ switch_at net L l x
    off e = sym (ap (λ (b : Bool). if b then Some (position net L l (remove_bit (depth L l) x)) else None) e)

    pub switch_far : n ≤ i → None ≡ switch_at net L l x
    unfolding is_switched
    switch_far h = off (ap (λ j. (nat_lt (low (depth L l) x + 2 ^ depth L l) L && nat_lt j (number_count L l)) && not (is_left_out net L l j)) (sym here)
        ∙ ap (λ b. (nat_lt (low (depth L l) x + 2 ^ depth L l) L && b) && not (is_left_out net L l i)) (le-ltb i (number_count L l) (omega (arith, s.numbers)))
        ∙ none (nat_lt (low (depth L l) x + 2 ^ depth L l) L) (not (is_left_out net L l i)))
      where
        none : (a b : Bool) → ((a && false) && b) ≡ false
        none true b = refl
        none false b = refl

    pub switch_left : start ≤ i → i < start + g → None ≡ switch_at net L l x
    unfolding is_switched
    switch_left h k = off (ap (λ j. (nat_lt (low (depth L l) x + 2 ^ depth L l) L && nat_lt j (number_count L l)) && not (is_left_out net L l j)) (sym here)
        ∙ ap (λ b. (nat_lt (low (depth L l) x + 2 ^ depth L l) L && nat_lt i (number_count L l)) && not b)
        (out_at net L l i (omega (arith, s.starts)) (omega (arith, s.starts, s.gap)))
        ∙ none (nat_lt (low (depth L l) x + 2 ^ depth L l) L && nat_lt i (number_count L l)))
      where
        none : (a : Bool) → (a && false) ≡ false
        none true = refl
        none false = refl

-- ---- places of bits
pub first_none : (net : Net) (L : ℕ) → 0 ≡ first_switch net L 0
unfolding first_switch
first_none net L = refl

pub first_more : (net : Net) (L l : ℕ) → first_switch net L l + switch_count net L l ≡ first_switch net L (l + 1)
unfolding first_switch
first_more net L l = ap (λ n. first_switch net L n) (suc_is l)
  where
    suc_is : (n : ℕ) → suc n ≡ n + 1
    suc_is n = omega arith

pub first_few : (m s n : ℕ) → m ≤ 61 → s ≤ 2 ^ 31 → n ≤ m * s → n ≤ 61 * 2 ^ 31
first_few m s n h k le = omega (arith, mul-le-mul h k)

pub stages_few : (L : ℕ) → L ≤ 2 ^ 31 → stage_count L ≤ 61
stages_few L h = let least = height_right.least L 31 h in omega (arith, stage_count_is L)

-- of a stage that is made of these
pub count_at : (net net' : Net) (L L' l l' : ℕ) → net ≡ net' → L ≡ L' → l ≡ l' → switch_count net L l ≡ switch_count net' L' l'
count_at net net' L L' l l' a b e = ap (λ n. switch_count n L l) a ∙ ap (λ m. switch_count net' m l) b ∙ ap (λ k. switch_count net' L' k) e

pub slot_at : (net net' : Net) (L L' l l' at : ℕ) → net ≡ net' → L ≡ L' → l ≡ l' → switch_slot net L l at ≡ switch_slot net' L' l' at
slot_at net net' L L' l l' at a b e =
    ap (λ n. switch_slot n L l at) a ∙ ap (λ m. switch_slot net' m l at) b ∙ ap (λ k. switch_slot net' L' k at) e

pub early_stage : (L d : ℕ) → d < height L → d < stage_count L
early_stage L d h = omega (arith, stage_count_is L)

pub depth_few : (L d : ℕ) → L ≤ 2 ^ 31 → d < height L → d < 31
depth_few L d h k = let least = height_right.least L 31 h in omega arith

pub depth_wide : (L d : ℕ) → d < height L → 2 ^ d ≤ L
depth_wide L d h =
    let more = height_more L (omega arith) in
    let le : d ≤ height L - 1 = omega arith in
    let deep : 2 ^ d ≤ 2 ^ (height L - 1) = pow-le-pow_right (omega arith) le in
    omega arith
