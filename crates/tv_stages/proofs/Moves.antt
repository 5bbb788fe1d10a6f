-- A stage moves what stands at each slot to the other slot of a switch, or not at all.
use Rattle.std.proofs.Common.{◌≡◌, ℕ, zero, suc, ◌+◌, ◌-◌, ◌*◌, ◌^◌, ◌<◌, inl, inr, Bool, true, false, nat_lt}
use Rattle.std.proofs.Common.{not, ◌&&◌, if◌then◌else◌, refl, sym, ◌∙◌, ap, ap₂, arith}
use Rattle.std.proofs.lemmas.Bool.{cases_Bool, ltb-true, and_parts, not-true}
use Rattle.tv_stages.specs.Stages.{remove_bit, flip, low, height, stage_count, depth, number_count, is_left_out}
use Rattle.tv_stages.specs.Stages.{is_switched, is_exchanged, stage, through_first, through_stages, source, IsReordering}
use Rattle.tv_stages.specs.Laws.{OnlySwitchesMatter}
use Rattle.tv_stages.specs.declared.nets.Net.{Net}
use Rattle.tv_stages.proofs.Slots.{flip_flip, low_flip, flip_near, remove_flip}

-- the slot whose item a stage leaves at slot x
unfoldable pub moved : Net → ℕ → (ℕ → ℕ → Bool) → ℕ → ℕ → ℕ
moved net L bit l x = if is_exchanged net L bit l x then flip (depth L l) x else x

-- the slot whose item stands at slot x after stages a, .. a + n - 1
unfoldable pub run : Net → ℕ → (ℕ → ℕ → Bool) → ℕ → ℕ → ℕ → ℕ
run net L bit a zero x = x
run net L bit a (suc n) x = run net L bit a n (moved net L bit (a + n) x)

-- how many stages have a depth of d or more
unfoldable pub span : ℕ → ℕ → ℕ
span L d = 2 * (height L - d) - 1

-- back through the stages of a row
pub run_from : Net → ℕ → (ℕ → ℕ → Bool) → ℕ → ℕ → ℕ → ℕ
run_from net L bit a zero x = x
run_from net L bit a (suc n) x = moved net L bit (a + n) (run_from net L bit a n x)

-- a slot at a switch
pub record IsOn (net : Net) (L l x : ℕ) : Type 0 where
  pub near : low (depth L l) x + 2 ^ depth L l < L
  pub few : remove_bit (depth L l) x < number_count L l
  pub present : is_left_out net L l (remove_bit (depth L l) x) ≡ false

pub switched_on : (net : Net) (L l x : ℕ) → is_switched net L l x ≡ true → IsOn net L l x
unfolding is_switched
switched_on net L l x e =
    let d = depth L l in
    let i = remove_bit d x in
    let most = and_parts (nat_lt (low d x + 2 ^ d) L && nat_lt i (number_count L l)) (not (is_left_out net L l i)) e in
    let two = and_parts (nat_lt (low d x + 2 ^ d) L) (nat_lt i (number_count L l)) most.0 in
    record { near = ltb-true (low d x + 2 ^ d) L two.0; few = ltb-true i (number_count L l) two.1; present = not-true (is_left_out net L l i) most.1 }

pub switched_flip : (net : Net) (L l x : ℕ) → is_switched net L l (flip (depth L l) x) ≡ is_switched net L l x
unfolding is_switched
switched_flip net L l x =
    let d = depth L l in
    ap₂ (λ y i. (nat_lt (y + 2 ^ d) L && nat_lt i (number_count L l)) && not (is_left_out net L l i)) (low_flip d x) (remove_flip d x)

module _ (net : Net) (L : ℕ) (bit : ℕ → ℕ → Bool) where
  pub moved_stays : (l x : ℕ) → is_exchanged net L bit l x ≡ false → moved net L bit l x ≡ x
  unfolding moved
  moved_stays l x e = ap (λ (b : Bool). if b then flip (depth L l) x else x) e

  pub moved_flips : (l x : ℕ) → is_exchanged net L bit l x ≡ true → moved net L bit l x ≡ flip (depth L l) x
  unfolding moved
  moved_flips l x e = ap (λ (b : Bool). if b then flip (depth L l) x else x) e

  exchanged_flip : (l x : ℕ) → is_exchanged net L bit l (flip (depth L l) x) ≡ is_exchanged net L bit l x
  unfolding is_exchanged
  exchanged_flip l x = ap₂ (λ on i. on && bit l i) (switched_flip net L l x) (remove_flip (depth L l) x)

  pub moved_back : (l x : ℕ) → moved net L bit l (moved net L bit l x) ≡ x
  moved_back l x = elim (cases_Bool (is_exchanged net L bit l x)) [
    | inl e ↦ ap (λ y. moved net L bit l y) (moved_flips l x e) ∙ moved_flips l (flip (depth L l) x) (exchanged_flip l x ∙ e) ∙ flip_flip (depth L l) x
    | inr e ↦ ap (λ y. moved net L bit l y) (moved_stays l x e) ∙ moved_stays l x e
  ]

  exchanged_within : (l x : ℕ) → is_exchanged net L bit l x ≡ true → low (depth L l) x + 2 ^ depth L l < L
  unfolding is_exchanged
  exchanged_within l x e = (switched_on net L l x (and_parts (is_switched net L l x) (bit l (remove_bit (depth L l) x)) e).0).near

  pub moved_below : (l x : ℕ) → x < L → moved net L bit l x < L
  moved_below l x h = elim (cases_Bool (is_exchanged net L bit l x)) [
    | inl e ↦
        let m = moved_flips l x e in
        let w = exchanged_within l x e in
        let n = flip_near (depth L l) x in
        omega arith
    | inr e ↦ let m = moved_stays l x e in omega arith
  ]

  pub stage_moved : {X : Type 0} (l : ℕ) (item : ℕ → X) (x : ℕ) → stage net L bit l item x ≡ item (moved net L bit l x)
  unfolding stage moved
  stage_moved l item x = by (is_exchanged net L bit l x)
    where
      by : (b : Bool) → (if b then item (flip (depth L l) x) else item x) ≡ item (if b then flip (depth L l) x else x)
      by true = refl
      by false = refl

  pub run_none : (a x : ℕ) → run net L bit a 0 x ≡ x
  unfolding run
  run_none a x = refl

  pub run_more : (a n x : ℕ) → run net L bit a (suc n) x ≡ run net L bit a n (moved net L bit (a + n) x)
  unfolding run
  run_more a n x = refl

  -- the first stage apart
  pub run_front : (a n x : ℕ) → run net L bit a (suc n) x ≡ moved net L bit a (run net L bit (suc a) n x)
  unfolding run
  run_front a zero x = let e : a + 0 ≡ a = omega arith in ap (λ l. moved net L bit l x) e
  run_front a (suc n) x =
      let e : a + suc n ≡ suc a + n = omega arith in
      ap (λ l. run net L bit a (suc n) (moved net L bit l x)) e ∙ run_front a n (moved net L bit (suc a + n) x)

  run_there : (a n x : ℕ) → run net L bit a n (run_from net L bit a n x) ≡ x
  unfolding run run_from
  run_there a zero x = refl
  run_there a (suc n) x = ap (λ y. run net L bit a n y) (moved_back (a + n) (run_from net L bit a n x)) ∙ run_there a n x

  run_back : (a n x : ℕ) → run_from net L bit a n (run net L bit a n x) ≡ x
  unfolding run run_from
  run_back a zero x = refl
  run_back a (suc n) x = ap (λ y. moved net L bit (a + n) y) (run_back a n (moved net L bit (a + n) x)) ∙ moved_back (a + n) x

  run_below : (a n x : ℕ) → x < L → run net L bit a n x < L
  unfolding run
  run_below a zero x h = h
  run_below a (suc n) x h = run_below a n (moved net L bit (a + n) x) (moved_below (a + n) x h)

  run_from_below : (a n x : ℕ) → x < L → run_from net L bit a n x < L
  unfolding run_from
  run_from_below a zero x h = h
  run_from_below a (suc n) x h = moved_below (a + n) (run_from net L bit a n x) (run_from_below a n x h)

  pub run_reorders : (a n : ℕ) → IsReordering L (λ x. run net L bit a n x)
  run_reorders a n = record {
    below = run_below a n;
    back = run_from net L bit a n;
    back_below = run_from_below a n;
    there = λ x h. run_there a n x;
    once = λ i j hi hj e. sym (run_back a n i) ∙ ap (λ y. run_from net L bit a n y) e ∙ run_back a n j;
  }

  pub first_run : {X : Type 0} (n : ℕ) (item : ℕ → X) (x : ℕ) → through_first net L bit n item x ≡ item (run net L bit 0 n x)
  unfolding through_first run
  first_run zero item x = refl
  first_run (suc n) item x =
      let e : 0 + n ≡ n = omega arith in
      stage_moved n (through_first net L bit n item) x ∙ first_run n item (moved net L bit n x)
      ∙ ap (λ l. item (run net L bit 0 n (moved net L bit l x))) (sym e)

pub through_run : {X : Type 0} (net : Net) (L : ℕ) (bit : ℕ → ℕ → Bool) (item : ℕ → X) (x : ℕ)
    → through_stages net L bit item x ≡ item (run net L bit 0 (stage_count L) x)
unfolding through_stages
through_run net L bit item x = first_run net L bit (stage_count L) item x

-- output x is the item at its source
pub through_source : {X : Type 0} (net : Net) (L : ℕ) (bit : ℕ → ℕ → Bool) (item : ℕ → X) (x : ℕ)
    → through_stages net L bit item x ≡ item (source net L bit x)
through_source net L bit item x = through_run net L bit item x ∙ ap item (sym (through_run net L bit (λ j. j) x))

-- ---- what matters
module _ (net : Net) (L : ℕ) (bit bit' : ℕ → ℕ → Bool) where
  moved_same : (l x : ℕ) → ((i : ℕ) → i < number_count L l → is_left_out net L l i ≡ false → bit l i ≡ bit' l i)
      → moved net L bit l x ≡ moved net L bit' l x
  unfolding moved is_exchanged
  moved_same l x same = ap (λ (b : Bool). if b then flip (depth L l) x else x) exchanged_same
    where
      on : Bool
      on = is_switched net L l x

      i : ℕ
      i = remove_bit (depth L l) x

      exchanged_same : (on && bit l i) ≡ (on && bit' l i)
      exchanged_same = elim (cases_Bool on) [
        | inl e ↦ let is = switched_on net L l x e in ap (λ b. on && b) (same i is.few is.present)
        | inr e ↦ ap (λ a. a && bit l i) e ∙ ap (λ a. a && bit' l i) (sym e)
      ]

  run_same : (a n x : ℕ) → ((l i : ℕ) → l < a + n → i < number_count L l → is_left_out net L l i ≡ false → bit l i ≡ bit' l i)
      → run net L bit a n x ≡ run net L bit' a n x
  unfolding run
  run_same a zero x same = refl
  run_same a (suc n) x same =
      ap (λ y. run net L bit a n y) (moved_same (a + n) x (λ i few there. same (a + n) i (omega arith) few there))
      ∙ run_same a n (moved net L bit' (a + n) x) (λ l i h few there. same l i (omega arith) few there)

pub through_same : {X : Type 0} (net : Net) (L : ℕ) (bit bit' : ℕ → ℕ → Bool) (item item' : ℕ → X)
    → ((l i : ℕ) → l < stage_count L → i < number_count L l → is_left_out net L l i ≡ false → bit l i ≡ bit' l i)
    → ((x : ℕ) → x < L → item x ≡ item' x) → (x : ℕ) → x < L → through_stages net L bit item x ≡ through_stages net L bit' item' x
through_same net L bit bit' item item' bits items x h =
    let n = stage_count L in
    let y = run net L bit 0 n x in
    through_run net L bit item x ∙ items y ((run_reorders net L bit 0 n).below x h)
    ∙ ap item' (run_same net L bit bit' 0 n x (λ l i low few there. bits l i (omega arith) few there)) ∙ sym (through_run net L bit' item' x)

pub only_switches : OnlySwitchesMatter
only_switches = record { numbers = through_same; pairs = through_same }
