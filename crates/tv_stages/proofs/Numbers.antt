-- The switches of a stage are numbered, and have positions.
use Rattle.std.proofs.Common.{◌≡◌, ◌≢◌, ℕ, suc, ◌+◌, ◌-◌, ◌*◌, ◌/◌, ◌%◌, ◌^◌, ◌<◌, ◌≤◌, ◌⊎◌, inl, inr, Bool, true, false}
use Rattle.std.proofs.Common.{not, nat_lt, ◌&&◌, if◌then◌else◌, refl, sym, ◌∙◌, ap, ap₂, subst, arith, eq-eqb}
use Rattle.std.proofs.Math.Nat.{mul-le-mul_left, pow-le-pow_right}
use Rattle.std.proofs.lemmas.Bool.{cases_lt, cases_eq, lt-ltb, le-ltb, ne_eqb}
use Rattle.std.proofs.lemmas.Nat.{pow_pos}
use Rattle.tv_stages.specs.Stages.{insert_bit, remove_bit, is_low, low, pairs, middle_count, stage_count, depth, number_count}
use Rattle.tv_stages.specs.Stages.{switch_count, gap_start, gap_size, position, number, is_left_out, is_switched, height}
use Rattle.tv_stages.specs.Laws.{SwitchesAreNumbered}
use Rattle.tv_stages.specs.declared.nets.Net.{Net}
use Rattle.tv_stages.specs.declared.nets.Net.TheVariants.{Benes}
use Rattle.tv_stages.proofs.Slots.{parts, whole, is_low_at, is_low_low, insert_remove, remove_insert, remove_low}
use Rattle.tv_stages.proofs.Moves.{switched_on, switched_flip}
use Rattle.tv_stages.proofs.Gaps.{gap_is}
use Rattle.tv_stages.proofs.Depths.{pairs_all, stage_count_is, depth_after}
use Rattle.tv_stages.proofs.Heights.{height_right, height_more}

insert_lower : (d i : ℕ) → is_low d (insert_bit d i) ≡ true
unfolding insert_bit
insert_lower d i =
    let pos = pow_pos d in
    let less : i % 2 ^ d < 2 ^ d = omega arith in
    let p = parts (2 ^ d) (i / 2 ^ d * (2 * 2 ^ d) + i % 2 ^ d) (2 * (i / 2 ^ d)) (i % 2 ^ d) less (omega arith) in
    is_low_at d (i / 2 ^ d * (2 * 2 ^ d) + i % 2 ^ d) (omega (arith, p.0))

pairs_only : (L d i : ℕ) → i < pairs L d → insert_bit d i + 2 ^ d < L
unfolding insert_bit pairs
pairs_only L d i h =
    let S = 2 ^ d in
    let pos = pow_pos d in
    let t = i / S in
    let m = L / (2 * S) in
    let e = L % (2 * S) in
    let made : i ≡ t * S + i % S = whole S i pos in
    let total : L ≡ m * (2 * S) + e = whole (2 * S) L (omega arith) in
    let less : i % S < S = omega arith in
    let short : e < 2 * S = omega arith in
    elim (cases_lt t m) [
      | inl lt ↦ let le : suc t ≤ m = omega arith in omega (arith, mul-le-mul_left S le)
      | inr ge ↦ elim (cases_lt m t) [
        | inl gt ↦ let le : suc m ≤ t = omega arith in absurd (omega (arith, mul-le-mul_left S le))
        | inr le ↦ let same : t ≡ m = omega arith in let prod : t * S ≡ m * S = ap (λ z. z * S) same in omega arith
      ]
    ]

middle_only : (L k d i : ℕ) → k ≡ suc (suc d) → L ≤ 2 ^ k → i < L - 2 ^ (k - 1) → insert_bit d i + 2 ^ d < L
unfolding insert_bit
middle_only L k d i deep fits h =
    let S = 2 ^ d in
    let pos = pow_pos d in
    let t = i / S in
    let two : k - 1 ≡ suc d = omega arith in
    let double : 2 ^ (k - 1) ≡ 2 * 2 ^ d = ap (λ n. 2 ^ n) two ∙ omega arith in
    let four : 2 ^ k ≡ 4 * 2 ^ d = ap (λ n. 2 ^ n) deep ∙ omega arith in
    let made : i ≡ t * S + i % S = whole S i pos in
    elim (cases_lt t 2) [
      | inl few ↦ let le : t ≤ 1 = omega arith in omega (arith, mul-le-mul_left S le)
      | inr more ↦ absurd (omega (arith, mul-le-mul_left S more))
    ]

pow_twice : (d : ℕ) → 2 ^ suc d ≡ 2 * 2 ^ d
pow_twice d = omega arith

pub count_middle : (L l : ℕ) → l ≡ height L → number_count L l ≡ middle_count L
unfolding number_count
count_middle L l same = ap (λ (b : Bool). if b then middle_count L else pairs L (depth L l)) (eq-eqb l (height L) same)

pub count_pairs : (L l : ℕ) → l ≢ height L → number_count L l ≡ pairs L (depth L l)
unfolding number_count
count_pairs L l other = ap (λ (b : Bool). if b then middle_count L else pairs L (depth L l)) (ne_eqb l (height L) other)

pub count_le : (L l : ℕ) → number_count L l ≤ L
unfolding pairs middle_count
count_le L l = elim (cases_eq l (height L)) [
  | inl same ↦ let count = count_middle L l same in omega arith
  | inr other ↦
      let S = 2 ^ depth L l in
      let pos = pow_pos (depth L l) in
      let count = count_pairs L l other in
      let made = whole (2 * S) L (omega arith) in
      omega arith
]

pub upper_within : (L l i : ℕ) → l < stage_count L → i < number_count L l → insert_bit (depth L l) i + 2 ^ depth L l < L
unfolding middle_count
upper_within L l i within h =
    let n = stage_count_is L in
    elim (cases_eq l (height L)) [
      | inl same ↦
          let count = count_middle L l same in
          let deep = depth_after L l (height L - 2) (omega arith) (omega arith) in
          middle_only L (height L) (depth L l) i (omega arith) (height_right.enough L) (omega arith)
      | inr other ↦ let count = count_pairs L l other in pairs_only L (depth L l) i (omega arith)
    ]

all_within : (L l x : ℕ) → l ≢ height L → low (depth L l) x + 2 ^ depth L l < L → is_switched Benes L l x ≡ true
unfolding is_switched is_left_out gap_size
all_within L l x other h =
    let d = depth L l in
    let i = remove_bit d x in
    let start = gap_start L l in
    let count = count_pairs L l other in
    let few = pairs_all L d (low d x) (is_low_low d x) h in
    let same = remove_low d x in
    let present : (not (nat_lt i start) && nat_lt i (start + 0)) ≡ false = elim (cases_lt i start) [
      | inl before ↦ ap (λ a. not a && nat_lt i (start + 0)) (lt-ltb i start before)
      | inr past ↦ let end : start + 0 ≤ i = omega arith in ap₂ (λ a b. not a && b) (le-ltb i start past) (le-ltb i (start + 0) end)
    ] in
    ap₂ (λ a b. a && not b) (ap₂ (λ a b. a && b) (lt-ltb (low d x + 2 ^ d) L h) (lt-ltb i (number_count L l) (omega arith))) present

-- what is left out is below the count
pub gap_within : (net : Net) (L l : ℕ) → l < stage_count L → (gap_size net L l ≡ 0) ⊎ (gap_start L l + gap_size net L l ≤ number_count L l)
unfolding pairs middle_count
gap_within net L l within = elim (gap_is net L l (depth L l) refl) [
  | inl none ↦ inl none
  | inr gap ↦
      let d = depth L l in
      let S = 2 ^ d in
      let k = height L in
      let n = stage_count_is L in
      let past = gap.back in
      let deep = depth_after L l (2 * k - 2 - l) past (omega arith) in
      let pos = pow_pos d in
      let less : L % S < S = omega arith in
      let half : 2 * S ≤ 2 ^ (k - 1) = subst (λ e. e ≤ 2 ^ (k - 1)) (pow_twice d) (pow-le-pow_right (omega arith) (omega arith)) in
      let more : 2 ^ (k - 1) < L = height_more L (omega arith) in
      let total : L ≡ L / S * S + L % S = whole S L pos in
      let three : 3 ≤ L / S = elim (cases_lt (L / S) 3) [
        | inl few ↦ elim gap.is [
          | inl even ↦ absurd (let parity = even.0 in let other = even.1 in let le : L / S ≤ 1 = omega arith in omega (arith, mul-le-mul_left S le))
          | inr odd ↦ absurd (let parity = odd.0 in let le : L / S ≤ 1 = omega arith in omega (arith, mul-le-mul_left S le))
        ]
        | inr h ↦ h
      ] in
      let large : 3 * S ≤ L = omega (arith, mul-le-mul_left S three) in
      let short : gap_start L l + gap_size net L l ≤ S = elim gap.is [
        | inl even ↦ let at = even.2 in let many = even.3 in omega arith
        | inr odd ↦ let at = odd.1 in let many = odd.2 in omega arith
      ] in
      let enough : S ≤ number_count L l = elim (cases_eq l k) [
        | inl same ↦
            let count = count_middle L l same in
            let top : 2 ^ (k - 1) ≡ 2 * S = sym (ap (λ e. 2 ^ e) (omega arith)) ∙ pow_twice d in
            omega arith
        | inr other ↦
            let count = count_pairs L l other in
            let q = L / (2 * S) in
            let whole_two : L ≡ q * (2 * S) + L % (2 * S) = whole (2 * S) L (omega arith) in
            let rest : L % (2 * S) < 2 * S = omega arith in
            elim (cases_lt q 1) [
              | inl none ↦ absurd (let le : q ≤ 0 = omega arith in omega (arith, mul-le-mul_left (2 * S) le))
              | inr one ↦ omega (arith, mul-le-mul_left S one)
            ]
      ] in
      inr (omega arith)
]

module _ (net : Net) (L l : ℕ) where
  pub number_before : (at : ℕ) → at < gap_start L l → number net L l at ≡ at
  unfolding number
  number_before at h = ap (λ (b : Bool). if b then at else at + gap_size net L l) (lt-ltb at (gap_start L l) h)

  pub number_past : (at : ℕ) → gap_start L l ≤ at → number net L l at ≡ at + gap_size net L l
  unfolding number
  number_past at h = ap (λ (b : Bool). if b then at else at + gap_size net L l) (le-ltb at (gap_start L l) h)

  pub position_before : (i : ℕ) → i < gap_start L l → position net L l i ≡ i
  unfolding position
  position_before i h = ap (λ (b : Bool). if b then i else i - gap_size net L l) (lt-ltb i (gap_start L l) h)

  pub position_past : (i : ℕ) → gap_start L l ≤ i → position net L l i ≡ i - gap_size net L l
  unfolding position
  position_past i h = ap (λ (b : Bool). if b then i else i - gap_size net L l) (le-ltb i (gap_start L l) h)

  pub out_before : (i : ℕ) → i < gap_start L l → is_left_out net L l i ≡ false
  unfolding is_left_out
  out_before i h = ap (λ a. not a && nat_lt i (gap_start L l + gap_size net L l)) (lt-ltb i (gap_start L l) h)

  pub out_past : (i : ℕ) → gap_start L l + gap_size net L l ≤ i → is_left_out net L l i ≡ false
  unfolding is_left_out
  out_past i h =
      let from : gap_start L l ≤ i = omega arith in
      ap₂ (λ a b. not a && b) (le-ltb i (gap_start L l) from) (le-ltb i (gap_start L l + gap_size net L l) h)

  pub out_at : (i : ℕ) → gap_start L l ≤ i → i < gap_start L l + gap_size net L l → is_left_out net L l i ≡ true
  unfolding is_left_out
  out_at i past h = ap₂ (λ a b. not a && b) (le-ltb i (gap_start L l) past) (lt-ltb i (gap_start L l + gap_size net L l) h)

  present_cases : (i : ℕ) → is_left_out net L l i ≡ false → (i < gap_start L l) ⊎ (gap_start L l + gap_size net L l ≤ i)
  present_cases i e = elim (cases_lt i (gap_start L l)) [
    | inl h ↦ inl h
    | inr past ↦ elim (cases_lt i (gap_start L l + gap_size net L l)) [
      | inl h ↦ absurd (apart (sym (out_at i past h) ∙ e))
      | inr h ↦ inr h
    ]
  ]
    where
      apart : true ≡ false → ⊥
      apart f = cc

  pub placed_back : (at : ℕ) → position net L l (number net L l at) ≡ at
  placed_back at = elim (cases_lt at (gap_start L l)) [
    | inl h ↦ ap (λ i. position net L l i) (number_before at h) ∙ position_before at h
    | inr h ↦ ap (λ i. position net L l i) (number_past at h) ∙ position_past (at + gap_size net L l) (omega arith) ∙ omega arith
  ]

  pub numbered_back : (i : ℕ) → is_left_out net L l i ≡ false → number net L l (position net L l i) ≡ i
  numbered_back i e = elim (present_cases i e) [
    | inl h ↦ ap (λ j. number net L l j) (position_before i h) ∙ number_before i h
    | inr h ↦ ap (λ j. number net L l j) (position_past i (omega arith)) ∙ number_past (i - gap_size net L l) (omega arith) ∙ omega arith
  ]

  pub number_present : (at : ℕ) → is_left_out net L l (number net L l at) ≡ false
  number_present at = elim (cases_lt at (gap_start L l)) [
    | inl h ↦ out_before (number net L l at) (let n = number_before at h in omega arith)
    | inr h ↦ out_past (number net L l at) (let n = number_past at h in omega arith)
  ]

  pub number_below : (at : ℕ) → at < switch_count net L l → number net L l at < number_count L l
  unfolding switch_count
  number_below at h = elim (cases_lt at (gap_start L l)) [
    | inl before ↦ let n = number_before at before in omega arith
    | inr past ↦ let n = number_past at past in omega arith
  ]

  pub position_early : l < stage_count L → (i : ℕ) → i < number_count L l → is_left_out net L l i ≡ false → position net L l i < switch_count net L l
  unfolding switch_count
  position_early within i few e =
      let size : ℕ = gap_size net L l in
      elim (present_cases i e) [
        | inl h ↦ let p = position_before i h in elim (gap_within net L l within) [ inl none ↦ omega arith | inr room ↦ omega arith ]
        | inr h ↦ let p = position_past i (omega arith) in omega arith
      ]

pub switches_numbered : SwitchesAreNumbered
switches_numbered = record {
  switch = λ net L l at within h.
      let few = number_below net L l at h in
      record {
        low_bit = insert_lower (depth L l) (number net L l at);
        upper = upper_within L l (number net L l at) within few;
        below = few;
        present = number_present net L l at;
        numbered = remove_insert (depth L l) (number net L l at);
        placed = placed_back net L l at;
      };
  slot = λ net L l x within e.
      let d = depth L l in
      let on = switched_on net L l x e in
      let same = numbered_back net L l (remove_bit d x) on.present in
      record {
        early = position_early net L l within (remove_bit d x) on.few on.present;
        numbered = same;
        slot = ap (λ i. insert_bit d i) same ∙ insert_remove d x;
      };
  both = switched_flip;
  all = all_within;
}
