-- The list of a network's bits: the places of a stage's, and what writing them leaves.
use Rattle.std.proofs.Common.{◌≡◌, ◌≢◌, ℕ, zero, suc, ◌+◌, ◌-◌, ◌<◌, ◌≤◌, ◌⊎◌, inl, inr, Bool, false, List, ◌++◌, length, get_or, set}
use Rattle.std.proofs.Common.{refl, sym, ◌∙◌, ap, ap₂, arith, length-append, length-set, get_or-set_same, get_or-set_other}
use Rattle.std.proofs.lemmas.Bool.{cases_lt, cases_eq}
use Rattle.std.proofs.lemmas.List.{ext_get_or, get_or-append-add, get_or_append_left}
use Rattle.tv_core.specs.Below.{joined_below}
use Rattle.tv_core.proofs.JoinedLaws.{joined_below-zero, joined_below-suc}
use Rattle.tv_stages.specs.Stages.{switch_count, first_switch, switch_slot, places}
use Rattle.tv_stages.specs.Walks.{AreSetTo}
use Rattle.tv_stages.specs.declared.nets.Net.{Net}
use Rattle.tv_stages.proofs.Reorders.{places-length, places-at}

module _ (net : Net) (L : ℕ) where
  pub first_suc : (l : ℕ) → first_switch net L (suc l) ≡ first_switch net L l + switch_count net L l
  unfolding first_switch
  first_suc l = refl

  first_le : (l m : ℕ) → l ≤ m → first_switch net L l ≤ first_switch net L m
  first_le l zero h = let same : l ≡ 0 = omega arith in let e = ap (λ k. first_switch net L k) same in omega arith
  first_le l (suc m) h = elim (cases_eq l (suc m)) [
    | inl same ↦ let e = ap (λ k. first_switch net L k) same in omega arith
    | inr other ↦ let deep = first_le l m (omega arith) in omega (arith, first_suc m)
  ]

  -- the stages' places follow each other
  pub place_before : (l m at : ℕ) → l < m → at < switch_count net L l → first_switch net L l + at < first_switch net L m
  place_before l m at h few = let le = first_le (suc l) m (omega arith) in omega (arith, first_suc l)

  pub place_apart : (l m at : ℕ) → l ≢ m → at < switch_count net L l
      → (first_switch net L l + at < first_switch net L m) ⊎ (first_switch net L m + switch_count net L m ≤ first_switch net L l + at)
  place_apart l m at apart few = elim (cases_lt l m) [
    | inl before ↦ inl (place_before l m at before few)
    | inr past ↦ inr (let le = first_le (suc m) l (omega arith) in omega (arith, first_suc m))
  ]

  -- the stage and the position of a place
  record IsPlace (n place : ℕ) : Type 0 where
    pub l : ℕ
    pub at : ℕ
    pub within : l < n
    pub few : at < switch_count net L l
    pub is : place ≡ first_switch net L l + at

  stage_of : (n place : ℕ) → place < first_switch net L n → IsPlace n place
  unfolding first_switch
  stage_of zero place h = absurd (omega arith)
  stage_of (suc n) place h = elim (cases_lt place (first_switch net L n)) [
    | inl less ↦ let s = stage_of n place less in record { l = s.l; at = s.at; within = (let w = s.within in omega arith); few = s.few; is = s.is }
    | inr more ↦ record { l = n; at = place - first_switch net L n; within = omega arith; few = omega arith; is = omega arith }
  ]

  module _ (l : ℕ) (value : ℕ → Bool) where
    pub set_none : (bits : List Bool) → AreSetTo net L l 0 value bits bits
    set_none bits = record { long = refl; set = λ at h. absurd (omega arith); kept = λ j h. refl }

    pub set_more : (n f : ℕ) (old now : List Bool) (b : Bool) → AreSetTo net L l n value old now → f ≡ first_switch net L l → f + n < length old
        → b ≡ value (switch_slot net L l n) → AreSetTo net L l (n + 1) value old (set now (f + n) b)
    set_more n f old now b are begins room is =
        let place : ℕ = f + n in
        record {
          long = length-set now place b ∙ are.long;
          set = λ at h. elim (cases_eq at n) [
            | inl same ↦
                ap₂ (λ i k. get_or (set now place b) (i + k) false) (sym begins) same
                ∙ get_or-set_same now place b false (let e = are.long in omega arith) ∙ is ∙ ap (λ k. value (switch_slot net L l k)) (sym same)
            | inr other ↦ get_or-set_other now place (first_switch net L l + at) b false (λ e. absurd (omega arith)) ∙ are.set at (omega arith)
          ];
          kept = λ j h. get_or-set_other now place j b false (λ e. absurd (elim h [ inl low ↦ omega arith | inr high ↦ omega arith ]))
              ∙ are.kept j (elim h [ inl low ↦ inl low | inr high ↦ inr (omega arith) ]);
        }

  -- ---- the list of all stages' bits, bit i of a stage being f l i
  module _ (f : ℕ → ℕ → Bool) where
    abbrev pub rows : ℕ → List Bool
    rows l = places (switch_count net L l) (f l)

    pub joined_long : (n : ℕ) → length (joined_below n rows) ≡ first_switch net L n
    unfolding first_switch
    joined_long zero = ap length (joined_below-zero rows)
    joined_long (suc n) =
        ap length (joined_below-suc n rows) ∙ length-append (joined_below n rows) (rows n)
        ∙ ap₂ (λ a b. a + b) (joined_long n) (places-length (switch_count net L n) (f n))

    pub joined_at : (n l at : ℕ) → l < n → at < switch_count net L l → get_or (joined_below n rows) (first_switch net L l + at) false ≡ f l at
    joined_at zero l at h few = absurd (omega arith)
    joined_at (suc n) l at h few = ap (λ bits. get_or bits (first_switch net L l + at) false) (joined_below-suc n rows) ∙ elim (cases_eq l n) [
      | inl same ↦
          ap (λ k. get_or (joined_below n rows ++ rows n) (k + at) false) (ap (λ m. first_switch net L m) same ∙ sym (joined_long n))
          ∙ get_or-append-add (joined_below n rows) (rows n) at false ∙ ap (λ m. get_or (rows m) at false) (sym same)
          ∙ places-at (switch_count net L l) at (f l) false few
      | inr other ↦
          get_or_append_left (joined_below n rows) (rows n) false (first_switch net L l + at)
          (omega (arith, joined_long n, place_before l n at (omega arith) few))
          ∙ joined_at n l at (omega arith) few
    ]

    -- no other list has these bits
    pub joined_is : (n : ℕ) (bits : List Bool) → length bits ≡ first_switch net L n
        → ((l at : ℕ) → l < n → at < switch_count net L l → get_or bits (first_switch net L l + at) false ≡ f l at) → bits ≡ joined_below n rows
    joined_is n bits long each = ext_get_or false bits (joined_below n rows) (long ∙ sym (joined_long n)) (λ i h.
        let s = stage_of n i (omega (arith, long)) in
        ap (λ k. get_or bits k false) s.is ∙ each s.l s.at s.within s.few ∙ sym (joined_at n s.l s.at s.within s.few)
        ∙ ap (λ k. get_or (joined_below n rows) k false) (sym s.is))
