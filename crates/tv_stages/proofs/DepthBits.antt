-- The bits that the code sets, depth after depth, are those of the definition.
use Rattle.std.proofs.Common.{◌≡◌, ℕ, suc, ◌+◌, ◌-◌, ◌*◌, ◌<◌, ◌≤◌, inl, inr, Bool, false, nat_lt, List, length, get_or, slice_index}
use Rattle.std.proofs.Common.{sym, ◌∙◌, ap, subst, arith}
use Rattle.std.proofs.lemmas.Bool.{cases_lt, cases_eq}
use Rattle.tv_stages.specs.Settings.{Mark, backs, marks_of, asked, bit_for, setting, settings_of}
use Rattle.tv_stages.specs.Stages.{height, stage_count, depth, switch_count, switch_slot, first_switch, switches, IsReordering}
use Rattle.tv_stages.specs.Walks.{bit_by, AreInverse, AreSetTo, IsDepthSet}
use Rattle.tv_stages.specs.declared.nets.Net.{Net}
use Rattle.tv_stages.proofs.BitLists.{place_apart, joined_is}
use Rattle.tv_stages.proofs.Depths.{depth_before, depth_after, depth_past}
use Rattle.tv_stages.proofs.Numbers.{switches_numbered}
use Rattle.tv_stages.proofs.SettingsLaws.{bit_same, asked_inverse}
use Rattle.tv_stages.proofs.Shapes.{depth_less}

-- ---- one depth: its stage before the middle is set in `mid`, and its stage after, if there is one, in `new`
module _ (net : Net) (d : ℕ) (q r : List ℕ) (marks : List Mark) (is : marks ≡ marks_of d q) (inv : AreInverse (length q) d q r) (h : d < height (length q))
    (old mid new : List Bool)
    (before : AreSetTo net (length q) d (switch_count net (length q) d) (bit_by (nat_lt d (height (length q))) r marks) old mid)
    (last : suc d ≡ height (length q) → new ≡ mid)
    (after : (l : ℕ) → height (length q) ≤ l → l + d + 2 ≡ 2 * height (length q)
    → AreSetTo net (length q) l (switch_count net (length q) l) (bit_by (nat_lt l (height (length q))) r marks) mid new) where
  abbrev L : ℕ
  L = length q

  mid_kept : (l at : ℕ) → (height L ≤ l → l + d + 2 ≡ 2 * height L → ⊥) → l < stage_count L → at < switch_count net L l
      → get_or new (first_switch net L l + at) false ≡ get_or mid (first_switch net L l + at) false
  mid_kept l at other early few = elim (cases_eq (suc d) (height L)) [
    | inl end ↦ ap (λ bits. get_or bits (first_switch net L l + at) false) (last end)
    | inr more ↦
        let n : ℕ = 2 * height L - 2 - d in
        let past : height L ≤ n = omega arith in
        let place : n + d + 2 ≡ 2 * height L = omega arith in
        (after n past place).kept (first_switch net L l + at) (place_apart net L l n at (λ e. other (omega arith) (omega arith)) few)
  ]

  abbrev value : ℕ → ℕ → Bool
  value l x = bit_by (nat_lt l (height L)) r marks x

  set_by : (l at : ℕ) → l < stage_count L → depth L l ≡ d → at < switch_count net L l
      → get_or new (first_switch net L l + at) false ≡ value l (switch_slot net L l at)
  set_by l at early deep few = elim (cases_lt l (height L)) [
    | inl low ↦
        let same : d ≡ l = sym deep ∙ depth_before L l low in
        mid_kept l at (λ past place. absurd (omega arith)) early few
        ∙ subst (λ m. at < switch_count net L m → get_or mid (first_switch net L m + at) false ≡ value m (switch_slot net L m at)) same (before.set at) few
    | inr high ↦ (after l high (omega (arith, depth_past L l high early))).set at few
  ]

  set : (l at : ℕ) → l < stage_count L → depth L l ≡ d → at < switch_count net L l
      → get_or new (first_switch net L l + at) false ≡ bit_for l q (switch_slot net L l at)
  set l at early deep few =
      let x = switch_slot net L l at in
      let near = (switches_numbered.switch net L l at early few).upper in
      set_by l at early deep few ∙ ap (λ m. bit_by (nat_lt l (height L)) r m x) is ∙ sym (bit_same d q r l x inv deep (omega arith))

  kept : (l at : ℕ) → l < stage_count L → (depth L l ≡ d → ⊥) → at < switch_count net L l
      → get_or new (first_switch net L l + at) false ≡ get_or old (first_switch net L l + at) false
  kept l at early apart few =
      mid_kept l at (λ past place. apart (depth_after L l d past place)) early few
      ∙ before.kept (first_switch net L l + at) (place_apart net L l d at (λ e. apart (ap (λ m. depth L m) e ∙ depth_before L d h)) few)

  pub depth_set : length new ≡ length mid → IsDepthSet net L d q old new
  depth_set long = record { long = long ∙ before.long; set = set; kept = kept }

-- ---- all depths
-- the bits of the stages of depths less than d are set
abbrev pub AreSetBelow : Net → List ℕ → ℕ → List Bool → Type 0
AreSetBelow net p d bits = (l at : ℕ) → l < stage_count (length p) → depth (length p) l < d → at < switch_count net (length p) l
    → get_or bits (first_switch net (length p) l + at) false ≡ setting p l (switch_slot net (length p) l at)

module _ (net : Net) (p : List ℕ) (perm : IsReordering (length p) (λ i. slice_index p i)) where
  abbrev K : ℕ
  K = length p

  -- what the code has made of the permutation
  module _ (d : ℕ) (q r : List ℕ) (asks : q ≡ asked p d) (h : d ≤ height K) where
    pub asked_long : length q ≡ K
    asked_long = ap length asks ∙ (asked_inverse p perm d h).long

    pub asked_now : r ≡ backs q → AreInverse (length q) d q r
    asked_now back =
        subst (λ l. AreInverse (length q) d q l) (sym back)
        (subst (λ n. AreInverse n d q (backs q)) (sym asked_long) (subst (λ l. AreInverse K d l (backs l)) (sym asks) (asked_inverse p perm d h)))

    pub set_next : (old new : List Bool) → AreSetBelow net p d old → IsDepthSet net (length q) d q old new → AreSetBelow net p (d + 1) new
    set_next old new below set l at early deep few =
        let s = subst (λ n. IsDepthSet net n d q old new) asked_long set in
        elim (cases_eq (depth K l) d) [
          | inl e ↦ s.set l at early e few ∙ ap (λ o. bit_for l o (switch_slot net K l at)) (asks ∙ ap (λ c. asked p c) (sym e))
          | inr ne ↦ s.kept l at early ne few ∙ below l at early (omega arith) few
        ]

  pub all_set : (bits : List Bool) → length bits ≡ switches net K → AreSetBelow net p (height K) bits → bits ≡ settings_of net p
  unfolding settings_of
  all_set bits long below = joined_is net K (λ l at. setting p l (switch_slot net K l at)) (stage_count K) bits long
      (λ l at early few. below l at early (depth_less K l early) few)
