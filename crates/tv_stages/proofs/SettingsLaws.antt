-- The settings bring each item where the permutation asks for it.
use Rattle.std.proofs.Common.{◌≡◌, ℕ, zero, suc, ◌+◌, ◌<◌, ◌≤◌, Bool, false, not, nat_lt, if◌then◌else◌, List, length, slice_index}
use Rattle.std.proofs.Common.{refl, sym, ◌∙◌, ap, ap₂, subst, arith}
use Rattle.tv_stages.specs.Settings.{is_up, backs, marks_of, within, asked, bit_for, setting, settings_of, SettingsAreRight}
use Rattle.tv_stages.specs.Walks.{bit_by, spread, AreInverse}
use Rattle.tv_stages.proofs.Moves.{run, span, through_run}
use Rattle.tv_stages.specs.Stages.{insert_bit, height, stage_count, depth, number_count, switch_slot, position, is_left_out, bit_in}
use Rattle.tv_stages.specs.Stages.{through_stages, IsReordering}
use Rattle.tv_stages.specs.declared.nets.Net.{Net}
use Rattle.tv_stages.proofs.BitLists.{joined_long, joined_at}
use Rattle.tv_stages.proofs.Depths.{span_all, innermost}
use Rattle.tv_stages.proofs.Indices.{spread_in, index_is, inverted}
use Rattle.tv_stages.proofs.Marked.{marks_settled, marks_marked}
use Rattle.tv_stages.proofs.Narrowing.{next_reorders, next_inverse, brings}
use Rattle.tv_stages.proofs.Numbers.{upper_within, position_early, numbered_back}
use Rattle.tv_stages.proofs.Shapes.{depth_wide}

-- ---- one depth
module _ (d : ℕ) (q r : List ℕ) where
  pub bit_same : (l x : ℕ) → AreInverse (length q) d q r → depth (length q) l ≡ d → x < length q
      → bit_for l q x ≡ bit_by (nat_lt l (height (length q))) r (marks_of d q) x
  unfolding bit_for
  bit_same l x inv deep less =
      ap₂ (λ e y. not (is_up (marks_of e q) (if nat_lt l (height (length q)) then y else x))) deep (index_is (length q) d q r inv x less)

  -- bits that are those for q at the stages of depth d
  abbrev pub HasBits : Net → ℕ → (ℕ → ℕ → Bool) → Type 0
  HasBits net n bit = (l i : ℕ) → l < stage_count n → depth n l ≡ d → i < number_count n l → is_left_out net n l i ≡ false
      → bit l i ≡ bit_for l q (insert_bit d i)

  -- of n slots, what is asked further within, and with it these bits bring q
  pub record IsMade (n : ℕ) : Type 0 where
    pub permutes : IsReordering n (λ i. slice_index (within d q) i)
    pub inverse : AreInverse n (suc d) (within d q) (backs (within d q))
    pub brings : (net : Net) (bit : ℕ → ℕ → Bool) → HasBits net n bit
        → ((x : ℕ) → run net n bit (suc d) (span n (suc d)) x ≡ spread n (within d q) x) → (x : ℕ) → run net n bit d (span n d) x ≡ spread n q x

  made : AreInverse (length q) d q r → d < height (length q) → IsMade (length q)
  made inv h =
      let L = length q in
      let wide = depth_wide L d h in
      let settled = marks_settled d q r inv wide in
      let marked = marks_marked d q r inv wide in
      record {
        permutes = next_reorders L d q r inv (marks_of d q) settled marked;
        inverse = next_inverse L d q r inv (marks_of d q) settled marked;
        brings = λ net bit bits. brings L d q r inv (marks_of d q) settled marked net bit h (λ l i early deep few there.
            let up = upper_within L l i early few in
            bits l i early deep few there ∙ bit_same l (insert_bit d i) inv deep (subst (λ e. insert_bit e i < L) deep (omega arith)));
      }

  pub made_of : (n : ℕ) → AreInverse n d q r → d < height n → IsMade n
  made_of n inv h = subst (λ m. AreInverse m d q r → d < height m → IsMade m) inv.long made inv h

-- ---- all depths
module _ (p : List ℕ) (perm : IsReordering (length p) (λ i. slice_index p i)) where
  abbrev L : ℕ
  L = length p

  pub asked_inverse : (d : ℕ) → d ≤ height L → AreInverse L d (asked p d) (backs (asked p d))
  unfolding asked
  asked_inverse zero h = inverted L 0 p refl perm (λ x less. omega arith)
  asked_inverse (suc d) h = (made_of d (asked p d) (backs (asked p d)) L (asked_inverse d (omega arith)) (omega arith)).inverse

  module _ (net : Net) where
    abbrev value : ℕ → ℕ → Bool
    value l at = setting p l (switch_slot net L l at)

    abbrev bit : ℕ → ℕ → Bool
    bit l i = bit_in net L (settings_of net p) l i

    bit_is : (l i : ℕ) → l < stage_count L → i < number_count L l → is_left_out net L l i ≡ false → bit l i ≡ setting p l (insert_bit (depth L l) i)
    unfolding settings_of
    bit_is l i early few there =
        joined_at net L value (stage_count L) l (position net L l i) early (position_early net L l early i few there)
        ∙ ap (λ n. setting p l (insert_bit (depth L l) n)) (numbered_back net L l i there)

    brought : (j d : ℕ) → d + j ≡ height L → (x : ℕ) → run net L bit d (span L d) x ≡ spread L (asked p d) x
    unfolding asked
    brought zero d e x =
        let k = height L in
        let deep : d ≡ k = omega arith in
        let q = asked p k in
        ap (λ c. run net L bit c (span L c) x) deep
        ∙ innermost net L bit (λ y. spread L q y) (λ y. spread L (backs q) y) (asked_inverse k (omega arith)).is x ∙ ap (λ c. spread L (asked p c) x) (sym deep)
    brought (suc j) d e x =
        (made_of d (asked p d) (backs (asked p d)) L (asked_inverse d (omega arith)) (omega arith)).brings net bit
        (λ l i early deep few there. bit_is l i early few there ∙ ap (λ c. bit_for l (asked p c) (insert_bit c i)) deep)
        (brought j (suc d) (omega arith)) x

    sent : {X : Type 0} (item : ℕ → X) (i : ℕ) → i < L → through_stages net L bit item i ≡ item (slice_index p i)
    unfolding asked
    sent item i h =
        through_run net L bit item i
        ∙ ap item (ap (λ n. run net L bit 0 n i) (sym (span_all L)) ∙ brought (height L) 0 (omega arith) i ∙ spread_in L p i h)

pub settings_right : SettingsAreRight
unfolding settings_of
settings_right = record {
  long = λ net p. joined_long net (length p) (λ l at. setting p l (switch_slot net (length p) l at)) (stage_count (length p));
  sends = λ net p perm. record { sources = λ i h. sent p perm net (λ j. j) i h; numbers = sent p perm net; pairs = sent p perm net };
}
