-- After the walks of a depth: what the stages within have to bring, and the bits of the depth's two stages.
use Rattle.std.proofs.Common.{◌≡◌, ℕ, suc, ◌+◌, ◌%◌, ◌^◌, ◌<◌, inl, inr, Bool}
use Rattle.std.proofs.Common.{true, false, not, nat_lt, if◌then◌else◌, sym, ◌∙◌, ap, subst, arith}
use Rattle.std.proofs.Common.{List, length, slice_index, set, None, Some, unwrap_or, get_or-set_same, get_or-set_other}
use Rattle.std.proofs.lemmas.Bool.{cases_lt, cases_eq, cases_Bool, lt-ltb, le-ltb}
use Rattle.tv_stages.specs.Stages.{insert_bit, is_low, flip, low, height, stage_count, depth, number_count, is_left_out, places, IsReordering}
use Rattle.tv_stages.specs.Settings.{Mark, mark, sorted, is_up, narrowed, backs}
use Rattle.tv_stages.specs.Walks.{bit_by, IsShuffle, spread, AreInverse, AreSettled, AreMarked}
use Rattle.tv_stages.proofs.Moves.{run, span}
use Rattle.tv_stages.proofs.Walking.{r_in, not_free, marked_by}
use Rattle.tv_stages.specs.declared.nets.Net.{Net}
use Rattle.tv_stages.proofs.Slots.{flip_high, flip_turns, flip_flip, low_low, low_near}
use Rattle.tv_stages.proofs.Sorts.{sorted_stays, sorted_flips}
use Rattle.tv_stages.proofs.Shuffles.{IsColouring, turned, keeps_below, alone_here, alone_far, within, within_back, within_is, within_narrowed}
use Rattle.tv_stages.proofs.Extended.{IsColouringBelow, extended, extended_in, extended_is}
use Rattle.tv_stages.proofs.Indices.{spread_in, spread_out, inverted}
use Rattle.tv_stages.proofs.Reorders.{places-length, places-at}
use Rattle.tv_stages.proofs.Numbers.{upper_within}
use Rattle.tv_stages.proofs.Depths.{depth_before, depth_after, stage_count_is, around}

up_as : (marks : List Mark) (x : ℕ) (c : Bool) → mark marks x ≡ Some c → is_up marks x ≡ c
up_as marks x c e = ap (λ m. unwrap_or m false) e

-- where the code's slot is
pub up_near : (L d x : ℕ) (marks : List Mark) → AreMarked L d marks → x < L → is_up marks (low d x) ≡ false → flip d x < L
up_near L d x marks m h down = elim (cases_Bool (is_low d x)) [
  | inl l ↦ elim (cases_lt (flip d x) L) [
    | inl near ↦ near
    | inr far ↦ absurd (apart (sym (up_as marks x true (m.lone x (alone_here L d x h far))) ∙ ap (λ y. is_up marks y) (sym (low_low d x l)) ∙ down))
  ]
  | inr k ↦ let f = flip_high d x k in omega arith
]
  where
    apart : true ≡ false → ⊥
    apart e = cc

pub sorted_in : (L d x : ℕ) (marks : List Mark) → AreMarked L d marks → x < L → sorted d (is_up marks) x < L
sorted_in L d x marks m h = elim (cases_Bool (is_up marks (low d x))) [
  | inl e ↦ let s = sorted_stays d (is_up marks) x e in omega arith
  | inr e ↦ let s = sorted_flips d (is_up marks) x e in omega (arith, up_near L d x marks m h e)
]

-- an inverse, one slot more
pub invert_more : (L n : ℕ) (q r : List ℕ) → IsReordering L (λ i. slice_index q i) → length r ≡ L → n < L
    → ((y : ℕ) → y < n → slice_index r (slice_index q y) ≡ y) → (y : ℕ) → y < n + 1 → slice_index (set r (slice_index q n) n) (slice_index q y) ≡ y
invert_more L n q r perm long h is y k = elim (cases_eq y n) [
  | inl same ↦
      ap (λ i. slice_index (set r (slice_index q n) n) (slice_index q i)) same
      ∙ get_or-set_same r (slice_index q n) n 0 (let b = perm.below n h in omega arith) ∙ sym same
  | inr other ↦ get_or-set_other r (slice_index q n) (slice_index q y) n 0 (λ e. other (perm.once y n (omega arith) h e)) ∙ is y (omega arith)
]

module _ (L d : ℕ) (q r : List ℕ) (inv : AreInverse L d q r) (marks : List Mark) (settled : AreSettled L d q r marks) (m : AreMarked L d marks) where
  abbrev Q : ℕ → ℕ
  Q x = spread L q x

  abbrev R : ℕ → ℕ
  R x = spread L r x

  all_marked : (z : ℕ) → z < L → mark marks z ≡ None → ⊥
  all_marked z h = elim (cases_Bool (is_low d z)) [
    | inl l ↦ m.all z h l
    | inr k ↦
        let f = flip_high d z k in
        let near : flip d z < L = omega arith in
        marked_by (mark marks (flip d z)) (m.all (flip d z) near (flip_turns d z ∙ ap not k))
        (λ c e. not_free (mark marks z) (not c) (ap (λ y. mark marks y) (sym (flip_flip d z))
        ∙ settled.acrosses (flip d z) near c e (subst (λ y. y < L) (sym (flip_flip d z)) h)))
  ]

  colours : IsColouringBelow L d Q R inv.is (is_up marks)
  colours = record {
    outputs = λ x h k. marked_by (mark marks x) (all_marked x h) (λ c e.
        up_as marks (flip d x) (not c) (settled.acrosses x h c e k) ∙ ap not (sym (up_as marks x c e)));
    inputs = λ x h k. marked_by (mark marks x) (all_marked x h) (λ c e.
        up_as marks (R (flip d (Q x))) (not c) ((settled.besides x h).apart c e k)
        ∙ ap not (sym (up_as marks x c e)));
    lone_input = λ x h a. marked_by (mark marks x) (all_marked x h) (λ c e. up_as marks x c e ∙ (settled.besides x h).lone c e (alone_far L d (Q x) a));
    lone_output = λ x a. up_as marks x true (m.lone x a);
    first = λ x h small even. up_as marks x true (m.first x h small even);
  }

  abbrev V : ℕ → Bool
  V x = extended L d Q R inv.is (is_up marks) x

  V_is : IsColouring L d Q R V
  V_is = extended_is L d Q R inv.is (is_up marks) colours

  V_in : (x : ℕ) → x < L → V x ≡ is_up marks x
  V_in x h = extended_in L d Q R inv.is (is_up marks) x h

  abbrev W : ℕ → ℕ
  W x = within L d Q R inv.is V V_is x

  sorted_same : (x : ℕ) → x < L → sorted d (is_up marks) x ≡ sorted d V x
  sorted_same x h =
      let near = low_near d x in
      let same = V_in (low d x) (omega (arith, near.0)) in
      elim (cases_Bool (is_up marks (low d x))) [
        | inl e ↦ sorted_stays d (is_up marks) x e ∙ sym (sorted_stays d V x (same ∙ e))
        | inr e ↦ sorted_flips d (is_up marks) x e ∙ sym (sorted_flips d V x (same ∙ e))
      ]

  sorted_item : (x : ℕ) → x < L → slice_index q (sorted d (is_up marks) x) ≡ Q (sorted d V x)
  sorted_item x h = sym (spread_in L q (sorted d (is_up marks) x) (sorted_in L d x marks m h)) ∙ ap (λ y. Q y) (sorted_same x h)

  narrowed_is : (x : ℕ) → x < L → narrowed d q marks x ≡ W x
  unfolding narrowed
  narrowed_is x h = ap (λ y. if is_low d x then low d y else low d y + 2 ^ d) (sorted_item x h) ∙ sym (within_narrowed L d Q R inv.is V V_is x)

  W_is : IsShuffle L (suc d) W (λ x. within_back L d Q R inv.is V V_is x)
  W_is = within_is L d Q R inv.is V V_is

  -- ---- what the stages within have to bring, as a list
  abbrev next : List ℕ
  next = places L (narrowed d q marks)

  next_in : (x : ℕ) → x < L → slice_index next x ≡ W x
  next_in x h = places-at L x (narrowed d q marks) 0 h ∙ narrowed_is x h

  next_is : (x : ℕ) → spread L next x ≡ W x
  next_is x = elim (cases_lt x L) [
    | inl h ↦ spread_in L next x h ∙ next_in x h
    | inr h ↦ spread_out L next x h ∙ sym (W_is.rest x h)
  ]

  pub next_reorders : IsReordering L (λ i. slice_index next i)
  next_reorders = record {
    below = λ x h. subst (λ y. y < L) (sym (next_in x h)) (keeps_below L (suc d) W _ W_is x h);
    back = λ x. within_back L d Q R inv.is V V_is x;
    back_below = λ x h. keeps_below L (suc d) _ W (turned L (suc d) W _ W_is) x h;
    there = λ x h. next_in (within_back L d Q R inv.is V V_is x) (keeps_below L (suc d) _ W (turned L (suc d) W _ W_is) x h) ∙ W_is.there x;
    once = λ x y h k e. sym (W_is.back x) ∙ ap (λ z. within_back L d Q R inv.is V V_is z) (sym (next_in x h) ∙ e ∙ next_in y k) ∙ W_is.back y;
  }

  pub next_inverse : AreInverse L (suc d) next (backs next)
  next_inverse = inverted L (suc d) next (places-length L (narrowed d q marks)) next_reorders (λ x h. ap (λ y. y % 2 ^ suc d) (next_in x h) ∙ W_is.class x)

  -- where the bits are those of the marks, and the stages within bring this, these stages bring q
  pub brings : (net : Net) (bit : ℕ → ℕ → Bool) → d < height L
      → ((l i : ℕ) → l < stage_count L → depth L l ≡ d → i < number_count L l → is_left_out net L l i ≡ false
      → bit l i ≡ bit_by (nat_lt l (height L)) r marks (insert_bit d i))
      → ((x : ℕ) → run net L bit (suc d) (span L (suc d)) x ≡ spread L next x) → (x : ℕ) → run net L bit d (span L d) x ≡ Q x
  brings net bit h bits inner x =
      let n = stage_count_is L in
      let near : (l i : ℕ) → l < stage_count L → depth L l ≡ d → i < number_count L l → insert_bit d i < L =
      λ l i early deep few. let up = upper_within L l i early few in subst (λ e. insert_bit e i < L) deep (omega arith) in
      around L d Q R inv.is V V_is net bit h
      (λ i few there.
      let slot = insert_bit d i in
      let deep = depth_before L d h in
      let less = near d i (omega arith) deep few in
      bits d i (omega arith) deep few there ∙ ap (λ b. bit_by b r marks slot) (lt-ltb d (height L) h)
      ∙ ap (λ y. not (is_up marks y)) (sym (spread_in L r slot less)) ∙ ap not (sym (V_in (R slot) (r_in L d q r inv slot less))))
      (λ l past place i few there.
      let deep = depth_after L l d past place in
      let less = near l i (omega arith) deep few in
      bits l i (omega arith) deep few there ∙ ap (λ b. bit_by b r marks (insert_bit d i)) (le-ltb l (height L) past)
      ∙ ap not (sym (V_in (insert_bit d i) less)))
      (λ y. inner y ∙ next_is y) x
