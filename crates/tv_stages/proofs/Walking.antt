-- One walk: what it settles.
use Rattle.std.proofs.Common.{◌≡◌, ◌≢◌, ℕ, zero, suc, ◌%◌, ◌^◌, ◌<◌, ◌≤◌, ◌⊎◌, inl, inr, Bool, true, false, not}
use Rattle.std.proofs.Common.{refl, if◌then◌else◌, sym, ◌∙◌, ap, subst, arith}
use Rattle.std.proofs.Common.{List, length, slice_index, set, None, Some, is_none, sum_by}
use Rattle.std.proofs.lemmas.Bool.{cases_lt, cases_eq, lt-ltb, le-ltb}
use Rattle.std.proofs.lemmas.List.{get_or_past}
use Rattle.tv_stages.specs.Settings.{index_in, walk, Mark, mark}
use Rattle.tv_stages.specs.Walks.{IsAlone, spread, AreInverse, IsBeside, IsAcross, AreSettled, IsStart}
use Rattle.tv_stages.specs.Stages.{flip}
use Rattle.tv_stages.proofs.Indices.{spread_in}
use Rattle.tv_stages.proofs.Slots.{flip_flip}
use Rattle.tv_stages.proofs.Shuffles.{keeps_below, turned, alone_far}

pub none_is : (o : Mark) → is_none o ≡ true → o ≡ None
none_is None e = refl
none_is (Some b) e = absurd (apart e)
  where
    apart : false ≡ true → ⊥
    apart f = cc

pub none_not : (o : Mark) → is_none o ≡ false → o ≡ None → ⊥
none_not None e f = apart e
  where
    apart : true ≡ false → ⊥
    apart g = cc
none_not (Some b) e f = cc

-- ---- a walk's turns
pub walk_marked : (d : ℕ) (q : List ℕ) (turns i : ℕ) (marks : List Mark) → is_none (mark marks i) ≡ false → walk d q turns i marks ≡ marks
unfolding walk
walk_marked d q zero i marks e = refl
walk_marked d q (suc turns) i marks e = rw e refl

module _ (d : ℕ) (q : List ℕ) (turns i : ℕ) (marks : List Mark) where
  pub walk_end : is_none (mark marks i) ≡ true → length q ≤ flip d (slice_index q i) → walk d q (suc turns) i marks ≡ set marks i (Some true)
  unfolding walk
  walk_end e h = rw (e, le-ltb (flip d (slice_index q i)) (length q) h) refl

  pub walk_on : (j : ℕ) → is_none (mark marks i) ≡ true → flip d (slice_index q i) < length q → index_in (flip d (slice_index q i)) q ≡ j
      → walk d q (suc turns) i marks ≡ walk d q turns (flip d j) (set (set marks i (Some true)) j (Some false))
  unfolding walk
  walk_on j e h at = rw (e, lt-ltb (flip d (slice_index q i)) (length q) h, at) refl

abbrev pub open_mark : Mark → ℕ
open_mark m = if is_none m then 1 else 0

abbrev pub left : List Mark → ℕ
left marks = sum_by open_mark marks

pub not_free : (o : Mark) (b : Bool) → o ≡ Some b → o ≡ None → ⊥
not_free o b e f = cc

pub some_same : (o : Mark) (a b : Bool) → o ≡ Some a → o ≡ Some b → a ≡ b
some_same o a b p q = cc

pub free_by : (o : Mark) → ((b : Bool) → o ≡ Some b → ⊥) → o ≡ None
free_by None never = refl
free_by (Some b) never = absurd (never b refl)

pub marked_by : {X : Type 0} (o : Mark) → (o ≡ None → ⊥) → ((b : Bool) → o ≡ Some b → X) → X
marked_by None never go = absurd (never refl)
marked_by (Some b) never go = go b refl

-- what a walk from start does
pub record IsWalked (L d start : ℕ) (before after : List Mark) : Type 0 where
  pub kept : (z : ℕ) (c : Bool) → mark before z ≡ Some c → mark after z ≡ Some c
  pub begun : mark after start ≡ Some true
  pub only : (z : ℕ) (c : Bool) → mark after z ≡ Some c → (mark before z ≡ Some c) ⊎ (z % 2 ^ d ≡ start % 2 ^ d)

module _ (L d : ℕ) (q r : List ℕ) (inv : AreInverse L d q r) where
  pub q_in : (x : ℕ) → x < L → spread L q x < L
  q_in x h = keeps_below L d (λ y. spread L q y) (λ y. spread L r y) inv.is x h

  pub r_in : (x : ℕ) → x < L → spread L r x < L
  r_in x h = keeps_below L d (λ y. spread L r y) (λ y. spread L q y) (turned L d (λ y. spread L q y) (λ y. spread L r y) inv.is) x h

  pub r_below : (x : ℕ) → x < length r → slice_index r x < length r
  r_below x h = let long = inv.back_long in let less : x < L = omega arith in omega (arith, r_in x less, spread_in L r x less)

module _ (L d : ℕ) (q r : List ℕ) (start : ℕ) (before : List Mark) where
  abbrev pub Begun : ℕ → List Mark → Type 0
  Begun i marks = ((i ≡ start) × (mark marks i ≡ None) × (mark marks (flip d i) ≡ None))
      ⊎ ((mark marks start ≡ Some true) × (flip d i < L) × (mark marks (flip d i) ≡ Some false) × ((i ≡ start) ⊎ (mark marks i ≡ None)))

  -- within a walk, i being next
  pub record IsUnderway (i : ℕ) (marks : List Mark) : Type 0 where
    pub long : length marks ≡ L
    pub i_in : i < L
    pub start_in : start < L
    pub class : i % 2 ^ d ≡ start % 2 ^ d
    pub besides : (z : ℕ) → z < L → IsBeside L d q r marks z
    pub acrosses : (z : ℕ) → z < L → z ≢ start → z ≢ flip d i → IsAcross L d marks z
    pub alone : (z : ℕ) → IsAlone L d z → z % 2 ^ d ≡ start % 2 ^ d → (z ≡ start) ⊎ ((mark marks z ≡ None → ⊥) × (mark marks (spread L r z) ≡ None → ⊥))
    pub ends_before : (z : ℕ) → IsAlone L d z → (mark before z ≡ None → ⊥) → mark marks (spread L r z) ≡ None → ⊥
    pub kept : (z : ℕ) (c : Bool) → mark before z ≡ Some c → mark marks z ≡ Some c
    pub only : (z : ℕ) (c : Bool) → mark marks z ≡ Some c → (mark before z ≡ Some c) ⊎ (z % 2 ^ d ≡ start % 2 ^ d)
    pub begun : Begun i marks

  module _ (inv : AreInverse L d q r) where
    pub starts : AreSettled L d q r before → IsStart L d start before → IsUnderway start before
    starts s b = record {
      long = s.long;
      i_in = b.below;
      start_in = b.below;
      class = refl;
      besides = s.besides;
      acrosses = λ z h n m. s.acrosses z h;
      alone = λ z a e. elim (b.alone z a e) [ inl same ↦ inl same | inr marked ↦ inr (marked, s.ends z a marked) ];
      ends_before = s.ends;
      kept = λ z c e. e;
      only = λ z c e. inl e;
      begun = inl (
        refl,
        b.free,
        free_by (mark before (flip d start)) (λ c e. elim (cases_lt (flip d start) L) [
          | inl h ↦ not_free (mark before start) (not c) (ap (λ y. mark before y) (sym (flip_flip d start))
              ∙ s.acrosses (flip d start) h c e (subst (λ y. y < L) (sym (flip_flip d start)) b.below)) b.free
          | inr h ↦ absurd (past_end (flip d start) (omega (arith, s.long)) c e)
        ]),
      );
    }
      where
        past_end : (x : ℕ) → length before ≤ x → (c : Bool) → mark before x ≡ Some c → ⊥
        past_end x h c e = not_free (mark before x) c e (get_or_past before x None h)

    module _ (i : ℕ) (marks : List Mark) (u : IsUnderway i marks) where
      -- round
      module _ (marked : mark marks i ≡ None → ⊥) where
        round_is : (i ≡ start) × (mark marks start ≡ Some true) × (flip d i < L) × (mark marks (flip d i) ≡ Some false)
        round_is = elim u.begun [
          | inl f ↦ absurd (marked f.1)
          | inr l ↦ elim l.3 [ inl same ↦ (same, l.0, l.1, l.2) | inr free ↦ absurd (marked free) ]
        ]

        round_across : (z : ℕ) → z < L → IsAcross L d marks z
        round_across z h c e k =
            let same = round_is.0 in
            elim (cases_eq z start) [
              | inl zs ↦
                  let is : c ≡ true = some_same (mark marks start) c true (ap (λ y. mark marks y) (sym zs) ∙ e) round_is.1 in
                  ap (λ y. mark marks (flip d y)) (zs ∙ sym same) ∙ round_is.3 ∙ ap (λ b. Some (not b)) (sym is)
              | inr ns ↦ elim (cases_eq z (flip d i)) [
                | inl zf ↦
                    let is : c ≡ false = some_same (mark marks (flip d i)) c false (ap (λ y. mark marks y) (sym zf) ∙ e) round_is.3 in
                    ap (λ y. mark marks (flip d y)) zf ∙ ap (λ y. mark marks y) (flip_flip d i ∙ same) ∙ round_is.1 ∙ ap (λ b. Some (not b)) (sym is)
                | inr nf ↦ u.acrosses z h ns nf c e k
              ]
            ]

        pub round_settled : AreSettled L d q r marks
        round_settled = record {
          long = u.long;
          besides = u.besides;
          acrosses = round_across;
          ends = λ z a m. marked_by (mark marks z) m (λ c e. elim (u.only z c e) [
            | inl old ↦ u.ends_before z a (λ none. not_free (mark before z) c old none)
            | inr class ↦ elim (u.alone z a class) [
              | inl zs ↦ absurd (let far = alone_far L d z a in let near = round_is.2 in
                  let same : flip d z ≡ flip d i = ap (λ y. flip d y) (zs ∙ sym round_is.0) in omega arith)
              | inr both ↦ both.1
            ]
          ]);
        }

        pub round_walked : IsWalked L d start before marks
        round_walked = record { kept = u.kept; begun = round_is.1; only = u.only }
