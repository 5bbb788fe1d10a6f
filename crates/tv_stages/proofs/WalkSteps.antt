-- One step of a walk: to its end, or on to the next pair.
use Rattle.std.proofs.Common.{◌≡◌, ◌≢◌, ℕ, suc, ◌+◌, ◌%◌, ◌^◌, ◌<◌, ◌≤◌, ◌⊎◌, inl, inr, Bool, true, false, not, sym, ◌∙◌, ap, subst, arith}
use Rattle.std.proofs.Common.{List, length, slice_index, set, None, Some, is_none, length-set, get_or-set_same, get_or-set_other}
use Rattle.std.proofs.lemmas.Bool.{cases_lt, cases_eq}
use Rattle.std.proofs.lemmas.List.Sums.{sum_by-set}
use Rattle.tv_stages.specs.Stages.{flip}
use Rattle.tv_stages.specs.Settings.{Mark, mark, index_in, walk}
use Rattle.tv_stages.specs.Walks.{IsAlone, spread, AreInverse, beside, IsBeside, IsAcross, AreSettled}
use Rattle.tv_stages.proofs.Walking.{IsWalked, walk_end, walk_on, IsUnderway, q_in, r_in, open_mark, left, not_free, some_same, free_by, marked_by}
use Rattle.tv_stages.proofs.Slots.{flip_mod, flip_moves, flip_flip}
use Rattle.tv_stages.proofs.Shuffles.{alone_here, alone_far}
use Rattle.tv_stages.proofs.Indices.{spread_in, index_is}

module _ (L d : ℕ) (q r : List ℕ) (start : ℕ) (before : List Mark) (inv : AreInverse L d q r) where
  abbrev Q : ℕ → ℕ
  Q x = spread L q x

  abbrev R : ℕ → ℕ
  R x = spread L r x

  -- what a walk does at an output i that is not marked, whose item's pair has another output, at j
  pub record IsStep (i : ℕ) (marks : List Mark) (j : ℕ) : Type 0 where
    pub underway : IsUnderway L d q r start before (flip d j) (set (set marks i (Some true)) j (Some false))
    pub less : left (set (set marks i (Some true)) j (Some false)) < left marks
    pub goes : (turns : ℕ) → walk d q (suc turns) i marks ≡ walk d q turns (flip d j) (set (set marks i (Some true)) j (Some false))

  module _ (i : ℕ) (marks : List Mark) (u : IsUnderway L d q r start before i marks) where
    pub q_is : flip d (slice_index q i) ≡ flip d (Q i)
    q_is = ap (λ y. flip d y) (sym (spread_in L q i u.i_in))

    module _ (free : mark marks i ≡ None) where
      m1 : List Mark
      m1 = set marks i (Some true)

      m1_i : mark m1 i ≡ Some true
      unfolding m1
      m1_i = get_or-set_same marks i (Some true) None (let h = u.i_in in omega (arith, u.long))

      m1_other : (z : ℕ) → z ≢ i → mark m1 z ≡ mark marks z
      unfolding m1
      m1_other z n = get_or-set_other marks i z (Some true) None n

      m1_long : length m1 ≡ L
      unfolding m1
      m1_long = length-set marks i (Some true) ∙ u.long

      m1_still : (z : ℕ) (c : Bool) → mark marks z ≡ Some c → mark m1 z ≡ Some c
      m1_still z c e = m1_other z (λ same. not_free (mark marks z) c e (ap (λ y. mark marks y) same ∙ free)) ∙ e

      m1_left : left m1 + 1 ≡ left marks
      unfolding m1
      m1_left =
          let one = sum_by-set open_mark marks i (Some true) None (let h = u.i_in in omega (arith, u.long)) in
          let was : open_mark (mark marks i) ≡ 1 = ap open_mark free in
          omega (arith, one, was)

      pub left_some : 0 < left marks
      left_some = omega (arith, m1_left)

      -- the end of a path
      module _ (far : L ≤ flip d (Q i)) where
        pub path_ends : (turns : ℕ) → walk d q (suc turns) i marks ≡ set marks i (Some true)
        path_ends turns = walk_end d q turns i marks (ap (λ m. is_none m) free) (let long = inv.long in omega (arith, q_is))

        path_start : (start ≡ Q i) × IsAlone L d start
        path_start =
            let a = alone_here L d (Q i) (q_in L d q r inv i u.i_in) far in
            elim (u.alone (Q i) a (inv.is.class i ∙ u.class)) [
              | inl same ↦ (sym same, subst (λ y. IsAlone L d y) same a)
              | inr both ↦ absurd (both.1 (ap (λ y. mark marks y) (inv.is.back i) ∙ free))
            ]

        path_begun : (i ≢ start → (flip d i < L) × (mark marks (flip d i) ≡ Some false)) × (mark m1 start ≡ Some true)
        path_begun = elim u.begun [
          | inl f ↦ ((λ n. absurd (n f.0)), ap (λ y. mark m1 y) (sym f.0) ∙ m1_i)
          | inr l ↦ ((λ n. (l.1, l.2)), m1_still start true l.0)
        ]

        path_beside : (z : ℕ) → z < L → IsBeside L d q r m1 z
        path_beside z h = elim (cases_eq z i) [
          | inl zi ↦ record {
            apart = λ c e k. absurd (let same : flip d (Q z) ≡ flip d (Q i) = ap (λ y. flip d (Q y)) zi in omega arith);
            lone = λ c e k. some_same (mark m1 i) c true (ap (λ y. mark m1 y) (sym zi) ∙ e) m1_i;
          }
          | inr n ↦ record {
            apart = λ c e k. m1_still (beside L d q r z) (not c) ((u.besides z h).apart c (sym (m1_other z n) ∙ e) k);
            lone = λ c e k. (u.besides z h).lone c (sym (m1_other z n) ∙ e) k;
          }
        ]

        path_across : (z : ℕ) → z < L → IsAcross L d m1 z
        path_across z h c e k = elim (cases_eq z start) [
          | inl zs ↦ absurd (let f = alone_far L d start path_start.1 in let same : flip d z ≡ flip d start = ap (λ y. flip d y) zs in omega arith)
          | inr ns ↦ elim (cases_eq z i) [
            | inl zi ↦
                let is : c ≡ true = some_same (mark m1 i) c true (ap (λ y. mark m1 y) (sym zi) ∙ e) m1_i in
                m1_still (flip d z) (not c) (ap (λ y. mark marks (flip d y)) zi ∙ (path_begun.0 (λ same. ns (zi ∙ same))).1 ∙ ap (λ b. Some (not b)) (sym is))
            | inr ni ↦ elim (cases_eq z (flip d i)) [
              | inl zf ↦
                  let back : flip d z ≡ i = ap (λ y. flip d y) zf ∙ flip_flip d i in
                  let not_start : i ≢ start = λ same. (let f = alone_far L d start path_start.1 in
                  let is : z ≡ flip d start = zf ∙ ap (λ y. flip d y) same in omega arith) in
                  let is : c ≡ false = some_same (mark marks z) c false (sym (m1_other z ni) ∙ e) (ap (λ y. mark marks y) zf ∙ (path_begun.0 not_start).1) in
                  ap (λ y. mark m1 y) back ∙ m1_i ∙ ap (λ b. Some (not b)) (sym is)
              | inr nf ↦ m1_still (flip d z) (not c) (u.acrosses z h ns nf c (sym (m1_other z ni) ∙ e) k)
            ]
          ]
        ]

        path_only : (z : ℕ) (c : Bool) → mark m1 z ≡ Some c → (mark before z ≡ Some c) ⊎ (z % 2 ^ d ≡ start % 2 ^ d)
        path_only z c e = elim (cases_eq z i) [ inl zi ↦ inr (ap (λ y. y % 2 ^ d) zi ∙ u.class) | inr n ↦ u.only z c (sym (m1_other z n) ∙ e) ]

        still_marked : (z : ℕ) → (mark marks z ≡ None → ⊥) → mark m1 z ≡ None → ⊥
        still_marked z m = marked_by (mark marks z) m (λ c e none. not_free (mark m1 z) c (m1_still z c e) none)

        pub path_settled : AreSettled L d q r (set marks i (Some true))
        unfolding m1
        path_settled = record {
          long = m1_long;
          besides = path_beside;
          acrosses = path_across;
          ends = λ z a m. marked_by (mark m1 z) m (λ c e. elim (path_only z c e) [
            | inl old ↦ still_marked (R z) (u.ends_before z a (λ none. not_free (mark before z) c old none))
            | inr class ↦ elim (u.alone z a class) [
              | inl zs ↦ λ none. not_free (mark m1 i) true m1_i (ap (λ y. mark m1 y) (sym (inv.is.back i) ∙ ap (λ y. R y) (sym (zs ∙ path_start.0))) ∙ none)
              | inr both ↦ still_marked (R z) both.1
            ]
          ]);
        }

        pub path_walked : IsWalked L d start before (set marks i (Some true))
        unfolding m1
        path_walked = record { kept = λ z c e. m1_still z c (u.kept z c e); begun = path_begun.1; only = path_only }

      -- the two outputs of a pair of inputs, and on
      module _ (near : flip d (Q i) < L) where
        j : ℕ
        j = R (flip d (Q i))

        j_in : j < L
        unfolding j
        j_in = r_in L d q r inv (flip d (Q i)) near

        q_j : Q j ≡ flip d (Q i)
        unfolding j
        q_j = inv.is.there (flip d (Q i))

        back_i : R (flip d (Q j)) ≡ i
        back_i = ap (λ y. R (flip d y)) q_j ∙ ap (λ y. R y) (flip_flip d (Q i)) ∙ inv.is.back i

        j_apart : j ≢ i
        j_apart e = flip_moves d (Q i) (sym q_j ∙ ap (λ y. Q y) e)

        j_class : j % 2 ^ d ≡ start % 2 ^ d
        j_class = sym (inv.is.class j) ∙ ap (λ y. y % 2 ^ d) q_j ∙ flip_mod d (Q i) ∙ inv.is.class i ∙ u.class

        j_near : flip d (Q j) < L
        j_near = subst (λ y. y < L) (sym (ap (λ y. flip d y) q_j ∙ flip_flip d (Q i))) (q_in L d q r inv i u.i_in)

        j_free : mark marks j ≡ None
        j_free = free_by (mark marks j) (λ c e. not_free (mark marks i) (not c)
            (ap (λ y. mark marks y) (sym back_i) ∙ (u.besides j j_in).apart c e j_near) free)

        j_paired : flip d j < L
        j_paired = elim (cases_lt (flip d j) L) [
          | inl h ↦ h
          | inr h ↦ absurd (elim (u.alone j (alone_here L d j j_in h) j_class) [
            | inl same ↦ elim u.begun [
              | inl f ↦ j_apart (same ∙ sym f.0)
              | inr l ↦ not_free (mark marks j) true (ap (λ y. mark marks y) same ∙ l.0) j_free
            ]
            | inr both ↦ both.0 j_free
          ])
        ]

        m2 : List Mark
        m2 = set m1 j (Some false)

        m2_j : mark m2 j ≡ Some false
        unfolding m2
        m2_j = get_or-set_same m1 j (Some false) None (let h = j_in in omega (arith, m1_long))

        m2_other : (z : ℕ) → z ≢ j → mark m2 z ≡ mark m1 z
        unfolding m2
        m2_other z n = get_or-set_other m1 j z (Some false) None n

        m2_i : mark m2 i ≡ Some true
        m2_i = m2_other i (λ e. j_apart (sym e)) ∙ m1_i

        m2_old : (z : ℕ) → z ≢ i → z ≢ j → mark m2 z ≡ mark marks z
        m2_old z n m = m2_other z m ∙ m1_other z n

        m2_still : (z : ℕ) (c : Bool) → mark marks z ≡ Some c → mark m2 z ≡ Some c
        m2_still z c e = m2_other z (λ same. not_free (mark marks z) c e (ap (λ y. mark marks y) same ∙ j_free)) ∙ m1_still z c e

        m2_long : length m2 ≡ L
        unfolding m2
        m2_long = length-set m1 j (Some false) ∙ m1_long

        m2_left : left m2 + 2 ≡ left marks
        unfolding m2
        m2_left =
            let one = sum_by-set open_mark m1 j (Some false) None (let h = j_in in omega (arith, m1_long)) in
            let was : open_mark (mark m1 j) ≡ 1 = ap open_mark (m1_other j j_apart ∙ j_free) in
            omega (arith, one, was, m1_left)

        on_j : mark m2 (R (flip d (Q i))) ≡ Some false
        unfolding j
        on_j = m2_j

        on_beside : (z : ℕ) → z < L → IsBeside L d q r m2 z
        on_beside z h = elim (cases_eq z i) [
          | inl zi ↦
              let is : (c : Bool) → mark m2 z ≡ Some c → c ≡ true = λ c e. some_same (mark m2 i) c true (ap (λ y. mark m2 y) (sym zi) ∙ e) m2_i in
              record {
                apart = λ c e k. ap (λ y. mark m2 y) (ap (λ y. R (flip d (Q y))) zi) ∙ on_j ∙ ap (λ b. Some (not b)) (sym (is c e));
                lone = λ c e k. is c e;
              }
          | inr ni ↦ elim (cases_eq z j) [
            | inl zj ↦
                let is : (c : Bool) → mark m2 z ≡ Some c → c ≡ false = λ c e. some_same (mark m2 j) c false (ap (λ y. mark m2 y) (sym zj) ∙ e) m2_j in
                record {
                  apart = λ c e k. ap (λ y. mark m2 y) (ap (λ y. R (flip d (Q y))) zj ∙ back_i) ∙ m2_i ∙ ap (λ b. Some (not b)) (sym (is c e));
                  lone = λ c e k. absurd (let n = j_near in let same : flip d (Q z) ≡ flip d (Q j) = ap (λ y. flip d (Q y)) zj in omega arith);
                }
            | inr nj ↦ record {
              apart = λ c e k. m2_still (beside L d q r z) (not c) ((u.besides z h).apart c (sym (m2_old z ni nj) ∙ e) k);
              lone = λ c e k. (u.besides z h).lone c (sym (m2_old z ni nj) ∙ e) k;
            }
          ]
        ]

        on_across : (z : ℕ) → z < L → z ≢ start → z ≢ j → IsAcross L d m2 z
        on_across z h ns nj c e k = elim (cases_eq z i) [
          | inl zi ↦ elim u.begun [
            | inl f ↦ absurd (ns (zi ∙ f.0))
            | inr l ↦
                let is : c ≡ true = some_same (mark m2 i) c true (ap (λ y. mark m2 y) (sym zi) ∙ e) m2_i in
                ap (λ y. mark m2 (flip d y)) zi ∙ m2_still (flip d i) false l.2 ∙ ap (λ b. Some (not b)) (sym is)
          ]
          | inr ni ↦ elim (cases_eq z (flip d i)) [
            | inl zf ↦ elim u.begun [
              | inl f ↦ absurd (not_free (mark marks z) c (sym (m2_old z ni nj) ∙ e) (ap (λ y. mark marks y) zf ∙ f.2))
              | inr l ↦
                  let is : c ≡ false = some_same (mark marks z) c false (sym (m2_old z ni nj) ∙ e) (ap (λ y. mark marks y) zf ∙ l.2) in
                  ap (λ y. mark m2 y) (ap (λ y. flip d y) zf ∙ flip_flip d i) ∙ m2_i ∙ ap (λ b. Some (not b)) (sym is)
            ]
            | inr nf ↦ m2_still (flip d z) (not c) (u.acrosses z h ns nf c (sym (m2_old z ni nj) ∙ e) k)
          ]
        ]

        on_only : (z : ℕ) (c : Bool) → mark m2 z ≡ Some c → (mark before z ≡ Some c) ⊎ (z % 2 ^ d ≡ start % 2 ^ d)
        on_only z c e = elim (cases_eq z i) [
          | inl zi ↦ inr (ap (λ y. y % 2 ^ d) zi ∙ u.class)
          | inr ni ↦ elim (cases_eq z j) [ inl zj ↦ inr (ap (λ y. y % 2 ^ d) zj ∙ j_class) | inr nj ↦ u.only z c (sym (m2_old z ni nj) ∙ e) ]
        ]

        on_marked : (z : ℕ) → (mark marks z ≡ None → ⊥) → mark m2 z ≡ None → ⊥
        on_marked z m = marked_by (mark marks z) m (λ c e none. not_free (mark m2 z) c (m2_still z c e) none)

        on_start : mark m2 start ≡ Some true
        on_start = elim u.begun [ inl f ↦ ap (λ y. mark m2 y) (sym f.0) ∙ m2_i | inr l ↦ m2_still start true l.0 ]

        on_free : flip d j ≢ start → mark m2 (flip d j) ≡ None
        on_free ns =
            let not_i : flip d j ≢ i = λ e. elim u.begun [
              | inl f ↦ ns (e ∙ f.0)
              | inr l ↦ not_free (mark marks j) false (ap (λ y. mark marks y) (sym (flip_flip d j) ∙ ap (λ y. flip d y) e) ∙ l.2) j_free
            ] in
            let not_flip : flip d j ≢ flip d i = λ e. j_apart (sym (flip_flip d j) ∙ ap (λ y. flip d y) e ∙ flip_flip d i) in
            m2_old (flip d j) not_i (flip_moves d j) ∙ free_by (mark marks (flip d j)) (λ c e.
            not_free (mark marks j) (not c) (ap (λ y. mark marks y) (sym (flip_flip d j))
            ∙ u.acrosses (flip d j) j_paired ns not_flip c e (subst (λ y. y < L) (sym (flip_flip d j)) j_in)) j_free)

        on_underway : IsUnderway L d q r start before (flip d j) m2
        on_underway = record {
          long = m2_long;
          i_in = j_paired;
          start_in = u.start_in;
          class = flip_mod d j ∙ j_class;
          besides = on_beside;
          acrosses = λ z h ns nf. on_across z h ns (λ e. nf (e ∙ sym (flip_flip d j)));
          alone = λ z a e. elim (u.alone z a e) [ inl same ↦ inl same | inr both ↦ inr (on_marked z both.0, on_marked (R z) both.1) ];
          ends_before = λ z a m. on_marked (R z) (u.ends_before z a m);
          kept = λ z c e. m2_still z c (u.kept z c e);
          only = on_only;
          begun = inr (
            on_start,
            subst (λ y. y < L) (sym (flip_flip d j)) j_in,
            ap (λ y. mark m2 y) (flip_flip d j) ∙ m2_j,
            elim (cases_eq (flip d j) start) [ inl same ↦ inl same | inr n ↦ inr (on_free n) ],
          );
        }

        pub on_step : IsStep i marks (R (flip d (Q i)))
        unfolding m1 m2 j
        on_step = record {
          underway = on_underway;
          less = (let l = m2_left in omega arith);
          goes = λ turns. walk_on d q turns i marks (R (flip d (Q i))) (ap (λ m. is_none m) free) (let long = inv.long in omega (arith, q_is, near))
              (ap (λ x. index_in x q) q_is ∙ index_is L d q r inv (flip d (Q i)) near ∙ sym (spread_in L r (flip d (Q i)) near));
        }

      -- as the code has it
      pub step : (x j : ℕ) → x ≡ flip d (slice_index q i) → x < L → j ≡ slice_index r x → IsStep i marks j
      step x j e h f =
          let is : x ≡ flip d (Q i) = e ∙ q_is in
          subst (λ b. IsStep i marks b) (ap (λ y. R y) (sym is) ∙ spread_in L r x h ∙ sym f) (on_step (subst (λ y. y < L) is h))
