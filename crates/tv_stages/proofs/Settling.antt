-- All walks, in the order of `start_at`.
use Rattle.std.proofs.Common.{◌≡◌, ℕ, suc, ◌+◌, ◌-◌, ◌%◌, ◌^◌, ◌<◌, ◌≤◌, inl, inr, Bool, true, if◌then◌else◌, sym, ◌∙◌, ap, subst, arith}
use Rattle.std.proofs.Common.{List, length, replicate, None, Some}
use Rattle.std.proofs.Math.Nat.{div-eq_of_lt}
use Rattle.std.proofs.lemmas.Bool.{cases_lt, cases_eq, lt-ltb, le-ltb}
use Rattle.std.proofs.lemmas.List.{get_or-replicate, length-replicate, get_or_past}
use Rattle.std.proofs.lemmas.Nat.{pow_pos}
use Rattle.tv_stages.specs.Stages.{is_low}
use Rattle.tv_stages.specs.Settings.{Mark, mark, start_at}
use Rattle.tv_stages.specs.Walks.{IsAlone, IsEven, AreSettled, IsStart, AreMarked}
use Rattle.tv_stages.proofs.Walking.{IsWalked, not_free, marked_by}
use Rattle.tv_stages.proofs.Slots.{is_low_at, class_apart}

-- slot n of this order is a lower one of the class of z
pub record IsStartOf (L d n z : ℕ) : Type 0 where
  pub lower : is_low d (start_at L d n) ≡ true
  pub class : start_at L d n % 2 ^ d ≡ z % 2 ^ d

-- the marks after the walks from the first n slots in this order
pub record AreMarkedBy (L d n : ℕ) (marks : List Mark) : Type 0 where
  pub all : (m : ℕ) → m < n → is_low d (start_at L d m) ≡ true → mark marks (start_at L d m) ≡ None → ⊥
  pub only : (z : ℕ) (c : Bool) → mark marks z ≡ Some c → (m : ℕ) × (m < n) × IsStartOf L d m z
  pub first : (m : ℕ) → m < n → is_low d (start_at L d m) ≡ true → ((o : ℕ) → o < m → IsStartOf L d o (start_at L d m) → ⊥)
      → mark marks (start_at L d m) ≡ Some true

module _ (L d : ℕ) where
  none_marked : (marks : List Mark) → marks ≡ replicate L None → (z : ℕ) (c : Bool) → mark marks z ≡ Some c → ⊥
  none_marked marks e z c m = elim (cases_lt z L) [
    | inl h ↦ not_free (mark marks z) c m (ap (λ l. mark l z) e ∙ get_or-replicate L z None None h)
    | inr h ↦ not_free (mark marks z) c m (get_or_past marks z None (omega (arith, ap length e, length-replicate {A = Mark} L None)))
  ]

  pub none_settled : (q r : List ℕ) (marks : List Mark) → marks ≡ replicate L None → AreSettled L d q r marks
  none_settled q r marks e = record {
    long = ap length e ∙ length-replicate {A = Mark} L None;
    besides = λ z h. record { apart = λ c m k. absurd (none_marked marks e z c m); lone = λ c m k. absurd (none_marked marks e z c m) };
    acrosses = λ z h c m k. absurd (none_marked marks e z c m);
    ends = λ z a m. marked_by (mark marks z) m (λ c is. absurd (none_marked marks e z c is));
  }

  pub none_by : (marks : List Mark) → marks ≡ replicate L None → AreMarkedBy L d 0 marks
  none_by marks e = record {
    all = λ m h l. absurd (omega arith);
    only = λ z c m. absurd (none_marked marks e z c m);
    first = λ m h l none. absurd (omega arith);
  }

  pub start_early : (n : ℕ) → n < 2 ^ d → start_at L d n ≡ L - 2 ^ d + n
  unfolding start_at
  start_early n h = ap (λ (b : Bool). if b then L - 2 ^ d + n else n - 2 ^ d) (lt-ltb n (2 ^ d) h)

  pub start_late : (n : ℕ) → 2 ^ d ≤ n → start_at L d n ≡ n - 2 ^ d
  unfolding start_at
  start_late n h = ap (λ (b : Bool). if b then L - 2 ^ d + n else n - 2 ^ d) (le-ltb n (2 ^ d) h)

  module _ (wide : 2 ^ d ≤ L) where
    -- where a lone slot stands in the order
    lone_at : (z : ℕ) → IsAlone L d z → start_at L d (z - (L - 2 ^ d)) ≡ z
    lone_at z a = let last = a.last in let below = a.below in let s = start_early (z - (L - 2 ^ d)) (omega arith) in omega arith

    -- no lower slot is before a lone one of its class
    lone_first : (z : ℕ) → IsAlone L d z → (m : ℕ) → m < z - (L - 2 ^ d) → IsStartOf L d m z → ⊥
    lone_first z a m h s =
        let last = a.last in
        let below = a.below in
        let early = start_early m (omega arith) in
        let far = class_apart (2 ^ d) (start_at L d m) z (pow_pos d) s.class (omega arith) in
        omega arith

    module _ (n : ℕ) (marks : List Mark) (by : AreMarkedBy L d n marks) where
      pub begins : n < 2 ^ d + L → is_low d (start_at L d n) ≡ true → mark marks (start_at L d n) ≡ None → IsStart L d (start_at L d n) marks
      begins h l free = record {
        below = elim (cases_lt n (2 ^ d)) [
          | inl early ↦ let s = start_early n early in omega arith
          | inr late ↦ let s = start_late n late in omega arith
        ];
        free = free;
        alone = λ z a same.
            let m = z - (L - 2 ^ d) in
            let at = lone_at z a in
            elim (cases_lt m n) [
              | inl before ↦ inr (λ none. by.all m before (ap (λ y. is_low d y) at ∙ a.lower) (ap (λ y. mark marks y) at ∙ none))
              | inr past ↦ elim (cases_lt n m) [
                | inl later ↦ absurd (lone_first z a n later (record { lower = l; class = sym same }))
                | inr last ↦ let is : m ≡ n = omega arith in inl (sym at ∙ ap (λ k. start_at L d k) is)
              ]
            ];
      }

      pub walked_by : (after : List Mark) → is_low d (start_at L d n) ≡ true → IsWalked L d (start_at L d n) marks after → AreMarkedBy L d (suc n) after
      walked_by after l w = record {
        all = λ m h lm. elim (cases_eq m n) [
          | inl e ↦ not_free (mark after (start_at L d m)) true (ap (λ k. mark after (start_at L d k)) e ∙ w.begun)
          | inr ne ↦ λ none. marked_by (mark marks (start_at L d m)) (by.all m (omega arith) lm)
              (λ c is. not_free (mark after (start_at L d m)) c (w.kept (start_at L d m) c is) none)
        ];
        only = λ z c e. elim (w.only z c e) [
          | inl old ↦ let s = by.only z c old in (s.0, omega (arith, s.1), s.2)
          | inr class ↦ (n, omega arith, record { lower = l; class = sym class })
        ];
        first = λ m h lm none. elim (cases_eq m n) [
          | inl e ↦ ap (λ k. mark after (start_at L d k)) e ∙ w.begun
          | inr ne ↦ w.kept (start_at L d m) true (by.first m (omega arith) lm none)
        ];
      }

      pub passed_by : (is_low d (start_at L d n) ≡ true → mark marks (start_at L d n) ≡ None → ⊥) → AreMarkedBy L d (suc n) marks
      passed_by marked = record {
        all = λ m h lm. elim (cases_eq m n) [
          | inl e ↦ λ none. marked (ap (λ k. is_low d (start_at L d k)) (sym e) ∙ lm) (ap (λ k. mark marks (start_at L d k)) (sym e) ∙ none)
          | inr ne ↦ by.all m (omega arith) lm
        ];
        only = λ z c e. let s = by.only z c e in (s.0, omega (arith, s.1), s.2);
        first = λ m h lm none. elim (cases_eq m n) [
          | inl e ↦
              let z = start_at L d m in
              marked_by (mark marks z)
              (λ free. marked (ap (λ k. is_low d (start_at L d k)) (sym e) ∙ lm) (ap (λ k. mark marks (start_at L d k)) (sym e) ∙ free))
              (λ c is. absurd (let s = by.only z c is in none s.0 (omega (arith, s.1)) s.2))
          | inr ne ↦ by.first m (omega arith) lm none
        ];
      }

    -- after all walks
    pub all_by : (marks : List Mark) → AreMarkedBy L d (2 ^ d + L) marks → AreMarked L d marks
    all_by marks by = record {
      all = λ z h l none.
          let at = late z in
          by.all (2 ^ d + z) (omega arith) (ap (λ y. is_low d y) at ∙ l) (ap (λ y. mark marks y) at ∙ none);
      lone = λ z a.
          let m = z - (L - 2 ^ d) in
          let at = lone_at z a in
          let below = a.below in
          ap (λ y. mark marks y) (sym at)
          ∙ by.first m (omega arith) (ap (λ y. is_low d y) at ∙ a.lower) (λ o h s. lone_first z a o h (subst (λ y. IsStartOf L d o y) at s));
      first = λ z h small even.
          let at = late z in
          ap (λ y. mark marks y) (sym at)
          ∙ by.first (2 ^ d + z) (omega arith) (ap (λ y. is_low d y) at ∙ low_small z small)
          (λ o less s. earlier z small even o less (subst (λ y. IsStartOf L d o y) at s));
    }
      where
        late : (z : ℕ) → start_at L d (2 ^ d + z) ≡ z
        late z = start_late (2 ^ d + z) (omega arith) ∙ omega arith

        low_small : (z : ℕ) → z < 2 ^ d → is_low d z ≡ true
        low_small z small = is_low_at d z (ap (λ y. y % 2) (div-eq_of_lt small))

        earlier : (z : ℕ) → z < 2 ^ d → IsEven L d z → (o : ℕ) → o < 2 ^ d + z → IsStartOf L d o z → ⊥
        earlier z small even o less s = elim (cases_lt o (2 ^ d)) [
          | inl early ↦
              let e = start_early o early in
              even (start_at L d o) s.class (record { lower = s.lower; below = omega arith; last = omega arith })
          | inr later ↦
              let e = start_late o later in
              let far = class_apart (2 ^ d) (start_at L d o) z (pow_pos d) s.class (omega arith) in
              omega arith
        ]
