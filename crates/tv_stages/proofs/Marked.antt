-- What walks do, and what they have done at the end of a depth.
use Rattle.std.proofs.Common.{◌≡◌, ℕ, zero, suc, ◌+◌, ◌-◌, ◌^◌, ◌<◌, ◌≤◌, inl, inr, Bool, true, false, if◌then◌else◌, ◌&&◌}
use Rattle.std.proofs.Common.{refl, sym, ◌∙◌, ap, ap₂, subst, arith}
use Rattle.std.proofs.Common.{List, [], ◌∷◌, length, None, Some, is_none}
use Rattle.std.proofs.lemmas.Bool.{cases_lt, cases_Bool, and_parts}
use Rattle.std.proofs.lemmas.List.Sums.{sum_by-cons}
use Rattle.tv_stages.specs.Settings.{walk, walks, marks_of, Mark, mark, start_at}
use Rattle.tv_stages.specs.Walks.{spread, AreInverse, AreSettled, IsStart, AreMarked}
use Rattle.tv_stages.proofs.Settling.{AreMarkedBy, none_settled, none_by, begins, walked_by, passed_by, all_by}
use Rattle.tv_stages.proofs.Walking.{IsWalked, IsUnderway, open_mark, left, none_is, none_not, starts, walk_marked, round_settled, round_walked}
use Rattle.tv_stages.specs.Stages.{is_low, flip}
use Rattle.tv_stages.proofs.WalkSteps.{on_step, path_ends, path_settled, path_walked, left_some}

open_le : (m : Mark) → open_mark m ≤ 1
open_le None = omega arith
open_le (Some b) = omega arith

pub left_le : (marks : List Mark) → left marks ≤ length marks
left_le [] = omega arith
left_le (m ∷ marks) = omega (arith, sum_by-cons open_mark m marks, open_le m, left_le marks)

-- ---- a walk's loop: what is still to do is the rest of the walk from start
module _ (d : ℕ) (q : List ℕ) (start : ℕ) (before : List Mark) where
  pub record IsLeading (i : ℕ) (marks : List Mark) : Type 0 where
    pub turns : ℕ
    pub enough : left marks ≤ turns
    pub is : walk d q turns i marks ≡ walk d q (length q) start before

  pub leads_first : length before ≡ length q → IsLeading start before
  leads_first long = record { turns = length q; enough = omega (arith, left_le before); is = refl }

  module _ (i : ℕ) (marks : List Mark) (l : IsLeading i marks) where
    one_more : 0 < left marks → suc (l.turns - 1) ≡ l.turns
    one_more some = let e = l.enough in omega arith

    pub leads_on : (j : ℕ) (next : List Mark) → left next < left marks → ((turns : ℕ) → walk d q (suc turns) i marks ≡ walk d q turns j next)
        → IsLeading j next
    leads_on j next less goes = record {
      turns = l.turns - 1;
      enough = (let e = l.enough in omega arith);
      is = sym (goes (l.turns - 1)) ∙ ap (λ n. walk d q n i marks) (one_more (omega arith)) ∙ l.is;
    }

    pub led_round : is_none (mark marks i) ≡ false → marks ≡ walk d q (length q) start before
    led_round marked = sym (walk_marked d q l.turns i marks marked) ∙ l.is

    pub led_end : (last : List Mark) → 0 < left marks → ((turns : ℕ) → walk d q (suc turns) i marks ≡ last) → last ≡ walk d q (length q) start before
    led_end last some ends = sym (ends (l.turns - 1)) ∙ ap (λ n. walk d q n i marks) (one_more some) ∙ l.is

-- one walk more, or none
pub walks_more : (d : ℕ) (q : List ℕ) (n i : ℕ) (marks next : List Mark) (b : Bool) → marks ≡ walks d q n → i ≡ start_at (length q) d n
    → b ≡ (is_low d i && is_none (mark marks i)) → next ≡ (if b then walk d q (length q) i marks else marks) → next ≡ walks d q (n + 1)
unfolding walks
walks_more d q n i marks next b e f g h =
    let more : suc n ≡ n + 1 = omega arith in
    h ∙ ap (λ c. if c then walk d q (length q) i marks else marks) g ∙ ap₂ (λ m j. if is_low d j && is_none (mark m j) then walk d q (length q) j m else m) e f
    ∙ ap (λ m. walks d q m) more

module _ (d : ℕ) (q r : List ℕ) (inv : AreInverse (length q) d q r) where
  abbrev L : ℕ
  L = length q

  module _ (start : ℕ) (before : List Mark) where
    abbrev Ends : List Mark → Type 0
    Ends marks = AreSettled L d q r marks × IsWalked L d start before marks

    ended_marked : (turns i : ℕ) (marks : List Mark) → IsUnderway L d q r start before i marks → is_none (mark marks i) ≡ false → Ends (walk d q turns i marks)
    ended_marked turns i marks u marked =
        let not_none = none_not (mark marks i) marked in
        subst Ends (sym (walk_marked d q turns i marks marked))
        (round_settled L d q r start before inv i marks u not_none, round_walked L d q r start before inv i marks u not_none)

    ended : (turns i : ℕ) (marks : List Mark) → IsUnderway L d q r start before i marks → left marks ≤ turns → Ends (walk d q turns i marks)
    ended zero i marks u enough = elim (cases_Bool (is_none (mark marks i))) [
      | inl free ↦ absurd (let some = left_some L d q r start before inv i marks u (none_is (mark marks i) free) in omega arith)
      | inr marked ↦ ended_marked zero i marks u marked
    ]
    ended (suc n) i marks u enough = elim (cases_Bool (is_none (mark marks i))) [
      | inl none ↦
          let free = none_is (mark marks i) none in
          elim (cases_lt (flip d (spread L q i)) L) [
            | inl near ↦
                let step = on_step L d q r start before inv i marks u free near in
                subst Ends (sym (step.goes n)) (ended n _ _ step.underway (let less = step.less in omega arith))
            | inr far ↦ subst Ends (sym (path_ends L d q r start before inv i marks u free far n))
                (path_settled L d q r start before inv i marks u free far, path_walked L d q r start before inv i marks u free far)
          ]
      | inr marked ↦ ended_marked (suc n) i marks u marked
    ]

    walked : AreSettled L d q r before → IsStart L d start before → Ends (walk d q L start before)
    walked s b = ended L start before (starts L d q r start before inv s b) (let all = left_le before in let long = s.long in omega arith)

  module _ (wide : 2 ^ d ≤ L) where
    pub walks_are : (n : ℕ) → n ≤ 2 ^ d + L → AreSettled L d q r (walks d q n) × AreMarkedBy L d n (walks d q n)
    unfolding walks
    walks_are zero h = (none_settled L d q r (walks d q zero) refl, none_by L d (walks d q zero) refl)
    walks_are (suc n) h =
        let marks = walks d q n in
        let i = start_at L d n in
        let deep = walks_are n (omega arith) in
        elim (cases_Bool (is_low d i && is_none (mark marks i))) [
          | inl starts_here ↦
              let both = and_parts (is_low d i) (is_none (mark marks i)) starts_here in
              let done = walked i marks deep.0 (begins L d wide n marks deep.1 (omega arith) both.0 (none_is (mark marks i) both.1)) in
              subst (λ l. AreSettled L d q r l × AreMarkedBy L d (suc n) l) (sym (ap (λ (b : Bool). if b then walk d q L i marks else marks) starts_here))
              (done.0, walked_by L d wide n marks deep.1 (walk d q L i marks) both.0 done.1)
          | inr passes ↦ subst (λ l. AreSettled L d q r l × AreMarkedBy L d (suc n) l) (sym (ap (λ (b : Bool). if b then walk d q L i marks else marks) passes))
              (deep.0, passed_by L d wide n marks deep.1 (λ low free. clash (is_low d i) (mark marks i) low free passes))
        ]
      where
        clash : (b : Bool) (m : Mark) → b ≡ true → m ≡ None → (b && is_none m) ≡ false → ⊥
        clash b m e f g = cc

    -- a walk that begins may
    pub ready : (n i : ℕ) (marks : List Mark) → marks ≡ walks d q n → i ≡ start_at L d n → n < 2 ^ d + L
        → (is_low d i && is_none (mark marks i)) ≡ true → AreSettled L d q r marks × IsStart L d i marks
    ready n i marks e f h starts_here =
        let deep = walks_are n (omega arith) in
        let both = and_parts (is_low d i) (is_none (mark marks i)) starts_here in
        let by = subst (λ m. AreMarkedBy L d n m) (sym e) deep.1 in (
          subst (λ m. AreSettled L d q r m) (sym e) deep.0,
          subst (λ j. IsStart L d j marks) (sym f) (begins L d wide n marks by h (ap (λ j. is_low d j) (sym f) ∙ both.0)
              (ap (λ j. mark marks j) (sym f) ∙ none_is (mark marks i) both.1)),
        )

    pub marks_settled : AreSettled L d q r (marks_of d q)
    marks_settled = (walks_are (2 ^ d + L) (omega arith)).0

    pub marks_marked : AreMarked L d (marks_of d q)
    marks_marked = all_by L d wide (marks_of d q) (walks_are (2 ^ d + L) (omega arith)).1
