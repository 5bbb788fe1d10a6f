-- The halves of a permutation: every input is settled, and of each two fellows one goes down.
use Rattle.tv_core.proofs.Common.{◌≡◌, ℕ, zero, suc, ◌+◌, ◌*◌, ◌/◌, ◌%◌, ◌<◌, ◌≤◌, inl, inr, Bool, true, false, not, if◌then◌else◌, List, length}
use Rattle.tv_core.proofs.Common.{get_or, Some, None, refl, sym, ◌∙◌, ap, arith, slice_index, cases_eq}
use Rattle.std.proofs.Common.{replicate, is_none}
use Rattle.std.specs.Prelude.{unwrap_or}
use Rattle.std.proofs.lemmas.List.{get_or-replicate, length-replicate}
use Rattle.std.proofs.lemmas.List.Sums.{count_by-le-length}
use Rattle.tv_route.proofs.PairLaws.{other_pairs, other-even, partners_pair, partner_of}
use Rattle.tv_route.proofs.Walks.{IsClosed, IsUnderway, left, walk_closes, walk_still, walk_begins}
use Rattle.tv_route.specs.Permutations.{Permutes}
use Rattle.tv_route.specs.Route.{Mark, other, partners, walk, walks, halves, down}

some_none : (c : Bool) → ◌≡◌ {A = Mark} (Some c) None → ⊥
some_none c e = cc

module _ (n : ℕ) (p : List ℕ) (perm : Permutes (2 * n) p) where
  abbrev σ : ℕ → ℕ
  σ x = slice_index (partners p n) x

  -- after the walks from the first j even inputs
  record IsWalked (j : ℕ) (marks : List Mark) : Type 0 where
    closed : IsClosed (2 * n) σ other marks
    evens : (i : ℕ) → i < j → (b : Bool) × (get_or marks (2 * i) None ≡ Some b)
    up : get_or marks (slice_index p 0) None ≡ Some false

  free_is : (k : Mark) → is_none k ≡ true → k ≡ None
  free_is None e = refl
  free_is (Some b) e = cc

  taken_is : (k : Mark) → is_none k ≡ false → (b : Bool) × (k ≡ Some b)
  taken_is None e = cc
  taken_is (Some b) e = (b, refl)

  underway : (x : ℕ) (marks : List Mark) → x < 2 * n → IsClosed (2 * n) σ other marks → get_or marks x None ≡ None → IsUnderway (2 * n) σ other x x marks
  underway x marks h closed free = record {
    long = closed.long;
    x_in = h;
    free = free;
    pairs = closed.pairs;
    ups = λ z z_in e. inr (closed.sides z z_in false e);
    downs = λ z z_in e. inr (closed.sides z z_in true e);
    begun = inl refl;
  }

  nothing_closed : IsClosed (2 * n) σ other (replicate (2 * n) None)
  nothing_closed = record {
    long = length-replicate (2 * n) None;
    pairs = λ z h b e. absurd (some_none b (sym e ∙ get_or-replicate (2 * n) z None None h));
    sides = λ z h b e. absurd (some_none b (sym e ∙ get_or-replicate (2 * n) z None None h));
  }

  begin : 0 < n → IsWalked 0 (walk (partners p n) n (slice_index p 0) (slice_index p 0) (replicate (2 * n) None))
  begin some =
      let start = slice_index p 0 in
      let start_in : start < 2 * n = perm.below 0 (omega arith) in
      let nothing : List Mark = replicate (2 * n) None in
      let fits : left nothing ≤ 2 * n = omega (arith, count_by-le-length is_none nothing, nothing_closed.long) in
      let u = underway start nothing start_in nothing_closed (get_or-replicate (2 * n) start None None start_in) in
      record {
        closed = walk_closes (2 * n) (partners p n) (partners_pair n p perm) (other_pairs n) n start start nothing u fits;
        evens = λ i h. absurd (omega arith);
        up = walk_begins (2 * n) (partners p n) (partners_pair n p perm) (other_pairs n) n start start nothing u some;
      }

  -- each z of which the test is known
  step : (j : ℕ) (marks : List Mark) (c : Bool) → is_none (get_or marks (2 * j) None) ≡ c → j < n → IsWalked j marks
      → IsWalked (suc j) (if c then walk (partners p n) n (2 * j) (2 * j) marks else marks)
  step j marks true free within w =
      let fits : left marks ≤ 2 * n = omega (arith, count_by-le-length is_none marks, w.closed.long) in
      let u = underway (2 * j) marks (omega arith) w.closed (free_is (get_or marks (2 * j) None) free) in
      let still = walk_still (2 * n) (partners p n) (partners_pair n p perm) (other_pairs n) n (2 * j) (2 * j) marks u in
      let begun = walk_begins (2 * n) (partners p n) (partners_pair n p perm) (other_pairs n) n (2 * j) (2 * j) marks u (omega arith) in
      let after = walk (partners p n) n (2 * j) (2 * j) marks in
      record {
        closed = walk_closes (2 * n) (partners p n) (partners_pair n p perm) (other_pairs n) n (2 * j) (2 * j) marks u fits;
        evens = λ i h. elim (cases_eq i j) [
          | inl same ↦ (false, ap (λ k. get_or after (2 * k) None) same ∙ begun)
          | inr apart ↦ let was = w.evens i (omega arith) in (was.0, still (2 * i) was.0 was.1)
        ];
        up = walk_still (2 * n) (partners p n) (partners_pair n p perm) (other_pairs n) n (2 * j) (2 * j) marks
            (underway (2 * j) marks (omega arith) w.closed (free_is (get_or marks (2 * j) None) free)) (slice_index p 0) false w.up;
      }
  step j marks false taken within w = record {
    closed = w.closed;
    evens = λ i h. elim (cases_eq i j) [
      | inl same ↦ let was = taken_is (get_or marks (2 * j) None) taken in (was.0, ap (λ k. get_or marks (2 * k) None) same ∙ was.1)
      | inr apart ↦ w.evens i (omega arith)
    ];
    up = w.up;
  }

  walked : (j : ℕ) → j ≤ n → 0 < n → IsWalked j (walks (partners p n) n j (walk (partners p n) n (slice_index p 0) (slice_index p 0) (replicate (2 * n) None)))
  unfolding walks
  walked zero h some = begin some
  walked (suc j) h some =
      let before = walks (partners p n) n j (walk (partners p n) n (slice_index p 0) (slice_index p 0) (replicate (2 * n) None)) in
      step j before (is_none (get_or before (2 * j) None)) refl (omega arith) (walked j (omega arith) some)

  all : 0 < n → IsWalked n (halves p n)
  all some = walked n (omega arith) some

  -- ---- what follows
  down_at : (z : ℕ) (b : Bool) → get_or (halves p n) z None ≡ Some b → down (halves p n) z ≡ b
  down_at z b e = ap (λ (m : Mark). unwrap_or m false) e

  even_mark : (j : ℕ) → j < n → (b : Bool) × (get_or (halves p n) (2 * j) None ≡ Some b)
  even_mark j h = let w = all (omega arith) in w.evens j h

  odd_mark : (j : ℕ) → j < n → (b : Bool) → get_or (halves p n) (2 * j) None ≡ Some b → get_or (halves p n) (2 * j + 1) None ≡ Some (not b)
  odd_mark j h b e =
      let w = all (omega arith) in
      let even : 2 * j % 2 ≡ 0 = omega arith in
      ap (λ k. get_or (halves p n) k None) (sym (other-even (2 * j) even)) ∙ w.closed.sides (2 * j) (omega arith) b e

  any_mark : (x : ℕ) → x < 2 * n → (b : Bool) × (get_or (halves p n) x None ≡ Some b)
  any_mark x h =
      let first = even_mark (x / 2) (omega arith) in
      elim (cases_eq (x % 2) 0) [
        | inl even ↦ let place : x ≡ 2 * (x / 2) = omega arith in (first.0, ap (λ k. get_or (halves p n) k None) place ∙ first.1)
        | inr odd ↦ let place : x ≡ 2 * (x / 2) + 1 = omega arith in
            (not first.0, ap (λ k. get_or (halves p n) k None) place ∙ odd_mark (x / 2) (omega arith) first.0 first.1)
      ]

  pub sides_apart : (j : ℕ) → j < n → down (halves p n) (2 * j + 1) ≡ not (down (halves p n) (2 * j))
  sides_apart j h =
      let first = even_mark j h in
      down_at (2 * j + 1) (not first.0) (odd_mark j h first.0 first.1) ∙ ap not (sym (down_at (2 * j) first.0 first.1))

  pub pairs_apart : (j : ℕ) → j < n → down (halves p n) (slice_index p (2 * j + 1)) ≡ not (down (halves p n) (slice_index p (2 * j)))
  pairs_apart j h =
      let w = all (omega arith) in
      let x = slice_index p (2 * j) in
      let x_in : x < 2 * n = perm.below (2 * j) (omega arith) in
      let first = any_mark x x_in in
      let even : 2 * j % 2 ≡ 0 = omega arith in
      let fellow : σ x ≡ slice_index p (2 * j + 1) = partner_of n p perm (2 * j) (omega arith) ∙ ap (λ k. slice_index p k) (other-even (2 * j) even) in
      let second = w.closed.pairs x x_in first.0 first.1 in
      down_at (slice_index p (2 * j + 1)) (not first.0) (ap (λ k. get_or (halves p n) k None) (sym fellow) ∙ second) ∙ ap not (sym (down_at x first.0 first.1))

  pub first_up : 0 < n → down (halves p n) (slice_index p 0) ≡ false
  first_up some = let w = all some in ap (λ (m : Mark). unwrap_or m false) w.up

  pub halves-long : 0 < n → length (halves p n) ≡ 2 * n
  halves-long some = let w = all some in w.closed.long
