-- The predecessor of each line in address order.
use Rattle.tv_core.proofs.Common.{◌≡◌, ◌≢◌, ◌⊎◌, ℕ, zero, suc, ◌+◌, ◌-◌, ◌^◌, ◌<◌, ◌≤◌, ◌==◌, if◌then◌else◌, List, length, get_or, inl, inr, refl, sym}
use Rattle.tv_core.proofs.Common.{◌∙◌, ap, subst, arith, map, ◌%◌, cases_lt, cases_eq, nat_tests, slice_index, length-map, length-each_below, each_below, Line}
use Rattle.tv_core.specs.Lines.{Honest}
use Rattle.tv_lines.proofs.Neighbours.{each_below-at}
use Rattle.tv_lines.proofs.PredecessorReach.{follows_rises}
use Rattle.tv_lines.specs.Ordered.{Follows, Ordered, key}
use Rattle.tv_lines.specs.Placed.{zero_line, number_in, LinesFrom}
use Rattle.std.proofs.lemmas.List.Sorted.{length_permutation}
use Rattle.tv_argument.proofs.Increase.{rising_moves}
use Rattle.tv_argument.proofs.Order.{address_order_right, map_map}
use Rattle.tv_argument.proofs.Parts.{placed}
use Rattle.tv_lines.specs.PackedLines.{without_old}
use Rattle.tv_argument.proofs.Reordered.{rearranged, rearranged_length}
use Rattle.tv_argument.specs.Order.{rising, address_order, place_at, index_before, previous_in, previous_order, predecessors}
use Rattle.tv_stages.proofs.Indices.{index_at}
use Rattle.tv_stages.proofs.Reorders.{places-length, places-at}
use Rattle.tv_stages.specs.Settings.{index_in}
use Rattle.tv_stages.specs.Stages.{IsReordering}

-- and back
abbrev advanced : ℕ → ℕ → ℕ
advanced n j = if j + 1 == n then 0 else j + 1

before_below : (n j : ℕ) → j < n → index_before n j < n
before_below n j h = grind (arith, nat_tests)

advanced_below : (n j : ℕ) → j < n → advanced n j < n
advanced_below n j h = grind (arith, nat_tests)

before_advanced : (n j : ℕ) → j < n → index_before n (advanced n j) ≡ j
before_advanced n j h = grind (arith, nat_tests)

advanced_before : (n j : ℕ) → j < n → advanced n (index_before n j) ≡ j
advanced_before n j h = grind (arith, nat_tests)

module _ (n : ℕ) (order : List ℕ) (long : length order ≡ n) (right : IsReordering n (λ i. slice_index order i)) where
  -- place j of the order is found there
  index_of : (j : ℕ) → j < n → index_in (place_at order j) order ≡ j
  index_of j h = index_at order j (omega (arith, long)) (λ k less e. let same : k ≡ j = right.once k j (omega arith) h e in omega arith)

  pub index_is : (i : ℕ) → i < n → (index_in i order < n) × (place_at order (index_in i order) ≡ i)
  index_is i h =
      let within = right.back_below i h in
      let at : index_in i order ≡ right.back i = ap (λ x. index_in x order) (sym (right.there i h)) ∙ index_of (right.back i) within in
      (omega (arith, at), ap (place_at order) at ∙ right.there i h)

  pub previous_at : (i : ℕ) → i < n → place_at (previous_order order) i ≡ place_at order (index_before n (index_in i order))
  previous_at i h =
      places-at (length order) i (previous_in order) 0 (omega arith) ∙ ap (λ m. place_at order (index_before m (index_in i order))) long

  pub previous_permutes : IsReordering n (λ i. slice_index (previous_order order) i)
  previous_permutes = record {
    below = λ i h. let f = index_is i h in subst (λ v. v < n) (sym (previous_at i h))
        (right.below (index_before n (index_in i order)) (before_below n (index_in i order) f.0));
    back = λ x. place_at order (advanced n (index_in x order));
    back_below = λ x h. let f = index_is x h in right.below (advanced n (index_in x order)) (advanced_below n (index_in x order) f.0);
    there = λ x h.
        let f = index_is x h in
        let j = advanced n (index_in x order) in
        let within = advanced_below n (index_in x order) f.0 in
        previous_at (place_at order j) (right.below j within)
        ∙ ap (λ i. place_at order (index_before n i)) (index_of j within) ∙ ap (place_at order) (before_advanced n (index_in x order) f.0) ∙ f.1;
    once = λ i j hi hj e.
        let f = index_is i hi in
        let g = index_is j hj in
        let same : index_before n (index_in i order) ≡ index_before n (index_in j order) =
        right.once _ _ (before_below n (index_in i order) f.0) (before_below n (index_in j order) g.0) (sym (previous_at i hi) ∙ e ∙ previous_at j hj) in
        let at : index_in i order ≡ index_in j order = sym (advanced_before n (index_in i order) f.0) ∙ ap (advanced n) same
        ∙ advanced_before n (index_in j order) g.0 in
        sym f.1 ∙ ap (place_at order) at ∙ g.1;
  }

pub predecessors_long : (lines : List Line) → length (predecessors lines) ≡ length lines
predecessors_long lines =
    places-length (length (address_order lines)) (previous_in (address_order lines)) ∙ length-map (rising (map key lines)) (λ k. k % 2 ^ 20)
    ∙ length_permutation (map key lines) (rising (map key lines)) (rising_moves (map key lines)) ∙ length-map lines key

module _ (lines : List Line) (few : length lines ≤ 2 ^ 20) (from : LinesFrom 0 lines) where
  abbrev order : List ℕ
  order = address_order lines

  abbrev line : ℕ → Line
  line = number_in lines

  abbrev p : ℕ → ℕ
  p = place_at (predecessors lines)

  pub order_long : length order ≡ length lines
  order_long = rearranged_length (length lines) order (address_order_right.permutes lines few from)

  pub order_permutes : IsReordering (length lines) (λ i. slice_index order i)
  order_permutes = rearranged (length lines) order (address_order_right.permutes lines few from)

  pub permutes : IsReordering (length lines) (λ i. slice_index (predecessors lines) i)
  permutes = previous_permutes (length lines) order order_long order_permutes

  before_is : (i j : ℕ) → i < length lines → index_in i order ≡ suc j → p i ≡ place_at order j
  before_is i j h e =
      previous_at (length lines) order order_long order_permutes i h ∙ ap (λ x. place_at order (index_before (length lines) x)) e
      ∙ ap (place_at order) (let same : index_before (length lines) (suc j) ≡ j = grind (arith, nat_tests) in same)

  small : (i : ℕ) → i < length lines → (line i).time < 2 ^ 20
  small i h = omega (arith, (placed 0 lines from i zero_line h).0)

  module _ (honest : Honest lines) where
    sorted : Ordered (each_below (length lines) (λ j. line (place_at order j)))
    sorted = address_order_right.ordered lines few from honest

    follows_at : (j : ℕ) → suc j < length lines → Follows (line (place_at order j)) (line (place_at order (suc j)))
    follows_at j h =
        let f = sorted.follows j zero_line (omega (arith, length-each_below (length lines) (λ j. line (place_at order j)))) in
        let e : j + 1 ≡ suc j = omega arith in
        let at_j = each_below-at (length lines) j (λ j. line (place_at order j)) zero_line (omega arith) in
        let at_s = each_below-at (length lines) (suc j) (λ j. line (place_at order j)) zero_line h in
        subst (λ m. Follows m (line (place_at order (suc j)))) at_j
        (subst (λ m. Follows (get_or (each_below (length lines) (λ j. line (place_at order j))) j zero_line) m)
        (ap (λ k. get_or (each_below (length lines) (λ j. line (place_at order j))) k zero_line) e ∙ at_s) f)

    -- each but the first of the order follows the line before
    follows_place : (i j : ℕ) → i < length lines → j < length lines → index_in i order ≡ j → j ≢ 0 → Follows (line (p i)) (line i)
    follows_place i zero h k e some = absurd (some refl)
    follows_place i (suc j) h k e some =
        let n = length lines in
        let before = before_is i j h e in
        let here : place_at order (suc j) ≡ i = ap (place_at order) (sym e) ∙ (index_is (length lines) order order_long order_permutes i h).1 in
        subst (λ x. Follows (line x) (line i)) (sym before) (subst (λ x. Follows (line (place_at order j)) (line x)) here (follows_at j k))

    module _ (a : ℕ) (within : a < length lines) (least : (i : ℕ) → i < length lines → key (line a) ≤ key (line i)) where
      -- the first of the order is a
      a_first : index_in a order ≡ 0
      a_first = elim (cases_eq (index_in a order) 0) [
        | inl e ↦ e
        | inr some ↦
            let f = follows_place a (index_in a order) within (index_is (length lines) order order_long order_permutes a within).0 refl some in
            let hp : p a < length lines = permutes.below a within in
            let g = follows_rises (line (p a)) (line a) (small (p a) hp) (small a within) f in
            let h = least (p a) hp in
            absurd (omega arith)
      ]

      pub follows : (i : ℕ) → i < length lines → i ≢ a → Follows (line (p i)) (line i)
      follows i h other =
          let f = index_is (length lines) order order_long order_permutes i h in
          follows_place i (index_in i order) h f.0 refl
          (λ e. other (sym f.1 ∙ ap (place_at order) (e ∙ sym a_first) ∙ (index_is (length lines) order order_long order_permutes a within).1))

      pub begins : (line a).old ≡ 0
      begins =
          let long = length-each_below (length lines) (λ j. line (place_at order j)) in
          let f = sorted.first zero_line (omega arith) in
          let at = each_below-at (length lines) 0 (λ j. line (place_at order j)) zero_line (omega arith) in
          let here : place_at order 0 ≡ a = ap (place_at order) (sym a_first) ∙ (index_is (length lines) order order_long order_permutes a within).1 in
          ap (λ x. (line x).old) (sym here) ∙ ap (λ (m : Line). m.old) (sym at) ∙ f

      -- keys rise along the order
      rises : (t d : ℕ) → t + d < length lines → key (line (place_at order t)) ≤ key (line (place_at order (t + d)))
      rises t zero h = let e : t + 0 ≡ t = omega arith in subst (λ x. key (line (place_at order t)) ≤ key (line (place_at order x))) (sym e) (omega arith)
      rises t (suc d) h =
          let e : t + suc d ≡ suc (t + d) = omega arith in
          let r = rises t d (omega arith) in
          let f = follows_at (t + d) (omega arith) in
          let g = follows_rises (line (place_at order (t + d))) (line (place_at order (suc (t + d)))) (small _ (order_permutes.below (t + d) (omega arith)))
          (small _ (order_permutes.below (suc (t + d)) (omega arith))) f in
          subst (λ x. key (line (place_at order t)) ≤ key (line (place_at order x))) (sym e) (omega arith)

      rises_far : (t u : ℕ) → t ≤ u → u < length lines → key (line (place_at order t)) ≤ key (line (place_at order u))
      rises_far t u h k = let e : t + (u - t) ≡ u = omega arith in subst (λ x. key (line (place_at order t)) ≤ key (line (place_at order x))) e
          (rises t (u - t) (omega arith))

      nearest_at : (i q j t : ℕ) → i < length lines → j < length lines → t < length lines → index_in i order ≡ j → place_at order j ≡ i
          → place_at order t ≡ q → j ≢ 0
          → key (line q) < key (line i) → key (line q) ≤ key (line (p i))
      nearest_at i q zero t h k m e f g some less = absurd (some refl)
      nearest_at i q (suc j) t h k m e f g some less =
          let before = before_is i j h e in
          elim (cases_lt j t) [
            | inl far ↦ (let r = rises_far (suc j) t (omega arith) m in
                let a : key (line (place_at order (suc j))) ≡ key (line i) = ap (λ x. key (line x)) f in
                let b : key (line (place_at order t)) ≡ key (line q) = ap (λ x. key (line x)) g in
                absurd (omega arith))
            | inr near ↦ subst (λ x. key (line q) ≤ key (line x)) (sym before)
                (subst (λ x. key (line x) ≤ key (line (place_at order j))) g (rises_far t j near (omega arith)))
          ]

      pub nearest : (i q : ℕ) → i < length lines → i ≢ a → q < length lines → key (line q) < key (line i) → key (line q) ≤ key (line (p i))
      nearest i q h other k less =
          let f = index_is (length lines) order order_long order_permutes i h in
          let g = index_is (length lines) order order_long order_permutes q k in
          nearest_at i q (index_in i order) (index_in q order) h f.0 g.0 refl f.1 g.1
          (λ e. other (sym f.1 ∙ ap (place_at order) (e ∙ sym a_first) ∙ (index_is (length lines) order order_long order_permutes a within).1)) less

      pub near : (i q : ℕ) → i < length lines → i ≢ a → q < length lines → (line q).cell + 1 ≡ (line i).cell
          → ((line (p i)).cell ≡ (line i).cell) ⊎ ((line (p i)).cell + 1 ≡ (line i).cell)
      near i q h other k e =
          let sq = small q k in
          let si = small i h in
          let sp = small (p i) (permutes.below i h) in
          let low = nearest i q h other k (omega arith) in
          let high = follows_rises (line (p i)) (line i) sp si (follows i h other) in
          elim (cases_eq (line (p i)).cell (line i).cell) [ inl same ↦ inl same | inr apart ↦ inr (omega arith) ]

      pub next : (i q : ℕ) → i < length lines → i ≢ a → q < length lines → (line q).cell + 1 ≡ (line i).cell
          → ((j : ℕ) → j < i → (line j).cell ≢ (line i).cell) → (line (p i)).cell + 1 ≡ (line i).cell
      next i q h other k e none =
          let si = small i h in
          let hp = permutes.below i h in
          let sp = small (p i) hp in
          let high = follows_rises (line (p i)) (line i) sp si (follows i h other) in
          let ti = (placed 0 lines from i zero_line h).0 in
          let tp = (placed 0 lines from (p i) zero_line hp).0 in
          elim (near i q h other k e) [ inl same ↦ absurd (none (p i) (omega arith) same) | inr below ↦ below ]

-- old words are no part of the keys
pub old_no_key : (lines : List Line) → predecessors (map without_old lines) ≡ predecessors lines
old_no_key lines = ap previous_order (ap (λ (ks : List ℕ). map (λ k. k % 2 ^ 20) (rising ks)) (map_map without_old key lines))
