-- The wires that are kept, and the place of each among them.
use Rattle.tv_core.proofs.Common.{◌≡◌, ℕ, zero, suc, ◌+◌, ◌-◌, ◌<◌, ◌≤◌, Bool, not, List, ◌∷◌, ◌++◌, refl, sym, ◌∙◌, ap, arith, subst, true, false, cond, map}
use Rattle.tv_core.proofs.Common.{length, get_or, take, range_with_len, slice_index, length-append, length-map}
use Rattle.std.proofs.Common.{eqb, eq-eqb, ne_eqb}
use Rattle.std.specs.List.{AllByRecursion, AllPairs, filter, list_any}
use Rattle.std.proofs.lemmas.Bool.{false_from_ne_true, not-true}
use Rattle.std.proofs.lemmas.List.Elements.{filter-append, filter_agree, filter_passes, recursion_from_All, All-filter}
use Rattle.std.proofs.lemmas.List.{ext_get_or, get_or-map, get_or_at}
use Rattle.std.proofs.lemmas.List.FromFn.{get_or-range_with_len, length-range_with_len}
use Rattle.std.proofs.lemmas.List.Kept.{AllPairs-filter}
use Rattle.std.proofs.lemmas.List.Sums.{position_or_len_is}
use Rattle.tv_core.proofs.BelowLaws.{range-append}
use Rattle.tv_r1cs_write.specs.Bytes.{others}
use Rattle.tv_shrink.specs.Shrunk.{place}

-- the wire at a place of a list that rises has that place
pub place-at : (xs : List ℕ) (k : ℕ) → AllPairs (λ x y. x < y) xs → k < length xs → place (get_or xs k 0) xs ≡ k
place-at xs k pairs h =
    position_or_len_is (λ v. eqb v (get_or xs k 0)) xs k 0 (omega arith)
    (λ j l. ne_eqb (get_or xs j 0) (get_or xs k 0) (λ e. absurd (omega (arith, pairs j k 0 l h)))) (λ _. eq-eqb (get_or xs k 0) (get_or xs k 0) refl)

-- whether a wire is gone
abbrev pub is_gone : List ℕ → ℕ → Bool
is_gone gone w = list_any (λ m. eqb m w) gone

pub others_same : (xs ys : List ℕ) → ((w : ℕ) → is_gone xs w ≡ is_gone ys w) → (n : ℕ) → others n xs ≡ others n ys
unfolding others
others_same xs ys same n = filter_agree (λ w. not (is_gone xs w)) (λ w. not (is_gone ys w)) (λ w. ap not (same w)) (range_with_len 0 n)

module _ (wires : ℕ) (gone : List ℕ) where
  in_range : (k d : ℕ) → k < length (range_with_len 0 wires) → (get_or (range_with_len 0 wires) k d ≡ k) × (k < wires)
  in_range k d h =
      let inside : k < wires = omega (arith, length-range_with_len 0 wires) in
      (get_or-range_with_len 0 wires k d inside ∙ omega arith, inside)

  -- the wires that are kept rise
  pub Rising-kept : AllPairs (λ x y. x < y) (others wires gone)
  unfolding others
  Rising-kept = AllPairs-filter (λ x y. x < y) (λ w. not (is_gone gone w)) (range_with_len 0 wires)
      (λ i j d less h. omega (arith, (in_range i d (omega arith)).0, (in_range j d h).0))

  -- each of them stays
  pub kept_stay : AllByRecursion (λ w. (w < wires) × (is_gone gone w ≡ false)) (others wires gone)
  unfolding others
  kept_stay =
      let kept = λ (w : ℕ). not (is_gone gone w) in
      let below = All-filter kept (λ w. w < wires) (range_with_len 0 wires) (λ k d h. let at = in_range k d h in omega (arith, at.0, at.1)) in
      recursion_from_All (λ w. (w < wires) × (is_gone gone w ≡ false)) (others wires gone)
      (λ k d h. (below k d h, not-true _ (filter_passes kept (range_with_len 0 wires) k d h)))

  -- a wire that stays stands after those before it that stay
  module _ (w : ℕ) (h : w < wires) (stays : is_gone gone w ≡ false) where
    kept_at : (length (others w gone) < length (others wires gone)) × (get_or (others wires gone) (length (others w gone)) 0 ≡ w)
    unfolding others
    kept_at =
        let kept = λ (v : ℕ). not (is_gone gone v) in
        let n = wires - w - 1 in
        let later = filter kept (range_with_len (w + 1) n) in
        let split : wires ≡ w + suc n = omega arith in
        let first : range_with_len (0 + w) (suc n) ≡ w ∷ range_with_len (w + 1) n = ap (λ v. range_with_len v (suc n)) (omega arith) in
        let whole : others wires gone ≡ others w gone ++ w ∷ later =
        ap (λ m. filter kept (range_with_len 0 m)) split
        ∙ ap (filter kept) (range-append 0 w (suc n) ∙ ap (λ xs. range_with_len 0 w ++ xs) first)
        ∙ filter-append kept (range_with_len 0 w) (w ∷ range_with_len (w + 1) n)
        ∙ ap (λ b. others w gone ++ cond (not b) (w ∷ later) later) stays in (
          omega (arith, ap length whole, length-append (others w gone) (w ∷ later)),
          ap (λ xs. get_or xs (length (others w gone)) 0) whole ∙ get_or_at (others w gone) w later 0 (length (others w gone)) refl,
        )

    pub place_is : place w (others wires gone) ≡ length (others w gone)
    place_is =
        subst (λ v. place v (others wires gone) ≡ length (others w gone)) kept_at.1
        (place-at (others wires gone) (length (others w gone)) Rising-kept kept_at.0)

    pub at_place-kept : slice_index (others wires gone) (place w (others wires gone)) ≡ w
    at_place-kept = ap (slice_index (others wires gone)) place_is ∙ kept_at.1

    pub inside-kept : place w (others wires gone) < length (others wires gone)
    inside-kept = omega (arith, place_is, kept_at.0)

-- numbers looked up at the places of the wires are the numbers
pub looked_up : (labels small : List ℕ) → AllPairs (λ x y. x < y) labels → length small ≡ length labels
    → map (λ w. slice_index small (place w labels)) labels ≡ small
looked_up labels small rising each =
    ext_get_or 0 (map (λ w. slice_index small (place w labels)) labels) small (length-map labels (λ w. slice_index small (place w labels)) ∙ sym each) (λ k h.
    let inside : k < length labels = omega (arith, length-map labels (λ w. slice_index small (place w labels))) in
    get_or-map (λ w. slice_index small (place w labels)) labels k 0 0 inside ∙ ap (λ i. slice_index small i) (place-at labels k rising inside))

-- what is kept of the first wires, none of which is gone
front_kept : (p : ℕ → Bool) (a n m : ℕ) → n ≤ m → ((w : ℕ) → w < a + n → p w ≡ true) → take n (filter p (range_with_len a m)) ≡ range_with_len a n
front_kept p a zero m h each = refl
front_kept p a (suc n) zero h each = absurd (omega arith)
front_kept p a (suc n) (suc m) h each =
    ap (λ b. take (suc n) (cond b (a ∷ filter p (range_with_len (a + 1) m)) (filter p (range_with_len (a + 1) m)))) (each a (omega arith))
    ∙ ap (λ xs. a ∷ xs) (front_kept p (a + 1) n m (omega arith) (λ w k. each w (omega arith)))

-- none of the first wires is gone where those that are come later
pub none_below : (publics w : ℕ) (gone : List ℕ) → ((v : ℕ) → is_gone gone v ≡ true → publics ≤ v) → w < publics → is_gone gone w ≡ false
none_below publics w gone later h = false_from_ne_true (is_gone gone w) (λ e. let above = later w e in omega arith)

pub front-kept : (wires publics : ℕ) (gone : List ℕ) → publics ≤ wires → ((v : ℕ) → is_gone gone v ≡ true → publics ≤ v)
    → take publics (others wires gone) ≡ range_with_len 0 publics
unfolding others
front-kept wires publics gone h later = front_kept (λ w. not (is_gone gone w)) 0 publics wires h
    (λ w k. ap not (none_below publics w gone later (omega arith)))
