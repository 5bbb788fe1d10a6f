-- The successor of each double line in address order.
use Rattle.std.proofs.Common.{◌≡◌, ◌≢◌, ◌⊎◌, ℕ, ◌+◌, ◌*◌, ◌%◌, ◌^◌, ◌<◌, ◌≤◌, List, length, get_or, map, All}
use Rattle.std.proofs.Common.{inl, inr, refl, sym, ◌∙◌, ap, subst, arith, IsPermutation, slice_index}
use Rattle.std.proofs.lemmas.Bool.{cases_eq, cases_lt, cases_order}
use Rattle.std.proofs.lemmas.List.{get_or-map}
use Rattle.std.proofs.lemmas.List.Elements.{All-from_get_or, All-get_or}
use Rattle.std.proofs.lemmas.List.Sorted.{All-permutation, IsPermutation-map, length_permutation}
use Rattle.tv_doubles.proofs.Increase.{rising_moves, rising_rises}
use Rattle.tv_doubles.proofs.Places.{places-length, places-at, places-same, map_places}
use Rattle.tv_stages.specs.Stages.{places, IsReordering}
use Rattle.tv_doubles.specs.Rising.{rising, place_at, index_in}
use Rattle.tv_doubles.proofs.Circle.{right, index_is, next_at, next_moved, next_permutes, after_last, after_other}
use Rattle.tv_doubles.proofs.Latest.{Latest, NoneBefore, latest}
use Rattle.tv_doubles.specs.Doubles.{DoubleLine, Succeeds, HonestDoubles, key, no_words}
use Rattle.tv_doubles.specs.Successors.{address_order, next_in, successor, IsGreatest, SuccessorsAreRight}

module _ (n : ℕ) (line : ℕ → DoubleLine) (few : n ≤ 2 ^ 20) where
  abbrev k : ℕ → ℕ
  k i = key line i

  abbrev keys : List ℕ
  keys = places n (key line)

  abbrev order : List ℕ
  order = address_order n line

  abbrev p : ℕ → ℕ
  p i = successor n line i

  place_of_key : (i : ℕ) → i < n → k i % 2 ^ 20 ≡ i
  place_of_key i h = omega arith

  pub sorted : IsPermutation (places n (λ i. i)) order
  sorted = subst (λ ps. IsPermutation ps order)
      (map_places n (key line) (λ k. k % 2 ^ 20) ∙ places-same n (λ i. key line i % 2 ^ 20) (λ i. i) place_of_key)
      (IsPermutation-map (λ k. k % 2 ^ 20) keys (rising keys) (rising_moves keys))

  long : length (rising keys) ≡ n
  long = length_permutation keys (rising keys) (rising_moves keys) ∙ places-length n (key line)

  -- the line that a key determines has it
  keeps : All (λ x. key line (x % 2 ^ 20) ≡ x) (rising keys)
  keeps = All-permutation (λ x. key line (x % 2 ^ 20) ≡ x) keys (rising keys) (rising_moves keys)
      (All-from_get_or (λ x. key line (x % 2 ^ 20) ≡ x) keys 0 (λ i h.
      let l = places-length n (key line) in
      let at : get_or keys i 0 ≡ key line i = places-at n i (key line) 0 (omega arith) in
      ap (λ x. key line (x % 2 ^ 20)) at ∙ ap (key line) (place_of_key i (omega arith)) ∙ sym at))

  key_at : (j : ℕ) → j < n → k (place_at order j) ≡ get_or (rising keys) j 0
  key_at j h =
      let l = long in
      ap (key line) (get_or-map (λ x. x % 2 ^ 20) (rising keys) j 0 0 (omega arith))
      ∙ All-get_or (λ x. key line (x % 2 ^ 20) ≡ x) (rising keys) j 0 (omega arith) keeps

  -- keys rise along the order
  rises : (i j : ℕ) → i ≤ j → j < n → k (place_at order i) ≤ k (place_at order j)
  rises i j h l = omega (arith, key_at i (omega arith), key_at j l, rising_rises keys i j 0 h (omega (arith, long)))

  right_order : IsReordering n (slice_index order)
  right_order = right n order sorted

  p_below : (i : ℕ) → i < n → p i < n
  p_below i h = (next_permutes n order sorted).below i h

  -- keys tell places apart
  same_key : (i j : ℕ) → i < n → j < n → k i ≡ k j → i ≡ j
  same_key i j h l e = omega arith

  strict : (i j : ℕ) → i < j → j < n → k (place_at order i) < k (place_at order j)
  strict i j h l =
      let low = rises i j (omega arith) l in
      let x : place_at order i < n = right_order.below i (omega arith) in
      let y : place_at order j < n = right_order.below j l in
      elim (cases_eq (k (place_at order i)) (k (place_at order j))) [
        | inl same ↦ (let e : i ≡ j = right_order.once i j (omega arith) l (same_key _ _ x y same) in absurd (omega arith))
        | inr apart ↦ omega arith
      ]

  -- a line with a higher key is in a double cell above, or later in the same one
  risen : (i j : ℕ) → i < n → j < n → k i < k j → ((line i).cell < (line j).cell) ⊎ (((line i).cell ≡ (line j).cell) × (i < j))
  risen i j h l s = elim (cases_order (line i).cell (line j).cell) [
    | inl same ↦ inr (same, omega arith)
    | inr apart ↦ elim apart [ inl low ↦ inl low | inr high ↦ absurd (omega arith) ]
  ]

  -- where a place stands
  abbrev at : ℕ → ℕ
  at i = index_in i order

  at_below : (i : ℕ) → i < n → at i < n
  at_below i h = (index_is n order sorted i h).0

  at_is : (i : ℕ) → i < n → place_at order (at i) ≡ i
  at_is i h = (index_is n order sorted i h).1

  -- the place after one that isn't the last of the order
  p_next : (i : ℕ) → at i + 1 ≢ n → p i ≡ place_at order (at i + 1)
  p_next i h = next_at n order sorted i ∙ ap (place_at order) (after_other n (at i) h)

  p_first : (i : ℕ) → at i + 1 ≡ n → p i ≡ place_at order 0
  p_first i h = next_at n order sorted i ∙ ap (place_at order) (after_last n (at i) h)

  up : (i : ℕ) → i < n → at i + 1 ≢ n → k i < k (p i)
  up i h other =
      let b = at_below i h in
      let s = strict (at i) (at i + 1) (omega arith) (omega arith) in
      let e : k (place_at order (at i)) ≡ k i = ap k (at_is i h) in
      let f : k (p i) ≡ k (place_at order (at i + 1)) = ap k (p_next i other) in
      omega arith

  none_between : (i q : ℕ) → i < n → at i + 1 ≢ n → q < n → k i < k q → k q < k (p i) → ⊥
  none_between i q h other l low high =
      let f : k (p i) ≡ k (place_at order (at i + 1)) = ap k (p_next i other) in
      let e : k (place_at order (at i)) ≡ k i = ap k (at_is i h) in
      let g : k (place_at order (at q)) ≡ k q = ap k (at_is q l) in
      let b = at_below i h in
      let c = at_below q l in
      elim (cases_lt (at i) (at q)) [
        | inl far ↦ (let r = rises (at i + 1) (at q) (omega arith) c in omega arith)
        | inr near ↦ (let r = rises (at q) (at i) near b in omega arith)
      ]

  none_below : (i q : ℕ) → i < n → at i + 1 ≡ n → q < n → k q < k (p i) → ⊥
  none_below i q h last l low =
      let f : k (p i) ≡ k (place_at order 0) = ap k (p_first i last) in
      let g : k (place_at order (at q)) ≡ k q = ap k (at_is q l) in
      let r = rises 0 (at q) (omega arith) (at_below q l) in
      omega arith

  module _ (a : ℕ) (greatest : IsGreatest n line a) where
    a_last : at a + 1 ≡ n
    a_last = elim (cases_eq (at a + 1) n) [
      | inl e ↦ e
      | inr other ↦
          let s = up a greatest.0 other in
          let g = greatest.1 (p a) (p_below a greatest.0) in
          absurd (omega arith)
    ]

    not_last : (i : ℕ) → i < n → i ≢ a → at i + 1 ≢ n
    not_last i h other e =
        let same : at i ≡ at a = omega (arith, a_last) in
        other (sym (at_is i h) ∙ ap (place_at order) same ∙ at_is a greatest.0)

    least : (q : ℕ) → q < n → (line (p a)).cell ≤ (line q).cell
    least q h = elim (cases_lt (line q).cell (line (p a)).cell) [
      | inl low ↦ absurd (none_below a q greatest.0 a_last h (omega arith))
      | inr high ↦ high
    ]

    nearest : (i q : ℕ) → i < n → i ≢ a → q < n → (line i).cell < (line q).cell → (line (p i)).cell ≤ (line q).cell
    nearest i q h other l above = elim (cases_lt (line q).cell (line (p i)).cell) [
      | inl low ↦ absurd (none_between i q h (not_last i h other) l (omega arith) (omega arith))
      | inr high ↦ high
    ]

    module _ (honest : HonestDoubles n line) where
      -- an earlier line of the cell has a lower key
      lower : (b j : ℕ) → b < j → (line b).cell ≡ (line j).cell → k b < k j
      lower b j x e = omega arith

      succeeds : (i : ℕ) → i < n → i ≢ a → Succeeds (line i) i (line (p i)) (p i)
      succeeds i h other = by (p i) refl (p_below i h) (up i h (not_last i h other)) (latest line (line (p i)).cell (p i))
        where
          by : (j : ℕ) → p i ≡ j → j < n → k i < k j → Latest line j (line j).cell ⊎ NoneBefore line j (line j).cell → Succeeds (line i) i (line j) j
          by j e l s (inl w) = record {
            rises = risen i j h l s;
            carried = λ same. honest j l ∙ w.value ∙ ap (λ i. (line i).new) (here same (cases_order i w.place));
            fresh = λ apart. absurd (none_between i w.place h (not_last i h other) (omega (arith, w.earlier))
                (omega (arith, w.cell)) (omega (arith, lower w.place j w.earlier w.cell, ap k e)));
          }
            where
              here : (line i).cell ≡ (line j).cell → ((i ≡ w.place) ⊎ ((i < w.place) ⊎ (w.place < i))) → w.place ≡ i
              here same (inl at_it) = sym at_it
              here same (inr (inl before_it)) = absurd (none_between i w.place h (not_last i h other) (omega (arith, w.earlier))
                  (lower i w.place before_it (same ∙ sym w.cell)) (omega (arith, lower w.place j w.earlier w.cell, ap k e)))
              here same (inr (inr after_it)) = absurd (w.none i after_it (omega arith) same)
          by j e l s (inr w) = record {
            rises = risen i j h l s;
            carried = λ same. absurd (w.none i (omega arith) same);
            fresh = λ apart. honest j l ∙ w.value;
          }

      begins : (line (p a)).old ≡ no_words
      begins = by (latest line (line (p a)).cell (p a))
        where
          by : Latest line (p a) (line (p a)).cell ⊎ NoneBefore line (p a) (line (p a)).cell → (line (p a)).old ≡ no_words
          by (inl w) = absurd (none_below a w.place greatest.0 a_last (omega (arith, w.earlier, p_below a greatest.0)) (lower w.place (p a) w.earlier w.cell))
          by (inr w) = honest (p a) (p_below a greatest.0) ∙ w.value

pub successors_right : SuccessorsAreRight
successors_right = record {
  permutes = λ n line few. next_permutes n (address_order n line) (sorted n line few);
  moved = λ n line few. next_moved n (address_order n line) (sorted n line few);
  succeeds = λ n a line few honest greatest. succeeds n line few a greatest honest;
  begins = λ n a line few honest greatest. begins n line few a greatest honest;
  least = λ n a line few greatest. least n line few a greatest;
  nearest = λ n a line few greatest. nearest n line few a greatest;
  cells = λ n line other same i.
      ap (λ ks. next_in (map (λ k. k % 2 ^ 20) (rising ks)) i) (places-same n (key line) (key other) (λ i h. ap (λ c. c * 2 ^ 20 + i) (same i h)));
  chained = λ n a line few honest greatest. record {
    few = few;
    exempt = greatest.0;
    permutes = next_moved n (address_order n line) (sorted n line few);
    begins = begins n line few a greatest honest;
    each = λ i h other. inl (succeeds n line few a greatest honest i h other);
  };
}
