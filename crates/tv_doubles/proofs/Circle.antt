-- The number after another in a list that is a permutation, in a circle.
use Rattle.std.proofs.Common.{◌≡◌, ◌≢◌, ℕ, suc, ◌+◌, ◌-◌, ◌<◌, ◌≤◌, ◌==◌, if◌then◌else◌, List, [], ◌∷◌, ◌++◌, length}
use Rattle.std.proofs.Common.{get_or, map, slice_index, refl, sym, ◌∙◌, ap, ap₂, subst, arith, IsPermutation}
use Rattle.std.proofs.lemmas.Bool.Decides.{nat_tests}
use Rattle.std.proofs.lemmas.List.Sorted.{length_permutation, IsPermutation-refl, IsPermutation-sym}
use Rattle.std.proofs.lemmas.List.Sorted.{IsPermutation-trans, IsPermutation-map, IsPermutation-to_front}
use Rattle.tv_doubles.proofs.FromSorts.{permutes_of, reordering_of}
use Rattle.tv_doubles.proofs.Increase.{index_found}
use Rattle.tv_doubles.proofs.Places.{places-zero, places-length, places-same, places-suc, each_place, map_places, map-id}
use Rattle.tv_doubles.specs.Places.{PermutesPlaces}
use Rattle.tv_stages.specs.Stages.{places, IsReordering}
use Rattle.tv_doubles.specs.Rising.{place_at, index_in}
use Rattle.tv_doubles.specs.Successors.{index_after, next_in}

abbrev index_before : ℕ → ℕ → ℕ
index_before n j = if j == 0 then n - 1 else j - 1

before_below : (n j : ℕ) → j < n → index_before n j < n
before_below n j h = grind (arith, nat_tests)

after_below : (n j : ℕ) → j < n → index_after n j < n
after_below n j h = grind (arith, nat_tests)

before_after : (n j : ℕ) → j < n → index_before n (index_after n j) ≡ j
before_after n j h = grind (arith, nat_tests)

after_before : (n j : ℕ) → j < n → index_after n (index_before n j) ≡ j
after_before n j h = grind (arith, nat_tests)

pub after_last : (n j : ℕ) → j + 1 ≡ n → index_after n j ≡ 0
after_last n j h = grind (arith, nat_tests)

pub after_other : (n j : ℕ) → j + 1 ≢ n → index_after n j ≡ j + 1
after_other n j h = grind (arith, nat_tests)

-- a list but its first, and then the first
rotated : (x : ℕ) (xs : List ℕ) → places (length (x ∷ xs)) (λ j. place_at (x ∷ xs) (index_after (length (x ∷ xs)) j)) ≡ xs ++ x ∷ []
rotated x xs =
    let m = length xs in
    let long : length (x ∷ xs) ≡ suc m = refl in
    places-suc m (λ j. place_at (x ∷ xs) (index_after (suc m) j))
    ∙ ap₂ (λ (ys : List ℕ) (y : ℕ). ys ++ y ∷ [])
    (places-same m (λ j. place_at (x ∷ xs) (index_after (suc m) j)) (λ j. get_or xs j 0)
    (λ j h. let e : index_after (suc m) j ≡ suc j = grind (arith, nat_tests) in ap (place_at (x ∷ xs)) e) ∙ each_place (λ y. y) 0 xs ∙ map-id xs)
    (let e : index_after (suc m) m ≡ 0 = grind (arith, nat_tests) in ap (place_at (x ∷ xs)) e)

rotates : (order : List ℕ) → IsPermutation order (places (length order) (λ j. place_at order (index_after (length order) j)))
rotates [] = subst (IsPermutation []) (sym (places-zero (λ j. place_at [] (index_after 0 j)))) (IsPermutation-refl [])
rotates (x ∷ xs) = subst (IsPermutation (x ∷ xs)) (sym (rotated x xs)) (IsPermutation-sym _ _ (IsPermutation-to_front xs x))

module _ (n : ℕ) (order : List ℕ) (sorted : IsPermutation (places n (λ i. i)) order) where
  pub long : length order ≡ n
  long = length_permutation (places n (λ i. i)) order sorted ∙ places-length n (λ i. i)

  pub right : IsReordering n (slice_index order)
  right = permutes_of n order sorted

  -- place j of the order is found there
  pub index_of : (j : ℕ) → j < n → index_in (place_at order j) order ≡ j
  index_of j h =
      let f = index_found (place_at order j) j order (omega (arith, long)) refl in
      let low : index_in (place_at order j) order ≤ j = f.0 in
      right.once (index_in (place_at order j) order) j (omega arith) h f.1

  pub index_is : (i : ℕ) → i < n → (index_in i order < n) × (place_at order (index_in i order) ≡ i)
  index_is i h =
      let b = right.back_below i h in
      let f = index_found i (right.back i) order (omega (arith, long, b)) (right.there i h) in
      let low : index_in i order ≤ right.back i = f.0 in
      (omega arith, f.1)

  pub next_at : (i : ℕ) → next_in order i ≡ place_at order (index_after n (index_in i order))
  next_at i = ap (λ m. place_at order (index_after m (index_in i order))) long

  -- the numbers after those of the order are the order turned by one
  turned : map (next_in order) order ≡ places (length order) (λ j. place_at order (index_after (length order) j))
  turned = sym (each_place (next_in order) 0 order)
      ∙ places-same (length order) (λ j. next_in order (get_or order j 0)) (λ j. place_at order (index_after (length order) j))
      (λ j h. ap (λ k. place_at order (index_after (length order) k)) (index_of j (omega (arith, long))))

  pub next_moved : PermutesPlaces n (next_in order)
  next_moved = IsPermutation-trans (places n (λ i. i)) order (places n (next_in order)) sorted
      (IsPermutation-trans order (map (next_in order) order) (places n (next_in order))
      (subst (IsPermutation order) (sym turned) (rotates order))
      (subst (IsPermutation (map (next_in order) order)) (map_places n (λ i. i) (next_in order))
      (IsPermutation-map (next_in order) order (places n (λ i. i)) (IsPermutation-sym _ _ sorted))))

  pub next_permutes : IsReordering n (next_in order)
  next_permutes = reordering_of n (next_in order) next_moved
