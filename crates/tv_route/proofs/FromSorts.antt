-- A rearrangement of 0, 1, .. n - 1, as after a sort, is a permutation.
use Rattle.tv_core.proofs.Common.{◌≡◌, ◌≢◌, ℕ, ◌<◌, ◌==◌, Bool, true, false, List, length, get_or, All, refl, sym, ◌∙◌, subst, arith, slice_index, eqb-true}
use Rattle.tv_core.proofs.Common.{ne_eqb}
use Rattle.std.proofs.Common.{IsPermutation}
use Rattle.std.proofs.Common.{eq-eqb}
use Rattle.std.specs.List.{IsDistinct}
use Rattle.std.proofs.lemmas.Bool.{eqb-false}
use Rattle.std.proofs.lemmas.List.{get_or_default}
use Rattle.std.proofs.lemmas.List.Sorted.{All-permutation, Contains-permutation, length_permutation}
use Rattle.std.proofs.lemmas.Map.Keys.{apart_from_distinct, IsDistinct-from_apart, IsDistinct-IsPermutation}
use Rattle.tv_benes.proofs.Permutations.{places-length, places-at}
use Rattle.tv_benes.specs.Through.{places}
use Rattle.tv_route.proofs.Seen.{permutes_by}
use Rattle.tv_route.specs.Permutations.{Permutes}

same : ℕ → ℕ → Bool
same a b = a == b

flips : (a b : ℕ) → same a b ≡ same b a
unfolding same
flips a b = by_test (a == b) refl
  where
    by_test : (c : Bool) → (a == b) ≡ c → (a == b) ≡ (b == a)
    by_test true e = e ∙ sym (eq-eqb b a (sym (eqb-true a b e)))
    by_test false e = e ∙ sym (ne_eqb b a (λ f. eqb-false a b e (sym f)))

pub permutes_of : (n : ℕ) (p : List ℕ) → IsPermutation (places n (λ i. i)) p → Permutes n p
unfolding same
permutes_of n p moved = permutes_by n p long (λ i h. small i 0 (omega (arith, long))) there (λ i j h k. apart i j h (omega (arith, long)))
  where
    long : length p ≡ n
    long = length_permutation (places n (λ i. i)) p moved ∙ places-length n (λ i. i)

    small : All (λ v. v < n) p
    small = All-permutation (λ v. v < n) (places n (λ i. i)) p moved
        (λ i d h. let l = places-length n (λ (i : ℕ). i) in subst (λ v. v < n) (sym (places-at n i (λ i. i) d (omega arith))) (omega arith))

    apart : (i j : ℕ) → i < j → j < length p → slice_index p i ≢ slice_index p j
    apart i j h k =
        let l = places-length n (λ (i : ℕ). i) in
        let first : IsDistinct same (places n (λ i. i)) = IsDistinct-from_apart same (places n (λ i. i)) (λ i j d h k.
        ne_eqb (get_or (places n (λ i. i)) i d) (get_or (places n (λ i. i)) j d)
        (λ e. let f : i ≡ j = sym (places-at n i (λ i. i) d (omega arith)) ∙ e ∙ places-at n j (λ i. i) d (omega arith) in omega arith)) in
        let after = IsDistinct-IsPermutation same flips (places n (λ i. i)) p moved first in
        eqb-false (slice_index p i) (slice_index p j) (apart_from_distinct same p i j 0 after h k)

    there : (x : ℕ) → x < n → (k : ℕ) × (k < n) × (slice_index p k ≡ x)
    there x h =
        let l = places-length n (λ (i : ℕ). i) in
        let c = Contains-permutation (places n (λ i. i)) p x moved (x, omega arith, places-at n x (λ i. i) x h) in
        (c.0, omega (arith, c.1, long), get_or_default p c.0 0 x (omega (arith, c.1)) ∙ c.2)
