-- A rearrangement of 0, 1, .. n - 1, as after a sort, is a permutation.
use Rattle.std.proofs.Common.{◌≡◌, ◌≢◌, ◌⊎◌, ℕ, ◌<◌, ◌≤◌, ◌==◌, Bool, true, false, List, length, get_or, All, inl, inr, refl, sym, ◌∙◌, subst, arith, eqb-true}
use Rattle.std.proofs.Common.{IsPermutation}
use Rattle.std.proofs.Common.{eq-eqb}
use Rattle.std.specs.List.{IsDistinct}
use Rattle.std.specs.Prelude.{slice_index}
use Rattle.std.proofs.lemmas.Bool.{eqb-false, ne_eqb, cases_eq, cases_lt}
use Rattle.std.proofs.lemmas.List.{get_or_default}
use Rattle.std.proofs.lemmas.List.Sorted.{All-permutation, Contains-permutation, length_permutation}
use Rattle.std.proofs.lemmas.Map.Keys.{apart_from_distinct, IsDistinct-from_apart, IsDistinct-IsPermutation}
use Rattle.tv_doubles.proofs.Places.{places-length, places-at}
use Rattle.tv_stages.specs.Stages.{places, IsReordering}

-- a number that stands somewhere, if it is below n
record IsFound (n : ℕ) (p : List ℕ) (x : ℕ) : Type 0 where
  place : ℕ
  fits : x < n → (place < n) × (slice_index p place ≡ x)

-- n different numbers below n, each of which stands somewhere
permutes_by : (n : ℕ) (p : List ℕ) → ((i : ℕ) → i < n → slice_index p i < n)
    → ((x : ℕ) → x < n → (k : ℕ) × (k < n) × (slice_index p k ≡ x))
    → ((i j : ℕ) → i < j → j < n → slice_index p i ≢ slice_index p j) → IsReordering n (slice_index p)
permutes_by n p below there apart = record {
  below = below;
  back = λ x. (found x (cases_lt x n)).place;
  back_below = λ x h. ((found x (cases_lt x n)).fits h).0;
  there = λ x h. ((found x (cases_lt x n)).fits h).1;
  once = λ i j hi hj e. elim (cases_lt i j) [
    | inl less ↦ absurd (apart i j less hj e)
    | inr more ↦ elim (cases_eq i j) [ inl same ↦ same | inr other ↦ absurd (apart j i (omega arith) hi (sym e)) ]
  ];
}
  where
    found : (x : ℕ) → ((x < n) ⊎ (n ≤ x)) → IsFound n p x
    found x (inl h) = let k = there x h in record { place = k.0; fits = λ l. (k.1, k.2) }
    found x (inr h) = record { place = 0; fits = λ l. absurd (omega arith) }

same : ℕ → ℕ → Bool
same a b = a == b

flips : (a b : ℕ) → same a b ≡ same b a
unfolding same
flips a b = by_test (a == b) refl
  where
    by_test : (c : Bool) → (a == b) ≡ c → (a == b) ≡ (b == a)
    by_test true e = e ∙ sym (eq-eqb b a (sym (eqb-true a b e)))
    by_test false e = e ∙ sym (ne_eqb b a (λ f. eqb-false a b e (sym f)))

pub permutes_of : (n : ℕ) (p : List ℕ) → IsPermutation (places n (λ i. i)) p → IsReordering n (slice_index p)
unfolding same
permutes_of n p moved = permutes_by n p (λ i h. small i 0 (omega (arith, long))) there (λ i j h k. apart i j h (omega (arith, long)))
  where
    long : length p ≡ n
    long = length_permutation (places n (λ i. i)) p moved ∙ places-length n (λ i. i)

    small : All (λ v. v < n) p
    small = All-permutation (λ v. v < n) (places n (λ i. i)) p moved
        (λ i d h. let l = places-length n (λ (i : ℕ). i) in subst (λ v. v < n) (sym (places-at n i (λ i. i) d (omega arith))) (omega arith))

    apart : (i j : ℕ) → i < j → j < length p → slice_index p i ≢ slice_index p j
    apart i j h k =
        let l = places-length n (λ (i : ℕ). i) in
        let first : IsDistinct same (places n (λ i. i)) = IsDistinct-from_apart same (places n (λ i. i)) (λ i j d h k.
        ne_eqb (get_or (places n (λ i. i)) i d) (get_or (places n (λ i. i)) j d)
        (λ e. let f : i ≡ j = sym (places-at n i (λ i. i) d (omega arith)) ∙ e ∙ places-at n j (λ i. i) d (omega arith) in omega arith)) in
        let after = IsDistinct-IsPermutation same flips (places n (λ i. i)) p moved first in
        eqb-false (slice_index p i) (slice_index p j) (apart_from_distinct same p i j 0 after h k)

    there : (x : ℕ) → x < n → (k : ℕ) × (k < n) × (slice_index p k ≡ x)
    there x h =
        let l = places-length n (λ (i : ℕ). i) in
        let c = Contains-permutation (places n (λ i. i)) p x moved (x, omega arith, places-at n x (λ i. i) x h) in
        (c.0, omega (arith, c.1, long), get_or_default p c.0 0 x (omega (arith, c.1)) ∙ c.2)

-- a function of which the values at the places are these places in another order
pub reordering_of : (n : ℕ) (p : ℕ → ℕ) → IsPermutation (places n (λ i. i)) (places n p) → IsReordering n p
reordering_of n p moved =
    let of = permutes_of n (places n p) moved in
    let at : (i : ℕ) → i < n → slice_index (places n p) i ≡ p i = λ i h. places-at n i p 0 h in
    record {
      below = λ i h. subst (λ v. v < n) (at i h) (of.below i h);
      back = of.back;
      back_below = of.back_below;
      there = λ x h. sym (at (of.back x) (of.back_below x h)) ∙ of.there x h;
      once = λ i j h k e. of.once i j h k (at i h ∙ e ∙ sym (at j k));
    }
