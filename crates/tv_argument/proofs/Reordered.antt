-- The numbers 0, 1, .. n - 1 in another order, as after a sort, are a reordering.
use Rattle.tv_core.proofs.Common.{◌≡◌, ◌≢◌, ℕ, ◌<◌, ◌==◌, Bool, true, false, List, length, get_or, All, refl, sym, ◌∙◌, ap, subst, arith, inl, inr, slice_index}
use Rattle.tv_core.proofs.Common.{eqb-true, ne_eqb}
use Rattle.std.proofs.Common.{IsPermutation, eq-eqb}
use Rattle.std.specs.List.{IsDistinct}
use Rattle.std.proofs.lemmas.Bool.{eqb-false, cases_order}
use Rattle.std.proofs.lemmas.List.{get_or_default}
use Rattle.std.proofs.lemmas.List.Sorted.{All-permutation, Contains-permutation, length_permutation}
use Rattle.std.proofs.lemmas.Map.Keys.{apart_from_distinct, IsDistinct-from_apart, IsDistinct-IsPermutation}
use Rattle.tv_stages.proofs.Indices.{index_at}
use Rattle.tv_stages.proofs.Reorders.{places-length, places-at}
use Rattle.tv_stages.specs.Settings.{index_in}
use Rattle.tv_stages.specs.Stages.{places, IsReordering}

same : ℕ → ℕ → Bool
same a b = a == b

flips : (a b : ℕ) → same a b ≡ same b a
unfolding same
flips a b = by_test (a == b) refl
  where
    by_test : (c : Bool) → (a == b) ≡ c → (a == b) ≡ (b == a)
    by_test true e = e ∙ sym (eq-eqb b a (sym (eqb-true a b e)))
    by_test false e = e ∙ sym (ne_eqb b a (λ f. eqb-false a b e (sym f)))

module _ (n : ℕ) (p : List ℕ) (moved : IsPermutation (places n (λ i. i)) p) where
  pub rearranged_length : length p ≡ n
  rearranged_length = length_permutation (places n (λ i. i)) p moved ∙ places-length n (λ i. i)

  small : All (λ v. v < n) p
  small = All-permutation (λ v. v < n) (places n (λ i. i)) p moved
      (λ i d h. let l = places-length n (λ (i : ℕ). i) in subst (λ v. v < n) (sym (places-at n i (λ i. i) d (omega arith))) (omega arith))

  apart : (i j : ℕ) → i < j → j < n → slice_index p i ≢ slice_index p j
  unfolding same
  apart i j h k =
      let l = places-length n (λ (i : ℕ). i) in
      let first : IsDistinct same (places n (λ i. i)) = IsDistinct-from_apart same (places n (λ i. i)) (λ i j d h k.
      ne_eqb (get_or (places n (λ i. i)) i d) (get_or (places n (λ i. i)) j d)
      (λ e. let f : i ≡ j = sym (places-at n i (λ i. i) d (omega arith)) ∙ e ∙ places-at n j (λ i. i) d (omega arith) in omega arith)) in
      let after = IsDistinct-IsPermutation same flips (places n (λ i. i)) p moved first in
      eqb-false (slice_index p i) (slice_index p j) (apart_from_distinct same p i j 0 after h (omega (arith, rearranged_length)))

  found : (x : ℕ) → x < n → (index_in x p < n) × (slice_index p (index_in x p) ≡ x)
  found x h =
      let l = places-length n (λ (i : ℕ). i) in
      let c = Contains-permutation (places n (λ i. i)) p x moved (x, omega arith, places-at n x (λ i. i) x h) in
      let is : slice_index p c.0 ≡ x = get_or_default p c.0 0 x c.1 ∙ c.2 in
      let at : index_in x p ≡ c.0 = ap (λ y. index_in y p) (sym is)
      ∙ index_at p c.0 c.1 (λ j k. apart j c.0 k (omega (arith, c.1, rearranged_length))) in
      (omega (arith, c.1, rearranged_length, at), ap (slice_index p) at ∙ is)

  pub rearranged : IsReordering n (λ i. slice_index p i)
  rearranged = record {
    below = λ i h. small i 0 (omega (arith, rearranged_length));
    back = λ x. index_in x p;
    back_below = λ x h. (found x h).0;
    there = λ x h. (found x h).1;
    once = λ i j h k e. elim (cases_order i j) [
      | inl is ↦ is
      | inr (inl less) ↦ absurd (apart i j less k e)
      | inr (inr more) ↦ absurd (apart j i more h (sym e))
    ];
  }
