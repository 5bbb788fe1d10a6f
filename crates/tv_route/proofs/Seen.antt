-- Which numbers were seen, one after another.
use Rattle.tv_core.proofs.Common.{◌≡◌, ◌≢◌, ℕ, zero, suc, ◌+◌, ◌<◌, ◌≤◌, ◌⊎◌, Bool, true, false, List, [], ◌∷◌, length, get_or, set, inl, inr, refl, sym, ◌∙◌}
use Rattle.tv_core.proofs.Common.{ap, subst, arith, slice_index, cases_eq, cases_lt, flag_of}
use Rattle.std.proofs.Common.{replicate}
use Rattle.std.proofs.Common.{sum_by, length-set, get_or-set_same, get_or-set_other}
use Rattle.std.proofs.lemmas.List.{get_or-replicate, length-replicate}
use Rattle.std.proofs.lemmas.List.Folds.{sum_by-replicate}
use Rattle.std.proofs.lemmas.List.Sums.{sum_by-set, sum_by-cons}
use Rattle.tv_route.specs.Permutations.{Permutes}

-- the first i numbers are different ones below the length, and these were seen
pub record IsSeen (p : List ℕ) (i : ℕ) (seen : List Bool) : Type 0 where
  pub long : length seen ≡ length p
  pub below : (k : ℕ) → k < i → slice_index p k < length p
  pub marked : (k : ℕ) → k < i → get_or seen (slice_index p k) false ≡ true
  pub only : (x : ℕ) → x < length p → get_or seen x false ≡ true → (k : ℕ) × (k < i) × (slice_index p k ≡ x)
  pub once : (j k : ℕ) → j < k → k < i → slice_index p j ≢ slice_index p k
  pub count : sum_by flag_of seen ≡ i

pub seen_none : (p : List ℕ) (seen : List Bool) → seen ≡ replicate (length p) false → IsSeen p 0 seen
seen_none p seen is = record {
  long = ap length is ∙ length-replicate (length p) false;
  below = λ k h. absurd (omega arith);
  marked = λ k h. absurd (omega arith);
  only = λ x h e. absurd (apart (sym (ap (λ l. get_or l x false) is ∙ get_or-replicate (length p) x false false h) ∙ e));
  once = λ j k h l. absurd (omega arith);
  count = ap (λ l. sum_by flag_of l) is ∙ sum_by-replicate flag_of (length p) false ∙ omega arith;
}
  where
    apart : false ≡ true → ⊥
    apart e = cc

pub seen_more : (p : List ℕ) (i : ℕ) (seen : List Bool) → IsSeen p i seen → slice_index p i < length p → get_or seen (slice_index p i) false ≡ false
    → IsSeen p (i + 1) (set seen (slice_index p i) true)
seen_more p i seen s small new =
    let x = slice_index p i in
    let x_in : x < length seen = omega (arith, s.long) in
    record {
      long = length-set seen x true ∙ s.long;
      below = λ k h. elim (cases_eq k i) [ inl same ↦ subst (λ j. slice_index p j < length p) (sym same) small | inr apart ↦ s.below k (omega arith) ];
      marked = λ k h. elim (cases_eq (slice_index p k) x) [
        | inl same ↦ ap (λ y. get_or (set seen x true) y false) same ∙ get_or-set_same seen x true false x_in
        | inr apart ↦ get_or-set_other seen x (slice_index p k) true false apart ∙ s.marked k (earlier k h apart)
      ];
      only = λ y h e. elim (cases_eq y x) [
        | inl same ↦ (i, omega arith, sym same)
        | inr apart ↦ let before = s.only y h (sym (get_or-set_other seen x y true false apart) ∙ e) in (before.0, omega (arith, before.1), before.2)
      ];
      once = λ j k h l e. elim (cases_eq k i) [
        | inl last ↦ contradiction (get_or seen x false)
            (sym (ap (λ y. get_or seen y false) (e ∙ ap (λ m. slice_index p m) last)) ∙ s.marked j (omega arith)) new
        | inr apart ↦ s.once j k h (omega arith) e
      ];
      count = let changed = sum_by-set flag_of seen x true false x_in in let was : flag_of (get_or seen x false) ≡ 0 = ap flag_of new in
          omega (arith, changed, was, s.count);
    }
  where
    contradiction : (b : Bool) → b ≡ true → b ≡ false → ⊥
    contradiction b p q = cc

    earlier : (k : ℕ) → k < i + 1 → slice_index p k ≢ slice_index p i → k < i
    earlier k h apart = elim (cases_eq k i) [ inl same ↦ absurd (apart (ap (λ j. slice_index p j) same)) | inr other ↦ omega arith ]

seen_le : (l : List Bool) → sum_by flag_of l ≤ length l
seen_le [] = omega arith
seen_le (true ∷ l) = omega (arith, sum_by-cons flag_of true l, seen_le l)
seen_le (false ∷ l) = omega (arith, sum_by-cons flag_of false l, seen_le l)

-- where as many are seen as there are, all are
all_seen : (seen : List Bool) → sum_by flag_of seen ≡ length seen → (x : ℕ) → x < length seen → get_or seen x false ≡ true
all_seen [] e x h = absurd (omega arith)
all_seen (true ∷ seen) e zero h = refl
all_seen (true ∷ seen) e (suc x) h = all_seen seen (omega (arith, sum_by-cons flag_of true seen, e)) x (omega arith)
all_seen (false ∷ seen) e x h = absurd (omega (arith, sum_by-cons flag_of false seen, e, seen_le seen))

-- a number that stands somewhere, if it is below n
record IsFound (n : ℕ) (p : List ℕ) (x : ℕ) : Type 0 where
  place : ℕ
  fits : x < n → (place < n) × (slice_index p place ≡ x)

-- n different numbers below n, each of which stands somewhere
pub permutes_by : (n : ℕ) (p : List ℕ) → length p ≡ n → ((i : ℕ) → i < n → slice_index p i < n)
    → ((x : ℕ) → x < n → (k : ℕ) × (k < n) × (slice_index p k ≡ x))
    → ((i j : ℕ) → i < j → j < n → slice_index p i ≢ slice_index p j) → Permutes n p
permutes_by n p long below there apart = record {
  as_long = long;
  below = below;
  back = λ x. (found x (cases_lt x n)).place;
  back_below = λ x h. ((found x (cases_lt x n)).fits h).0;
  there = λ x h. ((found x (cases_lt x n)).fits h).1;
  once = λ i j hi hj e. elim (cases_lt i j) [
    | inl less ↦ absurd (apart i j less hj e)
    | inr more ↦ elim (cases_eq i j) [ inl same ↦ same | inr other ↦ absurd (apart j i (omega arith) hi (sym e)) ]
  ];
}
  where
    found : (x : ℕ) → ((x < n) ⊎ (n ≤ x)) → IsFound n p x
    found x (inl h) = let k = there x h in record { place = k.0; fits = λ l. (k.1, k.2) }
    found x (inr h) = record { place = 0; fits = λ l. absurd (omega arith) }

pub all_permute : (p : List ℕ) (seen : List Bool) → IsSeen p (length p) seen → Permutes (length p) p
all_permute p seen s =
    permutes_by (length p) p refl s.below (λ x h. s.only x h (all_seen seen (s.count ∙ sym s.long) x (omega (arith, s.long)))) (λ i j h k. s.once i j h k)
