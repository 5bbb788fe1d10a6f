-- The wires that are gone, and the numbers of the others.
use Rattle.tv_core.proofs.Common.{◌≡◌, ◌≢◌, ℕ, zero, suc, ◌+◌, ◌-◌, ◌<◌, ◌≤◌, Bool, not, List, ◌∷◌, ◌++◌, refl, sym, ◌∙◌, ap, arith, [], true, false, inl, inr}
use Rattle.tv_core.proofs.Common.{cond, length, get_or, add-one, append-nil, subst, cases_eq, cases_lt, length-append}
use Rattle.std.proofs.Common.{◌||◌, eqb, ltb, eqb-true}
use Rattle.std.specs.List.{dedup, dedup_from, list_any}
use Rattle.std.specs.List.Sorted.{IsNonDecreasingBy, IsPartitionPoint, IsStrictlyIncreasing}
use Rattle.std.proofs.lemmas.Bool.{cases_Bool, ltb-false, ltb-true}
use Rattle.std.proofs.lemmas.List.{get_or_append_left, get_or_push}
use Rattle.std.proofs.lemmas.List.Kept.{AllPairs-from_increasing}
use Rattle.tv_r1cs_write.specs.Bytes.{others}
use Rattle.tv_r1cs_write.proofs.Others.{absent, others_more, there, AreAhead}

left_one : (n w : ℕ) (xs : List ℕ) (b : Bool) → length (xs ++ cond (not b) (w ∷ []) []) ≡ length xs + cond b 0 1
left_one n w xs true = ap length (append-nil xs) ∙ omega arith
left_one n w xs false = length-append xs (w ∷ [])

-- how many are left of the numbers with one more
pub length_more : (n : ℕ) (gone : List ℕ) → length (others (n + 1) gone) ≡ length (others n gone) + cond (list_any (λ m. eqb m n) gone) 0 1
length_more n gone = ap length (others_more n gone) ∙ left_one n n (others n gone) (list_any (λ m. eqb m n) gone)

-- one number back
module _ (n : ℕ) (gone : List ℕ) (i : ℕ) (ahead : AreAhead (n + 1) gone i) where
  passed_by : 0 < i → get_or gone (i - 1) 0 ≡ n → AreAhead n gone (i - 1)
  passed_by some e = record {
    pairs = ahead.pairs;
    within = omega (arith, ahead.within);
    before = λ k l. omega (arith, ahead.pairs k (i - 1) 0 l (omega (arith, ahead.within)));
    after = λ l. omega arith;
  }

  still_ahead : (0 < i → get_or gone (i - 1) 0 ≢ n) → AreAhead n gone i
  still_ahead apart = record {
    pairs = ahead.pairs;
    within = ahead.within;
    before = λ k l. elim (cases_lt k (i - 1)) [
      | inl low ↦ omega (arith, ahead.pairs k (i - 1) 0 low (omega (arith, ahead.within)), ahead.before (i - 1) (omega arith))
      | inr last ↦
          let here : k ≡ i - 1 = omega arith in
          let isnt = apart (omega arith) in omega (arith, ap (λ j. get_or gone j 0) here, ahead.before k l)
    ];
    after = λ l. omega (arith, ahead.after l);
  }

  module _ (rest : (j : ℕ) → AreAhead n gone j → j + length (others n gone) ≡ n) where
    stays : (0 < i → get_or gone (i - 1) 0 ≢ n) → i + length (others (n + 1) gone) ≡ n + 1
    stays apart =
        let before = still_ahead apart in
        let none = absent n gone i before (λ l same. absurd (omega (arith, ahead.after l))) in
        omega (arith, length_more n gone, rest i before, ap {B = ℕ} (λ b. cond b 0 1) none)

    step : i + length (others (n + 1) gone) ≡ n + 1
    step =
        elim (cases_lt 0 i) [
          | inl some ↦ elim (cases_eq (get_or gone (i - 1) 0) n) [
            | inl same ↦
                let before = passed_by some same in
                let is = there n gone (i - 1) before (omega (arith, ahead.within)) same in
                omega (arith, length_more n gone, rest (i - 1) before, ap {B = ℕ} (λ b. cond b 0 1) is)
            | inr other ↦ stays (λ _. other)
          ]
          | inr none ↦ stays (λ l. absurd (omega arith))
        ]

-- those below a number and those that are not among them are all
pub lowered_by : (gone : List ℕ) (w i : ℕ) → AreAhead w gone i → i + length (others w gone) ≡ w
unfolding others
lowered_by gone zero i ahead = elim (cases_lt 0 i) [ inl some ↦ absurd (omega (arith, ahead.before 0 some)) | inr none ↦ omega arith ]
lowered_by gone (suc w) i ahead =
    subst (λ m. i + length (others m gone) ≡ m) (add-one w)
    (step w gone i (subst (λ m. AreAhead m gone i) (sym (add-one w)) ahead) (λ j before. lowered_by gone w j before))

pub non-decreasing : (xs : List ℕ) → IsStrictlyIncreasing xs → IsNonDecreasingBy (λ v. v) xs
non-decreasing xs rising i j d le l =
    elim (cases_lt i j) [
      | inl less ↦ omega (arith, AllPairs-from_increasing xs rising i j d less l)
      | inr from ↦ let same : i ≡ j = omega arith in omega (arith, ap (λ k. get_or xs k d) same)
    ]

-- the place between those below a number and the others
pub at_point : (w : ℕ) (xs : List ℕ) (i : ℕ) → IsStrictlyIncreasing xs → i ≤ length xs
    → IsPartitionPoint (λ v. ltb v w ≡ true) (λ v. ltb v w ≡ false) xs i → AreAhead w xs i
at_point w xs i rising h point = record {
  pairs = AllPairs-from_increasing xs rising;
  within = h;
  before = λ k l. ltb-true (get_or xs k 0) w (point.0 k 0 (omega arith) l);
  after = λ l. ltb-false (get_or xs i 0) w (point.1 i 0 (omega arith) l);
}

-- each number once
or_again : (b c : Bool) → (b || (b || c)) ≡ (b || c)
or_again true c = refl
or_again false c = refl

any-dedup_from : (p : ℕ → Bool) (k : ℕ) (xs : List ℕ) → list_any p (dedup_from eqb k xs) ≡ (p k || list_any p xs)
any-dedup_from p k [] = refl
any-dedup_from p k (x ∷ xs) =
    elim (cases_Bool (eqb x k)) [
      | inl same ↦
          ap (λ b. list_any p (cond b (dedup_from eqb k xs) (k ∷ dedup_from eqb x xs))) same ∙ any-dedup_from p k xs
          ∙ sym (ap (λ v. p k || (p v || list_any p xs)) (eqb-true x k same) ∙ or_again (p k) (list_any p xs))
      | inr apart ↦
          ap (λ b. list_any p (cond b (dedup_from eqb k xs) (k ∷ dedup_from eqb x xs))) apart ∙ ap (λ b. p k || b) (any-dedup_from p x xs)
    ]

pub any-dedup : (p : ℕ → Bool) (xs : List ℕ) → list_any p (dedup eqb xs) ≡ list_any p xs
any-dedup p [] = refl
any-dedup p (x ∷ xs) = any-dedup_from p x xs

-- a list of values with one more
pub values_more : (f : ℕ → ℕ) (values : List ℕ) (n v k : ℕ) → length values ≡ n → ((u : ℕ) → u < n → get_or values u 0 ≡ f u) → k ≡ f n → v < n + 1
    → get_or (values ++ (k ∷ [])) v 0 ≡ f v
values_more f values n v k each before is h =
    elim (cases_lt v n) [
      | inl low ↦ get_or_append_left values (k ∷ []) 0 v (omega arith) ∙ before v low
      | inr last ↦ let same : v ≡ n = omega arith in ap (λ u. get_or (values ++ k ∷ []) u 0) same ∙ get_or_push values k 0 n each ∙ is ∙ ap f (sym same)
    ]
