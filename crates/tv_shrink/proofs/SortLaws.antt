-- Terms in the order of their wires, the coefficients of each wire added up.
use Rattle.tv_core.proofs.Common.{◌≡◌, ◌≢◌, ℕ, zero, suc, ◌+◌, ◌*◌, ◌%◌, ◌<◌, ◌≤◌, List, ◌∷◌, ◌++◌, refl, sym, ◌∙◌, ap, ap₂, arith, length, get_or, drop, []}
use Rattle.tv_core.proofs.Common.{add-one, slice_index, value-below, value-cons, Combination, value, normal, length-map}
use Rattle.std.proofs.Common.{add-mul, drop-cons}
use Rattle.std.specs.List.Sorted.{IsNonDecreasingBy}
use Rattle.std.specs.Prelude.{IsPermutation}
use Rattle.std.proofs.lemmas.List.Sorted.{sum_by-IsPermutation}
use Rattle.tv_core.specs.declared.field.TheConstants.{P}
use Rattle.tv_core.specs.Normal.{with_term}
use Rattle.tv_shrink.proofs.Merges.{with_term-front}
use Rattle.tv_core.proofs.NormalLaws.{Over, normal_from, regrouped, residue_first}
use Rattle.std.proofs.lemmas.List.{get_or_default, get_or-map}
use Rattle.tv_r1cs_read.specs.Rows.{combination_of}
use Rattle.tv_core.proofs.Unique.{by_values, normal-step}

-- the order of the terms does not matter
pub normal-permuted : (xs ys : Combination) → IsPermutation xs ys → normal ys ≡ normal xs
normal-permuted xs ys same = by_values ys xs (λ z. ap (λ n. n % P) (sum_by-IsPermutation (λ t. t.0 * slice_index z t.1) xs ys same))

-- terms, and a sum of terms before them of their first wire
abbrev pub with_sum : ℕ → Combination → Combination
with_sum sum [] = []
with_sum sum (t ∷ rest) = (sum, t.1) ∷ t ∷ rest

pub no_sum : (x : Combination) → normal (with_sum 0 x) ≡ normal x
no_sum [] = refl
no_sum (t ∷ rest) = by_values ((0, t.1) ∷ t ∷ rest) (t ∷ rest) (λ z. let small = value-below (t ∷ rest) z in value-cons 0 t.1 (t ∷ rest) z ∙ omega arith)

-- no terms are left
pub sum_past : (sum n : ℕ) (terms : Combination) → length terms ≤ n → normal (with_sum sum (drop n terms)) ≡ []
unfolding normal
sum_past sum zero [] h = refl
sum_past sum (suc n) [] h = refl
sum_past sum zero (t ∷ terms) h = absurd (omega arith)
sum_past sum (suc n) (t ∷ terms) h = sum_past sum n terms (omega arith)

-- one term more in the sum
module _ (sum : ℕ) (t : ℕ × ℕ) (rest : Combination) where
  value-summed : (z : List ℕ) → value ((sum, t.1) ∷ t ∷ rest) z ≡ ((sum + t.0) % P * slice_index z t.1 + value rest z) % P
  value-summed z =
      value-cons sum t.1 (t ∷ rest) z
      ∙ ap (λ n. (sum * slice_index z t.1 + n) % P) (value-cons t.0 t.1 rest z)
      ∙ sym (regrouped (sum * slice_index z t.1) (t.0 * slice_index z t.1) (value rest z))
      ∙ ap (λ n. (n + value rest z) % P) (sym (add-mul sum t.0 (slice_index z t.1)))
      ∙ sym (residue_first (sum + t.0) (slice_index z t.1) (value rest z))

  sum_more : (u : ℕ × ℕ) (others : Combination) → rest ≡ u ∷ others → t.1 ≡ u.1 → normal (with_sum sum (t ∷ rest)) ≡ normal (with_sum ((sum + t.0) % P) rest)
  sum_more u others is same =
      by_values ((sum, t.1) ∷ t ∷ rest) (((sum + t.0) % P, u.1) ∷ rest) (λ z.
      value-summed z ∙ ap (λ w. ((sum + t.0) % P * slice_index z w + value rest z) % P) same ∙ sym (value-cons ((sum + t.0) % P) u.1 rest z))
      ∙ ap normal (ap (λ xs. ((sum + t.0) % P, u.1) ∷ xs) is ∙ sym (ap (with_sum ((sum + t.0) % P)) is))

  sum_done : Over (λ v. t.1 + 1 ≤ v) rest → normal (with_sum sum (t ∷ rest)) ≡ with_term ((sum + t.0) % P) t.1 [] ++ normal (with_sum 0 rest)
  sum_done behind =
      normal-step ((sum, t.1) ∷ t ∷ rest) rest ((sum + t.0) % P) t.1 (normal_from (t.1 + 1) rest behind) value-summed
      ∙ sym (with_term-front ((sum + t.0) % P) t.1 (normal rest))
      ∙ ap₂ (λ k x. with_term k t.1 [] ++ x) (let small : (sum + t.0) % P % P ≡ (sum + t.0) % P = omega arith in small) (sym (no_sum rest))

-- one term
pub normal_single : (terms : List (ℕ × ℕ)) (d e : ℕ × ℕ) → length terms ≡ 1
    → with_term (get_or terms 0 e).1 (get_or terms 0 d).0 [] ≡ normal (combination_of terms)
unfolding normal
normal_single [] d e one = absurd (omega arith)
normal_single (t ∷ []) d e one =
    let same : 0 + t.1 ≡ t.1 = omega arith in
    sym (sym (no_sum ((t.1, t.0) ∷ [])) ∙ sum_done 0 (t.1, t.0) [] tt ∙ with_term-front (0 + t.1) t.0 [] ∙ ap (λ k. with_term k t.0 []) same)
normal_single (t ∷ u ∷ terms) d e one = absurd (omega arith)

over_after : (least j : ℕ) (xs : Combination) → ((k : ℕ) (d : ℕ × ℕ) → j ≤ k → k < length xs → least ≤ (get_or xs k d).1) → Over (λ v. least ≤ v) (drop j xs)
over_after least zero [] h = tt
over_after least (suc j) [] h = tt
over_after least zero (x ∷ xs) h = (h 0 x (omega arith) (omega arith), over_after least zero xs (λ k d above inside. h (suc k) d (omega arith) (omega arith)))
over_after least (suc j) (x ∷ xs) h = over_after least j xs (λ k d above inside. h (suc k) d (omega arith) (omega arith))

-- terms that were read, as a combination
pub read_at : (terms : List (ℕ × ℕ)) (i : ℕ) (d e : ℕ × ℕ) → i < length terms → get_or (combination_of terms) i e ≡ ((get_or terms i d).1, (get_or terms i d).0)
read_at terms i d e h = get_or-map (λ (t : ℕ × ℕ). (t.1, t.0)) terms i d e h

pub read_rises : (terms : List (ℕ × ℕ)) → IsNonDecreasingBy (λ t. t.0) terms → IsNonDecreasingBy (λ t. t.1) (combination_of terms)
read_rises terms h i j d le lt =
    let inside : j < length terms = omega (arith, length-map {B = ℕ × ℕ} terms (λ (t : ℕ × ℕ). (t.1, t.0))) in
    omega (arith, h i j d le inside, ap (λ u. u.1) (read_at terms i d d (omega arith)), ap (λ u. u.1) (read_at terms j d d inside))

-- at a place of a list whose wires don't fall
module _ (terms : Combination) (i sum : ℕ) (t : ℕ × ℕ) (h : i < length terms) (at : t ≡ get_or terms i t) where
  from_here : drop i terms ≡ t ∷ drop (i + 1) terms
  from_here = drop-cons terms i t h ∙ ap₂ (λ u rest. u ∷ rest) (sym at) (ap (λ k. drop k terms) (sym (add-one i)))

  pub sum_goes_on : (u : ℕ × ℕ) → i + 1 < length terms → u ≡ get_or terms (i + 1) u → u.1 ≡ t.1
      → normal (with_sum sum (drop i terms)) ≡ normal (with_sum ((sum + t.0) % P) (drop (i + 1) terms))
  sum_goes_on u inside next same =
      ap (λ xs. normal (with_sum sum xs)) from_here
      ∙ sum_more sum t (drop (i + 1) terms) u (drop (suc (i + 1)) terms) (drop-cons terms (i + 1) u inside ∙ ap (λ v. v ∷ drop (suc (i + 1)) terms) (sym next))
      (sym same)

  pub sum_ends : IsNonDecreasingBy (λ u. u.1) terms → ((d : ℕ × ℕ) → i + 1 < length terms → (get_or terms (i + 1) d).1 ≡ t.1 → ⊥) →
      normal (with_sum sum (drop i terms)) ≡ with_term ((sum + t.0) % P) t.1 [] ++ normal (with_sum 0 (drop (i + 1) terms))
  sum_ends rises apart =
      ap (λ xs. normal (with_sum sum xs)) from_here
      ∙ sum_done sum t (drop (i + 1) terms) (over_after (t.1 + 1) (i + 1) terms (λ k d above inside.
      let there : i + 1 < length terms = omega arith in
      let first : (get_or terms i t).1 ≤ (get_or terms (i + 1) t).1 = rises i (i + 1) t (omega arith) there in
      let later : (get_or terms (i + 1) d).1 ≤ (get_or terms k d).1 = rises (i + 1) k d above inside in
      let same : (get_or terms (i + 1) t).1 ≡ (get_or terms (i + 1) d).1 = ap (λ u. u.1) (get_or_default terms (i + 1) t d there) in
      let here : t.1 ≡ (get_or terms i t).1 = ap (λ u. u.1) at in
      let isnt : (get_or terms (i + 1) d).1 ≢ t.1 = λ e. apart d there e in
      omega arith))
