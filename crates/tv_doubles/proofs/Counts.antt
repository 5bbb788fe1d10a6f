-- Counting over the places below a number, and over a permutation of them.
use Rattle.std.proofs.Common.{◌≡◌, ◌≢◌, ℕ, zero, suc, ◌+◌, ◌<◌, ◌≤◌, ◌==◌, Bool, true, false, if◌then◌else◌, refl, sym, ◌∙◌, ap, subst, arith, inl, inr}
use Rattle.std.proofs.Common.{nat_le, sum_by, eq-eqb}
use Rattle.tv_core.proofs.Common.{flag_of}
use Rattle.std.proofs.lemmas.Bool.{leb-true, leb-false, cases_lt, cases_eq, ne_eqb}
use Rattle.std.proofs.lemmas.List.Sorted.{All-permutation, sum_by-IsPermutation}
use Rattle.std.proofs.lemmas.List.Sums.{sum_by_push}
use Rattle.tv_doubles.proofs.Places.{places-zero, places-suc, places-length, places-at}
use Rattle.tv_doubles.specs.Places.{PermutesPlaces}
use Rattle.tv_stages.specs.Stages.{places}

-- f 0 + f 1 + .. + f (n - 1)
pub total : ℕ → (ℕ → ℕ) → ℕ
total zero f = 0
total (suc n) f = total n f + f n

sum_places : (n : ℕ) (p : ℕ → ℕ) (f : ℕ → ℕ) → sum_by f (places n p) ≡ total n (λ i. f (p i))
unfolding total
sum_places zero p f = ap (sum_by f) (places-zero p)
sum_places (suc n) p f = ap (sum_by f) (places-suc n p) ∙ sum_by_push f (places n p) (p n) ∙ ap (λ s. s + f (p n)) (sum_places n p f)

-- a sum is the same over a permutation of the places
pub total_permuted : (n : ℕ) (p : ℕ → ℕ) (f : ℕ → ℕ) → PermutesPlaces n p → total n (λ i. f (p i)) ≡ total n f
total_permuted n p f moved =
    sym (sum_places n p f) ∙ sum_by-IsPermutation f (places n (λ i. i)) (places n p) moved ∙ sum_places n (λ i. i) f

pub permuted_below : (n : ℕ) (p : ℕ → ℕ) → PermutesPlaces n p → (i : ℕ) → i < n → p i < n
permuted_below n p moved i h =
    let long = places-length n p in
    let all = All-permutation (λ v. v < n) (places n (λ i. i)) (places n p) moved
    (λ i d h. let l = places-length n (λ (i : ℕ). i) in subst (λ v. v < n) (sym (places-at n i (λ i. i) d (omega arith))) (omega arith)) in
    subst (λ v. v < n) (places-at n i p 0 h) (all i 0 (omega arith))

-- 1 at b, else 0
pub at : ℕ → ℕ → ℕ
at b i = if i == b then 1 else 0

pub at_same : (b i : ℕ) → i ≡ b → at b i ≡ 1
unfolding at
at_same b i e = ap (λ c. if c then 1 else 0) (eq-eqb i b e)

pub at_other : (b i : ℕ) → i ≢ b → at b i ≡ 0
unfolding at
at_other b i e = ap (λ c. if c then 1 else 0) (ne_eqb i b e)

total_none : (n b : ℕ) → n ≤ b → total n (at b) ≡ 0
unfolding total
total_none zero b h = refl
total_none (suc n) b h = omega (arith, total_none n b (omega arith), at_other b n (omega arith))

total_one : (n b : ℕ) → b < n → total n (at b) ≡ 1
unfolding total
total_one zero b h = absurd (omega arith)
total_one (suc n) b h = elim (cases_eq n b) [
  | inl same ↦ omega (arith, total_none n b (omega arith), at_same b n same)
  | inr other ↦ omega (arith, total_one n b (omega arith), at_other b n other)
]

total_within : (n : ℕ) (f g u v w : ℕ → ℕ) → ((i : ℕ) → i < n → f i + u i + v i ≤ g i + w i)
    → total n f + total n u + total n v ≤ total n g + total n w
unfolding total
total_within zero f g u v w each = omega arith
total_within (suc n) f g u v w each = omega (arith, total_within n f g u v w (λ i h. each i (omega arith)), each n (omega arith))

-- f goes over into g by a permutation, so that it can't be below g at two places and above it at one alone
pub crossing : (n a b c : ℕ) (f g : ℕ → ℕ) → a < n → b < n → c < n → total n f ≡ total n g
    → ((i : ℕ) → i < n → f i + at b i + at c i ≤ g i + at a i) → ⊥
crossing n a b c f g ha hb hc same each =
    let sums = total_within n f g (at b) (at c) (at a) each in
    let one_a = total_one n a ha in
    let one_b = total_one n b hb in
    let one_c = total_one n c hc in
    omega arith

-- 1 where k is at least x, else 0
pub past : ℕ → ℕ → ℕ
past x k = flag_of (nat_le x k)

pub past_most : (x k : ℕ) → past x k ≤ 1
unfolding past
past_most x k = by (nat_le x k)
  where
    by : (b : Bool) → flag_of b ≤ 1
    by true = omega arith
    by false = omega arith

pub past_from : (x k : ℕ) → x ≤ k → past x k ≡ 1
unfolding past
past_from x k h = by (nat_le x k) refl
  where
    by : (b : Bool) → nat_le x k ≡ b → flag_of b ≡ 1
    by true e = refl
    by false e = let l = leb-false x k e in absurd (omega arith)

pub past_before : (x k : ℕ) → k < x → past x k ≡ 0
unfolding past
past_before x k h = by (nat_le x k) refl
  where
    by : (b : Bool) → nat_le x k ≡ b → flag_of b ≡ 0
    by true e = let l = leb-true x k e in absurd (omega arith)
    by false e = refl

pub past_rises : (x j k : ℕ) → j ≤ k → past x j ≤ past x k
past_rises x j k h = elim (cases_lt j x) [
  | inl low ↦ omega (arith, past_before x j low)
  | inr high ↦ omega (arith, past_from x k (omega arith), past_most x j)
]
