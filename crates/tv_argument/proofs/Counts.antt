-- Counting over the places below a number, and over a reordering of them.
use Rattle.tv_core.proofs.Common.{◌≡◌, ◌≢◌, ◌⊎◌, ℕ, zero, suc, ◌+◌, ◌<◌, ◌≤◌, ◌==◌, Bool, true, false, if◌then◌else◌, refl, sym, ◌∙◌, ap, arith, inl}
use Rattle.tv_core.proofs.Common.{inr, cases_lt, cases_eq, eq-eqb, ne_eqb, flag_of}
use Rattle.std.proofs.Common.{nat_le, sum_by}
use Rattle.std.proofs.lemmas.Bool.{leb-true, leb-false}
use Rattle.std.proofs.lemmas.List.Sorted.{sum_by-IsPermutation}
use Rattle.std.proofs.lemmas.List.Sums.{sum_by_push}
use Rattle.tv_stages.proofs.Reorders.{places-zero, places-suc, reordering_permutes}
use Rattle.tv_stages.specs.Stages.{places, IsReordering}

-- f 0 + f 1 + .. + f (n - 1)
pub total : ℕ → (ℕ → ℕ) → ℕ
total zero f = 0
total (suc n) f = total n f + f n

sum_places : (n : ℕ) (p : ℕ → ℕ) (f : ℕ → ℕ) → sum_by f (places n p) ≡ total n (λ i. f (p i))
unfolding total
sum_places zero p f = ap (sum_by f) (places-zero p)
sum_places (suc n) p f = ap (sum_by f) (places-suc n p) ∙ sum_by_push f (places n p) (p n) ∙ ap (λ s. s + f (p n)) (sum_places n p f)

-- a sum is the same over a reordering of the places
total_permuted : (n : ℕ) (p : ℕ → ℕ) (f : ℕ → ℕ) → IsReordering n p → total n (λ i. f (p i)) ≡ total n f
total_permuted n p f moved =
    sym (sum_places n p f) ∙ sum_by-IsPermutation f (places n (λ i. i)) (places n p) (reordering_permutes n p moved (λ i. i)) ∙ sum_places n (λ i. i) f

-- 1 at b, else 0
pub at : ℕ → ℕ → ℕ
at b i = if i == b then 1 else 0

pub at_same : (b i : ℕ) → i ≡ b → at b i ≡ 1
unfolding at
at_same b i e = ap (λ c. if c then 1 else 0) (eq-eqb i b e)

pub at_other : (b i : ℕ) → i ≢ b → at b i ≡ 0
unfolding at
at_other b i e = ap (λ c. if c then 1 else 0) (ne_eqb i b e)

total_none : (n b : ℕ) → n ≤ b → total n (at b) ≡ 0
unfolding total
total_none zero b h = refl
total_none (suc n) b h = omega (arith, total_none n b (omega arith), at_other b n (omega arith))

total_one : (n b : ℕ) → b < n → total n (at b) ≡ 1
unfolding total
total_one zero b h = absurd (omega arith)
total_one (suc n) b h = elim (cases_eq n b) [
  | inl same ↦ omega (arith, total_none n b (omega arith), at_same b n same)
  | inr other ↦ omega (arith, total_one n b (omega arith), at_other b n other)
]

total_within : (n : ℕ) (f g u v w : ℕ → ℕ) → ((i : ℕ) → i < n → f i + u i + v i ≤ g i + w i)
    → total n f + total n u + total n v ≤ total n g + total n w
unfolding total
total_within zero f g u v w each = omega arith
total_within (suc n) f g u v w each = omega (arith, total_within n f g u v w (λ i h. each i (omega arith)), each n (omega arith))

-- f goes over into g by a permutation, so that it can't be below g at two places and above it at one alone
pub crossing : (n a b c : ℕ) (f g : ℕ → ℕ) → a < n → b < n → c < n → total n f ≡ total n g
    → ((i : ℕ) → i < n → f i + at b i + at c i ≤ g i + at a i) → ⊥
crossing n a b c f g ha hb hc same each =
    let sums = total_within n f g (at b) (at c) (at a) each in
    let one_a = total_one n a ha in
    let one_b = total_one n b hb in
    let one_c = total_one n c hc in
    omega arith

-- 1 where k is at least x, else 0
pub past : ℕ → ℕ → ℕ
past x k = flag_of (nat_le x k)

pub past_most : (x k : ℕ) → past x k ≤ 1
unfolding past
past_most x k = by (nat_le x k)
  where
    by : (b : Bool) → flag_of b ≤ 1
    by true = omega arith
    by false = omega arith

pub past_from : (x k : ℕ) → x ≤ k → past x k ≡ 1
unfolding past
past_from x k h = by (nat_le x k) refl
  where
    by : (b : Bool) → nat_le x k ≡ b → flag_of b ≡ 1
    by true e = refl
    by false e = let l = leb-false x k e in absurd (omega arith)

pub past_before : (x k : ℕ) → k < x → past x k ≡ 0
unfolding past
past_before x k h = by (nat_le x k) refl
  where
    by : (b : Bool) → nat_le x k ≡ b → flag_of b ≡ 0
    by true e = let l = leb-true x k e in absurd (omega arith)
    by false e = refl

pub past_rises : (x j k : ℕ) → j ≤ k → past x j ≤ past x k
past_rises x j k h = elim (cases_lt j x) [
  | inl low ↦ omega (arith, past_before x j low)
  | inr high ↦ omega (arith, past_from x k (omega arith), past_most x j)
]

-- keys that fall from each place to its image in a reordering, but at one place a
pub record Falls (n a : ℕ) (p key : ℕ → ℕ) : Type 0 where
  pub exempt : a < n
  pub permutes : IsReordering n p
  pub falls : (i : ℕ) → i < n → i ≢ a → key (p i) < key i

module _ (n a : ℕ) (p key : ℕ → ℕ) (h : Falls n a p key) where
  same_total : (x : ℕ) → total n (λ i. past x (key (p i))) ≡ total n (λ i. past x (key i))
  same_total x = total_permuted n p (λ i. past x (key i)) h.permutes

  -- whatever the bound, no place but a rises
  no_rise : (x i : ℕ) → i < n → i ≢ a → past x (key (p i)) ≤ past x (key i)
  no_rise x i m other = let f = h.falls i m other in past_rises x (key (p i)) (key i) (omega arith)

  -- between the key of a place's image and its own there is none
  pub none_between : (i q : ℕ) → i < n → i ≢ a → q < n → key (p i) < key q → key q < key i → ⊥
  none_between i q hi other hq low high =
      crossing n a i q (λ j. past (key q) (key (p j))) (λ j. past (key q) (key j)) h.exempt hi hq (same_total (key q))
      (λ j m. by j m (cases_eq j a) (cases_eq j i) (cases_eq j q))
    where
      apart : i ≢ q
      apart same = let s : key i ≡ key q = ap key same in omega arith

      by : (j : ℕ) → j < n → ((j ≡ a) ⊎ (j ≢ a)) → ((j ≡ i) ⊎ (j ≢ i)) → ((j ≡ q) ⊎ (j ≢ q))
          → past (key q) (key (p j)) + at i j + at q j ≤ past (key q) (key j) + at a j
      by j m x (inl e) (inl f) = absurd (apart (sym e ∙ f))
      by j m (inl x) (inl e) (inr f) = absurd (other (sym e ∙ x))
      by j m (inr x) (inl e) (inr f) =
          let s : key j ≡ key i = ap key e in
          let t : key (p j) ≡ key (p i) = ap (λ y. key (p y)) e in
          omega (arith, at_same i j e, at_other q j f, past_before (key q) (key (p j)) (omega arith), past_from (key q) (key j) (omega arith))
      by j m (inl x) (inr e) (inl f) =
          let s : key j ≡ key q = ap key f in
          omega (arith, at_other i j e, at_same q j f, at_same a j x, past_most (key q) (key (p j)), past_from (key q) (key j) (omega arith))
      by j m (inr x) (inr e) (inl f) =
          let s : key j ≡ key q = ap key f in
          let g = h.falls j m x in
          omega (arith, at_other i j e, at_same q j f, past_before (key q) (key (p j)) (omega arith), past_from (key q) (key j) (omega arith))
      by j m (inl x) (inr e) (inr f) =
          omega (arith, at_other i j e, at_other q j f, at_same a j x, past_most (key q) (key (p j)))
      by j m (inr x) (inr e) (inr f) =
          omega (arith, at_other i j e, at_other q j f, no_rise (key q) j m x)

  -- none is below that of a
  pub none_below : (q : ℕ) → q < n → key q < key a → ⊥
  none_below q hq low =
      crossing n a a q (λ j. past (key q) (key (p j))) (λ j. past (key q) (key j)) h.exempt h.exempt hq (same_total (key q))
      (λ j m. by j m (cases_eq j a) (cases_eq j q))
    where
      apart : a ≢ q
      apart same = let s : key a ≡ key q = ap key same in omega arith

      by : (j : ℕ) → j < n → ((j ≡ a) ⊎ (j ≢ a)) → ((j ≡ q) ⊎ (j ≢ q))
          → past (key q) (key (p j)) + at a j + at q j ≤ past (key q) (key j) + at a j
      by j m (inl x) (inl f) = absurd (apart (sym x ∙ f))
      by j m (inl x) (inr f) =
          let s : key j ≡ key a = ap key x in
          omega (arith, at_other q j f, past_most (key q) (key (p j)), past_from (key q) (key j) (omega arith))
      by j m (inr x) (inl f) =
          let s : key j ≡ key q = ap key f in
          let g = h.falls j m x in
          omega (arith, at_same q j f, past_before (key q) (key (p j)) (omega arith), past_from (key q) (key j) (omega arith))
      by j m (inr x) (inr f) = omega (arith, at_other q j f, no_rise (key q) j m x)
