-- Laws of sums and lists over the numbers below n, and of combinations of wires in a row.
use Rattle.std.proofs.Common.{◌≡◌, ◌≢◌, ℕ, zero, suc, ◌+◌, ◌*◌, ◌%◌, ◌^◌, ◌<◌, ◌≤◌, List, [], ◌∷◌, ◌++◌, map, sum_by, length, refl, sym, ◌∙◌, ap, ap₂, arith}
use Rattle.std.proofs.Common.{inl, inr, add-one, add-zero, zero-add, mul-add, mul-zero}
use Rattle.std.specs.Prelude.{slice_index}
use Rattle.std.specs.List.{range_with_len}
use Rattle.std.proofs.Math.Nat.{pow-suc}
use Rattle.std.proofs.lemmas.Bool.{cases_eq}
use Rattle.std.proofs.lemmas.List.FromFn.{length-map-range_with_len, map-range_with_len_more}
use Rattle.std.proofs.lemmas.List.Sums.{sum_by_push}
use Rattle.tv_core.proofs.CombinationLaws.{top-append}
use Rattle.tv_core.proofs.Residues.{add-mod_same, sum_by-map}
use Rattle.tv_core.specs.Below.{sum_below, each_below, weighted}
use Rattle.tv_core.specs.Combinations.{top}
use Rattle.tv_core.specs.Constraints.{value}
use Rattle.tv_core.specs.Laws.{HasFrom}
use Rattle.tv_core.specs.declared.field.TheConstants.{P}

-- one number more at the end
pub range-more : (a n : ℕ) → range_with_len a (suc n) ≡ range_with_len a n ++ (a + n) ∷ []
range-more a zero = ap (λ m. m ∷ []) (sym (add-zero a))
range-more a (suc n) =
    let same : a + 1 + n ≡ a + suc n = omega arith in
    ap (λ l. a ∷ l) (range-more (a + 1) n ∙ ap (λ m. range_with_len (a + 1) n ++ m ∷ []) same)

-- a range in two parts
pub range-append : (a n m : ℕ) → range_with_len a (n + m) ≡ range_with_len a n ++ range_with_len (a + n) m
range-append a zero m = ap₂ range_with_len (omega arith) (omega arith)
range-append a (suc n) m =
    let more : suc n + m ≡ suc (n + m) = omega arith in
    ap (range_with_len a) more ∙ ap (λ xs. a ∷ xs) (range-append (a + 1) n m ∙ ap (λ b. range_with_len (a + 1) n ++ range_with_len b m) (omega arith))

-- a power of 2 is above its exponent
pub below-power : (k : ℕ) → k < 2 ^ k
below-power zero = omega arith
below-power (suc k) = omega (arith, below-power k, pow-suc 2 k)

-- ---- sums
pub sum_below-zero : (f : ℕ → ℕ) → sum_below 0 f ≡ 0
unfolding sum_below
sum_below-zero f = refl

pub sum_below-suc : (n : ℕ) (f : ℕ → ℕ) → sum_below (suc n) f ≡ sum_below n f + f n
unfolding sum_below
sum_below-suc n f = ap (λ l. sum_by f l) (range-more 0 n) ∙ sum_by_push f (range_with_len 0 n) (0 + n) ∙ ap (λ m. sum_below n f + f m) (zero-add n)

-- the sums of functions that are the same below n, or the same modulo m
pub sum_below-same : (n : ℕ) (f g : ℕ → ℕ) → ((i : ℕ) → i < n → f i ≡ g i) → sum_below n f ≡ sum_below n g
sum_below-same zero f g same = sum_below-zero f ∙ sym (sum_below-zero g)
sum_below-same (suc n) f g same =
    sum_below-suc n f ∙ ap₂ (λ a b. a + b) (sum_below-same n f g (λ i h. same i (omega arith))) (same n (omega arith)) ∙ sym (sum_below-suc n g)

pub sum_below-mod_same : (n : ℕ) (f g : ℕ → ℕ) (m : ℕ) → ((i : ℕ) → i < n → f i % m ≡ g i % m) → sum_below n f % m ≡ sum_below n g % m
sum_below-mod_same zero f g m same = ap (λ k. k % m) (sum_below-zero f ∙ sym (sum_below-zero g))
sum_below-mod_same (suc n) f g m same =
    ap (λ k. k % m) (sum_below-suc n f)
    ∙ add-mod_same (sum_below n f) (sum_below n g) (f n) (g n) m (sum_below-mod_same n f g m (λ i h. same i (omega arith))) (same n (omega arith))
    ∙ ap (λ k. k % m) (sym (sum_below-suc n g))

-- a sum of zeros, and one where one number alone may be another
pub sum_below-zeros : (n : ℕ) (f : ℕ → ℕ) → ((i : ℕ) → i < n → f i ≡ 0) → sum_below n f ≡ 0
sum_below-zeros zero f none = sum_below-zero f
sum_below-zeros (suc n) f none = omega (arith, sum_below-suc n f, sum_below-zeros n f (λ i h. none i (omega arith)), none n (omega arith))

pub sum_below-single : (n k : ℕ) (f : ℕ → ℕ) → k < n → ((i : ℕ) → i < n → i ≢ k → f i ≡ 0) → sum_below n f ≡ f k
sum_below-single zero k f h none = absurd (omega arith)
sum_below-single (suc n) k f h none =
    elim (cases_eq k n) [
      | inl same ↦ sum_below-suc n f ∙ ap₂ (λ a b. a + b) (sum_below-zeros n f (λ i less. none i (omega arith) (omega arith))) (ap f (sym same))
          ∙ zero-add (f k)
      | inr apart ↦ omega (arith, sum_below-suc n f, sum_below-single n k f (omega arith) (λ i less. none i (omega arith)), none n (omega arith) (omega arith))
    ]

-- a sum in two parts, and a common factor
pub sum_below-add : (m n : ℕ) (f : ℕ → ℕ) → sum_below (m + n) f ≡ sum_below m f + sum_below n (λ i. f (m + i))
sum_below-add m zero f = ap (λ k. sum_below k f) (add-zero m) ∙ sym (ap (λ k. sum_below m f + k) (sum_below-zero (λ i. f (m + i))) ∙ add-zero (sum_below m f))
sum_below-add m (suc n) f =
    let same : m + suc n ≡ suc (m + n) = omega arith in
    omega (arith, ap (λ k. sum_below k f) same, sum_below-suc (m + n) f, sum_below-add m n f, sum_below-suc n (λ i. f (m + i)))

pub sum_below-mul : (k n : ℕ) (f : ℕ → ℕ) → sum_below n (λ i. k * f i) ≡ k * sum_below n f
sum_below-mul k zero f = sum_below-zero (λ i. k * f i) ∙ sym (ap (λ s. k * s) (sum_below-zero f) ∙ mul-zero k)
sum_below-mul k (suc n) f =
    sum_below-suc n (λ i. k * f i) ∙ ap (λ s. s + k * f n) (sum_below-mul k n f) ∙ sym (mul-add k (sum_below n f) (f n))
    ∙ ap (λ s. k * s) (sym (sum_below-suc n f))

-- ---- lists
pub each_below-zero : {A : Type 0} (f : ℕ → A) → each_below 0 f ≡ []
unfolding each_below
each_below-zero f = refl

pub each_below-suc : {A : Type 0} (n : ℕ) (f : ℕ → A) → each_below (suc n) f ≡ each_below n f ++ f n ∷ []
unfolding each_below
each_below-suc n f = ap (λ m. map f (range_with_len 0 m)) (sym (add-one n)) ∙ map-range_with_len_more f 0 n n (zero-add n)

pub length-each_below : {A : Type 0} (n : ℕ) (f : ℕ → A) → length (each_below n f) ≡ n
unfolding each_below
length-each_below n f = length-map-range_with_len f 0 n

has_range : (z : List ℕ) (first a n : ℕ) (f : ℕ → ℕ) → HasFrom z first (map f (range_with_len a n)) → (i : ℕ) → i < n → slice_index z (first + i) ≡ f (a + i)
has_range z first a zero f has i h = absurd (omega arith)
has_range z first a (suc n) f has zero h = ap (λ k. slice_index z k) (add-zero first) ∙ has.0 ∙ ap f (sym (add-zero a))
has_range z first a (suc n) f has (suc i) h =
    let wire : first + suc i ≡ first + 1 + i = omega arith in
    let place : a + 1 + i ≡ a + suc i = omega arith in
    ap (λ k. slice_index z k) wire ∙ has_range z (first + 1) (a + 1) n f has.1 i (omega arith) ∙ ap f place

-- what an assignment has that has the list
pub has_each : (z : List ℕ) (first n : ℕ) (f : ℕ → ℕ) → HasFrom z first (each_below n f) → (i : ℕ) → i < n → slice_index z (first + i) ≡ f i
unfolding each_below
has_each z first n f has i h = has_range z first 0 n f has i h ∙ ap f (zero-add i)

-- ---- combinations
pub weighted-zero : (first : ℕ) (c : ℕ → ℕ) → weighted first 0 c ≡ []
unfolding weighted
weighted-zero first c = refl

pub weighted-suc : (first n : ℕ) (c : ℕ → ℕ) → weighted first (suc n) c ≡ weighted first n c ++ (c n, first + n) ∷ []
unfolding weighted
weighted-suc first n c = ap (λ m. map (λ i. (c i, first + i)) (range_with_len 0 m)) (sym (add-one n))
    ∙ map-range_with_len_more (λ i. (c i, first + i)) 0 n n (zero-add n)

pub length-weighted : (first n : ℕ) (c : ℕ → ℕ) → length (weighted first n c) ≡ n
unfolding weighted
length-weighted first n c = length-map-range_with_len (λ i. (c i, first + i)) 0 n

pub value-weighted : (first n : ℕ) (c : ℕ → ℕ) (z : List ℕ) → value (weighted first n c) z ≡ sum_below n (λ i. c i * slice_index z (first + i)) % P
unfolding weighted sum_below
value-weighted first n c z = ap (λ k. k % P) (sum_by-map (λ t. t.0 * slice_index z t.1) (λ i. (c i, first + i)) (range_with_len 0 n))

-- wires in a row end below the sum of the first and their number
pub top-weighted : (first n : ℕ) (c : ℕ → ℕ) → top (weighted first n c) ≤ first + n
top-weighted first zero c = omega (arith, ap top (weighted-zero first c))
top-weighted first (suc n) c = omega (arith, ap top (weighted-suc first n c), top-append (weighted first n c) ((c n, first + n) ∷ []), top-weighted first n c)
