-- Numbers in rising order: a sort makes them, and there is one such list.
use Rattle.std.proofs.Common.{◌≡◌, ◌≢◌, ◌⊎◌, ℕ, zero, suc, ◌+◌, ◌<◌, ◌≤◌, ◌==◌, if◌then◌else◌, List, [], ◌∷◌, length, get_or, refl, sym, ◌∙◌, ap, ap₂}
use Rattle.std.proofs.Common.{arith, inl, inr, eq-eqb, nat_le, sum_by, IsPermutation}
use Rattle.std.specs.List.Sorted.{IsNonDecreasing}
use Rattle.std.proofs.lemmas.Bool.{leb-true, leb-false, cond_both, ne_eqb, cases_eq, cases_order}
use Rattle.std.proofs.lemmas.List.Sorted.{IsPermutation-refl, IsPermutation-cons, IsPermutation-trans, IsPermutation-insert, sum_by-IsPermutation}
use Rattle.std.proofs.lemmas.List.Sums.{sum_by-cons}
use Rattle.tv_doubles.specs.Rising.{put_in, rising, index_in}

put_moves : (l : ℕ) (ls : List ℕ) → IsPermutation (l ∷ ls) (put_in l ls)
put_moves l [] = IsPermutation-refl (l ∷ [])
put_moves l (m ∷ ls) = cond_both (nat_le l m) (l ∷ m ∷ ls) (m ∷ put_in l ls) (IsPermutation (l ∷ m ∷ ls)) (λ e. IsPermutation-refl (l ∷ m ∷ ls))
    (λ e. IsPermutation-trans (l ∷ m ∷ ls) (m ∷ l ∷ ls) (m ∷ put_in l ls) (IsPermutation-insert (m ∷ ls) 1 l)
    (IsPermutation-cons m (l ∷ ls) (put_in l ls) (put_moves l ls)))

pub rising_moves : (ls : List ℕ) → IsPermutation ls (rising ls)
rising_moves [] = IsPermutation-refl []
rising_moves (l ∷ ls) = IsPermutation-trans (l ∷ ls) (l ∷ rising ls) (put_in l (rising ls)) (IsPermutation-cons l ls (rising ls) (rising_moves ls))
    (put_moves l (rising ls))

-- each is at least k; and each is at least those before it
abbrev From : ℕ → List ℕ → Type 0
From k [] = Unit {0}
From k (l ∷ ls) = (k ≤ l) × From k ls

abbrev Rises : List ℕ → Type 0
Rises [] = Unit {0}
Rises (l ∷ ls) = From l ls × Rises ls

from_less : (j k : ℕ) (ls : List ℕ) → j ≤ k → From k ls → From j ls
from_less j k [] h f = tt
from_less j k (l ∷ ls) h f = let here = f.0 in (omega arith, from_less j k ls h f.1)

put_from : (k l : ℕ) (ls : List ℕ) → k ≤ l → From k ls → From k (put_in l ls)
put_from k l [] h f = (h, tt)
put_from k l (m ∷ ls) h f = cond_both (nat_le l m) (l ∷ m ∷ ls) (m ∷ put_in l ls) (From k) (λ e. (h, (f.0, f.1))) (λ e. (f.0, put_from k l ls h f.1))

put_rises : (l : ℕ) (ls : List ℕ) → Rises ls → Rises (put_in l ls)
put_rises l [] r = (tt, tt)
put_rises l (m ∷ ls) r = cond_both (nat_le l m) (l ∷ m ∷ ls) (m ∷ put_in l ls) Rises
    (λ e. let low = leb-true l m e in ((low, from_less l m ls low r.0), (r.0, r.1)))
    (λ e. let high = leb-false l m e in (put_from m l ls (omega arith) r.0, put_rises l ls r.1))

rises : (ls : List ℕ) → Rises (rising ls)
rises [] = tt
rises (l ∷ ls) = put_rises l (rising ls) (rises ls)

from_at : (k : ℕ) (ls : List ℕ) (d : ℕ) → From k ls → (j : ℕ) → j < length ls → k ≤ get_or ls j d
from_at k [] d f j h = absurd (omega arith)
from_at k (l ∷ ls) d f zero h = f.0
from_at k (l ∷ ls) d f (suc j) h = from_at k ls d f.1 j (omega arith)

rises_at : (ls : List ℕ) → Rises ls → (i j : ℕ) (d : ℕ) → i ≤ j → j < length ls → get_or ls i d ≤ get_or ls j d
rises_at [] r i j d le h = absurd (omega arith)
rises_at (l ∷ ls) r zero zero d le h = omega arith
rises_at (l ∷ ls) r zero (suc j) d le h = from_at l ls d r.0 j (omega arith)
rises_at (l ∷ ls) r (suc i) zero d le h = absurd (omega arith)
rises_at (l ∷ ls) r (suc i) (suc j) d le h = rises_at ls r.1 i j d (omega arith) (omega arith)

pub rising_rises : (ls : List ℕ) → IsNonDecreasing (rising ls)
rising_rises ls = rises_at (rising ls) (rises ls)

-- ---- there is one such list
from_of : (k : ℕ) (ls : List ℕ) → ((j : ℕ) (d : ℕ) → j < length ls → k ≤ get_or ls j d) → From k ls
from_of k [] each = tt
from_of k (l ∷ ls) each = (each 0 0 (omega arith), from_of k ls (λ j d h. each (suc j) d (omega arith)))

rises_of : (ls : List ℕ) → IsNonDecreasing ls → Rises ls
rises_of [] r = tt
rises_of (l ∷ ls) r = (
  from_of l ls (λ j d h. r 0 (suc j) d (omega arith) (omega arith)),
  rises_of ls
      (λ i j d h k. r (suc i) (suc j) d (omega arith) (omega arith)),
)

-- how often a number occurs
one : ℕ → ℕ → ℕ
one c v = if v == c then 1 else 0

abbrev count : ℕ → List ℕ → ℕ
count c ls = sum_by (one c) ls

one_same : (c : ℕ) → one c c ≡ 1
unfolding one
one_same c = ap (λ b. if b then 1 else 0) (eq-eqb c c refl)

one_other : (c v : ℕ) → v ≢ c → one c v ≡ 0
unfolding one
one_other c v apart = ap (λ b. if b then 1 else 0) (ne_eqb v c apart)

count_cons : (c l : ℕ) (ls : List ℕ) → count c (l ∷ ls) ≡ one c l + count c ls
count_cons c l ls = sum_by-cons (one c) l ls

count_none : (c k : ℕ) (ls : List ℕ) → c < k → From k ls → count c ls ≡ 0
count_none c k [] h f = refl
count_none c k (l ∷ ls) h f =
    let first : k ≤ l = f.0 in
    omega (arith, count_cons c l ls, one_other c l (omega arith), count_none c k ls h f.1)

-- the first of two such lists are the same
heads : (x y : ℕ) (xs ys : List ℕ) → From x xs → From y ys → ((c : ℕ) → count c (x ∷ xs) ≡ count c (y ∷ ys)) → ((x ≡ y) ⊎ ((x < y) ⊎ (y < x))) → x ≡ y
heads x y xs ys f g same (inl e) = e
heads x y xs ys f g same (inr (inl less)) =
    absurd (omega (arith, same x, count_cons x x xs, one_same x, count_cons x y ys, one_other x y (omega arith), count_none x y ys less g))
heads x y xs ys f g same (inr (inr more)) =
    absurd (omega (arith, same y, count_cons y y ys, one_same y, count_cons y x xs, one_other y x (omega arith), count_none y x xs more f))

one_list : (xs ys : List ℕ) → Rises xs → Rises ys → ((c : ℕ) → count c xs ≡ count c ys) → xs ≡ ys
one_list [] [] r s same = refl
one_list [] (y ∷ ys) r s same = absurd (omega (arith, same y, count_cons y y ys, one_same y))
one_list (x ∷ xs) [] r s same = absurd (omega (arith, same x, count_cons x x xs, one_same x))
one_list (x ∷ xs) (y ∷ ys) r s same =
    let e : x ≡ y = heads x y xs ys r.0 s.0 same (cases_order x y) in
    let rest : (c : ℕ) → count c xs ≡ count c ys = λ c. omega (arith, same c, count_cons c x xs, count_cons c y ys, ap (one c) e) in
    ap₂ (λ (a : ℕ) (rest : List ℕ). a ∷ rest) e (one_list xs ys r.1 s.1 rest)

-- a rising list with the numbers of another is that list's rising order
pub rising_is : (ls sorted : List ℕ) → IsPermutation ls sorted → IsNonDecreasing sorted → sorted ≡ rising ls
rising_is ls sorted moved order =
    one_list sorted (rising ls) (rises_of sorted order) (rises ls)
    (λ c. sum_by-IsPermutation (one c) ls sorted moved ∙ sym (sum_by-IsPermutation (one c) ls (rising ls) (rising_moves ls)))

-- ---- where a number stands
index_here : (i x : ℕ) (xs : List ℕ) → x ≡ i → index_in i (x ∷ xs) ≡ 0
index_here i x xs e = ap (λ b. if b then 0 else suc (index_in i xs)) (eq-eqb x i e)

index_later : (i x : ℕ) (xs : List ℕ) → x ≢ i → index_in i (x ∷ xs) ≡ suc (index_in i xs)
index_later i x xs e = ap (λ b. if b then 0 else suc (index_in i xs)) (ne_eqb x i e)

-- where it stands, if it does
pub index_found : (i j : ℕ) (xs : List ℕ) → j < length xs → get_or xs j 0 ≡ i → (index_in i xs ≤ j) × (get_or xs (index_in i xs) 0 ≡ i)
index_found i j [] h e = absurd (omega arith)
index_found i zero (x ∷ xs) h e = let at = index_here i x xs e in (omega (arith, at), ap (λ k. get_or (x ∷ xs) k 0) at ∙ e)
index_found i (suc j) (x ∷ xs) h e = by (cases_eq x i) (index_found i j xs (omega arith) e)
  where
    by : ((x ≡ i) ⊎ (x ≢ i)) → (index_in i xs ≤ j) × (get_or xs (index_in i xs) 0 ≡ i)
        → (index_in i (x ∷ xs) ≤ suc j) × (get_or (x ∷ xs) (index_in i (x ∷ xs)) 0 ≡ i)
    by (inl same) rest =
        let at = index_here i x xs same in
        (omega (arith, at), ap (λ k. get_or (x ∷ xs) k 0) at ∙ same)
    by (inr other) rest =
        let at = index_later i x xs other in
        let low : index_in i xs ≤ j = rest.0 in
        (omega (arith, at), ap (λ k. get_or (x ∷ xs) k 0) at ∙ rest.1)
