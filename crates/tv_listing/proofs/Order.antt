-- Lines in order by cell: a sort makes them, and there is one such list.
use Rattle.tv_core.proofs.Common.{◌≡◌, ℕ, suc, ◌<◌, ◌≤◌, Bool, true, false, List, [], ◌∷◌, length, map, get_or, refl, sym, ◌∙◌, ap, ap₂, arith, inl, inr, rules}
use Rattle.tv_core.proofs.Common.{lt-ltb, le-ltb, eq-eqb, Line}
use Rattle.std.proofs.lemmas.Bool.{cases_order}
use Rattle.std.proofs.lemmas.List.Sorted.{IsPermutation-refl, IsPermutation-cons, IsPermutation-trans, IsPermutation-insert, IsPermutation-map}
use Rattle.std.proofs.lemmas.List.Sorted.{sum_by-IsPermutation, ranks_by, sorted_far}
use Rattle.std.proofs.lemmas.List.Sums.{sum_by-cons}
use Rattle.std.specs.Cmp.{IsTotalOrder, IsStrictWeakOrder}
use Rattle.std.specs.Cmp.Rules.{comparing}
use Rattle.std.specs.List.{sum_by}
use Rattle.std.specs.List.Sorted.{IsPermutation, IsSortedBy}
use Rattle.std.specs.Ordering.{is_lt, nat_cmp, ordering_then, on, then_cmp}
use Rattle.std.specs.Prelude.{if◌then◌else◌}
use Rattle.std.specs.declared.cmp.Ordering.{Ordering}
use Rattle.std.specs.declared.cmp.Ordering.TheVariants.{Less, Equal}
use Rattle.tv_listing.specs.Listing.{compared, put_in, by_cell}
use Rattle.tv_listing.specs.Row.{row_line}
use Rattle.tv_listing.specs.declared.row.ListedLine.{ListedLine}

-- ---- the order
abbrev before : Line → Line → Bool
before l m = is_lt (compared l m)

total : IsTotalOrder (then_cmp (on (λ (l : Line). l.cell) nat_cmp)
    (then_cmp (on (λ (l : Line). l.time) nat_cmp) (then_cmp (on (λ (l : Line). l.old) nat_cmp) (on (λ (l : Line). l.new) nat_cmp))))
total = search (comparing, rules) depth 9

order : IsStrictWeakOrder before
order = ranks_by total (λ (l : Line). l)

less : (x y : ℕ) → x < y → nat_cmp x y ≡ Less
less x y h = rw (lt-ltb x y h) refl

same : (x : ℕ) → nat_cmp x x ≡ Equal
same x = rw (le-ltb x x (omega arith), eq-eqb x x refl) refl

-- where neither of two comes first, their first numbers are the same, and neither comes first by what follows
record Tie (x y : ℕ) (o p : Ordering) : Type 0 where
  first : x ≡ y
  left : is_lt o ≡ false
  right : is_lt p ≡ false

tie : (x y : ℕ) (o p : Ordering) → is_lt (ordering_then (nat_cmp x y) o) ≡ false → is_lt (ordering_then (nat_cmp y x) p) ≡ false → Tie x y o p
tie x y o p h k = elim (cases_order x y) [
  | inl e ↦ record { first = e; left = rw (e, same y) at h; right = rw (e, same y) at k }
  | inr (inl lower) ↦ let off = rw (less x y lower) at h in absurd cc
  | inr (inr higher) ↦ let off = rw (less y x higher) at k in absurd cc
]

last_tie : (x y : ℕ) → is_lt (nat_cmp x y) ≡ false → is_lt (nat_cmp y x) ≡ false → x ≡ y
last_tie x y h k = elim (cases_order x y) [
  | inl e ↦ e
  | inr (inl lower) ↦ let off = rw (less x y lower) at h in absurd cc
  | inr (inr higher) ↦ let off = rw (less y x higher) at k in absurd cc
]

-- then they are one line
one_line : (l m : Line) → before l m ≡ false → before m l ≡ false → l ≡ m
one_line l m h k =
    let a = tie l.cell m.cell _ _ h k in
    let b = tie l.time m.time _ _ a.left a.right in
    let c = tie l.old m.old _ _ b.left b.right in
    let d = last_tie l.new m.new c.left c.right in
    ap₂ (λ (cell time : ℕ). record l { cell = cell; time = time }) a.first b.first ∙ ap₂ (λ (old new : ℕ). record m { old = old; new = new }) c.first d

-- ---- lines in order
-- none comes before a line; and none before those that stand before it
abbrev From : Line → List Line → Type 0
From k [] = Unit {0}
From k (l ∷ ls) = (before l k ≡ false) × From k ls

abbrev Rises : List Line → Type 0
Rises [] = Unit {0}
Rises (l ∷ ls) = From l ls × Rises ls

from_less : (j k : Line) (ls : List Line) → before k j ≡ false → From k ls → From j ls
from_less j k [] h f = tt
from_less j k (l ∷ ls) h f = (order.chain l k j f.0 h, from_less j k ls h f.1)

put_moves : (l : Line) (ls : List Line) → IsPermutation (l ∷ ls) (put_in l ls)
put_moves l [] = IsPermutation-refl (l ∷ [])
put_moves l (m ∷ ls) = by (before m l) (put_moves l ls)
  where
    by : (b : Bool) → IsPermutation (l ∷ ls) (put_in l ls) → IsPermutation (l ∷ m ∷ ls) (if b then m ∷ put_in l ls else l ∷ m ∷ ls)
    by true h = IsPermutation-trans (l ∷ m ∷ ls) (m ∷ l ∷ ls) (m ∷ put_in l ls) (IsPermutation-insert (m ∷ ls) 1 l)
        (IsPermutation-cons m (l ∷ ls) (put_in l ls) h)
    by false h = IsPermutation-refl (l ∷ m ∷ ls)

by_cell_moves : (ls : List Line) → IsPermutation ls (by_cell ls)
by_cell_moves [] = IsPermutation-refl []
by_cell_moves (l ∷ ls) = IsPermutation-trans (l ∷ ls) (l ∷ by_cell ls) (put_in l (by_cell ls)) (IsPermutation-cons l ls (by_cell ls) (by_cell_moves ls))
    (put_moves l (by_cell ls))

put_from : (k l : Line) (ls : List Line) → before l k ≡ false → From k ls → From k (put_in l ls)
put_from k l [] h f = (h, tt)
put_from k l (m ∷ ls) h f = by (before m l) (put_from k l ls h f.1)
  where
    by : (b : Bool) → From k (put_in l ls) → From k (if b then m ∷ put_in l ls else l ∷ m ∷ ls)
    by true g = (f.0, g)
    by false g = (h, f)

put_rises : (l : Line) (ls : List Line) → Rises ls → Rises (put_in l ls)
put_rises l [] r = (tt, tt)
put_rises l (m ∷ ls) r = by (before m l) refl (put_rises l ls r.1)
  where
    by : (b : Bool) → before m l ≡ b → Rises (put_in l ls) → Rises (if b then m ∷ put_in l ls else l ∷ m ∷ ls)
    by true e g = (put_from m l ls (order.one_way m l e) r.0, g)
    by false e g = ((e, from_less l m ls e r.0), r)

by_cell_rises : (ls : List Line) → Rises (by_cell ls)
by_cell_rises [] = tt
by_cell_rises (l ∷ ls) = put_rises l (by_cell ls) (by_cell_rises ls)

-- ---- there is one such list
-- how many lines come before one
one : Line → Line → ℕ
one k l = if before l k then 1 else 0

none_before : (k : Line) (ls : List Line) → From k ls → sum_by (one k) ls ≡ 0
unfolding one
none_before k [] f = refl
none_before k (l ∷ ls) f =
    let e : one k l ≡ 0 = ap (λ b. if b then 1 else 0) f.0 in
    omega (arith, sum_by-cons (one k) l ls, none_before k ls f.1)

not_before : (k l : Line) → one k l ≡ 0 → before l k ≡ false
unfolding one
not_before k l e = by (before l k) refl e
  where
    by : (b : Bool) → before l k ≡ b → ◌≡◌ {A = ℕ} (if b then 1 else 0) 0 → before l k ≡ false
    by true is off = absurd (omega arith)
    by false is off = is

-- none comes before the first of one, so none of the other
heads : (x y : Line) (xs ys : List Line) → before x x ≡ false → From x xs → ((f : Line → ℕ) → sum_by f (x ∷ xs) ≡ sum_by f (y ∷ ys)) → before y x ≡ false
heads x y xs ys own f alike = not_before x y (omega (arith, alike (one x), none_before x (x ∷ xs) (own, f), sum_by-cons (one x) y ys))

itself : (l : Line) → before l l ≡ false
itself l = rw (same l.cell, same l.time, same l.old, same l.new) refl

one_list : (xs ys : List Line) → Rises xs → Rises ys → ((f : Line → ℕ) → sum_by f xs ≡ sum_by f ys) → xs ≡ ys
one_list [] [] r s alike = refl
one_list [] (y ∷ ys) r s alike = absurd (omega (arith, alike (λ _. 1), sum_by-cons (λ (l : Line). 1) y ys))
one_list (x ∷ xs) [] r s alike = absurd (omega (arith, alike (λ _. 1), sum_by-cons (λ (l : Line). 1) x xs))
one_list (x ∷ xs) (y ∷ ys) r s alike =
    let e : x ≡ y = one_line x y (heads y x ys xs (itself y) s.0 (λ f. sym (alike f))) (heads x y xs ys (itself x) r.0 alike) in
    let rest : (f : Line → ℕ) → sum_by f xs ≡ sum_by f ys = λ f. omega (arith, alike f, sum_by-cons f x xs, sum_by-cons f y ys, ap f e) in
    ap₂ (λ (l : Line) (ls : List Line). l ∷ ls) e (one_list xs ys r.1 s.1 rest)

by_cell_is : (ls sorted : List Line) → IsPermutation ls sorted → Rises sorted → sorted ≡ by_cell ls
by_cell_is ls sorted moved rises =
    one_list sorted (by_cell ls) rises (by_cell_rises ls)
    (λ f. sum_by-IsPermutation f ls sorted moved ∙ sym (sum_by-IsPermutation f ls (by_cell ls) (by_cell_moves ls)))

-- ---- rows that were sorted
abbrev row_before : ListedLine → ListedLine → Bool
row_before r s = before (row_line r) (row_line s)

from_of : (k : ListedLine) (rows : List ListedLine) → ((j : ℕ) (d : ListedLine) → j < length rows → row_before (get_or rows j d) k ≡ false)
    → From (row_line k) (map row_line rows)
from_of k [] each = tt
from_of k (r ∷ rows) each = (each 0 k (omega arith), from_of k rows (λ j d h. each (suc j) d (omega arith)))

rises_of : (rows : List ListedLine) → ((i j : ℕ) (d : ListedLine) → i ≤ j → j < length rows → row_before (get_or rows j d) (get_or rows i d) ≡ false)
    → Rises (map row_line rows)
rises_of [] each = tt
rises_of (r ∷ rows) each = (
  from_of r rows (λ j d h. each 0 (suc j) d (omega arith) (omega arith)),
  rises_of rows (λ i j d h k. each (suc i) (suc j) d (omega arith) (omega arith)),
)

pub rows_sorted : (rows sorted : List ListedLine) → IsPermutation rows sorted → IsSortedBy (λ r s. is_lt (compared (row_line r) (row_line s))) sorted
    → map row_line sorted ≡ by_cell (map row_line rows)
rows_sorted rows sorted moved up =
    by_cell_is (map row_line rows) (map row_line sorted) (IsPermutation-map row_line rows sorted moved)
    (rises_of sorted (sorted_far row_before (ranks_by total row_line) sorted up))
