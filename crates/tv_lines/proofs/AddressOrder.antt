-- Honest lines, sorted by cell and time.
use Rattle.tv_core.proofs.Common.{◌≡◌, ℕ, ◌+◌, ◌^◌, ◌<◌, ◌≤◌, ◌≢◌, ◌⊎◌, ◌==◌, Bool, true, false, List, ◌∷◌, ◌++◌, length, take, drop, get_or, All, refl, sym}
use Rattle.tv_core.proofs.Common.{ap, ◌∙◌, arith, inl, inr, cases_lt, eqb-true, eq-eqb, ne_eqb, Line}
use Rattle.std.proofs.Common.{Contains, IsPermutation}
use Rattle.std.specs.List.{IsDistinct}
use Rattle.std.proofs.lemmas.List.{get_or_default, take-append-drop, drop_more, get_or-take, length-take-le}
use Rattle.std.proofs.lemmas.List.Elements.{Contains-get_or}
use Rattle.std.proofs.lemmas.List.Sorted.{All-permutation, IsPermutation-sym}
use Rattle.std.proofs.lemmas.Map.Keys.{apart_from_distinct, IsDistinct-from_apart, IsDistinct-IsPermutation}
use Rattle.std.proofs.lemmas.Bool.{cases_order, eqb-false}
use Rattle.tv_core.specs.Lines.{memory_after, Honest}
use Rattle.tv_lines.proofs.OrderedLaws.{HonestByTimes, by_times-permutation}
use Rattle.tv_lines.proofs.TimeOrder.{LastWrite, NoWrite, last_write, place_from_time}
use Rattle.tv_lines.specs.Ordered.{Follows, InTimeOrder, key, SortedLinesAreOrdered}

same_time : Line → Line → Bool
same_time p l = p.time == l.time

flips : (p l : Line) → same_time p l ≡ same_time l p
unfolding same_time
flips p l = by_test (p.time == l.time) refl
  where
    by_test : (b : Bool) → (p.time == l.time) ≡ b → (p.time == l.time) ≡ (l.time == p.time)
    by_test true e = e ∙ sym (eq-eqb l.time p.time (sym (eqb-true p.time l.time e)))
    by_test false e = e ∙ sym (ne_eqb l.time p.time (λ f. eqb-false p.time l.time e (sym f)))

pub times_apart : (lines sorted : List Line) → InTimeOrder lines → IsPermutation lines sorted → (i j : ℕ) (d : Line) → i < j → j < length sorted
    → (get_or sorted i d).time ≢ (get_or sorted j d).time
unfolding same_time
times_apart lines sorted t p i j d h k =
    let apart : IsDistinct same_time lines = IsDistinct-from_apart same_time lines
    (λ i j d h k. let u = t i j d h k in ne_eqb (get_or lines i d).time (get_or lines j d).time (λ e. omega arith)) in
    let moved = IsDistinct-IsPermutation same_time flips lines sorted p apart in
    eqb-false (get_or sorted i d).time (get_or sorted j d).time (apart_from_distinct same_time sorted i j d moved h k)

-- honest lines in time order, cut before the line at a place
module _ (ls : List Line) (t : InTimeOrder ls) (h : Honest ls) where
  old_at : (a : ℕ) (l : Line) → a < length ls → get_or ls a l ≡ l → l.old ≡ memory_after (take a ls) l.cell
  old_at a l i e =
      let d : drop a ls ≡ l ∷ drop (a + 1) ls = drop_more ls a l i ∙ ap (λ (x : Line). x ∷ drop (a + 1) ls) e in
      h (take a ls) l (drop (a + 1) ls) (sym (take-append-drop a ls) ∙ ap (λ (x : List Line). take a ls ++ x) d)

  short : (a : ℕ) → a < length ls → length (take a ls) ≡ a
  short a i = length-take-le a ls (omega arith)

  -- the latest write before a place is at the latest earlier line of the cell
  latest_is : (a b : ℕ) (p l : Line) → b < length ls → get_or ls b p ≡ p → a < length ls → get_or ls a l ≡ l → p.cell ≡ l.cell → p.time < l.time
      → ((m : Line) → Contains ls m → m.cell ≡ l.cell → p.time < m.time → m.time < l.time → ⊥) → LastWrite (λ c. 0) (take a ls) l.cell
      ⊎ NoWrite (λ c. 0) (take a ls) l.cell → memory_after (take a ls) l.cell ≡ p.new
  latest_is a b p l k f i e same early none (inr w) =
      let n = short a i in
      let b_a : b < a = place_from_time ls t b a p l k i f e early (cases_order b a) in
      absurd (w.none b p (omega arith) (ap (λ (x : Line). x.cell) (get_or-take a ls b p b_a ∙ f) ∙ same))
  latest_is a b p l k f i e same early none (inl w) =
      let n = short a i in
      let b_a : b < a = place_from_time ls t b a p l k i f e early (cases_order b a) in
      let at : get_or ls w.place w.line ≡ w.line = sym (get_or-take a ls w.place w.line (omega (arith, w.below))) ∙ w.is in
      w.value ∙ by_place b_a at (cases_order b w.place)
    where
      by_place : b < a → get_or ls w.place w.line ≡ w.line → ((b ≡ w.place) ⊎ ((b < w.place) ⊎ (w.place < b))) → w.line.new ≡ p.new
      by_place b_a at (inl s) = ap (λ (x : Line). x.new) (sym at ∙ (get_or_default ls w.place w.line p (omega arith) ∙ (ap (λ j. get_or ls j p) (sym s) ∙ f)))
      by_place b_a at (inr (inl s)) =
          let n = short a i in
          let below : w.place < a = omega (arith, w.below) in
          let lo : (get_or ls b p).time < (get_or ls w.place p).time = t b w.place p s (omega arith) in
          let hi : (get_or ls w.place l).time < (get_or ls a l).time = t w.place a l below i in
          let at_p : get_or ls w.place p ≡ w.line = get_or_default ls w.place p w.line (omega arith) ∙ at in
          let at_l : get_or ls w.place l ≡ w.line = get_or_default ls w.place l w.line (omega arith) ∙ at in
          absurd (none w.line (w.place, omega arith, at) w.cell (rw (f, at_p) at lo) (rw (at_l, e) at hi))
      by_place b_a at (inr (inr s)) =
          let n = short a i in
          absurd (w.later b p s (omega arith) (ap (λ (x : Line). x.cell) (get_or-take a ls b p b_a ∙ f) ∙ same))

  first_is : (a : ℕ) (l : Line) → a < length ls → get_or ls a l ≡ l → ((m : Line) → Contains ls m → m.cell ≡ l.cell → m.time < l.time → ⊥)
      → LastWrite (λ c. 0) (take a ls) l.cell ⊎ NoWrite (λ c. 0) (take a ls) l.cell → memory_after (take a ls) l.cell ≡ 0
  first_is a l i e none (inr w) = w.value
  first_is a l i e none (inl w) =
      let n = short a i in
      let below : w.place < a = omega (arith, w.below) in
      let at : get_or ls w.place w.line ≡ w.line = sym (get_or-take a ls w.place w.line below) ∙ w.is in
      let hi : (get_or ls w.place l).time < (get_or ls a l).time = t w.place a l below i in
      let at_l : get_or ls w.place l ≡ w.line = get_or_default ls w.place l w.line (omega arith) ∙ at in
      absurd (none w.line (w.place, omega arith, at) w.cell (rw (at_l, e) at hi))

  pub by_times_from_honest : HonestByTimes ls
  by_times_from_honest = record {
    latest = λ p l (b, k, f) (a, i, e) same early none. old_at a l i e ∙ latest_is a b p l k f i e same early none (last_write (λ c. 0) (take a ls) l.cell);
    first = λ l (a, i, e) none. old_at a l i e ∙ first_is a l i e none (last_write (λ c. 0) (take a ls) l.cell);
  }

pub sorted_ordered : SortedLinesAreOrdered
sorted_ordered lines sorted t fits honest moved order = record { first = first; follows = follows }
  where
    by : HonestByTimes sorted
    by = by_times-permutation sorted lines (IsPermutation-sym lines sorted moved) (by_times_from_honest lines t honest)

    small : All (λ l. l.time < 2 ^ 20) sorted
    small = All-permutation (λ l. l.time < 2 ^ 20) lines sorted moved fits

    -- a member at or before a place has no larger key, one at or past it no smaller one
    up_to : (q k : ℕ) (m d : Line) → q ≤ k → k < length sorted → get_or sorted q m ≡ m → key m ≤ key (get_or sorted k d)
    up_to q k m d h i e =
        let o : key (get_or sorted q m) ≤ key (get_or sorted k m) = order q k m h i in
        rw (get_or_default sorted k d m i) (rw e at o)

    from : (q k : ℕ) (m d : Line) → k ≤ q → q < length sorted → get_or sorted q m ≡ m → key (get_or sorted k d) ≤ key m
    from q k m d h i e =
        let o : key (get_or sorted k m) ≤ key (get_or sorted q m) = order k q m h i in
        rw (get_or_default sorted k d m (omega arith)) (rw e at o)

    first : (d : Line) → 0 < length sorted → (get_or sorted 0 d).old ≡ 0
    first d h = by.first (get_or sorted 0 d) (Contains-get_or sorted 0 d h)
        (λ m (q, i, e) same early.
        let o : key (get_or sorted 0 d) ≤ key m = from q 0 m d (omega arith) i e in
        omega arith)

    follows : (k : ℕ) (d : Line) → k + 1 < length sorted → Follows (get_or sorted k d) (get_or sorted (k + 1) d)
    follows k d h = record { rises = rises (cases_lt p.cell l.cell); carried = carried; fresh = fresh }
      where
        p : Line
        p = get_or sorted k d

        l : Line
        l = get_or sorted (k + 1) d

        keys : key p ≤ key l
        keys = order k (k + 1) d (omega arith) h

        apart : p.time ≢ l.time
        apart = times_apart lines sorted t moved k (k + 1) d (omega arith) h

        small_p : p.time < 2 ^ 20
        small_p = small k d (omega arith)

        small_l : l.time < 2 ^ 20
        small_l = small (k + 1) d h

        rises : ((p.cell < l.cell) ⊎ (l.cell ≤ p.cell)) → (p.cell < l.cell) ⊎ ((p.cell ≡ l.cell) × (p.time < l.time))
        rises (inl c) = inl c
        rises (inr c) = inr (omega (arith, keys, apart, small_p, small_l), omega (arith, keys, apart, small_p, small_l))

        carried : p.cell ≡ l.cell → l.old ≡ p.new
        carried same = by.latest p l (Contains-get_or sorted k d (omega arith)) (Contains-get_or sorted (k + 1) d h) same
            (omega (arith, keys, apart, small_p, small_l))
            (λ m (q, i, e) c lo hi. between m q i e c lo hi (cases_lt q (k + 1)))
          where
            between : (m : Line) (q : ℕ) → q < length sorted → get_or sorted q m ≡ m → m.cell ≡ l.cell → p.time < m.time → m.time < l.time
                → ((q < k + 1) ⊎ (k + 1 ≤ q)) → ⊥
            between m q i e c lo hi (inl z) = let o : key m ≤ key p = up_to q k m d (omega arith) (omega arith) e in omega arith
            between m q i e c lo hi (inr z) = let o : key l ≤ key m = from q (k + 1) m d z i e in omega arith

        fresh : p.cell ≢ l.cell → l.old ≡ 0
        fresh ne = by.first l (Contains-get_or sorted (k + 1) d h) (λ m (q, i, e) c early. no_earlier m q i e c early (cases_lt q (k + 1)))
          where
            no_earlier : (m : Line) (q : ℕ) → q < length sorted → get_or sorted q m ≡ m → m.cell ≡ l.cell → m.time < l.time → ((q < k + 1) ⊎ (k + 1 ≤ q)) → ⊥
            no_earlier m q i e c early (inl z) =
                let o : key m ≤ key p = up_to q k m d (omega arith) (omega arith) e in
                omega (arith, keys, small_p, small_l, ne)
            no_earlier m q i e c early (inr z) = let o : key l ≤ key m = from q (k + 1) m d z i e in omega arith
