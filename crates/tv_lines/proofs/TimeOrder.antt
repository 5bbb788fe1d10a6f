-- Lines in time order, and the latest write of a cell before a line.
use Rattle.tv_core.proofs.Common.{◌≡◌, ℕ, ◌<◌, ◌⊎◌, ◌==◌, if◌then◌else◌, true, false, Bool, List, [], ◌∷◌, ◌++◌, length, get_or, refl, sym, ap, ◌∙◌, subst}
use Rattle.tv_core.proofs.Common.{arith, inl, inr, zero, suc, length-append, eqb-true, Line}
use Rattle.std.proofs.Common.{fold}
use Rattle.std.proofs.lemmas.List.{get_or_default, get_or_at, get_or_append_left}
use Rattle.std.proofs.lemmas.Bool.{cases_order, eqb-false}
use Rattle.tv_core.specs.Lines.{written, memory_after, Honest}
use Rattle.tv_lines.proofs.OrderedLaws.{HonestByTimes, by_times, by_times-permutation}
use Rattle.tv_lines.specs.Ordered.{InTimeOrder, OrderedLinesAreHonest}

abbrev after : (ℕ → ℕ) → List Line → (ℕ → ℕ)
after m ls = fold written m ls

-- the latest write of a cell, by its place
pub record LastWrite (m : ℕ → ℕ) (ls : List Line) (c : ℕ) : Type 0 where
  pub place : ℕ
  pub line : Line
  pub below : place < length ls
  pub is : get_or ls place line ≡ line
  pub cell : line.cell ≡ c
  pub value : after m ls c ≡ line.new
  pub later : (k : ℕ) (d : Line) → place < k → k < length ls → (get_or ls k d).cell ≡ c → ⊥

pub record NoWrite (m : ℕ → ℕ) (ls : List Line) (c : ℕ) : Type 0 where
  pub value : after m ls c ≡ m c
  pub none : (k : ℕ) (d : Line) → k < length ls → (get_or ls k d).cell ≡ c → ⊥

pub last_write : (m : ℕ → ℕ) (ls : List Line) (c : ℕ) → LastWrite m ls c ⊎ NoWrite m ls c
last_write m [] c = inr (record { value = refl; none = λ k d h e. omega arith })
last_write m (l ∷ ls) c = step (last_write (written m l) ls c)
  where
    later_cons : (w : LastWrite (written m l) ls c) (k : ℕ) (d : Line) → suc w.place < k → k < suc (length ls) → (get_or (l ∷ ls) k d).cell ≡ c → ⊥
    later_cons w zero d h i e = omega arith
    later_cons w (suc k) d h i e = w.later k d (omega arith) (omega arith) e

    later_first : NoWrite (written m l) ls c → (k : ℕ) (d : Line) → 0 < k → k < suc (length ls) → (get_or (l ∷ ls) k d).cell ≡ c → ⊥
    later_first w zero d h i e = omega arith
    later_first w (suc k) d h i e = w.none k d (omega arith) e

    none_cons : NoWrite (written m l) ls c → (l.cell ≡ c → ⊥) → (k : ℕ) (d : Line) → k < suc (length ls) → (get_or (l ∷ ls) k d).cell ≡ c → ⊥
    none_cons w ne zero d i e = ne e
    none_cons w ne (suc k) d i e = w.none k d (omega arith) e

    here : NoWrite (written m l) ls c → (b : Bool) → (l.cell == c) ≡ b → LastWrite m (l ∷ ls) c ⊎ NoWrite m (l ∷ ls) c
    here w true e = inl (record {
      place = 0;
      line = l;
      below = omega arith;
      is = refl;
      cell = eqb-true l.cell c e;
      value = w.value
          ∙ ap (λ b. (if b then l.new else m c)) e;
      later = later_first w;
    })
    here w false e = inr (record { value = w.value ∙ ap (λ b. (if b then l.new else m c)) e; none = none_cons w (eqb-false l.cell c e) })

    step : LastWrite (written m l) ls c ⊎ NoWrite (written m l) ls c → LastWrite m (l ∷ ls) c ⊎ NoWrite m (l ∷ ls) c
    step (inl w) = inl (record { place = suc w.place; line = w.line; below = omega arith; is = w.is; cell = w.cell; value = w.value; later = later_cons w })
    step (inr w) = here w (l.cell == c) refl

-- of two members the earlier one stands first
pub place_from_time : (ls : List Line) → InTimeOrder ls → (a b : ℕ) (p l : Line) → a < length ls → b < length ls → get_or ls a p ≡ p → get_or ls b l ≡ l
    → p.time < l.time → ((a ≡ b) ⊎ ((a < b) ⊎ (b < a))) → a < b
place_from_time ls t a b p l h k e f early (inl same) =
    let g : p ≡ l = sym e ∙ (get_or_default ls a p l h ∙ (ap (λ i. get_or ls i l) same ∙ f)) in
    let u : p.time ≡ l.time = ap (λ (x : Line). x.time) g in absurd (omega arith)
place_from_time ls t a b p l h k e f early (inr (inl lt)) = lt
place_from_time ls t a b p l h k e f early (inr (inr gt)) =
    let g : get_or ls b p ≡ l = get_or_default ls b p l k ∙ f in
    let u : l.time < p.time = rw (g, e) at (t b a p gt h) in absurd (omega arith)

module _ (before : List Line) (l : Line) (rest : List Line) (t : InTimeOrder (before ++ l ∷ rest)) (h : HonestByTimes (before ++ l ∷ rest)) where
  old_is : LastWrite (λ c. 0) before l.cell ⊎ NoWrite (λ c. 0) before l.cell → l.old ≡ memory_after before l.cell
  old_is (inl w) =
      let n = length-append before (l ∷ rest) in
      let p = w.line in
      let at_p = get_or_append_left before (l ∷ rest) p w.place w.below ∙ w.is in
      let at_l : get_or (before ++ l ∷ rest) (length before) l ≡ l = get_or_at before l rest l (length before) refl in
      let at_l' : get_or (before ++ l ∷ rest) (length before) p ≡ l = get_or_at before l rest p (length before) refl in
      let early : p.time < l.time = rw (at_p, at_l') at (t w.place (length before) p w.below (omega arith)) in
      h.latest p l (w.place, omega arith, at_p) (length before, omega arith, at_l) w.cell early
      (λ m (k, i, e) c after_p before_l.
      let lo : w.place < k = place_from_time (before ++ l ∷ rest) t w.place k p m (omega arith) i at_p e after_p (cases_order _ _) in
      let hi : k < length before = place_from_time (before ++ l ∷ rest) t k (length before) m l i (omega arith) e at_l before_l (cases_order _ _) in
      w.later k m lo hi (ap (λ (x : Line). x.cell) (sym (get_or_append_left before (l ∷ rest) m k hi) ∙ e) ∙ c))
      ∙ sym w.value
  old_is (inr w) =
      let n = length-append before (l ∷ rest) in
      let at_l : get_or (before ++ l ∷ rest) (length before) l ≡ l = get_or_at before l rest l (length before) refl in
      h.first l (length before, omega arith, at_l)
      (λ m (k, i, e) c before_l.
      let hi : k < length before = place_from_time (before ++ l ∷ rest) t k (length before) m l i (omega arith) e at_l before_l (cases_order _ _) in
      w.none k m hi (ap (λ (x : Line). x.cell) (sym (get_or_append_left before (l ∷ rest) m k hi) ∙ e) ∙ c))
      ∙ sym w.value

pub Honest-from_times : (lines : List Line) → InTimeOrder lines → HonestByTimes lines → Honest lines
Honest-from_times lines t h before l rest e =
    old_is before l rest (subst InTimeOrder e t) (subst HonestByTimes e h) (last_write (λ c. 0) before l.cell)

pub ordered_honest : OrderedLinesAreHonest
ordered_honest lines sorted t p o = Honest-from_times lines t (by_times-permutation lines sorted p (by_times sorted o))
