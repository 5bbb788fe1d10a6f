-- What the loops of a pass keep.
use Rattle.tv_core.proofs.Common.{◌≡◌, ◌≢◌, ◌⊎◌, ℕ, zero, suc, ◌+◌, ◌<◌, ◌≤◌, Bool, List, ◌∷◌, ◌++◌, Option, Some, None, refl, sym, ◌∙◌, ap, [], subst, arith}
use Rattle.tv_core.proofs.Common.{true, false, inl, inr, cond, map, length, get_or, set, take, add-one, range_with_len, cond_both, cases_eq, length-map, scaled}
use Rattle.tv_core.proofs.Common.{Combination, Constraint, normal, IsNormalFrom}
use Rattle.std.proofs.Common.{◌||◌, ◌&&◌, eqb, ltb, ltb-true, lt-ltb, le-ltb, eqb-true, eq-eqb, ne_eqb, take_all}
use Rattle.std.specs.List.{fold, list_any, list_all}
use Rattle.std.specs.Option.{option_map}
use Rattle.std.proofs.lemmas.Bool.{cases_Bool, or_cases, or_parts, or_from, or_left, or_right, and_parts, and_right, false_from_ne_true}
use Rattle.std.proofs.lemmas.List.{ext_get_or, get_or-map, get_or-set_other}
use Rattle.std.proofs.lemmas.List.Elements.{All-from_get_or}
use Rattle.std.proofs.lemmas.List.Folds.{list_any_more}
use Rattle.tv_core.proofs.BelowLaws.{range-more}
use Rattle.std.proofs.lemmas.List.Sums.{fold_push, list_all-from_AllPass}
use Rattle.tv_core.specs.Normal.{coefficient}
use Rattle.tv_shrink.specs.Pass.{Pass, attempted, dropped, eliminated, linear_row, row_fits, treated, turn}
use Rattle.tv_shrink.specs.Substitution.{greater_from, greatest_from, has_wire, without, solved, replaced, replaced_in}
use Rattle.tv_shrink.specs.Tidy.{RowIsNormal, Covers, row_has}
use Rattle.std.proofs.Math.Bool.{or-false}
use Rattle.tv_shrink.proofs.Linear.{fits-lacking, replaced-lacking}
use Rattle.tv_shrink.proofs.Spans.{same_row}
use Rattle.tv_core.proofs.NormalLaws.{Over, Over-weaker, IsNormalFrom-normal}
use Rattle.tv_shrink.proofs.ReplacingLaws.{none_some, Over-linear_form, Over-has_wire, Over-replaced, Over-lacking, found_here, found_later}
use Rattle.tv_shrink.proofs.Constants.{parted}

pub all_units : (x : Combination) → Over (λ v. Unit {0}) x
all_units [] = tt
all_units (t ∷ x) = (tt, all_units x)

lacks_over : (w : ℕ) (x : Combination) → Over (λ v. Unit {0} × (v ≢ w)) x → has_wire w x ≡ false
unfolding has_wire
lacks_over w [] h = refl
lacks_over w (t ∷ x) h = or_from (eqb t.1 w) (has_wire w x) (ne_eqb t.1 w h.0.1) (lacks_over w x h.1)

pub lacks_below : (w : ℕ) (x : Combination) → Over (λ v. v < w) x → has_wire w x ≡ false
lacks_below w x h = lacks_over w x (Over-weaker (λ v. v < w) (λ v. Unit {0} × (v ≢ w)) x (λ v l. (tt, λ e. omega arith)) h)

-- one constraint that has too many terms
pub not-all_fit : (w : ℕ) (r : Combination) (rows : List (Option Constraint)) (i : ℕ) → row_fits w r (get_or rows i None) ≡ false
    → false ≡ list_all (row_fits w r) rows
not-all_fit w r [] i e = absurd (let no : true ≡ false = e in cc)
not-all_fit w r (row ∷ rows) zero e = ap (λ b. b && list_all (row_fits w r) rows) (sym e)
not-all_fit w r (row ∷ rows) (suc i) e = sym (and_right (row_fits w r row) (list_all (row_fits w r) rows) (sym (not-all_fit w r rows i e)))

-- a constraint without the wire
lacks_each : (w : ℕ) (c : Constraint) → row_has w (Some c) ≡ false → (has_wire w c.a ≡ false) × (has_wire w c.b ≡ false) × (has_wire w c.c ≡ false)
lacks_each w c e =
    let first = or_parts (has_wire w c.a) (has_wire w c.b || has_wire w c.c) e in
    let others = or_parts (has_wire w c.b) (has_wire w c.c) first.1 in
    (first.0, others.0, others.1)

module _ (w : ℕ) (r : Combination) where
  pub row-lacking-fits : (row : Option Constraint) → row_has w row ≡ false → row_fits w r row ≡ true
  row-lacking-fits None e = refl
  row-lacking-fits (Some c) e =
      let lacks = lacks_each w c e in
      rw (fits-lacking w r c.a lacks.0, fits-lacking w r c.b lacks.1, fits-lacking w r c.c lacks.2) refl

  pub row-lacking-same : (row : Option Constraint) → row_has w row ≡ false → option_map (replaced_in w r) row ≡ row
  row-lacking-same None e = refl
  row-lacking-same (Some c) e =
      let lacks = lacks_each w c e in
      ap Some (same_row _ _ _ _ _ _ (replaced-lacking w r c.a (sym lacks.0)) (replaced-lacking w r c.b (sym lacks.1)) (replaced-lacking w r c.c (sym lacks.2)))

  -- once a wire is replaced, it is there no more
  module _ (lacks : has_wire w r ≡ false) where
    lacks-replaced : (x : Combination) → has_wire w (replaced w r x) ≡ false
    lacks-replaced x =
        lacks_over w (replaced w r x)
        (Over-replaced (λ v. Unit {0}) w r x (all_units x) (Over-lacking (λ v. Unit {0}) w r (all_units r) lacks))

    pub replaced-twice : (row : Option Constraint) → option_map (replaced_in w r) (option_map (replaced_in w r) row) ≡ option_map (replaced_in w r) row
    replaced-twice None = refl
    replaced-twice (Some c) =
        let same = λ (x : Combination). replaced-lacking w r (replaced w r x) (sym (lacks-replaced x)) in
        ap Some (same_row _ _ _ _ _ _ (same c.a) (same c.b) (same c.c))

    -- one turn of the loop that replaces
    replaced_seen : (seen : Bool) (row : Option Constraint)
        → option_map (replaced_in w r) (cond seen (option_map (replaced_in w r) row) row) ≡ option_map (replaced_in w r) row
    replaced_seen true row = replaced-twice row
    replaced_seen false row = refl

    changed_here : (rows : List (Option Constraint)) (at : ℕ) →
        get_or (set rows at (option_map (replaced_in w r) (get_or rows at None))) at None ≡ option_map (replaced_in w r) (get_or rows at None)
    changed_here [] at = refl
    changed_here (row ∷ rows) zero = refl
    changed_here (row ∷ rows) (suc at) = changed_here rows at

    -- the constraints at these places are those of the start with the wire replaced, and the others are those of the start
    abbrev pub IsReplacedAt : (rows start : List (Option Constraint)) (places : List ℕ) → Type 0
    IsReplacedAt rows start places = (i : ℕ) → get_or rows i None
        ≡ cond (list_any (λ p. eqb p i) places) (option_map (replaced_in w r) (get_or start i None)) (get_or start i None)

    pub replaced-step : (rows start : List (Option Constraint)) (places : List ℕ) (k at : ℕ) → k < length places → get_or places k 0 ≡ at
        → IsReplacedAt rows start (take k places) → IsReplacedAt (set rows at (option_map (replaced_in w r) (get_or rows at None))) start (take (k + 1) places)
    replaced-step rows start places k at h is before i =
        let next = list_any_more (λ p. eqb p i) places k 0 h in
        let row = get_or start i None in
        elim (cases_eq i at) [
          | inl here ↦
              let now : list_any (λ p. eqb p i) (take (k + 1) places) ≡ true = next
              ∙ or_right (list_any (λ p. eqb p i) (take k places)) (eqb (get_or places k 0) i) (eq-eqb (get_or places k 0) i (is ∙ sym here)) in
              ap (λ j. get_or (set rows at (option_map (replaced_in w r) (get_or rows at None))) j None) here
              ∙ changed_here rows at
              ∙ ap (option_map (replaced_in w r)) (ap (λ j. get_or rows j None) (sym here) ∙ before i)
              ∙ replaced_seen (list_any (λ p. eqb p i) (take k places)) row
              ∙ sym (ap (λ b. cond b (option_map (replaced_in w r) row) row) now)
          | inr apart ↦
              let now : list_any (λ p. eqb p i) (take (k + 1) places) ≡ list_any (λ p. eqb p i) (take k places) =
              next ∙ ap (λ b. list_any (λ p. eqb p i) (take k places) || b) (ne_eqb (get_or places k 0) i (λ e. apart (sym e ∙ is)))
              ∙ or-false (list_any (λ p. eqb p i) (take k places)) in
              get_or-set_other rows at i (option_map (replaced_in w r) (get_or rows at None)) None apart
              ∙ before i
              ∙ sym (ap (λ b. cond b (option_map (replaced_in w r) row) row) now)
        ]

    fits_seen : (seen : Bool) (row : Option Constraint) → row_fits w r row ≡ true → row_fits w r (cond seen (option_map (replaced_in w r) row) row) ≡ true
    fits_seen false row e = e
    fits_seen true None e = refl
    fits_seen true (Some c) e =
        let fit = λ (x : Combination). fits-lacking w r (replaced w r x) (lacks-replaced x) in
        rw (fit c.a, fit c.b, fit c.c) refl

    fits_at : (rows : List (Option Constraint)) (i : ℕ) → list_all (row_fits w r) rows ≡ true → row_fits w r (get_or rows i None) ≡ true
    fits_at [] i all = refl
    fits_at (row ∷ rows) zero all = (and_parts (row_fits w r row) (list_all (row_fits w r) rows) all).0
    fits_at (row ∷ rows) (suc i) all = fits_at rows i (and_parts (row_fits w r row) (list_all (row_fits w r) rows) all).1

    -- a constraint keeps to its most terms also where the wire was replaced in it already
    pub still_fits : (rows start : List (Option Constraint)) (places : List ℕ) (at : ℕ) → list_all (row_fits w r) start ≡ true
        → IsReplacedAt rows start places → row_fits w r (get_or rows at None) ≡ true
    still_fits rows start places at all before =
        ap (row_fits w r) (before at) ∙ fits_seen (list_any (λ p. eqb p at) places) (get_or start at None) (fits_at start at all)

    each_replaced : (b : Bool) (row : Option Constraint) {c : Bool} → c ≡ b → (c ≡ false → row_has w row ≡ false)
        → cond b (option_map (replaced_in w r) row) row ≡ option_map (replaced_in w r) row
    each_replaced true row e lacking = refl
    each_replaced false row e lacking = sym (row-lacking-same row (lacking e))

    pub replaced-all : (rows start : List (Option Constraint)) (places : List ℕ) (k : ℕ) → length places ≤ k → length rows ≡ length start →
        ((i : ℕ) → row_has w (get_or start i None) ≡ true → list_any (λ p. eqb p i) places ≡ true) → IsReplacedAt rows start (take k places) →
        rows ≡ map (option_map (replaced_in w r)) start
    replaced-all rows start places k past each covers before =
        ext_get_or None rows (map (option_map (replaced_in w r)) start) (each ∙ sym (length-map start (option_map (replaced_in w r)))) (λ i h.
        let inside : i < length start = omega arith in
        before i
        ∙ ap (λ xs. cond (list_any (λ p. eqb p i) xs) (option_map (replaced_in w r) (get_or start i None)) (get_or start i None)) (take_all k places past)
        ∙ each_replaced (list_any (λ p. eqb p i) places) (get_or start i None) refl
        (λ e. false_from_ne_true (row_has w (get_or start i None)) (λ has. let both : true ≡ false = sym (covers i has) ∙ e in cc))
        ∙ sym (get_or-map (option_map (replaced_in w r)) start i None None inside))

  -- what is replaced stays normal
  normal-replaced : (x : Combination) → IsNormalFrom 0 x → IsNormalFrom 0 (replaced w r x)
  unfolding replaced
  normal-replaced x n = cond_both (has_wire w x) (normal (without w x ++ scaled (coefficient w x) r)) x (IsNormalFrom 0)
      (λ e. IsNormalFrom-normal (without w x ++ scaled (coefficient w x) r)) (λ e. n)

  pub normal-replaced_row : (row : Option Constraint) → RowIsNormal row → RowIsNormal (option_map (replaced_in w r) row)
  normal-replaced_row None n = tt
  normal-replaced_row (Some c) n = record { a = normal-replaced c.a n.a; b = normal-replaced c.b n.b; c = normal-replaced c.c n.c }

-- a wire of the first terms
pub has_next : (w k : ℕ) (t : ℕ × ℕ) (x : Combination) → k < length x → t ≡ get_or x k t → has_wire w (take (k + 1) x) ≡ (has_wire w (take k x) || eqb t.1 w)
unfolding has_wire
has_next w k t x h at = list_any_more (λ u. eqb u.1 w) x k t h ∙ ap (λ u. list_any (λ v. eqb v.1 w) (take k x) || eqb u.1 w) (sym at)

pub has_at : (k : ℕ) (t : ℕ × ℕ) (x : Combination) → k < length x → t ≡ get_or x k t → has_wire t.1 x ≡ true
unfolding has_wire
has_at k t [] h at = absurd (omega arith)
has_at zero t (u ∷ x) h at = or_left (eqb u.1 t.1) (list_any (λ v. eqb v.1 t.1) x) (eq-eqb u.1 t.1 (ap (λ v. v.1) (sym at)))
has_at (suc k) t (u ∷ x) h at = or_right (eqb u.1 t.1) (list_any (λ v. eqb v.1 t.1) x) (has_at k t x (omega arith) at)

pub over_itself : (x : Combination) → Over (λ w. has_wire w x ≡ true) x
over_itself [] = tt
over_itself (t ∷ x) = (
  found_here t.1 t x refl,
  Over-weaker (λ w. has_wire w x ≡ true) (λ w. has_wire w (t ∷ x) ≡ true) x (λ w e. found_later w t x e) (over_itself x),
)

-- what a row says is 0 is normal
pub form-normal : (row : Option Constraint) (form : Combination) → linear_row row ≡ Some form → IsNormalFrom 0 form
form-normal None form e = absurd (none_some form e)
form-normal (Some c) form e = (Over-linear_form (λ v. Unit {0}) c form (all_units c.a) (all_units c.b) (all_units c.c) e).1

-- the greatest wire is the last
greatest-last_step : (publics : ℕ) (t : ℕ × ℕ) (last : ℕ) → t.1 < last
    → greater_from publics t.1 (cond (ltb last publics) None (Some last)) ≡ cond (ltb last publics) None (Some last)
unfolding greater_from
greatest-last_step publics t last h = by_order (ltb last publics) refl
  where
    by_order : (b : Bool) → ltb last publics ≡ b → greater_from publics t.1 (cond b None (Some last)) ≡ cond b None (Some last)
    by_order true e = let less = ltb-true last publics e in ap (λ b. cond b None (Some t.1)) (lt-ltb t.1 publics (omega arith))
    by_order false e = ap Some (omega arith)

greatest-last : (publics least own w : ℕ) (front : Combination) → IsNormalFrom least (front ++ (own, w) ∷ [])
    → greatest_from publics (front ++ (own, w) ∷ []) ≡ cond (ltb w publics) None (Some w)
unfolding greatest_from greater_from
greatest-last publics least own w [] n = refl
greatest-last publics least own w (t ∷ front) n =
    let rest = parted (t.1 + 1) w own front [] n.3 in
    ap (greater_from publics t.1) (greatest-last publics (t.1 + 1) own w front n.3) ∙ greatest-last_step publics t w (omega (arith, rest.low))

-- the turn of a constraint, by what it says
pub turn-unlinear : (publics at : ℕ) (pass : Pass) → linear_row (get_or pass.rows at None) ≡ None → turn publics pass at ≡ pass
unfolding turn treated
turn-unlinear publics at pass e = ap (λ o. treated publics at o pass) e

pub turn-empty : (publics at : ℕ) (pass : Pass) → linear_row (get_or pass.rows at None) ≡ Some [] → turn publics pass at ≡ dropped at pass
unfolding turn treated
turn-empty publics at pass e = ap (λ o. treated publics at o pass) e

treated-some : (publics at : ℕ) (t : ℕ × ℕ) (front : Combination) (pass : Pass) → treated publics at (Some (front ++ t ∷ [])) pass
    ≡ eliminated at (front ++ t ∷ []) (greatest_from publics (front ++ t ∷ [])) pass
unfolding treated
treated-some publics at t [] pass = refl
treated-some publics at t (u ∷ front) pass = refl

module _ (publics at own w : ℕ) (pass : Pass) (front : Combination) (is : linear_row (get_or pass.rows at None) ≡ Some (front ++ (own, w) ∷ [])) where
  turn-greatest : turn publics pass at ≡ eliminated at (front ++ (own, w) ∷ []) (cond (ltb w publics) None (Some w)) pass
  unfolding turn
  turn-greatest =
      ap (λ o. treated publics at o pass) is
      ∙ treated-some publics at (own, w) front pass
      ∙ ap (λ o. eliminated at (front ++ (own, w) ∷ []) o pass)
      (greatest-last publics 0 own w front (form-normal (get_or pass.rows at None) (front ++ (own, w) ∷ []) is))

  pub turn-public : w < publics → turn publics pass at ≡ pass
  unfolding eliminated
  turn-public below = turn-greatest ∙ ap (λ b. eliminated at (front ++ (own, w) ∷ []) (cond b None (Some w)) pass) (lt-ltb w publics below)

  pub turn-private : publics ≤ w → turn publics pass at ≡ attempted w (solved w (front ++ (own, w) ∷ [])) (dropped at pass) pass
  unfolding eliminated
  turn-private above = turn-greatest ∙ ap (λ b. eliminated at (front ++ (own, w) ∷ []) (cond b None (Some w)) pass) (le-ltb w publics above)

-- one turn of the loop that files a row
module _ (publics : ℕ) (may next : ℕ → ℕ → Bool) (row k : ℕ) (t : ℕ × ℕ) (x : Combination) (h : k < length x) (at : t ≡ get_or x k t)
    (added : (w : ℕ) → publics ≤ w → has_wire w (take k x) ≡ true → may w row ≡ true) where
  pub filed-more : ((w i : ℕ) → may w i ≡ true → next w i ≡ true) → next t.1 row ≡ true →
      (w : ℕ) → publics ≤ w → has_wire w (take (k + 1) x) ≡ true → next w row ≡ true
  filed-more more here w above has =
      elim (or_cases (has_wire w (take k x)) (eqb t.1 w) (sym (has_next w k t x h at) ∙ has)) [
        | inl earlier ↦ more w row (added w above earlier)
        | inr same ↦ subst (λ v. next v row ≡ true) (eqb-true t.1 w same) here
      ]

  pub filed-none : t.1 < publics → (w : ℕ) → publics ≤ w → has_wire w (take (k + 1) x) ≡ true → may w row ≡ true
  filed-none public w above has =
      elim (or_cases (has_wire w (take k x)) (eqb t.1 w) (sym (has_next w k t x h at) ∙ has)) [
        | inl earlier ↦ added w above earlier
        | inr here ↦ absurd (omega (arith, eqb-true t.1 w here))
      ]

-- the terms that were put, from the row that was read
pub form_is : (rows : List (Option Constraint)) (at : ℕ) (row : Option Constraint) (form : Combination) (b c : Bool) → row ≡ get_or rows at None
    → linear_row row ≡ cond b (Some form) None → b ≡ c → linear_row (get_or rows at None) ≡ cond c (Some form) None
form_is rows at row form b c is says e = ap linear_row (sym is) ∙ says ∙ ap (λ linear. cond linear (Some form) None) e

-- and the places name each row that a private wire stands in
module _ (v w : ℕ) (r : Combination) (lacks : has_wire w r ≡ false) where
  has-replaced : (x : Combination) → has_wire v (replaced w r x) ≡ true → (has_wire v x ≡ true) ⊎ (has_wire v r ≡ true)
  has-replaced x has =
      let Q : ℕ → Type 0 = λ u. (has_wire u x ≡ true) ⊎ (has_wire u r ≡ true) in
      let of_x = Over-weaker (λ u. has_wire u x ≡ true) Q x (λ u h. inl h) (over_itself x) in
      let of_r = Over-weaker (λ u. has_wire u r ≡ true) Q r (λ u h. inr h) (over_itself r) in
      (Over-has_wire (λ u. Q u × (u ≢ w)) v (replaced w r x) (Over-replaced Q w r x of_x (Over-lacking Q w r of_r lacks)) has).0

  row_has_replaced : (row : Option Constraint) → row_has v (option_map (replaced_in w r) row) ≡ true → (row_has v row ≡ true) ⊎ (has_wire v r ≡ true)
  row_has_replaced None has = absurd (let no : false ≡ true = has in cc)
  row_has_replaced (Some c) has =
      let a = has_wire v c.a in
      let b = has_wire v c.b in
      let e = has_wire v c.c in
      elim (or_cases (has_wire v (replaced w r c.a)) (has_wire v (replaced w r c.b) || has_wire v (replaced w r c.c)) has) [
        | inl in_a ↦ elim (has-replaced c.a in_a) [ inl own ↦ inl (or_left a (b || e) own) | inr by ↦ inr by ]
        | inr later ↦ elim (or_cases (has_wire v (replaced w r c.b)) (has_wire v (replaced w r c.c)) later) [
          | inl in_b ↦ elim (has-replaced c.b in_b) [ inl own ↦ inl (or_right a (b || e) (or_left b e own)) | inr by ↦ inr by ]
          | inr in_c ↦ elim (has-replaced c.c in_c) [ inl own ↦ inl (or_right a (b || e) (or_right b e own)) | inr by ↦ inr by ]
        ]
      ]

set_cases : (rows : List (Option Constraint)) (at i : ℕ) (row : Option Constraint) → (get_or (set rows at row) i None ≡ get_or rows i None)
    ⊎ ((i ≡ at) × (get_or (set rows at row) i None ≡ row))
set_cases [] at i row = inl refl
set_cases (first ∷ rows) zero zero row = inr (refl, refl)
set_cases (first ∷ rows) zero (suc i) row = inl refl
set_cases (first ∷ rows) (suc at) zero row = inl refl
set_cases (first ∷ rows) (suc at) (suc i) row = elim (set_cases rows at i row) [ inl same ↦ inl same | inr here ↦ inr (ap suc here.0, here.1) ]

pub covers-dropped : (publics at : ℕ) (rows : List (Option Constraint)) (may : ℕ → ℕ → Bool) → Covers publics rows may → Covers publics (set rows at None) may
covers-dropped publics at rows may covers i w above has =
    elim (set_cases rows at i None) [
      | inl same ↦ covers i w above (ap (row_has w) (sym same) ∙ has)
      | inr here ↦ absurd (let no : false ≡ true = sym (ap (row_has w) here.1) ∙ has in cc)
    ]

pub covers-replaced : (publics w at : ℕ) (r : Combination) (rows : List (Option Constraint)) (may : ℕ → ℕ → Bool) → has_wire w r ≡ false
    → Covers publics rows may → ((v : ℕ) → publics ≤ v → has_wire v r ≡ true → may v at ≡ true)
    → Covers publics (set rows at (option_map (replaced_in w r) (get_or rows at None))) may
covers-replaced publics w at r rows may lacks covers added i v above has =
    elim (set_cases rows at i (option_map (replaced_in w r) (get_or rows at None))) [
      | inl own ↦ covers i v above (ap (row_has v) (sym own) ∙ has)
      | inr here ↦
          subst (λ j. may v j ≡ true) (sym here.0)
          (elim (row_has_replaced v w r lacks (get_or rows at None)
          (ap (row_has v) (sym here.1) ∙ has)) [ inl own ↦ covers at v above own | inr by ↦ added v above by ])
    ]

-- all but the one at a place keep to their most terms where those that the wire may stand in do
pub all-fit-there : (w at : ℕ) (r : Combination) (publics : ℕ) (rows : List (Option Constraint)) (may : ℕ → ℕ → Bool) → Covers publics rows may → publics ≤ w
    → ((i : ℕ) → may w i ≡ true → row_fits w r (get_or (set rows at None) i None) ≡ true) → list_all (row_fits w r) (set rows at None) ≡ true
all-fit-there w at r publics rows may covers above fit =
    list_all-from_AllPass (row_fits w r) (set rows at None) (All-from_get_or (λ row. row_fits w r row ≡ true) (set rows at None) None (λ i h.
    elim (cases_Bool (row_has w (get_or (set rows at None) i None))) [
      | inl has ↦ fit i (covers-dropped publics at rows may covers i w above has)
      | inr lacks ↦ row-lacking-fits w r (get_or (set rows at None) i None) lacks
    ]))

pub passed-more : (publics n : ℕ) (pass : Pass)
    → fold (turn publics) pass (range_with_len 0 (n + 1)) ≡ turn publics (fold (turn publics) pass (range_with_len 0 n)) n
passed-more publics n pass =
    ap (λ k. fold (turn publics) pass (range_with_len 0 k)) (add-one n)
    ∙ ap (fold (turn publics) pass) (range-more 0 n)
    ∙ fold_push (turn publics) pass (range_with_len 0 n) (0 + n)
    ∙ ap (turn publics (fold (turn publics) pass (range_with_len 0 n))) (omega arith)
