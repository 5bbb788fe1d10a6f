-- Constraints that hold by constants make no difference to a pass: what is left of the others is the same without them.
use Rattle.tv_core.proofs.Common.{◌≡◌, ◌⊎◌, ℕ, zero, suc, ◌+◌, ◌-◌, ◌*◌, ◌%◌, ◌<◌, ◌≤◌, Bool, List, ◌∷◌, ◌++◌, Option, Some, None, refl, sym, ◌∙◌, ap, ap₂}
use Rattle.tv_core.proofs.Common.{arith, subst, [], inl, inr, true, false, cond, map, length, range_with_len, append_assoc, append-nil, length-append}
use Rattle.tv_core.proofs.Common.{length-map, slice_index, value, value-cons, scaled, Assigns, Combination, Constraint, normal, IsNormalFrom}
use Rattle.std.proofs.Common.{◌&&◌, eqb, eqb-true}
use Rattle.std.specs.List.{filter_map, fold, list_all}
use Rattle.std.specs.Option.{option_map}
use Rattle.std.proofs.Math.Seq.{get_or-append_seam, set-append_seam}
use Rattle.std.proofs.lemmas.Bool.{and_parts, cases_Bool}
use Rattle.std.proofs.lemmas.List.{map-append}
use Rattle.std.proofs.lemmas.List.Elements.{filter_map-append, All-from_recursion}
use Rattle.std.proofs.lemmas.List.Folds.{list_all-append}
use Rattle.tv_core.specs.Constraints.{Holds}
use Rattle.tv_core.specs.declared.field.TheConstants.{P}
use Rattle.tv_core.specs.Normal.{coefficient, normal_constraint}
use Rattle.tv_core.proofs.NormalLaws.{Over}
use Rattle.tv_shrink.specs.Answers.{holds_by_constants, start_rows}
use Rattle.tv_shrink.specs.Pass.{Pass, all_replaced, attempted, dropped, eliminated, linear_row, row_fits, substituted, treated, turn}
use Rattle.tv_shrink.specs.Substitution.{constant_in, fits_in, greatest_from, has_wire, linear_form, replaced_in, solved}
use Rattle.tv_shrink.specs.Tidy.{pass_of}
use Rattle.tv_shrink.proofs.Linear.{fits-lacking, linear-first, replaced-lacking}
use Rattle.tv_shrink.proofs.ReplacingLaws.{greatest_is, value-constant_in, zero_where_holds, Over-has_wire, Over-linear_form}
use Rattle.tv_shrink.proofs.Spans.{same_row}

-- no wire but wire 0 stands in a combination
abbrev IsConstant : Combination → Type 0
IsConstant x = list_all (λ t. eqb t.1 0) x ≡ true

over_zero : (x : Combination) → IsConstant x → Over (λ v. v ≡ 0) x
over_zero [] e = tt
over_zero (t ∷ x) e = let both = and_parts _ _ e in (eqb-true t.1 0 both.0, over_zero x both.1)

lacks : (w : ℕ) (x : Combination) → 0 < w → IsConstant x → has_wire w x ≡ false
lacks w x some e =
    elim (cases_Bool (has_wire w x)) [
      | inl has ↦ absurd (omega (arith, Over-has_wire (λ v. v ≡ 0) w x (over_zero x e) has))
      | inr none ↦ none
    ]

constant_is : (x : Combination) → IsConstant x → constant_in x ≡ Some (coefficient 0 x)
unfolding constant_in
constant_is x e = ap (λ b. cond b (Some (coefficient 0 x)) None) e

-- of wire 0 alone, and 0 where it is 1
abbrev one : List ℕ
one = 1 ∷ []

assigns_one : Assigns one
assigns_one = record { below = All-from_recursion (λ v. v < P) one (omega arith, tt); one = refl }

none_left : (x : Combination) → Over (λ v. v ≡ 0) x × IsNormalFrom 0 x → value x one ≡ 0 → x ≡ []
none_left [] h e = refl
none_left (t ∷ []) h e =
    let first : value (t ∷ []) one ≡ (t.0 * slice_index one 0 + 0) % P = value-cons t.0 t.1 [] one
    ∙ ap (λ w. (t.0 * slice_index one w + 0) % P) h.0.0 in
    absurd (omega (arith, first, e, h.1.1, h.1.2))
none_left (t ∷ u ∷ x) h e = absurd (omega (arith, h.0.1.0, h.1.3.0))

-- a constraint that holds by constants says nothing, and stays as it is
module _ (c : Constraint) (e : holds_by_constants c ≡ true) where
  parts : IsConstant c.a × (IsConstant c.b × IsConstant c.c) × (coefficient 0 c.a * coefficient 0 c.b % P ≡ coefficient 0 c.c)
  parts =
      let is_zero : (ℕ × ℕ) → Bool = λ t. eqb t.1 0 in
      let both = and_parts _ _ e in
      let all = and_parts _ _ (sym (list_all-append is_zero c.a (c.b ++ c.c)) ∙ both.0) in
      (all.0, and_parts _ _ (sym (list_all-append is_zero c.b c.c) ∙ all.1), eqb-true _ _ both.1)

  nothing_said : linear_form c ≡ Some []
  nothing_said =
      let out = normal (scaled (coefficient 0 c.a) c.b ++ scaled (P - 1) c.c) in
      let says : linear_form c ≡ Some out = linear-first c (coefficient 0 c.a) out (constant_is c.a parts.0) refl in
      let is = λ (x : Combination) (k : IsConstant x). value-constant_in one assigns_one x (coefficient 0 x) (constant_is x k) in
      let holds : Holds c one = ap₂ (λ m n. m * n % P) (is c.a parts.0) (is c.b parts.1.0) ∙ parts.2 ∙ sym (is c.c parts.1.1) in
      says ∙ ap Some (none_left out (Over-linear_form (λ v. v ≡ 0) c out (over_zero c.a parts.0) (over_zero c.b parts.1.0) (over_zero c.c parts.1.1) says)
      (zero_where_holds one assigns_one c out says holds))

  module _ (w : ℕ) (some : 0 < w) (r : Combination) where
    still_fits : fits_in w r c ≡ true
    still_fits = rw (
      fits-lacking w r c.a (lacks w c.a some parts.0),
      fits-lacking w r c.b (lacks w c.b some parts.1.0),
      fits-lacking w r c.c (lacks w c.c some parts.1.1),
    ) refl

    still_same : replaced_in w r c ≡ c
    still_same =
        let same = λ (x : Combination) (k : IsConstant x). replaced-lacking w r x (sym (lacks w x some k)) in
        same_row _ _ _ c.a c.b c.c (same c.a parts.0) (same c.b parts.1.0) (same c.c parts.1.1)

-- the constraints that were not dropped, and those of them that don't hold by constants
abbrev somes : List (Option Constraint) → List Constraint
somes rows = filter_map (λ row. row) rows

abbrev solid : List (Option Constraint) → List Constraint
solid [] = []
solid (None ∷ rows) = solid rows
solid (Some c ∷ rows) = cond (holds_by_constants c) (solid rows) (c ∷ solid rows)

module _ (w : ℕ) (r : Combination) where
  somes_fit : (rows : List (Option Constraint)) → list_all (row_fits w r) rows ≡ list_all (fits_in w r) (somes rows)
  somes_fit [] = refl
  somes_fit (None ∷ rows) = somes_fit rows
  somes_fit (Some c ∷ rows) = ap (λ b. fits_in w r c && b) (somes_fit rows)

  somes_replaced : (rows : List (Option Constraint)) → somes (all_replaced w r rows) ≡ map (replaced_in w r) (somes rows)
  somes_replaced [] = refl
  somes_replaced (None ∷ rows) = somes_replaced rows
  somes_replaced (Some c ∷ rows) = ap (λ rest. replaced_in w r c ∷ rest) (somes_replaced rows)

module _ (w : ℕ) (some : 0 < w) (r : Combination) where
  solid_fit : (rows : List (Option Constraint)) → list_all (row_fits w r) rows ≡ list_all (fits_in w r) (solid rows)
  solid_fit [] = refl
  solid_fit (None ∷ rows) = solid_fit rows
  solid_fit (Some c ∷ rows) =
      elim (cases_Bool (holds_by_constants c)) [
        | inl idle ↦
            ap (λ b. b && list_all (row_fits w r) rows) (still_fits c idle w some r)
            ∙ solid_fit rows
            ∙ ap (λ b. list_all (fits_in w r) (cond b (solid rows) (c ∷ solid rows))) (sym idle)
        | inr full ↦
            ap (λ b. fits_in w r c && b) (solid_fit rows) ∙ ap (λ b. list_all (fits_in w r) (cond b (solid rows) (c ∷ solid rows))) (sym full)
      ]

  solid_replaced : (rows : List (Option Constraint)) → solid (all_replaced w r rows) ≡ solid (map (λ c. Some (replaced_in w r c)) (solid rows))
  solid_replaced [] = refl
  solid_replaced (None ∷ rows) = solid_replaced rows
  solid_replaced (Some c ∷ rows) =
      let next = replaced_in w r c in
      let rest = solid (all_replaced w r rows) in
      elim (cases_Bool (holds_by_constants c)) [
        | inl idle ↦
            ap (λ d. cond (holds_by_constants d) rest (d ∷ rest)) (still_same c idle w some r)
            ∙ ap (λ b. cond b rest (c ∷ rest)) idle
            ∙ solid_replaced rows
            ∙ ap (λ b. solid (map (λ d. Some (replaced_in w r d)) (cond b (solid rows) (c ∷ solid rows)))) (sym idle)
        | inr full ↦
            ap (λ list. cond (holds_by_constants next) list (next ∷ list)) (solid_replaced rows)
            ∙ ap (λ b. solid (map (λ d. Some (replaced_in w r d)) (cond b (solid rows) (c ∷ solid rows)))) (sym full)
      ]

-- a pass at the turn of a row: those that had theirs, and those that will
record Cut : Type 0 where
  done : List (Option Constraint)
  row : Option Constraint
  todo : List (Option Constraint)
  gone : List ℕ

abbrev whole : Cut → Pass
whole cut = pass_of (cut.done ++ cut.row ∷ cut.todo) cut.gone

-- the turn, by these parts
abbrev emptied : Cut → Cut
emptied cut = record { done = cut.done; row = None; todo = cut.todo; gone = cut.gone }

abbrev substituted_cut : ℕ → Combination → Cut → Cut
substituted_cut w r cut = record { done = all_replaced w r cut.done; row = None; todo = all_replaced w r cut.todo; gone = cut.gone ++ w ∷ [] }

abbrev all_fit : ℕ → Combination → Cut → Bool
all_fit w r cut = list_all (row_fits w r) cut.done && list_all (row_fits w r) cut.todo

abbrev eliminated_cut : Combination → Option ℕ → Cut → Cut
eliminated_cut x None cut = cut
eliminated_cut x (Some w) cut = cond (all_fit w (solved w x) cut) (substituted_cut w (solved w x) cut) cut

abbrev step : ℕ → Option Combination → Cut → Cut
step publics None cut = cut
step publics (Some []) cut = emptied cut
step publics (Some (t ∷ x)) cut = eliminated_cut (t ∷ x) (greatest_from publics (t ∷ x)) cut

dropped_is : (cut : Cut) → dropped (length cut.done) (whole cut) ≡ whole (emptied cut)
unfolding dropped
dropped_is cut = ap (λ rows. pass_of rows cut.gone) (set-append_seam cut.done cut.row cut.todo None)

substituted_is : (w : ℕ) (r : Combination) (cut : Cut) → substituted w r (whole (emptied cut)) ≡ whole (substituted_cut w r cut)
unfolding substituted
substituted_is w r cut = ap (λ rows. pass_of rows (cut.gone ++ w ∷ [])) (map-append (option_map (replaced_in w r)) cut.done (None ∷ cut.todo))

whole_either : (b : Bool) (x y : Cut) → cond b (whole x) (whole y) ≡ whole (cond b x y)
whole_either true x y = refl
whole_either false x y = refl

eliminated_is : (x : Combination) (o : Option ℕ) (cut : Cut) → eliminated (length cut.done) x o (whole cut) ≡ whole (eliminated_cut x o cut)
unfolding eliminated attempted
eliminated_is x None cut = refl
eliminated_is x (Some w) cut =
    let r = solved w x in
    ap (λ (pass : Pass). cond (list_all (row_fits w r) pass.rows) (substituted w r pass) (whole cut)) (dropped_is cut)
    ∙ ap₂ (λ b pass. cond b pass (whole cut)) (list_all-append (row_fits w r) cut.done (None ∷ cut.todo)) (substituted_is w r cut)
    ∙ whole_either (all_fit w r cut) (substituted_cut w r cut) cut

treated_is : (publics : ℕ) (o : Option Combination) (cut : Cut) → treated publics (length cut.done) o (whole cut) ≡ whole (step publics o cut)
unfolding treated
treated_is publics None cut = refl
treated_is publics (Some []) cut = dropped_is cut
treated_is publics (Some (t ∷ x)) cut = eliminated_is (t ∷ x) (greatest_from publics (t ∷ x)) cut

turn_is : (publics : ℕ) (cut : Cut) → turn publics (whole cut) (length cut.done) ≡ whole (step publics (linear_row cut.row) cut)
unfolding turn
turn_is publics cut =
    ap (λ row. treated publics (length cut.done) (linear_row row) (whole cut)) (get_or-append_seam cut.done cut.row cut.todo None)
    ∙ treated_is publics (linear_row cut.row) cut

-- each part has as many rows as before
abbrev HasSize : Cut → Cut → Type 0
HasSize cut new = (length new.done ≡ length cut.done) × (length new.todo ≡ length cut.todo)

size_either : (b : Bool) (cut x y : Cut) → HasSize cut x → HasSize cut y → HasSize cut (cond b x y)
size_either true cut x y h k = h
size_either false cut x y h k = k

eliminated_size : (x : Combination) (o : Option ℕ) (cut : Cut) → HasSize cut (eliminated_cut x o cut)
eliminated_size x None cut = (refl, refl)
eliminated_size x (Some w) cut =
    let r = solved w x in
    size_either (all_fit w r cut) cut (substituted_cut w r cut) cut
    (length-map cut.done (option_map (replaced_in w r)), length-map cut.todo (option_map (replaced_in w r))) (refl, refl)

step_size : (publics : ℕ) (o : Option Combination) (cut : Cut) → HasSize cut (step publics o cut)
step_size publics None cut = (refl, refl)
step_size publics (Some []) cut = (refl, refl)
step_size publics (Some (t ∷ x)) cut = eliminated_size (t ∷ x) (greatest_from publics (t ∷ x)) cut

-- the turns of the rows that will have theirs
abbrev turns : ℕ → List (Option Constraint) → List (Option Constraint) → List ℕ → Pass
turns publics done todo gone = fold (turn publics) (pass_of (done ++ todo) gone) (range_with_len (length done) (length todo))

abbrev after : ℕ → Cut → Pass
after publics cut = turns publics (cut.done ++ cut.row ∷ []) cut.todo cut.gone

next : (publics : ℕ) (cut : Cut) → turns publics cut.done (cut.row ∷ cut.todo) cut.gone ≡ after publics (step publics (linear_row cut.row) cut)
next publics cut =
    let new = step publics (linear_row cut.row) cut in
    let size = step_size publics (linear_row cut.row) cut in
    let first : length cut.done + 1 ≡ length (new.done ++ new.row ∷ []) = omega (arith, size.0, length-append new.done (new.row ∷ [])) in
    ap (λ pass. fold (turn publics) pass (range_with_len (length cut.done + 1) (length cut.todo))) (turn_is publics cut)
    ∙ ap₂ (λ rows places. fold (turn publics) (pass_of rows new.gone) places) (sym (append_assoc new.done (new.row ∷ []) new.todo))
    (ap₂ range_with_len first (sym size.1))

-- two passes whose rows differ in constraints that hold by constants, and in those that were dropped
record Alike (x y : Cut) : Type 0 where
  done : somes x.done ≡ somes y.done
  row : x.row ≡ y.row
  todo : solid x.todo ≡ solid y.todo
  gone : x.gone ≡ y.gone

alike_either : (b d : Bool) (x y v w : Cut) → b ≡ d → Alike x v → Alike y w → Alike (cond b x y) (cond d v w)
alike_either true true x y v w e h k = h
alike_either false false x y v w e h k = k
alike_either true false x y v w e h k = absurd (cc)
alike_either false true x y v w e h k = absurd (cc)

eliminated_alike : (x : Combination) (o : Option ℕ) (cut other : Cut) → ((w : ℕ) → o ≡ Some w → 0 < w) → Alike cut other
    → Alike (eliminated_cut x o cut) (eliminated_cut x o other)
eliminated_alike x None cut other private alike = alike
eliminated_alike x (Some w) cut other private alike =
    let r = solved w x in
    let some = private w refl in
    alike_either (all_fit w r cut) (all_fit w r other) (substituted_cut w r cut) cut (substituted_cut w r other) other
    (ap₂ (λ b d. b && d)
    (somes_fit w r cut.done ∙ ap (list_all (fits_in w r)) alike.done ∙ sym (somes_fit w r other.done))
    (solid_fit w some r cut.todo ∙ ap (list_all (fits_in w r)) alike.todo ∙ sym (solid_fit w some r other.todo)))
    (record {
      done = somes_replaced w r cut.done ∙ ap (map (replaced_in w r)) alike.done ∙ sym (somes_replaced w r other.done);
      row = refl;
      todo = solid_replaced w some r cut.todo
          ∙ ap (λ list. solid (map (λ c. Some (replaced_in w r c)) list)) alike.todo
          ∙ sym (solid_replaced w some r other.todo);
      gone = ap (λ list. list ++ w ∷ []) alike.gone;
    }) alike

step_alike : (publics : ℕ) → 0 < publics → (o : Option Combination) (cut other : Cut) → Alike cut other → Alike (step publics o cut) (step publics o other)
step_alike publics some None cut other alike = alike
step_alike publics some (Some []) cut other alike = record { done = alike.done; row = refl; todo = alike.todo; gone = alike.gone }
step_alike publics some (Some (t ∷ x)) cut other alike =
    eliminated_alike (t ∷ x) (greatest_from publics (t ∷ x)) cut other (λ w e. omega (arith, some, (greatest_is publics w (t ∷ x) e).0)) alike

-- passes over rows that hold by constants: they end, or come to one that doesn't
record Ended (publics : ℕ) (done todo : List (Option Constraint)) (gone : List ℕ) : Type 0 where
  none : solid todo ≡ []
  rows : somes (turns publics done todo gone).rows ≡ somes done
  same : (turns publics done todo gone).gone ≡ gone

record Found (publics : ℕ) (before todo : List (Option Constraint)) (gone : List ℕ) : Type 0 where
  done : List (Option Constraint)
  row : Constraint
  later : List (Option Constraint)
  ran : turns publics before todo gone ≡ turns publics done (Some row ∷ later) gone
  same : somes done ≡ somes before
  is : solid todo ≡ row ∷ solid later
  fewer : length later < length todo

module _ (publics : ℕ) (gone : List ℕ) where
  passed_over : (done : List (Option Constraint)) (row : Option Constraint) (todo : List (Option Constraint))
      → step publics (linear_row row) (record { done = done; row = row; todo = todo; gone = gone })
      ≡ record { done = done; row = None; todo = todo; gone = gone }
      → solid (row ∷ todo) ≡ solid todo
      → Ended publics (done ++ None ∷ []) todo gone ⊎ Found publics (done ++ None ∷ []) todo gone
      → Ended publics done (row ∷ todo) gone ⊎ Found publics done (row ∷ todo) gone
  passed_over done row todo turned same rest =
      let cut : Cut = record { done = done; row = row; todo = todo; gone = gone } in
      let on = next publics cut ∙ ap (after publics) turned in
      let none : somes (done ++ None ∷ []) ≡ somes done = filter_map-append (λ r. r) done (None ∷ []) ∙ append-nil (somes done) in
      elim rest [
        | inl e ↦ inl (record {
          none = same ∙ e.none;
          rows = ap (λ (pass : Pass). somes pass.rows) on ∙ e.rows ∙ none;
          same = ap (λ (pass : Pass). pass.gone) on ∙ e.same;
        })
        | inr f ↦ inr (record {
          done = f.done;
          row = f.row;
          later = f.later;
          ran = on ∙ f.ran;
          same = f.same ∙ none;
          is = same ∙ f.is;
          fewer = omega (arith, f.fewer);
        })
      ]

  front : (done todo : List (Option Constraint)) → Ended publics done todo gone ⊎ Found publics done todo gone
  front done [] = inl (record { none = refl; rows = ap somes (append-nil done); same = refl })
  front done (None ∷ todo) = passed_over done None todo refl refl (front (done ++ None ∷ []) todo)
  front done (Some c ∷ todo) =
      elim (cases_Bool (holds_by_constants c)) [
        | inl idle ↦
            passed_over done (Some c) todo
            (ap (λ o. step publics o (record { done = done; row = Some c; todo = todo; gone = gone })) (nothing_said c idle))
            (ap (λ b. cond b (solid todo) (c ∷ solid todo)) idle) (front (done ++ None ∷ []) todo)
        | inr full ↦ inr (record {
          done = done;
          row = c;
          later = todo;
          ran = refl;
          same = refl;
          is = ap (λ b. cond b (solid todo) (c ∷ solid todo)) full;
          fewer = omega arith;
        })
      ]

-- the same constraints are left, and the same wires are gone
abbrev pub Leave : Pass → Pass → Type 0
Leave x y = (filter_map (λ row. row) x.rows ≡ filter_map (λ row. row) y.rows) × (x.gone ≡ y.gone)

same_leave : (a b x y : Pass) → a ≡ x → b ≡ y → Leave x y → Leave a b
same_leave a b x y e k h = rw (e, k) h

unlike : (c : Constraint) (list : List Constraint) → [] ≡ c ∷ list → ⊥
unlike c list e = cc

decided : (publics : ℕ) (done todo other rest : List (Option Constraint)) (gone lost : List ℕ) → somes done ≡ somes other → solid todo ≡ solid rest
    → gone ≡ lost
    → ((f : Found publics done todo gone) (h : Found publics other rest lost) → Leave (turns publics done todo gone) (turns publics other rest lost))
    → Leave (turns publics done todo gone) (turns publics other rest lost)
decided publics done todo other rest gone lost same alike goes both =
    elim (front publics gone done todo) [
      | inl e ↦ elim (front publics lost other rest) [
        | inl k ↦ (e.rows ∙ same ∙ sym k.rows, e.same ∙ goes ∙ sym k.same)
        | inr h ↦ absurd (unlike h.row (solid h.later) (sym e.none ∙ alike ∙ h.is))
      ]
      | inr f ↦ elim (front publics lost other rest) [
        | inl k ↦ absurd (unlike f.row (solid f.later) (sym k.none ∙ sym alike ∙ f.is))
        | inr h ↦ both f h
      ]
    ]

somes_last : (x y : Cut) → Alike x y → somes (x.done ++ x.row ∷ []) ≡ somes (y.done ++ y.row ∷ [])
somes_last x y alike =
    filter_map-append (λ r. r) x.done (x.row ∷ [])
    ∙ ap₂ (λ front row. front ++ somes (row ∷ [])) alike.done alike.row
    ∙ sym (filter_map-append (λ r. r) y.done (y.row ∷ []))

same_first : (c d : Constraint) (x y : List Constraint) → (let left = c ∷ x in left) ≡ d ∷ y → (c ≡ d) × (x ≡ y)
same_first c d x y e = (cc, cc)

same_turns : (n publics : ℕ) → 0 < publics → (done todo other rest : List (Option Constraint)) (gone lost : List ℕ) → length todo ≤ n → somes done ≡ somes other
    → solid todo ≡ solid rest → gone ≡ lost → Leave (turns publics done todo gone) (turns publics other rest lost)
same_turns zero publics some done todo other rest gone lost within same alike goes =
    decided publics done todo other rest gone lost same alike goes (λ f h. absurd (omega (arith, f.fewer)))
same_turns (suc n) publics some done todo other rest gone lost within same alike goes =
    decided publics done todo other rest gone lost same alike goes (λ f h.
    let parts = same_first f.row h.row (solid f.later) (solid h.later) (sym f.is ∙ alike ∙ h.is) in
    let cut : Cut = record { done = f.done; row = Some f.row; todo = f.later; gone = gone } in
    let twin : Cut = record { done = h.done; row = Some h.row; todo = h.later; gone = lost } in
    let x = step publics (linear_form f.row) cut in
    let y = step publics (linear_form h.row) twin in
    let begins : Alike cut twin = record { done = f.same ∙ same ∙ sym h.same; row = ap Some parts.0; todo = parts.1; gone = goes } in
    let ends : Alike x y = subst (λ o. Alike x (step publics o twin)) (ap linear_form parts.0) (step_alike publics some (linear_form f.row) cut twin begins) in
    let size = step_size publics (linear_form f.row) cut in
    same_leave _ _ (after publics x) (after publics y) (f.ran ∙ next publics cut) (h.ran ∙ next publics twin)
    (same_turns n publics some (x.done ++ x.row ∷ []) x.todo (y.done ++ y.row ∷ []) y.todo x.gone y.gone (omega (arith, size.1, f.fewer))
    (somes_last x y ends) ends.todo ends.gone))

solid_start : (list : List Constraint) → solid (map (λ c. Some (normal_constraint c)) list) ≡ solid (start_rows list)
solid_start [] = refl
solid_start (d ∷ list) =
    let c = normal_constraint d in
    let all = solid (map (λ e. Some (normal_constraint e)) list) in
    let kept = solid (start_rows list) in
    elim (cases_Bool (holds_by_constants c)) [
      | inl idle ↦
          ap (λ b. cond b all (c ∷ all)) idle ∙ solid_start list ∙ ap (λ b. solid (cond b [] (Some c ∷ []) ++ start_rows list)) (sym idle)
      | inr full ↦
          ap (λ b. cond b all (c ∷ all)) full
          ∙ ap (λ rest. c ∷ rest) (solid_start list)
          ∙ sym (ap (λ b. cond b kept (c ∷ kept)) full)
          ∙ ap (λ b. solid (cond b [] (Some c ∷ []) ++ start_rows list)) (sym full)
    ]

-- a pass over a list's constraints leaves what a pass without those that hold by constants does
pub constants_aside : (publics : ℕ) → 0 < publics → (list : List Constraint) → (let all = map (λ c. Some (normal_constraint c)) list in
    Leave (fold (turn publics) (pass_of all []) (range_with_len 0 (length all)))
    (fold (turn publics) (pass_of (start_rows list) []) (range_with_len 0 (length (start_rows list)))))
constants_aside publics some list =
    let all = map (λ c. Some (normal_constraint c)) list in
    same_turns (length all) publics some [] all [] (start_rows list) [] [] (omega arith) refl (solid_start list) refl
