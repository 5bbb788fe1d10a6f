-- A pass keeps a system's solutions: what it leaves says the same of the wires that are not gone.
use Rattle.tv_core.proofs.Common.{◌≡◌, ◌≢◌, ℕ, zero, suc, ◌*◌, ◌%◌, ◌<◌, ◌≤◌, List, ◌∷◌, Option, Some, None, refl, sym, ◌∙◌, ap, ap₂, subst, arith, [], ◌++◌}
use Rattle.tv_core.proofs.Common.{true, false, inl, inr, map, length, get_or, set, slice_index, cond_both, cases_eq, value-below, Combination, Constraint}
use Rattle.tv_core.proofs.Common.{value, Assigns, IsNormalFrom}
use Rattle.std.proofs.Common.{◌||◌, eqb, eqb-true, ne_eqb, get_or-set_other, get_or-set_same, length-set}
use Rattle.std.specs.List.{AllByRecursion, list_all, fold}
use Rattle.std.specs.Option.{option_map}
use Rattle.std.proofs.lemmas.Bool.{eqb-false, or_cases, or_from, or_parts}
use Rattle.std.proofs.lemmas.List.Folds.{list_any-append}
use Rattle.std.proofs.Math.Bool.{or-false}
use Rattle.std.proofs.lemmas.List.Elements.{All-set}
use Rattle.tv_core.specs.Constraints.{Holds}
use Rattle.tv_core.specs.declared.field.TheConstants.{P}
use Rattle.tv_shrink.specs.Substitution.{linear_form, greatest_from, solved, replaced, replaced_in}
use Rattle.tv_shrink.specs.Pass.{Pass, dropped, substituted, row_fits, attempted, eliminated, treated, linear_row, turn}
use Rattle.tv_core.proofs.NormalLaws.{Over, Over-weaker, value-local}
use Rattle.tv_shrink.proofs.Elements.{each_at, each_set}
use Rattle.tv_shrink.proofs.Labels.{is_gone}
use Rattle.tv_shrink.proofs.ReplacingLaws.{value-replaced, solved-from_zero, zero-from_solved, holds_where_zero, zero_where_holds, Over-linear_form}
use Rattle.tv_shrink.proofs.ReplacingLaws.{Over-solved, Over-replaced, Over-has_wire, greatest_is, coefficient-apart}

-- what holds of the wires of a constraint, where it was not dropped
abbrev pub RowOver : (ℕ → Type 0) → Option Constraint → Type 0
RowOver Q None = Unit {0}
RowOver Q (Some c) = Over Q c.a × Over Q c.b × Over Q c.c

abbrev pub RowsOver : (ℕ → Type 0) → List (Option Constraint) → Type 0
RowsOver Q rows = AllByRecursion (RowOver Q) rows

-- an assignment meets a constraint, where it was not dropped
abbrev pub RowHolds : List ℕ → Option Constraint → Type 0
RowHolds z None = Unit {0}
RowHolds z (Some c) = Holds c z

abbrev pub RowsHold : List ℕ → List (Option Constraint) → Type 0
RowsHold z rows = AllByRecursion (RowHolds z) rows

-- what holds of all rows before one was dropped
rows_back : (R : Option Constraint → Type 0) (rows : List (Option Constraint)) (i : ℕ) → AllByRecursion R (set rows i None) → R (get_or rows i None)
    → AllByRecursion R rows
rows_back R [] i h here = tt
rows_back R (row ∷ rows) zero h here = (here, h.1)
rows_back R (row ∷ rows) (suc i) h here = (h.0, rows_back R rows i h.1 here)

-- what holds of all rows once each is changed
module _ (R S : Option Constraint → Type 0) (change : Option Constraint → Option Constraint) (turns : (row : Option Constraint) → R row → S (change row)) where
  pub rows_changed : (rows : List (Option Constraint)) → AllByRecursion R rows → AllByRecursion S (map change rows)
  rows_changed [] h = tt
  rows_changed (row ∷ rows) h = (turns row h.0, rows_changed rows h.1)

module _ (R S : Option Constraint → Type 0) (change : Option Constraint → Option Constraint) (turns : (row : Option Constraint) → R (change row) → S row) where
  pub rows_unchanged : (rows : List (Option Constraint)) → AllByRecursion R (map change rows) → AllByRecursion S rows
  rows_unchanged [] h = tt
  rows_unchanged (row ∷ rows) h = (turns row h.0, rows_unchanged rows h.1)

-- a constraint whose combinations have the same values holds as well
pub same_holds : (c d : Constraint) (y z : List ℕ) → value c.a y ≡ value d.a z → value c.b y ≡ value d.b z → value c.c y ≡ value d.c z → Holds c y → Holds d z
same_holds c d y z a b e h = ap₂ (λ m n. m * n % P) (sym a) (sym b) ∙ h ∙ e

-- a row under another assignment that agrees at its wires
row_local : (Q : ℕ → Type 0) (y z : List ℕ) → ((v : ℕ) → Q v → slice_index y v ≡ slice_index z v) → (row : Option Constraint) → RowOver Q row × RowHolds y row
    → RowHolds z row
row_local Q y z same None h = tt
row_local Q y z same (Some c) h =
    same_holds c c y z (value-local Q y z c.a h.0.0 same) (value-local Q y z c.b h.0.1 same) (value-local Q y z c.c h.0.2 same) h.1

rows_local : (Q : ℕ → Type 0) (y z : List ℕ) → ((v : ℕ) → Q v → slice_index y v ≡ slice_index z v) → (rows : List (Option Constraint)) → RowsOver Q rows
    → RowsHold y rows → RowsHold z rows
rows_local Q y z same [] h k = tt
rows_local Q y z same (row ∷ rows) h k = (row_local Q y z same row (h.0, k.0), rows_local Q y z same rows h.1 k.1)

-- a wire that there is, and that is not gone
abbrev pub Stays : ℕ → List ℕ → ℕ → Type 0
Stays wires gone v = (v < wires) × (is_gone gone v ≡ false)

-- two assignments agree at the wires that are not gone
abbrev pub Agree : List ℕ → List ℕ → List ℕ → Type 0
Agree gone y z = (v : ℕ) → is_gone gone v ≡ false → slice_index y v ≡ slice_index z v

-- an assignment from one that meets the rows that are left to one that meets those of the start
pub record Extended (start : List (Option Constraint)) (wires : ℕ) (gone z : List ℕ) : Type 0 where
  pub y : List ℕ
  pub assigns : Assigns y
  pub each : length y ≡ wires
  pub holds : RowsHold y start
  pub agree : Agree gone y z

-- the rows that are left are of wires that are not gone, which are private, and have the solutions of the start
pub record Sound (start : List (Option Constraint)) (wires publics : ℕ) (pass : Pass) : Type 0 where
  pub over : RowsOver (Stays wires pass.gone) pass.rows
  pub private : (v : ℕ) → is_gone pass.gone v ≡ true → publics ≤ v
  pub down : (z : List ℕ) → Assigns z → RowsHold z start → RowsHold z pass.rows
  pub up : (z : List ℕ) → Assigns z → length z ≡ wires → RowsHold z pass.rows → Extended start wires pass.gone z
  pub unique : (y z : List ℕ) → Assigns y → Assigns z → RowsHold y start → RowsHold z start → Agree pass.gone y z → (v : ℕ) → slice_index y v ≡ slice_index z v

-- one number of an assignment changed
Assigns-set : (z : List ℕ) (w n : ℕ) → Assigns z → 0 < w → n < P → Assigns (set z w n)
Assigns-set z w n assigns h small = record {
  below = All-set (λ v. v < P) z w n small assigns.below;
  one = get_or-set_other z w 0 n 0 (λ e. omega arith) ∙ assigns.one;
}

module _ (start : List (Option Constraint)) (wires publics : ℕ) (positive : 0 < publics) where
  -- a row that says nothing is dropped
  dropped-sound : (i : ℕ) (c : Constraint) (pass : Pass) → get_or pass.rows i None ≡ Some c → linear_form c ≡ Some [] → Sound start wires publics pass
      → Sound start wires publics (dropped i pass)
  unfolding dropped
  dropped-sound i c pass at says sound = record {
    over = each_set (RowOver (Stays wires pass.gone)) pass.rows i None tt sound.over;
    private = sound.private;
    down = λ z assigns h. each_set (RowHolds z) pass.rows i None tt (sound.down z assigns h);
    up = λ z assigns each h. sound.up z assigns each (rows_back (RowHolds z) pass.rows i h
        (subst (RowHolds z) (sym at) (holds_where_zero z assigns c [] says refl)));
    unique = sound.unique;
  }

  module _ (i w : ℕ) (c : Constraint) (lin : Combination) (pass : Pass) (at : get_or pass.rows i None ≡ Some c) (says : linear_form c ≡ Some lin)
      (greatest : greatest_from publics lin ≡ Some w) (sound : Sound start wires publics pass) where
    row_over : Over (Stays wires pass.gone) c.a × Over (Stays wires pass.gone) c.b × Over (Stays wires pass.gone) c.c
    row_over = subst (RowOver (Stays wires pass.gone)) at (each_at (RowOver (Stays wires pass.gone)) pass.rows i None tt sound.over)

    lin_over : Over (Stays wires pass.gone) lin × IsNormalFrom 0 lin
    lin_over = Over-linear_form (Stays wires pass.gone) c lin row_over.0 row_over.1 row_over.2 says

    pub wire_is : (publics ≤ w) × (w < wires)
    wire_is = let is = greatest_is publics w lin greatest in (is.0, (Over-has_wire (Stays wires pass.gone) w lin lin_over.0 is.1).0)

    -- where the row holds, the wire has its combination's value, and the other way round
    is_solved : (z : List ℕ) → Assigns z → RowsHold z pass.rows → slice_index z w ≡ value (solved w lin) z
    is_solved z assigns h =
        let is = greatest_is publics w lin greatest in
        let here : Holds c z = subst (RowHolds z) at (each_at (RowHolds z) pass.rows i None tt h) in
        solved-from_zero w lin z assigns (coefficient-apart w lin lin_over.1 is.1) (zero_where_holds z assigns c lin says here)

    row_holds : (z : List ℕ) → Assigns z → slice_index z w ≡ value (solved w lin) z → RowHolds z (get_or pass.rows i None)
    row_holds z assigns is =
        let has = greatest_is publics w lin greatest in
        subst (RowHolds z) (sym at) (holds_where_zero z assigns c lin says (zero-from_solved w lin z assigns (coefficient-apart w lin lin_over.1 has.1) is))

    solved_over : Over (λ v. Stays wires pass.gone v × (v ≢ w)) (solved w lin)
    solved_over = Over-solved (Stays wires pass.gone) w lin lin_over.0

    forward : (z : List ℕ) → slice_index z w ≡ value (solved w lin) z → (row : Option Constraint) → RowHolds z row
        → RowHolds z (option_map (replaced_in w (solved w lin)) row)
    forward z is None h = tt
    forward z is (Some d) h =
        let same = λ (x : Combination). sym (value-replaced w z (solved w lin) x is) in
        same_holds d (replaced_in w (solved w lin) d) z z (same d.a) (same d.b) (same d.c) h

    backward : (z : List ℕ) → slice_index z w ≡ value (solved w lin) z → (row : Option Constraint) → RowHolds z (option_map (replaced_in w (solved w lin)) row)
        → RowHolds z row
    backward z is None h = tt
    backward z is (Some d) h =
        let same = λ (x : Combination). value-replaced w z (solved w lin) x is in
        same_holds (replaced_in w (solved w lin) d) d z z (same d.a) (same d.b) (same d.c) h

    gone_more : (v : ℕ) → is_gone (pass.gone ++ w ∷ []) v ≡ (is_gone pass.gone v || eqb w v)
    gone_more v = list_any-append (λ m. eqb m v) pass.gone (w ∷ []) ∙ ap (λ b. is_gone pass.gone v || b) (or-false (eqb w v))

    still_there : (v : ℕ) → is_gone pass.gone v ≡ false → v ≢ w → is_gone (pass.gone ++ w ∷ []) v ≡ false
    still_there v e apart = gone_more v ∙ or_from (is_gone pass.gone v) (eqb w v) e (ne_eqb w v (λ same. apart (sym same)))

    stays_on : (v : ℕ) → Stays wires pass.gone v × (v ≢ w) → Stays wires (pass.gone ++ w ∷ []) v
    stays_on v h = (h.0.0, still_there v h.0.1 h.1)

    over_row : (row : Option Constraint) → RowOver (Stays wires pass.gone) row
        → RowOver (Stays wires (pass.gone ++ w ∷ [])) (option_map (replaced_in w (solved w lin)) row)
    over_row None h = tt
    over_row (Some d) h =
        let each = λ (x : Combination) (k : Over (Stays wires pass.gone) x).
        Over-weaker (λ v. Stays wires pass.gone v × (v ≢ w)) (Stays wires (pass.gone ++ w ∷ [])) (replaced w (solved w lin) x) stays_on
        (Over-replaced (Stays wires pass.gone) w (solved w lin) x k solved_over) in
        (each d.a h.0, each d.b h.1, each d.c h.2)

    rows_over : RowsOver (Stays wires (pass.gone ++ w ∷ [])) (map (option_map (replaced_in w (solved w lin))) (set pass.rows i None))
    rows_over =
        rows_changed (RowOver (Stays wires pass.gone)) (RowOver (Stays wires (pass.gone ++ w ∷ []))) (option_map (replaced_in w (solved w lin))) over_row
        (set pass.rows i None) (each_set (RowOver (Stays wires pass.gone)) pass.rows i None tt sound.over)

    rows_down : (z : List ℕ) → Assigns z → RowsHold z pass.rows → RowsHold z (map (option_map (replaced_in w (solved w lin))) (set pass.rows i None))
    rows_down z assigns h =
        rows_changed (RowHolds z) (RowHolds z) (option_map (replaced_in w (solved w lin))) (forward z (is_solved z assigns h))
        (set pass.rows i None) (each_set (RowHolds z) pass.rows i None tt h)

    -- the wire set to its combination's value
    differs_only : (z : List ℕ) (v : ℕ) → v ≢ w → slice_index (set z w (value (solved w lin) z)) v ≡ slice_index z v
    differs_only z v apart = get_or-set_other z w v (value (solved w lin) z) 0 apart

    set_is_solved : (z : List ℕ) → length z ≡ wires → slice_index (set z w (value (solved w lin) z)) w ≡ value (solved w lin) (set z w (value (solved w lin) z))
    set_is_solved z each =
        let inside : w < length z = omega (arith, wire_is.1) in
        get_or-set_same z w (value (solved w lin) z) 0 inside
        ∙ sym (value-local (λ v. Stays wires pass.gone v × (v ≢ w)) (set z w (value (solved w lin) z)) z (solved w lin) solved_over
        (λ v h. differs_only z v h.1))

    still : (v : ℕ) → is_gone (pass.gone ++ w ∷ []) v ≡ false → (is_gone pass.gone v ≡ false) × (v ≢ w)
    still v e = let both = or_parts (is_gone pass.gone v) (eqb w v) (sym (gone_more v) ∙ e) in (both.0, λ same. eqb-false w v both.1 (sym same))

    all_private : (v : ℕ) → is_gone (pass.gone ++ w ∷ []) v ≡ true → publics ≤ v
    all_private v e =
        elim (or_cases (is_gone pass.gone v) (eqb w v) (sym (gone_more v) ∙ e)) [
          | inl before ↦ sound.private v before
          | inr here ↦ omega (arith, wire_is.0, eqb-true w v here)
        ]

    rows_up : (z : List ℕ) → Assigns z → length z ≡ wires → RowsHold z (map (option_map (replaced_in w (solved w lin))) (set pass.rows i None))
        → RowsHold (set z w (value (solved w lin) z)) pass.rows
    rows_up z assigns each h =
        let is = set_is_solved z each in
        let fine : Assigns (set z w (value (solved w lin) z)) = Assigns-set z w (value (solved w lin) z) assigns (omega (arith, wire_is.0))
        (value-below (solved w lin) z) in
        let moved = rows_local (Stays wires (pass.gone ++ w ∷ [])) z (set z w (value (solved w lin) z)) (λ v k. sym (differs_only z v (still v k.1).1))
        (map (option_map (replaced_in w (solved w lin))) (set pass.rows i None)) rows_over h in
        rows_back (RowHolds (set z w (value (solved w lin) z))) pass.rows i
        (rows_unchanged (RowHolds (set z w (value (solved w lin) z))) (RowHolds (set z w (value (solved w lin) z))) (option_map (replaced_in w (solved w lin)))
        (backward (set z w (value (solved w lin) z)) is) (set pass.rows i None) moved)
        (row_holds (set z w (value (solved w lin) z)) fine is)

    substituted-up : (z : List ℕ) → Assigns z → length z ≡ wires → RowsHold z (map (option_map (replaced_in w (solved w lin))) (set pass.rows i None))
        → Extended start wires (pass.gone ++ w ∷ []) z
    substituted-up z assigns each h =
        let fine : Assigns (set z w (value (solved w lin) z)) = Assigns-set z w (value (solved w lin) z) assigns (omega (arith, wire_is.0))
        (value-below (solved w lin) z) in
        let before = sound.up (set z w (value (solved w lin) z)) fine (length-set z w (value (solved w lin) z) ∙ each) (rows_up z assigns each h) in
        record {
          y = before.y;
          assigns = before.assigns;
          each = before.each;
          holds = before.holds;
          agree = λ v e. before.agree v (still v e).0 ∙ differs_only z v (still v e).1;
        }

    substituted-unique : (y z : List ℕ) → Assigns y → Assigns z → RowsHold y start → RowsHold z start → Agree (pass.gone ++ w ∷ []) y z → (v : ℕ)
        → slice_index y v ≡ slice_index z v
    substituted-unique y z ay az hy hz agree =
        let there : slice_index y w ≡ slice_index z w =
        is_solved y ay (sound.down y ay hy)
        ∙ value-local (λ v. Stays wires pass.gone v × (v ≢ w)) y z (solved w lin) solved_over (λ v h. agree v (stays_on v h).1)
        ∙ sym (is_solved z az (sound.down z az hz)) in
        sound.unique y z ay az hy hz (λ v e. elim (cases_eq v w) [
          | inl same ↦ subst (λ u. slice_index y u ≡ slice_index z u) (sym same) there
          | inr apart ↦ agree v (still_there v e apart)
        ])

    substituted-sound : Sound start wires publics (substituted w (solved w lin) (dropped i pass))
    unfolding substituted dropped
    substituted-sound = record {
      over = rows_over;
      private = all_private;
      down = λ z assigns h. rows_down z assigns (sound.down z assigns h);
      up = substituted-up;
      unique = substituted-unique;
    }

    attempted-sound : Sound start wires publics (attempted w (solved w lin) (dropped i pass) pass)
    unfolding attempted
    attempted-sound =
        cond_both (list_all (row_fits w (solved w lin)) (dropped i pass).rows) (substituted w (solved w lin) (dropped i pass)) pass (Sound start wires publics)
        (λ e. substituted-sound) (λ e. sound)

  eliminated-sound : (i : ℕ) (c : Constraint) (lin : Combination) (o : Option ℕ) (pass : Pass) → get_or pass.rows i None ≡ Some c → linear_form c ≡ Some lin
      → greatest_from publics lin ≡ o → Sound start wires publics pass → Sound start wires publics (eliminated i lin o pass)
  unfolding eliminated
  eliminated-sound i c lin None pass at says greatest sound = sound
  eliminated-sound i c lin (Some w) pass at says greatest sound = attempted-sound i w c lin pass at says greatest sound

  treated-sound : (i : ℕ) (c : Constraint) (o : Option Combination) (pass : Pass) → get_or pass.rows i None ≡ Some c → linear_form c ≡ o
      → Sound start wires publics pass → Sound start wires publics (treated publics i o pass)
  unfolding treated
  treated-sound i c None pass at says sound = sound
  treated-sound i c (Some []) pass at says sound = dropped-sound i c pass at says sound
  treated-sound i c (Some (t ∷ x)) pass at says sound = eliminated-sound i c (t ∷ x) (greatest_from publics (t ∷ x)) pass at says refl sound

  row-sound : (i : ℕ) (o : Option Constraint) (pass : Pass) → get_or pass.rows i None ≡ o → Sound start wires publics pass
      → Sound start wires publics (treated publics i (linear_row o) pass)
  unfolding treated
  row-sound i None pass at sound = sound
  row-sound i (Some c) pass at sound = treated-sound i c (linear_form c) pass at refl sound

  pub turn-sound : (i : ℕ) (pass : Pass) → Sound start wires publics pass → Sound start wires publics (turn publics pass i)
  unfolding turn
  turn-sound i pass sound = row-sound i (get_or pass.rows i None) pass refl sound

  pub turns-sound : (places : List ℕ) (pass : Pass) → Sound start wires publics pass → Sound start wires publics (fold (turn publics) pass places)
  turns-sound [] pass sound = sound
  turns-sound (i ∷ places) pass sound = turns-sound places (turn publics pass i) (turn-sound i pass sound)
