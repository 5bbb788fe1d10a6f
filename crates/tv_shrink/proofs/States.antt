-- What the steps of a pass keep.
use Rattle.tv_core.proofs.Common.{◌≡◌, ℕ, ◌∷◌, ◌<◌, ◌≤◌, ◌^◌, Bool, List, Option, None, Some, Result, Ok, Err, refl, sym, ◌∙◌, ap, [], ap₂, subst, true, false}
use Rattle.tv_core.proofs.Common.{length, get_or, set, range_with_len, cond_both, length-map, Combination, Constraint}
use Rattle.std.proofs.Common.{OnOk, length-set}
use Rattle.std.specs.Prelude.{OnErr}
use Rattle.std.specs.List.{fold, list_all}
use Rattle.std.specs.Option.{option_map}
use Rattle.tv_shrink.specs.Pass.{Pass, attempted, dropped, eliminated, linear_row, row_fits, substituted, treated, turn}
use Rattle.tv_shrink.specs.Substitution.{greatest_from, has_wire, replaced_in, solved}
use Rattle.tv_shrink.specs.Tidy.{pass_of, IsKept, RowIsNormal, State}
use Rattle.tv_shrink.proofs.Elements.{each_at, each_set}
use Rattle.tv_shrink.proofs.Passes.{covers-replaced, normal-replaced_row}

-- once more is filed
pub kept_more : (publics : ℕ) (rows : List (Option Constraint)) (may next : ℕ → ℕ → Bool) → IsKept publics rows may
    → ((v i : ℕ) → may v i ≡ true → next v i ≡ true) → IsKept publics rows next
kept_more publics rows may next kept more = record { normal = kept.normal; covers = λ i v above has. more v i (kept.covers i v above has); few = kept.few }

-- once a wire is replaced in a constraint, or memory ran out, all are normal, and filed
module _ (publics w at : ℕ) (r : Combination) (rows : List (Option Constraint)) (may next : ℕ → ℕ → Bool)
    (kept : IsKept publics rows may) (lacks : has_wire w r ≡ false) (more : (v i : ℕ) → may v i ≡ true → next v i ≡ true)
    (added : (v : ℕ) → publics ≤ v → has_wire v r ≡ true → next v at ≡ true) where
  kept_filed : IsKept publics rows next
  kept_filed = kept_more publics rows may next kept more

  kept_changed : IsKept publics (set rows at (option_map (replaced_in w r) (get_or rows at None))) next
  kept_changed =
      let row = option_map (replaced_in w r) (get_or rows at None) in
      record {
        normal = each_set RowIsNormal rows at row (normal-replaced_row w r (get_or rows at None) (each_at RowIsNormal rows at None tt kept.normal)) kept.normal;
        covers = covers-replaced publics w at r rows next lacks kept_filed.covers added;
        few = subst (λ n. n < 2 ^ 32) (sym (length-set rows at row)) kept.few;
      }

  pub kept_replaced : {T E : Type 0} (result : Result T E) (new : List (Option Constraint))
      → OnOk result (new ≡ set rows at (option_map (replaced_in w r) (get_or rows at None))) → OnErr result (new ≡ rows) → IsKept publics new next
  kept_replaced (Ok value) new is err = subst (λ xs. IsKept publics xs next) (sym is) kept_changed
  kept_replaced (Err why) new is err = subst (λ xs. IsKept publics xs next) (sym err) kept_filed

-- the state with another pass
pub staged : (s : State) (pass : Pass) → pass ≡ s.pass → s ≡ record { publics = s.publics; pass = pass }
staged s pass e = ap (λ p. record { publics = s.publics; pass = p }) (sym e)

-- what each turn keeps that dropping a constraint does, and replacing a wire in constraints that keep to their most terms
module _ (K : Pass → Type 0) (drops : (i : ℕ) (pass : Pass) → K pass → K (dropped i pass))
    (substitutes : (w : ℕ) (r : Combination) (pass : Pass) → list_all (row_fits w r) pass.rows ≡ true → K pass → K (substituted w r pass)) where
  eliminated_keeps : (i : ℕ) (x : Combination) (o : Option ℕ) (pass : Pass) → K pass → K (eliminated i x o pass)
  unfolding eliminated attempted
  eliminated_keeps i x None pass k = k
  eliminated_keeps i x (Some w) pass k =
      cond_both (list_all (row_fits w (solved w x)) (dropped i pass).rows) (substituted w (solved w x) (dropped i pass)) pass K
      (λ fit. substitutes w (solved w x) (dropped i pass) fit (drops i pass k)) (λ _. k)

  treated_keeps : (publics i : ℕ) (o : Option Combination) (pass : Pass) → K pass → K (treated publics i o pass)
  unfolding treated
  treated_keeps publics i None pass k = k
  treated_keeps publics i (Some []) pass k = drops i pass k
  treated_keeps publics i (Some (t ∷ x)) pass k = eliminated_keeps i (t ∷ x) (greatest_from publics (t ∷ x)) pass k

  turn_keeps : (publics i : ℕ) (pass : Pass) → K pass → K (turn publics pass i)
  unfolding turn
  turn_keeps publics i pass k = treated_keeps publics i (linear_row (get_or pass.rows i None)) pass k

  pub turns_keep : (publics : ℕ) (places : List ℕ) (pass : Pass) → K pass → K (fold (turn publics) pass places)
  turns_keep publics [] pass k = k
  turns_keep publics (i ∷ places) pass k = turns_keep publics places (turn publics pass i) (turn_keeps publics i pass k)

-- as how many constraints there are
pub turns_length : (publics : ℕ) (places : List ℕ) (pass : Pass) → length (fold (turn publics) pass places).rows ≡ length pass.rows
unfolding dropped substituted
turns_length publics places pass =
    turns_keep (λ p. length p.rows ≡ length pass.rows) (λ i p e. length-set p.rows i None ∙ e)
    (λ w r p fit e. length-map p.rows (option_map (replaced_in w r)) ∙ e) publics places pass refl

-- what a pass leaves that began with these constraints
module _ (start end : State) (left : List (Option Constraint)) (gone : List ℕ) (publics : ℕ) (rows : List (Option Constraint))
    (begins : start ≡ record { publics = publics; pass = record { rows = rows; gone = [] } })
    (runs : end ≡ record { publics = start.publics; pass = fold (turn start.publics) start.pass (range_with_len 0 (length start.pass.rows)) })
    (is : left ≡ end.pass.rows) (goes : gone ≡ end.pass.gone) where
  pub ran : pass_of left gone ≡ fold (turn publics) (pass_of rows []) (range_with_len 0 (length rows))
  ran =
      ap₂ pass_of is goes
      ∙ ap (λ (s : State). s.pass) runs
      ∙ ap (λ (s : State). fold (turn s.publics) s.pass (range_with_len 0 (length s.pass.rows))) begins

  pub ran_length : length left ≡ length rows
  ran_length = ap (λ (p : Pass). length p.rows) ran ∙ turns_length publics (range_with_len 0 (length rows)) (pass_of rows [])
