use Rattle.tv_core.proofs.Common.{ℕ, ◌≡◌, ◌≤◌, ◌∙◌, None, true, inl, inr, sym, ap, subst, arith, get_or, length, set}
use Rattle.std.proofs.Common.{eqb, eqb-true, reverse}
use Rattle.std.specs.List.{list_any}
use Rattle.std.proofs.lemmas.Bool.{or_cases}
use Rattle.tv_shrink.specs.Pass.{row_fits}
use Rattle.tv_shrink.specs.Substitution.{Replacement}
use Rattle.tv_shrink.specs.declared.substitution.Substitution.TheInside.{Inside}
use Rattle.tv_shrink.specs.Occurrences.{has_row, rows_from}
use Rattle.tv_shrink.proofs.Elements.{never}
use Rattle.tv_shrink.proofs.OccurrenceLaws.{listed, rows_from-at, rows_from-none}
use Rattle.tv_shrink.proofs.occurrences.Occurrences.misfit.Goals as goal
use Rattle.tv_shrink.proofs.occurrences.Occurrences.misfit.Goals.{After-index-number}

-- the list of the wire begins at this entry
head : (c : After-index-number) → (c.index-number.result.now ≤ length c.self.inside.entries.items)
    × ((i : ℕ) → has_row c.args.self.now c.args.by.now.wire i
    ≡ list_any (λ p. eqb p i) (rows_from (reverse c.self.inside.entries.items) c.index-number.result.now))
head c =
    let is = listed c.self.inside.entries.items c.self.inside.heads.items c.args.self.now c.by-inside.inside.0.0.0 c.len.result c.index-number.result.now
    c.self.invariant c.self.view_is (omega (arith, c.len.ensures)) c.index-number.ensures in (
      is.0,
      λ i. ap (λ (s : Replacement). has_row c.args.self.now s.wire i) (sym c.by.view_is)
          ∙ ap (λ (s : Inside). has_row c.args.self.now s.wire i) (sym c.by-inside.view_is) ∙ is.1 i,
    )

pub loop-number-init : goal.loop-number-init
loop-number-init c = record { inside = (head (goal.at.loop-number-init c).After-index-number).0; seen = λ i e. inr e }

pub loop-number-smaller : goal.loop-number-smaller
loop-number-smaller c =
    (rows_from-at c.self.inside.entries.items c.self.inside.heads.items c.loop-number.number c.index-entry.result.now
    (omega (arith, c.loop-number-test.true)) c.loop-number.invariant.inside c.self.invariant c.index-entry.ensures).1

pub loop-number-preserved : goal.loop-number-preserved
loop-number-preserved c =
    let found = rows_from-at c.self.inside.entries.items c.self.inside.heads.items c.loop-number.number c.index-entry.result.now
    (omega (arith, c.loop-number-test.true)) c.loop-number.invariant.inside c.self.invariant c.index-entry.ensures in
    let here : row_fits c.args.by.now.wire c.args.by.now.terms (get_or (set c.args.rows.now c.args.but None) c.index-entry.result.now.row None)
    ≡ true = sym c.in_ok-other_fits.ensures ∙ c.if-not-branch.false in
    record {
      inside = omega (arith, found.1, c.loop-number.invariant.inside);
      seen = λ i e. elim (c.loop-number.invariant.seen i e) [
        | inl fits ↦ inl fits
        | inr later ↦ elim (or_cases _ _ (sym (ap (list_any (λ p. eqb p i)) found.0) ∙ later)) [
          | inl same ↦ inl (subst (λ j. row_fits c.args.by.now.wire c.args.by.now.terms (get_or (set c.args.rows.now c.args.but None) j None) ≡ true)
              (eqb-true c.index-entry.result.now.row i same) here)
          | inr rest ↦ inr rest
        ]
      ];
    }

pub returns-clause-none : goal.returns-clause-none
returns-clause-none c e i any =
    let end : c.loop-number.number ≡ 0 = omega (arith, c.loop-number-test.false) in
    elim (rw (end, rows_from-none) at (c.loop-number.invariant.seen i (sym ((head (goal.at.returns-clause-none c).After-index-number).1 i) ∙ any))) [
      | inl fits ↦ fits
      | inr later ↦ absurd (never later)
    ]
