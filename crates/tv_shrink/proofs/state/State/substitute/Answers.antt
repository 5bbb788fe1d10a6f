use Rattle.tv_core.proofs.Common.{◌≡◌, ◌≤◌, ◌∙◌, ◌++◌, ◌∷◌, ℕ, None, true, ap, ap₂, arith, false, get_or, length, refl, sym, take, [], Combination}
use Rattle.std.proofs.Common.{eqb, length-set}
use Rattle.std.specs.List.{list_any}
use Rattle.std.specs.Option.{option_map}
use Rattle.tv_shrink.specs.Occurrences.{has_row}
use Rattle.tv_shrink.specs.Pass.{substituted}
use Rattle.tv_shrink.specs.Substitution.{has_wire, replaced_in, IsReplacement, Replacement}
use Rattle.tv_shrink.specs.declared.substitution.Substitution.TheInside.{Inside}
use Rattle.tv_shrink.specs.Tidy.{row_has, State}
use Rattle.tv_shrink.proofs.Passes.{lacks_below, replaced-all, replaced-step, still_fits}
use Rattle.tv_shrink.proofs.state.State.substitute.Goals as goal

-- the wire is not among the terms
lacks : {w : ℕ} {r : Combination} {s : Replacement} → record { wire = w; terms = r } ≡ s → IsReplacement w r → has_wire s.wire s.terms ≡ false
lacks {w = w} {r = r} view is = ap (λ (s : Replacement). has_wire s.wire s.terms) (sym view) ∙ lacks_below w r is.below

pub loop-at-init : goal.loop-at-init
loop-at-init c = record { publics = refl; gone = refl; each = refl; so_far = λ i. refl }

pub invariant_of-self : goal.invariant_of-self
invariant_of-self c = c.self-2.invariant

pub invariant_of-self-2 : goal.invariant_of-self-2
invariant_of-self-2 c = c.self-2.invariant

pub replace_at-requires : goal.replace_at-requires
replace_at-requires c =
    let at = get_or c.deref-at-items.result.now c.loop-at.at-index 0 in
    still_fits c.args.by.now.wire c.args.by.now.terms (lacks c.by.view_is c.by.invariant) c.loop-at.self.pass.rows c.args.self.now.pass.rows
    (take c.loop-at.at-index c.deref-at-items.result.now) at c.requires.fit c.loop-at.invariant.so_far

pub loop-at-preserved : goal.loop-at-preserved
loop-at-preserved c =
    let at = get_or c.deref-at-items.result.now c.loop-at.at-index 0 in
    let is = c.in_ok-replace_at.ensures in
    let rows = c.loop-at.self.pass.rows in
    record {
      publics = ap (λ (s : State). s.publics) is ∙ c.loop-at.invariant.publics;
      gone = ap (λ (s : State). s.pass.gone) is ∙ c.loop-at.invariant.gone;
      each = ap (λ (s : State). length s.pass.rows) is
          ∙ length-set rows at (option_map (replaced_in c.args.by.now.wire c.args.by.now.terms) (get_or rows at None))
          ∙ c.loop-at.invariant.each;
      so_far = λ i. ap (λ (s : State). get_or s.pass.rows i None) is
          ∙ replaced-step c.args.by.now.wire c.args.by.now.terms (lacks c.by.view_is c.by.invariant) rows c.args.self.now.pass.rows
          c.deref-at-items.result.now c.loop-at.at-index at c.loop-at-test.true refl c.loop-at.invariant.so_far i;
    }

pub returns : goal.returns
unfolding substituted
returns c =
    let private : c.self.inside.publics ≤ c.args.by.now.wire = omega (arith, ap (λ (s : State). s.publics) c.self.view_is, c.requires.private) in
    let names : (i : ℕ) → row_has c.args.by.now.wire (get_or c.args.self.now.pass.rows i None) ≡ true →
    list_any (λ p. eqb p i) c.deref-at-items.result.now ≡ true =
    λ i has. ap (list_any (λ p. eqb p i)) c.deref-at-items.ensures.value ∙ c.in_ok-rows_of.ensures i
    ∙ ap (λ (s : Inside). has_row c.self.inside.occurrences s.wire i) c.by-inside.view_is
    ∙ ap (λ (s : Replacement). has_row c.self.inside.occurrences s.wire i) c.by.view_is
    ∙ c.self.invariant.covers i c.args.by.now.wire private (ap (λ (s : State). row_has c.args.by.now.wire (get_or s.pass.rows i None)) c.self.view_is ∙ has) in
    rw (
      ap (λ (s : State). s.publics) c.self-2.view_is ∙ c.loop-at.invariant.publics,
      ap (λ (s : State). s.pass.rows) c.self-2.view_is
          ∙ replaced-all c.args.by.now.wire c.args.by.now.terms (lacks c.by.view_is c.by.invariant) c.loop-at.self.pass.rows c.args.self.now.pass.rows
          c.deref-at-items.result.now c.loop-at.at-index (omega arith) c.loop-at.invariant.each names c.loop-at.invariant.so_far,
      c.in_ok-push.ensures.items ∙ ap₂ (λ gone w. gone ++ w ∷ []) (ap (λ (s : State). s.pass.gone) c.self-2.view_is ∙ c.loop-at.invariant.gone)
          (ap (λ (s : Inside). s.wire) c.by-inside.view_is ∙ ap (λ (s : Replacement). s.wire) c.by.view_is),
    ) refl
