use Rattle.tv_core.proofs.Common.{◌≡◌, ◌∙◌, ℕ, ap, length, map, subst, sym, length-map}
use Rattle.std.specs.Option.{option_map}
use Rattle.std.proofs.lemmas.List.{with_items_is}
use Rattle.tv_r1cs_write.specs.Bytes.{others}
use Rattle.tv_shrink.specs.Renumbering.{moved, moved_rows}
use Rattle.tv_shrink.specs.Spans.{row_at, AreLaid}
use Rattle.tv_shrink.proofs.Spans.{rows_moved}
use Rattle.tv_shrink.proofs.rows.Rows.renumber.Goals as goal
use Rattle.tv_shrink.proofs.rows.Rows.renumber.Goals.{After-renumber_terms}

-- the terms have as many places as before
each : (c : After-renumber_terms) → length c.renumber_terms.new.terms ≡ length c.self.inside.terms.items
each c =
    ap length (c.renumber_terms.ensures ∙ ap (moved c.args.numbers.now) c.deref_mut.ensures.value)
    ∙ length-map {B = ℕ × ℕ} c.self.inside.terms.items (λ (t : ℕ × ℕ). (t.0, length (others t.1 c.args.numbers.now)))

pub returns : goal.returns
returns c =
    ap (λ ys. map (option_map (row_at ys)) c.self.inside.spans.items)
    (with_items_is c.self.inside.terms _ (each (goal.at.returns c).After-renumber_terms ∙ ap length (sym c.deref_mut.ensures.value) ∙ c.deref_mut.ensures.len)
    ∙ c.renumber_terms.ensures
    ∙ ap (moved c.args.numbers.now) c.deref_mut.ensures.value)
    ∙ rows_moved c.args.numbers.now c.self.inside.terms.items c.self.inside.spans.items
    ∙ ap (moved_rows c.args.numbers.now) c.self.view_is

pub invariant_of-self : goal.invariant_of-self
invariant_of-self c =
    let each = each (goal.at.invariant_of-self c).After-renumber_terms in
    subst (λ n. AreLaid n c.self.inside.spans.items) (sym (ap length (with_items_is c.self.inside.terms _ (each
    ∙ ap length (sym c.deref_mut.ensures.value) ∙ c.deref_mut.ensures.len)) ∙ each)) c.self.invariant
