use Rattle.tv_core.proofs.Common.{◌≡◌, None, Some, sym, ◌∙◌, ap, arith, get_or, length, map, refl, set, subst}
use Rattle.std.specs.Option.{option_map}
use Rattle.tv_container.proofs.Chain.{err_is}
use Rattle.tv_shrink.specs.Pass.{row_fits}
use Rattle.tv_shrink.specs.Substitution.{replaced_in}
use Rattle.tv_shrink.specs.Tidy.{RowIsNormal}
use Rattle.tv_shrink.specs.Spans.{row_at, AreLaid}
use Rattle.tv_shrink.specs.declared.arena.Span.{Span}
use Rattle.tv_shrink.proofs.LayLaws.{held_at, laid_more, rows_laid}
use Rattle.tv_shrink.proofs.Spans.{row_found}
use Rattle.tv_shrink.proofs.rows.Rows.replace.Goals as goal
use Rattle.tv_shrink.proofs.rows.Rows.replace.Goals.{After-row-row, In_ok-start}

-- the constraint that was read
held : (c : After-row-row) → get_or c.args.self.now c.args.at None ≡ Some c.row-row.result
held c =
    let f = row_at c.self.inside.terms.items in
    (row_found f c.self.inside.spans.items c.args.self.now c.args.at c.index.result.now c.self.view_is c.requires.inside c.index.ensures).1
    ∙ ap (option_map f) c.in-Some.is
    ∙ ap Some (sym (c.row-row.ensures.row ∙ ap (λ terms. row_at terms c.in-Some.span) c.deref.ensures.value))

pub put_replaced-requires-clause-normal : goal.put_replaced-requires-clause-normal
put_replaced-requires-clause-normal c = subst RowIsNormal (held (goal.at.put_replaced-requires-clause-normal c).After-row-row) c.requires.normal

pub put_replaced-requires-clause-few : goal.put_replaced-requires-clause-few
put_replaced-requires-clause-few c = c.row-row.ensures.few

pub put_replaced-requires-clause-fits : goal.put_replaced-requires-clause-fits
put_replaced-requires-clause-fits c =
    ap (row_fits c.args.by.now.wire c.args.by.now.terms) (sym (held (goal.at.put_replaced-requires-clause-fits c).After-row-row)) ∙ c.requires.fits

pub returns-in_err-made-clause-err : goal.returns-in_err-made-clause-err
returns-in_err-made-clause-err c = rw (err_is c.from_residual.result c.from_residual.ensures.1) refl

pub returns-in_err-start-clause-err : goal.returns-in_err-start-clause-err
returns-in_err-start-clause-err c =
    rw (err_is c.from_residual-in_err-start.result c.from_residual-in_err-start.ensures.1)
    (ap (λ terms. map (option_map (row_at terms)) c.self.inside.spans.items) c.in_err-start.ensures.err ∙ c.self.view_is)

pub invariant_of-self : goal.invariant_of-self
invariant_of-self c = laid_more _ _ c.self.inside.spans.items (omega (arith, ap length c.in_err-start.ensures.err)) c.self.invariant

-- the constraint's terms lie where they were put, and all others as before
laid : (c : In_ok-start) → (let spans = set c.self.inside.spans.items c.args.at (Some (record c.in_ok-made.made { start = c.in_ok-start.start })) in
    AreLaid (length c.lay.new.terms.items) spans × (map (option_map (row_at c.lay.new.terms.items)) spans
    ≡ set c.args.self.now c.args.at (Some (replaced_in c.args.by.now.wire c.args.by.now.terms c.row-row.result))))
laid c =
    let found = row_found (row_at c.self.inside.terms.items) c.self.inside.spans.items c.args.self.now c.args.at c.index.result.now c.self.view_is
    c.requires.inside c.index.ensures in
    rows_laid c.self.inside.terms.items c.lay.new.terms.items c.deref-2.result.now c.self.inside.spans.items c.args.self.now c.args.at c.in_ok-start.start
    c.in-Some.span _ _ c.self.invariant c.self.view_is found.0
    (held_at c.self.inside.spans.items c.args.at c.index.result.now c.in-Some.span found.0 c.index.ensures c.in-Some.is)
    (c.deref-2.ensures.value ∙ c.in_ok-made.ensures.out) c.in_ok-start.ensures.free c.in_ok-start.ensures.puts
    (ap (λ (s : Span). record s { start = c.in_ok-start.start }) c.in_ok-made.ensures.made)

pub invariant_of-self-2 : goal.invariant_of-self-2
invariant_of-self-2 c = (laid (goal.at.invariant_of-self-2 c).In_ok-start).0

pub returns-clause-replaces : goal.returns-clause-replaces
returns-clause-replaces c = rw (held (goal.at.returns-clause-replaces c).After-row-row) (laid (goal.at.returns-clause-replaces c).In_ok-start).1
