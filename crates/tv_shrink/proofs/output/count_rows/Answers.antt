use Rattle.tv_core.proofs.Common.{◌+◌, ◌∙◌, ap, sym, arith, length, take, terms_in}
use Rattle.std.specs.List.{filter_map}
use Rattle.std.proofs.lemmas.List.{length_push}
use Rattle.tv_shrink.proofs.Puts.{none_taken, short_at, some_taken, terms_more}
use Rattle.tv_shrink.proofs.output.count_rows.Goals as goal
use Rattle.tv_shrink.proofs.output.count_rows.Goals.{in-Some, in_default}

pub loop-at-preserved : goal.loop-at-preserved
loop-at-preserved c =
    elim c.match-get.branch [
      | in-Some w ↦
          let taken = some_taken c.args.rows.now c.loop-at.at c.get.result w.in-Some.row (omega (arith, c.loop-at-test.true)) c.get.ensures w.in-Some.is in
          let short = short_at c.args.wires c.loop-at.at c.args.rows.now c.get.result w.in-Some.row c.requires.within c.get.ensures w.in-Some.is in
          rw w.tally-is (record {
            constraints = w.add.ensures.constraints ∙ ap (λ n. n + 1) c.loop-at.invariant.constraints
                ∙ sym (ap length taken ∙ length_push (filter_map (λ row. row) (take c.loop-at.at c.args.rows.now)) w.in-Some.row);
            terms = w.add.ensures.terms ∙ ap (λ n. n + (length w.in-Some.row.a + length w.in-Some.row.b + length w.in-Some.row.c)) c.loop-at.invariant.terms
                ∙ sym (ap terms_in taken ∙ terms_more (filter_map (λ row. row) (take c.loop-at.at c.args.rows.now)) w.in-Some.row);
            few = omega (arith, w.add.ensures.constraints);
            bound = omega (arith, w.add.ensures.terms, short.short_a, short.short_b, short.short_c);
          })
      | in_default w ↦
          let taken = none_taken c.args.rows.now c.loop-at.at c.get.result (omega (arith, c.loop-at-test.true)) c.get.ensures w.in_default.is in
          rw (w.tally-is, taken) (record {
            constraints = c.loop-at.invariant.constraints;
            terms = c.loop-at.invariant.terms;
            few = omega arith;
            bound = omega arith;
          })
    ]
