use Rattle.tv_core.proofs.Common.{◌≡◌, ◌∙◌, sym, ap, arith, append-nil}
use Rattle.std.proofs.Common.{eqb}
use Rattle.std.specs.List.{list_any}
use Rattle.std.proofs.lemmas.List.{append_assoc}
use Rattle.tv_shrink.proofs.OccurrenceLaws.{listed, rows_from-at, rows_from-none}
use Rattle.tv_shrink.proofs.occurrences.Occurrences.rows_of.Goals as goal

pub loop-number-smaller : goal.loop-number-smaller
loop-number-smaller c =
    (rows_from-at c.self.inside.entries.items c.self.inside.heads.items c.loop-number.number c.index-entry.result.now
    (omega (arith, c.loop-number-test.true)) c.loop-number.invariant.inside c.self.invariant c.index-entry.ensures).1

pub loop-number-preserved : goal.loop-number-preserved
loop-number-preserved c =
    let found = rows_from-at c.self.inside.entries.items c.self.inside.heads.items c.loop-number.number c.index-entry.result.now
    (omega (arith, c.loop-number-test.true)) c.loop-number.invariant.inside c.self.invariant c.index-entry.ensures in
    record {
      inside = omega (arith, found.1, c.loop-number.invariant.inside);
      so_far = rw (c.in_ok-push.ensures.items, append_assoc, ← found.0) c.loop-number.invariant.so_far;
    }

pub returns : goal.returns
returns c = λ i.
    let none : c.loop-number.number ≡ 0 = omega (arith, c.loop-number-test.false) in
    let all = rw (none, rows_from-none, append-nil) at c.loop-number.invariant.so_far in
    ap (list_any (λ p. eqb p i)) all
    ∙ sym ((listed c.self.inside.entries.items c.self.inside.heads.items c.args.self.now c.args.wire c.len.result c.index-number.result.now c.self.invariant
    c.self.view_is (omega (arith, c.len.ensures)) c.index-number.ensures).1 i)
