use Rattle.tv_core.proofs.Common.{◌≡◌, sym, arith}
use Rattle.tv_core.proofs.BelowLaws.{sum_below-zero}
use Rattle.tv_lines.specs.Placed.{line_in}
use Rattle.tv_argument.proofs.Parts.{sum_next}
use Rattle.tv_argument.specs.Checks.{check_terms}
use Rattle.tv_argument.proofs.terms.checks_terms.Goals as goal

pub loop-i-init : goal.loop-i-init
loop-i-init g c = record {
  is = sym (sum_below-zero (λ i. check_terms ((g.L.CompactLines.checks c.args.lines.now).kind i) (line_in (g.L.CompactLines.lines c.args.lines.now) i)));
  most = omega arith;
}

pub loop-i-preserved : goal.loop-i-preserved
loop-i-preserved g c =
    let checks = g.L.CompactLines.checks c.args.lines.now in
    let lines = g.L.CompactLines.lines c.args.lines.now in
    let i = c.loop-i.i in
    let one : c.check_terms.result ≡ check_terms (checks.kind i) (line_in lines i) = rw (c.kind.ensures, c.line.ensures.is) at c.check_terms.ensures.is in
    record {
      is = omega (arith, c.loop-i.invariant.is, sum_next i (λ i. check_terms (checks.kind i) (line_in lines i)), one, c.from-sum.ensures);
      most = omega (arith, c.loop-i.invariant.most, c.check_terms.ensures.few, c.from-sum.ensures);
    }
