use Rattle.tv_core.proofs.Common.{◌≡◌, ◌^◌, sym, arith}
use Rattle.tv_core.proofs.BelowLaws.{sum_below-zero}
use Rattle.tv_double_argument.proofs.Sums.{sum_next}
use Rattle.tv_double_argument.specs.Checks.{check_terms}
use Rattle.tv_double_argument.proofs.terms.checks_terms.Goals as goal

pub loop-i-init : goal.loop-i-init
loop-i-init g c =
    let all = g.L.DoubleLines.lines c.args.lines.now in
    record {
      is = sym (sum_below-zero (λ i. check_terms (2 ^ g.row.W) (all.kind i) (all.new i)));
      most = omega arith;
    }

pub loop-i-preserved : goal.loop-i-preserved
loop-i-preserved g c =
    let all = g.L.DoubleLines.lines c.args.lines.now in
    let i = c.loop-i.i in
    let one : c.check_terms.result ≡ check_terms (2 ^ g.row.W) (all.kind i) (all.new i) =
    rw (c.kind.ensures, c.set_new.ensures.is) at c.check_terms.ensures.is in
    record {
      is = omega (arith, c.loop-i.invariant.is, sum_next i (λ i. check_terms (2 ^ g.row.W) (all.kind i) (all.new i)), one, c.from-sum.ensures);
      most = omega (arith, c.loop-i.invariant.most, c.check_terms.ensures.few, c.from-sum.ensures);
    }
