use Rattle.tv_core.proofs.Common.{some_then, some_first, refused_whole, then_in}
use Rattle.tv_arithmetic.specs.Arithmetic.{sums_of}
use Rattle.tv_arithmetic.proofs.arithmetic.put_sums.Goals as goal

pub returns-in_err-row_sum : goal.returns-in_err-row_sum
unfolding sums_of
returns-in_err-row_sum g c =
    let p0 = rw c.set_opcodes.ensures.terms at c.in_err-row_sum.ensures.emits in
    refused_whole _ _ _ c.from_residual.ensures (some_first _ p0)

pub returns-in_err-put_difference : goal.returns-in_err-put_difference
unfolding sums_of
returns-in_err-put_difference g c =
    let p0 = rw c.set_opcodes.ensures.terms at c.in_ok-row_sum.ensures.emits in
    refused_whole _ _ _ c.from_residual-in_err-put_difference.ensures (some_then _ p0 (some_first _ c.in_err-put_difference.ensures.emits))

pub returns : goal.returns
unfolding sums_of
returns g c = record {
  emits =
      let p0 = rw c.set_opcodes.ensures.terms at c.in_ok-row_sum.ensures.emits in
      let p2 = rw c.set_opcodes-2.ensures.terms at c.bitwise.ensures.emits in
      then_in _ _ _ _ _ p0 (then_in _ _ _ _ _ c.in_ok-put_difference.ensures.emits p2);
}
