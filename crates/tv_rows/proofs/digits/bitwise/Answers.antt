use Rattle.tv_core.proofs.Common.{refused_whole, some_first, then_in}
use Rattle.tv_rows.specs.Digits.{bitwise_of}
use Rattle.tv_rows.proofs.digits.bitwise.Goals as goal

pub returns-in_err-digits : goal.returns-in_err-digits
unfolding bitwise_of
returns-in_err-digits g c = refused_whole _ _ _ c.from_residual.ensures (some_first _ c.in_err-digits.ensures.emits)

pub returns : goal.returns
unfolding bitwise_of
returns g c =
    let high = rw (c.offset.ensures, c.offset-2.ensures, c.offset-3.ensures) at c.digits-2.ensures.emits in
    record { emits = then_in _ _ _ _ _ c.in_ok-digits.ensures.emits high }
