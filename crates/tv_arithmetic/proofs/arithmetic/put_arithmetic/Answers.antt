use Rattle.tv_core.proofs.Common.{all_then, some_then, some_first, refused_wires, all_last, refl, emits_as, arith}
use Rattle.tv_arithmetic.specs.Arithmetic.{arithmetic_of}
use Rattle.tv_arithmetic.proofs.arithmetic.put_arithmetic.Goals as goal

pub returns-in_err-rows : goal.returns-in_err-rows
unfolding arithmetic_of
returns-in_err-rows g c = refused_wires _ _ _ _ c.from_residual.ensures (some_first _ c.in_err-rows.ensures.emits)

pub returns-in_err-put_sums : goal.returns-in_err-put_sums
unfolding arithmetic_of
returns-in_err-put_sums g c =
    refused_wires _ _ _ _ c.from_residual-in_err-put_sums.ensures (some_then _ c.in_ok-rows.ensures.emits (some_first _ c.in_err-put_sums.ensures.emits))

pub returns-in_err-put_products : goal.returns-in_err-put_products
unfolding arithmetic_of
returns-in_err-put_products g c =
    refused_wires _ _ _ _ c.from_residual-in_err-put_products.ensures (some_then _ c.in_ok-rows.ensures.emits (some_then _ c.in_ok-put_sums.ensures.emits
    (some_first _ c.in_err-put_products.ensures.emits)))

pub returns-in_err-both : goal.returns-in_err-both
unfolding arithmetic_of
returns-in_err-both g c =
    refused_wires _ _ _ _ c.from_residual-in_err-both.ensures (some_then _ c.in_ok-rows.ensures.emits (some_then _ c.in_ok-put_sums.ensures.emits
    (some_then _ c.in_ok-put_products.ensures.emits (some_first _ c.in_err-both.ensures.emits))))

pub returns-clause-emits : goal.returns-clause-emits
unfolding arithmetic_of
returns-clause-emits g c =
    emits_as (omega arith) (omega arith) (all_then _ c.in_ok-rows.ensures.emits (all_then _ c.in_ok-put_sums.ensures.emits
    (all_then _ c.in_ok-put_products.ensures.emits (all_last _ c.in_ok-both.ensures.emits refl))))
