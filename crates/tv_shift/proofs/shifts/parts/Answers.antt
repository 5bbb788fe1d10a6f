use Rattle.tv_core.proofs.Common.{arith, emits_as, refused, all_then, some_then, some_first, all_last, refl}
use Rattle.tv_shift.proofs.ShiftNumbers.{products_half}
use Rattle.tv_shift.specs.Shift.{places_of, parts_of}
use Rattle.tv_shift.proofs.shifts.parts.Goals as goal

pub returns-in_err-chosen-clause-emits : goal.returns-in_err-chosen-clause-emits
unfolding places_of parts_of
returns-in_err-chosen-clause-emits g c =
    let chosen = rw (c.offset.ensures, c.half_log-k.ensures) at c.in_err-chosen.ensures.emits in
    refused _ _ _ c.from_residual.ensures.1 (some_first _ (some_first _ chosen))

pub returns-in_err-products-clause-emits : goal.returns-in_err-products-clause-emits
unfolding places_of parts_of
returns-in_err-products-clause-emits g c =
    let chosen = rw (c.offset.ensures, c.half_log-k.ensures) at c.in_ok-chosen.ensures.emits in
    let products = rw c.half_log-k.ensures at c.in_err-products.ensures.emits in
    refused _ _ _ c.from_residual-in_err-products.ensures.1 (some_first _ (some_then _ chosen (some_first _ products)))

pub returns-in_err-low-clause-emits : goal.returns-in_err-low-clause-emits
unfolding places_of parts_of
returns-in_err-low-clause-emits g c =
    let chosen = rw (c.offset.ensures, c.half_log-k.ensures) at c.in_ok-chosen.ensures.emits in
    let products = rw c.half_log-k.ensures at c.in_ok-products.ensures.emits in
    refused _ _ _ c.from_residual-in_err-low.ensures.1 (some_then _ (all_then _ chosen (all_last _ products refl))
    (some_first _ c.in_err-low.ensures.emits))

pub returns-in_err-high-clause-emits : goal.returns-in_err-high-clause-emits
unfolding places_of parts_of
returns-in_err-high-clause-emits g c =
    let chosen = rw (c.offset.ensures, c.half_log-k.ensures) at c.in_ok-chosen.ensures.emits in
    let products = rw c.half_log-k.ensures at c.in_ok-products.ensures.emits in
    refused _ _ _ c.from_residual-in_err-high.ensures.1 (some_then _ (all_then _ chosen (all_last _ products refl))
    (some_then _ c.in_ok-low.ensures.emits (some_first _ c.in_err-high.ensures.emits)))

pub returns-clause-emits : goal.returns-clause-emits
unfolding places_of parts_of
returns-clause-emits g c =
    let chosen = rw (c.offset.ensures, c.half_log-k.ensures) at c.in_ok-chosen.ensures.emits in
    let products = rw c.half_log-k.ensures at c.in_ok-products.ensures.emits in
    let made = products_half g.row.W c.requires.width in
    emits_as (omega (arith, made)) (omega (arith, made))
    (all_then _ (all_then _ chosen (all_last _ products refl)) (all_then _ c.in_ok-low.ensures.emits (all_last _ c.in_ok-high.ensures.emits refl)))
