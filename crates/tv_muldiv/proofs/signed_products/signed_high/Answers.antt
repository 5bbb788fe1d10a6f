use Rattle.tv_core.proofs.Common.{◌≡◌, ℕ, ap₂, arith, refused, all_then, some_then, some_first, all_last, refl, emits_as}
use Rattle.tv_bits.specs.declared.bit_wires.Bits.{Bits}
use Rattle.tv_muldiv.specs.SignedHigh.{signed_high_of}
use Rattle.tv_muldiv.proofs.signed_products.signed_high.Goals as goal

pub returns-in_err-made-clause-emits : goal.returns-in_err-made-clause-emits
unfolding signed_high_of
returns-in_err-made-clause-emits g c =
    refused _ _ _ c.from_residual.ensures.1 (some_first _ c.in_err-made.ensures.emits)

pub returns-in_err-over-clause-emits : goal.returns-in_err-over-clause-emits
unfolding signed_high_of
returns-in_err-over-clause-emits g c =
    let over = rw (c.set_high_excess.ensures.terms) at c.in_err-over.ensures.emits in
    refused _ _ _ c.from_residual-in_err-over.ensures.1 (some_then _ c.in_ok-made.ensures.emits (some_first _ over))

row_is : (x : Bits) (f k : ℕ) → x.first ≡ f → x.n ≡ k → x ≡ record { first = f; n = k }
row_is x f k first n = ap₂ (λ f k. record { first = f; n = k }) first n

pub returns-clause-emits : goal.returns-clause-emits
unfolding signed_high_of
returns-clause-emits g c =
    let over = rw (c.set_high_excess.ensures.terms) at c.in_ok-over.ensures.emits in
    let size : c.above-high.result.n ≡ g.row.W = omega (arith, c.above-high.ensures.n, c.in_ok-made.ensures.below.size) in
    rw (row_is c.above-high.result _ g.row.W c.above-high.ensures.first size)
    (emits_as (omega arith) (omega arith) (all_then _ c.in_ok-made.ensures.emits (all_last _ over refl)))
