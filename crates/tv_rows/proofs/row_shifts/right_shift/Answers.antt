use Rattle.tv_core.proofs.Common.{◌≡◌, ℕ, ◌*◌, ◌%◌, ◌^◌, ◌∙◌, refl, refused_whole, some_first, for_widths, IsWidth, then_in}
use Rattle.tv_core.specs.declared.field.TheConstants.{P}
use Rattle.tv_rows.specs.RowShift.{right_shift_of}
use Rattle.tv_rows.proofs.row_shifts.right_shift.Goals as goal

power_of : (w : ℕ) → IsWidth w → (r : ℕ) → r ≡ 1 * 2 ^ w % 2 ^ 64 % P → r ≡ 2 ^ w % P
power_of w width r e = e ∙ for_widths (λ w. 1 * 2 ^ w % 2 ^ 64 % P ≡ 2 ^ w % P) refl refl w width

pub returns-in_err-product : goal.returns-in_err-product
unfolding right_shift_of
returns-in_err-product g c = refused_whole _ _ _ c.from_residual.ensures (some_first _ c.in_err-product.ensures.emits)

pub returns : goal.returns
unfolding right_shift_of
returns g c =
    let same = rw (power_of g.row.W c.requires.width c.of.result c.of.ensures) at c.gated.ensures.emits in
    record { emits = then_in _ _ _ _ _ c.in_ok-product.ensures.emits same }
