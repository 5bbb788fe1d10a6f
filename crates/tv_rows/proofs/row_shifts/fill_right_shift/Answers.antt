use Rattle.tv_core.proofs.Common.{◌≡◌, ℕ, ◌+◌, ◌*◌, ◌%◌, ◌^◌, ◌∙◌, refl, ap, for_widths, IsWidth}
use Rattle.std.proofs.Math.Nat.{add-mod-mod}
use Rattle.std.proofs.lemmas.Nat.{mul-mod_first}
use Rattle.tv_core.specs.declared.field.TheConstants.{P}
use Rattle.tv_rows.proofs.row_shifts.fill_right_shift.Goals as goal

number_times : (w low high power : ℕ) → IsWidth w
    → (low + 1 * 2 ^ w % 2 ^ 64 % P * high % P) % P * power % P ≡ (low + 2 ^ w * high) * power % P
number_times w low high power width =
    let size = for_widths (λ w. 1 * 2 ^ w % 2 ^ 64 % P ≡ 2 ^ w) refl refl w width in
    ap (λ n. (low + n * high % P) % P * power % P) size
    ∙ ap (λ n. n * power % P) (add-mod-mod low (2 ^ w * high) P) ∙ mul-mod_first (low + 2 ^ w * high) power P

pub returns-clause-gives : goal.returns-clause-gives
returns-clause-gives g c =
    let number = rw (c.mul-2.ensures, c.add-number.ensures, c.mul.ensures, c.of.ensures) at c.give.ensures.gives in
    let times = rw (c.from.ensures, c.from-2.ensures, c.from-3.ensures) at number in
    rw (number_times g.row.W c.args.low c.args.high c.args.power c.requires.width) at times
