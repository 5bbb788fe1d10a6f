use Rattle.tv_core.proofs.Common.{◌≡◌, ◌+◌, ◌-◌, ◌++◌, ◌∙◌, append_assoc, Combination}
use Rattle.tv_core.specs.declared.field.TheConstants.{P}
use Rattle.tv_rows.specs.Digits.{digits_combination, digit_sum, digits_of}
use Rattle.tv_rows.proofs.digits.digits.Goals as goal

joined : (a b c d : Combination) → ((a ++ b) ++ c) ++ d ≡ a ++ (b ++ (c ++ d))
joined a b c d = append_assoc (a ++ b) c d ∙ append_assoc a b (c ++ d)

pub returns : goal.returns
unfolding digits_of
returns g c =
    let n = c.args.n in
    let x = digits_combination 1 c.args.x n in
    let y = digits_combination 1 c.args.y n in
    let both = digits_combination (P - 2) c.args.row n in
    let one = digits_combination (P - 1) (c.args.row + g.row.W) n in
    let terms : c.plus_digits-4.new.lc ≡ ((y ++ x) ++ both) ++ one =
    rw (c.plus_digits-3.ensures.terms, c.plus_digits-2.ensures.terms, c.plus_digits.ensures.terms, c.clear.ensures, c.neg.ensures, c.of.ensures)
    at (rw (c.neg-2.ensures, c.offset.ensures) at c.plus_digits-4.ensures.terms) in
    let sum : c.plus_digits-4.new.lc ≡ digit_sum g.row.W n c.args.x c.args.y c.args.row = terms ∙ joined y x both one in
    record { emits = rw (sum, c.clear-2.ensures) at c.put.ensures.emits }
