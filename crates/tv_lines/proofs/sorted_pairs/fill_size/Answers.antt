use Rattle.tv_core.proofs.Common.{◌≡◌, ◌-◌, arith, first_given, in_given, gives_refused_whole}
use Rattle.tv_lines.proofs.sorted_pairs.fill_size.Goals as goal

pub returns-in_err-fill_bits : goal.returns-in_err-fill_bits
returns-in_err-fill_bits g c =
    let less : c.of.result ≡ c.args.size - 1 = omega (arith, c.of.ensures, c.saturating_sub.ensures, c.number.ensures) in
    let bits = rw less at c.in_err-fill_bits.ensures.gives in
    gives_refused_whole _ _ _ _ _ _ c.from_residual.ensures (first_given _ bits)

pub returns-clause-gives : goal.returns-clause-gives
returns-clause-gives g c =
    let less : c.of.result ≡ c.args.size - 1 = omega (arith, c.of.ensures, c.saturating_sub.ensures, c.number.ensures) in
    let bits = rw less at c.in_ok-fill_bits.ensures.gives in
    in_given _ _ _ bits c.give.ensures.gives
