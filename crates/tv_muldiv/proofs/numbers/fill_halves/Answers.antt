use Rattle.tv_core.proofs.Common.{◌≡◌, ◌*◌, ◌/◌, ◌%◌, ◌^◌, arith, first_given, in_given, gives_refused_whole}
use Rattle.tv_core.specs.declared.field.TheConstants.{P}
use Rattle.tv_muldiv.proofs.numbers.fill_halves.Goals as goal

pub returns-in_err-fill_bits : goal.returns-in_err-fill_bits
returns-in_err-fill_bits g c =
    let power : 1 * 2 ^ g.row.W % 2 ^ 64 ≡ 2 ^ g.row.W = grind arith in
    let low_small : c.args.number % 2 ^ g.row.W % P ≡ c.args.number % 2 ^ g.row.W = grind arith in
    let low = rw (c.of.ensures, power, low_small) at c.in_err-fill_bits.ensures.gives in
    gives_refused_whole _ _ _ _ _ _ c.from_residual.ensures (first_given _ low)

pub returns-clause-gives : goal.returns-clause-gives
returns-clause-gives g c =
    let power : 1 * 2 ^ g.row.W % 2 ^ 64 ≡ 2 ^ g.row.W = grind arith in
    let low_small : c.args.number % 2 ^ g.row.W % P ≡ c.args.number % 2 ^ g.row.W = grind arith in
    let high_small : c.args.number / 2 ^ g.row.W % P ≡ c.args.number / 2 ^ g.row.W = grind arith in
    let low = rw (c.of.ensures, power, low_small) at c.in_ok-fill_bits.ensures.gives in
    let high = rw (c.of-2.ensures, high_small) at c.fill_bits-2.ensures.gives in
    in_given _ _ _ low high
