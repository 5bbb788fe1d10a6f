use Rattle.tv_core.proofs.Common.{◌≡◌, ◌+◌, ◌-◌, ◌*◌, ◌^◌, ◌≤◌, refl, arith, nat_tests}
use Rattle.tv_numbers.proofs.RangeLaws.{with_byte_small}
use Rattle.tv_numbers.specs.Numbers.{with_byte_in}
use Rattle.tv_parts.proofs.memory.with_byte.Goals as goal

pub overflow_cast-result : goal.overflow_cast-result
overflow_cast-result g c =
    let width = c.requires.width in
    let small = with_byte_small g.row.W width c.args.word c.args.j c.args.byte c.requires.place c.requires.fits c.requires.byte in
    let most : 2 ^ g.row.W ≤ 2 ^ 32 = grind (arith, nat_tests) in
    let same : c.from.result + c.from-2.result * c.from-power.result - c.from-old.result * c.from-power.result ≡ with_byte_in c.args.word c.args.j c.args.byte
    = rw (c.from.ensures, c.from-2.ensures, c.from-power.ensures, c.byte_power.ensures.power, c.from-old.ensures, c.byte_of.ensures) refl in
    rw same (omega arith)
