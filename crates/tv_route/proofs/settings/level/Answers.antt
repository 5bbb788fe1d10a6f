use Rattle.tv_core.proofs.Common.{◌≡◌, suc, ◌-◌, ◌^◌, length, ap, sym, ◌∙◌, arith}
use Rattle.tv_route.proofs.RouteLaws.{level_is, exponent_is}
use Rattle.tv_route.proofs.settings.level.Goals as goal

pub overflow_sub-result : goal.overflow_sub-result
overflow_sub-result c = (exponent_is c.args.p.now c.requires c.ilog2.result c.ilog2.ensures.power_le c.ilog2.ensures.next_power_gt).some

pub returns : goal.returns
returns c =
    let power = exponent_is c.args.p.now c.requires c.ilog2.result c.ilog2.ensures.power_le c.ilog2.ensures.next_power_gt in
    let next : c.ilog2.result ≡ suc (c.ilog2.result - 1) = omega (arith, power.some) in
    let long : length c.args.p.now ≡ 2 ^ suc (c.ilog2.result - 1) = power.long ∙ ap (λ k. 2 ^ k) next in
    record { is = sym (level_is c.args.p.now (c.ilog2.result - 1) long); small = omega (arith, power.few, power.some); long = long }
