use Rattle.tv_core.proofs.Common.{◌*◌, ◌^◌, ap₂, arith}
use Rattle.std.proofs.lemmas.Nat.{mul-le}
use Rattle.tv_outline.proofs.TurnLaws.{weighed_more, weighed_past}
use Rattle.tv_outline.proofs.turn.weighed.Goals as goal

pub loop-i-preserved : goal.loop-i-preserved
loop-i-preserved c =
    let more = weighed_more c.args.weights.now c.args.values.now c.loop-i.i 0 0 (omega arith) (omega arith) in
    let product = ap₂ (λ m n. m * n) c.from.ensures c.from-in-loop-i.ensures in
    let most = mul-le c.from.result c.from-in-loop-i.result (2 ^ 64) (2 ^ 32) (omega arith) (omega arith) in
    record { is = omega (arith, more, product); below = omega (arith, most) }

pub returns-clause-is : goal.returns-clause-is
returns-clause-is c = omega (arith, weighed_past c.args.weights.now c.args.values.now c.loop-i.i (omega arith))
