use Rattle.std.proofs.Common.{arith}
use Rattle.tv_stages.proofs.Shapes.{stage_deep, switch_before, switch_past, switch_far, switch_left}
use Rattle.tv_stages.proofs.shape.Stage.position.Goals as goal

pub remove_bit-number-requires : goal.remove_bit-number-requires
remove_bit-number-requires c = stage_deep c.args.self.is

pub returns-then-number-self : goal.returns-then-number-self
returns-then-number-self c =
    switch_far c.args.self.is
    c.args.slot c.remove_bit-number.result c.remove_bit-number.ensures c.if-number-self.true

pub returns-then-number-self-2 : goal.returns-then-number-self-2
returns-then-number-self-2 c =
    switch_before c.args.self.is
    c.args.slot c.remove_bit-number.result c.remove_bit-number.ensures c.if-number-self.false c.if-number-self-2.true

pub returns-then-number-self-3 : goal.returns-then-number-self-3
returns-then-number-self-3 c =
    let before = c.if-number-self-3.true in
    let past = c.if-number-self-2.false in
    switch_left c.args.self.is
    c.args.slot c.remove_bit-number.result c.remove_bit-number.ensures past (omega arith)

pub returns-else-number-self-3 : goal.returns-else-number-self-3
returns-else-number-self-3 c =
    let after = c.if-number-self-3.false in
    let past = c.if-number-self-2.false in
    switch_past c.args.self.is
    c.args.slot c.remove_bit-number.result c.remove_bit-number.ensures c.if-number-self.false (omega arith)
