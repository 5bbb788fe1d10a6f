use Rattle.std.proofs.Common.{arith}
use Rattle.tv_stages.proofs.Shapes.{stage_before, stage_past, stage_number}
use Rattle.tv_stages.proofs.shape.Stage.number_at.Goals as goal

pub overflow_add-result : goal.overflow_add-result
overflow_add-result c =
    let past = stage_past c.args.self.is c.args.at c.if-at-self.false in
    let few = stage_number c.args.self.is c.args.at c.requires in
    omega arith

pub returns-then-at-self : goal.returns-then-at-self
returns-then-at-self c = stage_before c.args.self.is c.args.at c.if-at-self.true

pub returns-else-at-self : goal.returns-else-at-self
returns-else-at-self c = stage_past c.args.self.is c.args.at c.if-at-self.false
