use Rattle.std.proofs.Common.{◌+◌, ◌^◌, ◌<◌, sym, ◌∙◌, ap₂, subst}
use Rattle.tv_stages.specs.Stages.{insert_bit, depth}
use Rattle.tv_stages.proofs.Shapes.{stage_deep, stage_slot, slot_few}
use Rattle.tv_stages.proofs.shape.Stage.slot.Goals as goal

pub insert_bit-requires-clause-within : goal.insert_bit-requires-clause-within
insert_bit-requires-clause-within c = stage_deep c.args.self.is

pub insert_bit-requires-clause-few : goal.insert_bit-requires-clause-few
insert_bit-requires-clause-few c =
    slot_few c.args.self.is c.args.at c.number_at.result c.requires c.number_at.ensures

pub returns-clause-is : goal.returns-clause-is
returns-clause-is c = c.insert_bit.ensures ∙ ap₂ (λ d i. insert_bit d i) c.args.self.is.deep c.number_at.ensures

pub returns-clause-within : goal.returns-clause-within
returns-clause-within c =
    subst (λ x. x + 2 ^ depth c.args.self.slots c.args.self.number < c.args.self.slots)
    (sym (c.insert_bit.ensures ∙ ap₂ (λ d i. insert_bit d i) c.args.self.is.deep c.number_at.ensures))
    (stage_slot c.args.self.is c.args.at c.requires)
