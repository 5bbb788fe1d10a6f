use Rattle.std.proofs.Common.{◌∙◌, ap, arith}
use Rattle.tv_stages.specs.Stages.{first_switch}
use Rattle.tv_stages.proofs.Shapes.{first_few}
use Rattle.tv_stages.proofs.shape.switches.Goals as goal

pub returns : goal.returns
returns c = record {
  is = c.first_switch.ensures.is ∙ ap (λ l. first_switch c.args.net c.args.slots l) c.stage_count.ensures.is;
  few =
      let few = first_few c.stage_count.result c.args.slots c.first_switch.result c.stage_count.ensures.few c.requires.small c.first_switch.ensures.few in
      omega arith;
}
