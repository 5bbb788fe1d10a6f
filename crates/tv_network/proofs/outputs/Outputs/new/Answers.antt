use Rattle.tv_core.proofs.Common.{arith}
use Rattle.tv_network.proofs.LastStage.{last_wires}
use Rattle.tv_network.proofs.outputs.Outputs.new.Goals as goal

pub overflow_sub-result : goal.overflow_sub-result
overflow_sub-result c = omega (arith, c.loose.view_is, c.offset-loose.ensures, c.stages_wires.ensures.is, c.loose_count.ensures, last_wires c.args.network)

pub invariant_of-result : goal.invariant_of-result
invariant_of-result c = record {
  are = record {
    stage = omega (arith, c.loose.view_is, c.offset-loose.ensures, c.stages_wires.ensures.is, c.loose_count.ensures, last_wires c.args.network);
    own = omega (arith, c.offset-loose.ensures, c.stages_wires.ensures.is);
    below = c.requires.room;
  };
}
