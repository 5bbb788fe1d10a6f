use Rattle.tv_core.proofs.Common.{arith}
use Rattle.tv_argument_tests.proofs.Made.{eight, eight_made, few_wires, checks_made, checks_added}
use Rattle.tv_argument_tests.proofs.argument.put.Goals as goal

pub memory-requires-clause-few : goal.memory-requires-clause-few
memory-requires-clause-few g c = omega (arith, eight)

pub memory-requires-clause-room : goal.memory-requires-clause-room
memory-requires-clause-room g c =
    let room = c.requires.room in
    record {
      whole = room.whole;
      constant = room.constant;
      wires = rw eight (omega (arith, room.wires, few_wires c.args.net, checks_made));
      constraints = rw eight (omega (arith, room.constraints, few_wires c.args.net, checks_added));
    }

pub memory-requires-clause-made : goal.memory-requires-clause-made
memory-requires-clause-made g c = eight_made (g.S.Sink.meaning.wires c.args.s.now) c.requires.lines
