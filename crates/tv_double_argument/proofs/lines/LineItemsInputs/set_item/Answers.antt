use Rattle.tv_double_argument.proofs.Widths.{width_of}
use Rattle.tv_double_argument.proofs.lines.LineItemsInputs.set_item.Goals as goal

pub item-requires-clause-width : goal.item-requires-clause-width
item-requires-clause-width g c = width_of g.row.W c.args.self.now.width
