use Rattle.tv_core.proofs.Common.{◌≡◌, List, length, map, ◌∙◌, arith, length-map, slice_index, Line}
use Rattle.tv_lines.specs.PackedLines.{unpacked}
use Rattle.tv_argument.proofs.Previous.{order_long, order_permutes}
use Rattle.tv_argument.specs.Order.{address_order}
use Rattle.tv_stages.specs.Stages.{IsReordering}
use Rattle.tv_argument.proofs.address_order.predecessors.Goals as goal

pub previous-requires : goal.previous-requires
previous-requires c =
    let lines : List Line = map unpacked c.args.pairs.now in
    let many = length-map c.args.pairs.now unpacked in
    let is : c.deref.result.now ≡ address_order lines = c.deref.ensures.value ∙ c.in_ok-order.ensures in
    let right : IsReordering (length lines) (λ i. slice_index (address_order lines) i) =
    order_permutes lines (omega (arith, many, c.requires.few)) c.requires.times in
    let long = order_long lines (omega (arith, many, c.requires.few)) c.requires.times in
    rw (is, long) right
