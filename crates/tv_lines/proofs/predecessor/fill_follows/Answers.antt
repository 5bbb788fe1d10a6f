use Rattle.tv_core.proofs.Common.{◌≡◌, ◌∙◌, ap, arith, first_given, in_given, gives_refused_whole}
use Rattle.tv_lines.specs.PackedLines.{unpacked}
use Rattle.tv_lines.specs.Predecessor.{excess_between}
use Rattle.tv_lines.proofs.predecessor.fill_follows.Goals as goal

pub returns-in_err-fill_bits : goal.returns-in_err-fill_bits
returns-in_err-fill_bits g c =
    let bits = rw (c.from.ensures, c.reach_between.ensures, c.unpack_item-before.ensures) at c.in_err-fill_bits.ensures.gives in
    gives_refused_whole _ _ _ _ _ _ c.from_residual.ensures (first_given _ bits)

pub returns-clause-gives : goal.returns-clause-gives
returns-clause-gives g c =
    let bits = rw (c.from.ensures, c.reach_between.ensures, c.unpack_item-before.ensures) at c.in_ok-fill_bits.ensures.gives in
    let is : c.of.result ≡ excess_between (unpacked c.args.item.now) c.args.line.now = omega (
      arith,
      c.of.ensures,
      c.excess_between.ensures.below,
      c.excess_between.ensures.is ∙ ap (λ l. excess_between l c.args.line.now) c.unpack_item-before.ensures,
    ) in
    let given = rw is at c.give.ensures.gives in
    in_given _ _ _ bits given
