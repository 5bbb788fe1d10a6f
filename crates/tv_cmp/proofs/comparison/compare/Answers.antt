use Rattle.tv_core.proofs.Common.{all_then, some_then, some_first, refused_wires, all_last, refl, emits_as, arith}
use Rattle.tv_cmp.specs.Compare.{compare_of}
use Rattle.tv_bits.proofs.BitNumbers.{bits_sized}
use Rattle.tv_cmp.proofs.comparison.compare.Goals as goal

pub returns-in_err-order_flags : goal.returns-in_err-order_flags
unfolding compare_of
returns-in_err-order_flags g c =
    refused_wires _ _ _ _ c.from_residual.ensures (some_then _ c.fresh-equal.ensures.emits (some_then _ c.fresh-above.ensures.emits
    (some_first _ c.in_err-order_flags.ensures.emits)))

pub returns-in_err-difference : goal.returns-in_err-difference
unfolding compare_of
returns-in_err-difference g c =
    refused_wires _ _ _ _ c.from_residual-in_err-difference.ensures (some_then _ c.fresh-equal.ensures.emits (some_then _ c.fresh-above.ensures.emits
    (some_then _ c.in_ok-order_flags.ensures.emits (some_first _ c.in_err-difference.ensures.emits))))

pub returns-in_err-prefix_difference_by : goal.returns-in_err-prefix_difference_by
unfolding compare_of
returns-in_err-prefix_difference_by g c =
    let prefix = rw (
      c.wire-size.ensures,
      bits_sized g.row.W c.args.x.now c.requires.x_word.size,
      bits_sized g.row.W c.args.y.now c.requires.y_word.size,
    ) at c.in_err-prefix_difference_by.ensures.emits in
    refused_wires _ _ _ _ c.from_residual-in_err-prefix_difference_by.ensures
    (some_then _ c.fresh-equal.ensures.emits (some_then _ c.fresh-above.ensures.emits
    (some_then _ c.in_ok-order_flags.ensures.emits (some_then _ c.in_ok-difference.ensures.emits (some_first _ prefix)))))

pub returns-in_err-greater : goal.returns-in_err-greater
unfolding compare_of
returns-in_err-greater g c =
    let prefix = rw (
      c.wire-size.ensures,
      bits_sized g.row.W c.args.x.now c.requires.x_word.size,
      bits_sized g.row.W c.args.y.now c.requires.y_word.size,
    ) at c.in_ok-prefix_difference_by.ensures.emits in
    refused_wires _ _ _ _ c.from_residual-in_err-greater.ensures (some_then _ c.fresh-equal.ensures.emits (some_then _ c.fresh-above.ensures.emits
    (some_then _ c.in_ok-order_flags.ensures.emits (some_then _ c.in_ok-difference.ensures.emits (some_then _ prefix
    (some_first _ c.in_err-greater.ensures.emits))))))

pub returns-clause-emits : goal.returns-clause-emits
unfolding compare_of
returns-clause-emits g c =
    let prefix = rw (
      c.wire-size.ensures,
      bits_sized g.row.W c.args.x.now c.requires.x_word.size,
      bits_sized g.row.W c.args.y.now c.requires.y_word.size,
    ) at c.in_ok-prefix_difference_by.ensures.emits in
    emits_as (omega arith) (omega arith) (all_then _ c.fresh-equal.ensures.emits (all_then _ c.fresh-above.ensures.emits
    (all_then _ c.in_ok-order_flags.ensures.emits (all_then _ c.in_ok-difference.ensures.emits (all_then _ prefix
    (all_last _ c.in_ok-greater.ensures.emits refl))))))
