use Rattle.tv_core.proofs.Common.{some_then, some_first, refused_wires, then_in}
use Rattle.tv_shift.specs.Shift.{shift_of}
use Rattle.tv_shift.proofs.shifts.shift.Goals as goal

pub returns-in_err-parts : goal.returns-in_err-parts
unfolding shift_of
returns-in_err-parts g c =
    refused_wires _ _ _ _ c.from_residual.ensures (some_first _ c.in_err-parts.ensures.emits)

pub returns-in_err-half : goal.returns-in_err-half
unfolding shift_of
returns-in_err-half g c =
    let half = rw (c.offset.ensures, c.half_log-k.ensures) at c.in_err-half.ensures.emits in
    refused_wires _ _ _ _ c.from_residual-in_err-half.ensures (some_then _ c.in_ok-parts.ensures.emits (some_first _ half))

pub returns-in_err-near : goal.returns-in_err-near
unfolding shift_of
returns-in_err-near g c =
    let half = rw (c.offset.ensures, c.half_log-k.ensures) at c.in_ok-half.ensures.emits in
    refused_wires _ _ _ _ c.from_residual-in_err-near.ensures (some_then _ c.in_ok-parts.ensures.emits (some_then _ half
    (some_first _ c.in_err-near.ensures.emits)))

pub returns-in_err-in_range : goal.returns-in_err-in_range
unfolding shift_of
returns-in_err-in_range g c =
    let half = rw (c.offset.ensures, c.half_log-k.ensures) at c.in_ok-half.ensures.emits in
    let in_range = rw (
      c.set_number.ensures.terms,
      c.above.ensures.first,
      c.above.ensures.n,
      c.requires.y_word.size,
      c.half_log-k.ensures,
    ) at c.in_err-in_range.ensures.emits in
    refused_wires _ _ _ _ c.from_residual-in_err-in_range.ensures
    (some_then _ c.in_ok-parts.ensures.emits (some_then _ half (some_then _ c.in_ok-near.ensures.emits
    (some_first _ in_range))))

pub returns-clause-emits : goal.returns-clause-emits
unfolding shift_of
returns-clause-emits g c =
    let half = rw (c.offset.ensures, c.half_log-k.ensures) at c.in_ok-half.ensures.emits in
    let in_range = rw (
      c.set_number.ensures.terms,
      c.above.ensures.first,
      c.above.ensures.n,
      c.requires.y_word.size,
      c.half_log-k.ensures,
    ) at c.in_ok-in_range.ensures.emits in
    then_in _ _ _ _ _ c.in_ok-parts.ensures.emits
    (then_in _ _ _ _ _ half (then_in _ _ _ _ _ c.in_ok-near.ensures.emits (then_in _ _ _ _ _ in_range c.ends.ensures.emits)))
