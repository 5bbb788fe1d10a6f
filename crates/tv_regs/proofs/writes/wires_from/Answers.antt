use Rattle.tv_core.proofs.Common.{◌≡◌, ◌≤◌, ◌+◌, sym, ◌∙◌, ap, arith, range_with_len}
use Rattle.std.proofs.lemmas.List.{ext_get_or}
use Rattle.std.proofs.lemmas.List.FromFn.{get_or-range_with_len}
use Rattle.tv_bits.specs.Wires.{wires_top}
use Rattle.tv_regs.proofs.writes.wires_from.Goals as goal

pub returns : goal.returns
returns c =
    let size = c.loop-i.invariant.size in
    let same : c.loop-i.made ≡ range_with_len c.args.first 16 = ext_get_or 0 c.loop-i.made (range_with_len c.args.first 16) size
    (λ j h. c.loop-i.invariant.wires j (omega arith) ∙ sym (get_or-range_with_len c.args.first 16 j 0 (omega arith))) in
    let top : wires_top (range_with_len c.args.first 16) ≤ c.args.first + 16 = omega arith in
    record { wires = same; top = omega (arith, ap wires_top same, top) }
