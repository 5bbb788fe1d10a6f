use Rattle.tv_core.proofs.Common.{some_first, refused_whole, all_last, refl}
use Rattle.tv_layout.proofs.system.word.Goals as goal

pub returns-in_err-bits : goal.returns-in_err-bits
returns-in_err-bits g c =
    let wires = rw (c.wire.ensures, c.offset.ensures) at c.in_err-bits.ensures.emits in
    refused_whole _ _ _ c.from_residual.ensures (some_first _ wires)

pub returns : goal.returns
returns g c = record {
  emits =
      let wires = rw (c.wire.ensures, c.offset.ensures) at c.in_ok-bits.ensures.emits in
      all_last _ wires refl;
}
