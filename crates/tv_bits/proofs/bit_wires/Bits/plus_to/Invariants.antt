use Rattle.tv_core.proofs.Common.{◌≡◌, ◌+◌, ◌*◌, ◌%◌, ◌^◌, ◌≤◌, ◌++◌, length, scaled, top}
use Rattle.std.proofs.Common.{max}
use Rattle.tv_core.specs.declared.field.TheConstants.{P}
use Rattle.tv_bits.specs.Bits.{bits_combination}
use Rattle.tv_bits.proofs.bit_wires.Bits.plus_to.Given as goal

abbrev pub invariant-loop-i : goal.invariant-loop-i
invariant-loop-i l = record {
  terms : l.lc ≡ l.initial.lc ++ scaled l.fn.factor (bits_combination l.first l.i);
  coefficient : l.coefficient ≡ l.fn.factor * 2 ^ l.i % P;
  len : length l.lc ≡ length l.initial.lc + l.i;
  made : top l.lc ≤ max (top l.initial.lc) (l.first + l.i);
}
