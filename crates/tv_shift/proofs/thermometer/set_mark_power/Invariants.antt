use Rattle.tv_core.proofs.Common.{◌≡◌, ◌+◌, ◌*◌, ◌%◌, ◌^◌, ◌≤◌, length, top}
use Rattle.std.proofs.Common.{max}
use Rattle.tv_core.specs.declared.field.TheConstants.{P}
use Rattle.tv_shift.specs.Thermometer.{products_below, mark, power_of}
use Rattle.tv_shift.proofs.thermometer.set_mark_power.Given as goal

abbrev pub invariant-loop-i : goal.invariant-loop-i
invariant-loop-i l = record {
  terms : l.lc ≡ power_of (mark l.marks.bits l.marks.products l.k) l.i;
  coefficient : l.coefficient ≡ 2 ^ l.i % P;
  short : length l.lc ≤ 1 + 8 * l.i;
  made : top l.lc ≤ max 1 (max (l.marks.bits + l.k) (l.marks.products + products_below l.k));
}
