use Rattle.tv_core.proofs.Common.{◌≡◌, ◌+◌, ◌*◌, ◌%◌, ◌^◌, ◌≤◌, ◌++◌, length, top}
use Rattle.std.proofs.Common.{max}
use Rattle.tv_core.specs.declared.field.TheConstants.{P}
use Rattle.tv_rows.specs.Digits.{digits_combination}
use Rattle.tv_rows.specs.declared.digits.TheConstants.{BASE}
use Rattle.tv_rows.proofs.digits.plus_digits.Given as goal

abbrev pub invariant-loop-j : goal.invariant-loop-j
invariant-loop-j l = record {
  terms : l.lc ≡ l.initial.lc ++ digits_combination l.fn.factor l.first l.j;
  coefficient : l.coefficient ≡ l.fn.factor * BASE ^ l.j % P;
  len : length l.lc ≡ length l.initial.lc + l.j;
  made : top l.lc ≤ max (top l.initial.lc) (l.first + l.j);
}
