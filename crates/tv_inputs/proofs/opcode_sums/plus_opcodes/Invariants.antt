use Rattle.tv_core.proofs.Common.{◌≡◌, ◌+◌, ◌≤◌, ◌++◌, length, take, top}
use Rattle.std.proofs.Common.{max}
use Rattle.tv_inputs.specs.OpcodeSums.{opcode_terms}
use Rattle.tv_inputs.proofs.opcode_sums.plus_opcodes.Given as goal

abbrev pub invariant-loop-k : goal.invariant-loop-k
invariant-loop-k l = record {
  terms : l.lc ≡ l.initial.lc ++ opcode_terms l.factor l.op (take l.k-index l.ops);
  len : length l.lc ≡ length l.initial.lc + l.k-index;
  below : top l.lc ≤ max (top l.initial.lc) (l.op + 29);
}
