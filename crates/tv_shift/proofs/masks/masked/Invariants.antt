use Rattle.tv_core.proofs.Common.{◌/◌, sequence, EmitsAll}
use Rattle.tv_shift.specs.Masks.{mask_at, digit_at, masked_pair_of}
use Rattle.tv_shift.proofs.masks.masked.Given as goal

abbrev pub invariant-loop-i : goal.invariant-loop-i
invariant-loop-i g l = record {
  emits : EmitsAll g.S.Sink.meaning l.initial.s l.s
      (sequence l.i (masked_pair_of (mask_at g.row.W l.places l.part) (digit_at g.row.W l.places l.part) (g.row.W / 4))) l.i l.i tt;
}
