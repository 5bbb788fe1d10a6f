use Rattle.std.proofs.Common.{take}
use Rattle.tv_container.specs.Taking.{TakesBytes}
use Rattle.tv_r1cs_write.specs.Bytes.{label_bytes}
use Rattle.tv_r1cs_write.proofs.parts.put_listed.Given as goal

abbrev pub invariant-loop-label : goal.invariant-loop-label
invariant-loop-label g l =
    TakesBytes l.name (g.D.Files.seen l.fn.files) l.fn.pending (g.D.Files.seen l.files) l.pending (label_bytes (take l.label-index l.labels))
