use Rattle.tv_core.proofs.Common.{◌≡◌, ◌∙◌, ap, get_or, subst}
use Rattle.std.proofs.Common.{take_all}
use Rattle.tv_container.specs.Bytes.{eight_bytes}
use Rattle.tv_container.specs.Taking.{TakesBytes}
use Rattle.tv_container.proofs.Buffers.{each_more, took_none, took_then}
use Rattle.tv_r1cs_write.specs.Bytes.{label_bytes}
use Rattle.tv_r1cs_write.proofs.parts.put_listed.Goals as goal

pub loop-label-init : goal.loop-label-init
loop-label-init g c = took_none

pub loop-label-preserved : goal.loop-label-preserved
loop-label-preserved g c =
    let at = c.loop-label.label-index in
    let is : c.long_bytes.result ≡ eight_bytes (get_or c.args.labels.now at 0) = c.long_bytes.ensures ∙ ap eight_bytes c.from.ensures in
    rw (each_more eight_bytes c.args.labels.now at 0 c.long_bytes.result c.loop-label-test.true is)
    (took_then c.loop-label.invariant c.put.ensures)

pub returns : goal.returns
returns g c =
    subst (λ list. TakesBytes c.args.name.now (g.D.Files.seen c.args.files.now) c.args.pending.now (g.D.Files.seen c.loop-label.files) c.loop-label.pending
    (label_bytes list)) (take_all c.loop-label.label-index c.args.labels.now c.loop-label-test.false) c.loop-label.invariant
