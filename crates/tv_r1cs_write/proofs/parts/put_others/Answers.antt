use Rattle.tv_core.proofs.Common.{◌≡◌, ◌≢◌, ◌∙◌, ◌<◌, ap, arith, get_or, length, not}
use Rattle.tv_container.proofs.Buffers.{lost_more, took_none, took_then}
use Rattle.tv_r1cs_write.specs.Bytes.{others}
use Rattle.tv_r1cs_write.proofs.Others.{absent, all_ahead, bytes_begin, bytes_more, bytes_stay, passed, there, waiting}
use Rattle.tv_r1cs_write.proofs.parts.put_others.Goals as goal
use Rattle.tv_r1cs_write.proofs.parts.put_others.Goals.{then-next-but+then-from-label, else-next-but, else-next-but-via-then-next-but+else-from-label}
use Rattle.tv_r1cs_write.proofs.parts.put_others.Goals.{else-next-but-via-else-next-but}

pub loop-label-init : goal.loop-label-init
unfolding others
loop-label-init g c = record { took = took_none; ahead = all_ahead c.args.but.now c.requires }

pub returns-then-is_err : goal.returns-then-is_err
returns-then-is_err g c =
    let more = bytes_begin c.loop-label.label c.args.count c.args.but.now (omega (arith, c.loop-label-test.true)) in
    rw more.1 (took_then c.loop-label.invariant.took (lost_more (c.is_err.ensures.negation ∙ ap not c.if-is_err.true)))

pub loop-label-preserved : goal.loop-label-preserved
loop-label-preserved g c =
    let n = c.loop-label.label in
    let but = c.args.but.now in
    let next = c.loop-label.next in
    let ahead = c.loop-label.invariant.ahead in
    let took = c.loop-label.invariant.took in
    elim c.if-next-but.branch [
      | then-next-but+then-from-label w ↦
          let inside : next < length but = omega (arith, w.if-next-but.true) in
          let same : get_or but next 0 ≡ n = omega (arith, w.from.ensures, w.if-from-label.true) in
          rw (w.pending-is, w.files-is, w.next-is) record {
            took = rw (bytes_stay n but (there n but next ahead inside same)) took;
            ahead = passed n but next ahead inside same;
          }
      | else-next-but w ↦
          let apart : next < length but → get_or but next 0 ≢ n = λ inside same. elim w.else-next-but.branch [
            | else-next-but-via-then-next-but+else-from-label v ↦ absurd (v.if-from-label.false (v.from.ensures ∙ same))
            | else-next-but-via-else-next-but v ↦ absurd (omega (arith, v.if-next-but.false))
          ] in
          rw (w.pending-is, w.files-is, w.next-is) record {
            took = rw (bytes_more n but (absent n but next ahead apart)) (took_then took (rw w.long_bytes.ensures at w.put.ensures));
            ahead = waiting n but next ahead apart;
          }
    ]
