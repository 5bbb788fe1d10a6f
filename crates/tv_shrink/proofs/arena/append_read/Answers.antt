use Rattle.tv_core.proofs.Common.{arith}
use Rattle.tv_container.proofs.Chain.{err_is}
use Rattle.tv_core.specs.Normal.{normal_constraint}
use Rattle.tv_r1cs_read.specs.Rows.{constraint_of}
use Rattle.tv_shrink.proofs.Read.{too_wide_front}
use Rattle.tv_shrink.proofs.Spans.{span_is, terms_appended}
use Rattle.tv_shrink.proofs.arena.append_read.Goals as goal

pub returns-clause-out : goal.returns-clause-out
returns-clause-out c = terms_appended _ _ _ _ _ _ _ c.in_ok-a.ensures.ok c.in_ok-b.ensures.ok c.in_ok-c.ensures.ok

pub returns-clause-made : goal.returns-clause-made
returns-clause-made c =
    span_is c.args.out.now.items (normal_constraint (constraint_of c.args.row.now)) c.len-start.result c.in_ok-a.a c.in_ok-b.b c.in_ok-c.c
    (omega (arith, c.len-start.ensures)) c.in_ok-a.ensures.size c.in_ok-b.ensures.size c.in_ok-c.ensures.size

pub returns-clause-narrow : goal.returns-clause-narrow
returns-clause-narrow c = rw (c.in_ok-a.ensures.narrow, c.in_ok-b.ensures.narrow) c.in_ok-c.ensures.narrow

pub returns-in_err-a-clause-err : goal.returns-in_err-a-clause-err
returns-in_err-a-clause-err c = rw (err_is c.from_residual.result c.from_residual.ensures.1) (too_wide_front _ _ _ c.in_err-a.ensures.err)

pub returns-in_err-b-clause-err : goal.returns-in_err-b-clause-err
returns-in_err-b-clause-err c =
    rw (err_is c.from_residual-in_err-b.result c.from_residual-in_err-b.ensures.1, c.in_ok-a.ensures.narrow)
    (too_wide_front _ _ _ c.in_err-b.ensures.err)

pub returns-in_err-c-clause-err : goal.returns-in_err-c-clause-err
returns-in_err-c-clause-err c =
    rw (err_is c.from_residual-in_err-c.result c.from_residual-in_err-c.ensures.1, c.in_ok-a.ensures.narrow, c.in_ok-b.ensures.narrow)
    c.in_err-c.ensures.err
