use Rattle.tv_core.proofs.Common.{arith}
use Rattle.tv_shrink.proofs.Constants.{constant_in-empty, constant_in-single, constant_in-several, constant_in-wired}
use Rattle.tv_shrink.proofs.row.constant_in.Goals as goal
use Rattle.tv_shrink.proofs.row.constant_in.Goals.{else-terms-eq1-via-then-terms-eq1+else-wire-eq0, else-terms-eq1-via-else-terms-eq1}

pub returns-then-is_empty : goal.returns-then-is_empty
returns-then-is_empty c = constant_in-empty c.args.terms.now (grind arith)

pub returns-then-wire-eq0 : goal.returns-then-wire-eq0
returns-then-wire-eq0 c = constant_in-single c.args.terms.now c.index-terms-0.result c.index-terms-0-2.result (grind arith) c.requires (grind arith)

pub returns : goal.returns
returns c =
    elim c.else-terms-eq1.branch [
      | else-terms-eq1-via-then-terms-eq1+else-wire-eq0 w ↦ constant_in-wired c.args.terms.now c.index-terms-0-2.result (grind arith) (grind arith)
      | else-terms-eq1-via-else-terms-eq1 w ↦ constant_in-several c.args.terms.now (grind arith) (grind arith) c.requires
    ]
