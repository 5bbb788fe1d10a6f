use Rattle.tv_core.proofs.Common.{common_steps, ◌+◌, [], ◌∷◌, ◌++◌, length, sym, ◌∙◌, ap, arith, add-one, append_assoc}
use Rattle.std.proofs.Common.{length-append}
use Rattle.std.proofs.lemmas.List.{append-nil}
use Rattle.tv_bits.specs.OneHot.{row_sum}
use Rattle.tv_core.proofs.BelowLaws.{weighted-zero, weighted-suc, length-weighted, top-weighted}
use Rattle.tv_core.proofs.CombinationLaws.{top-append}
use Rattle.tv_bits.proofs.rows.plus_row.Goals as goal

pub loop-i-init : goal.loop-i-init
loop-i-init c = sym (ap (λ l. c.args.lc.now ++ l) (weighted-zero c.args.first (λ _. 1)) ∙ append-nil c.args.lc.now)

pub plus-requires : goal.plus-requires
plus-requires c = grind (arith, common_steps, length, length-append, length-weighted)

pub loop-i-preserved : goal.loop-i-preserved
loop-i-preserved c =
    let term = rw c.offset.ensures at c.plus.ensures.terms in
    rw (add-one, weighted-suc) (term ∙ ap (λ l. l ++ (1, c.args.first + c.loop-i.i) ∷ []) c.loop-i.invariant
    ∙ append_assoc c.args.lc.now (row_sum c.args.first c.loop-i.i) _)

pub returns-clause-top : goal.returns-clause-top
returns-clause-top c = grind (arith, common_steps, top-append, top-weighted)

pub returns-clause-len : goal.returns-clause-len
returns-clause-len c = grind (arith, common_steps, length, length-append, length-weighted)
