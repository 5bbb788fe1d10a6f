use Rattle.tv_core.proofs.Common.{common_steps, ℕ, ◌+◌, [], ◌∷◌, ◌++◌, length, sym, ◌∙◌, ap, arith, add-one, append_assoc}
use Rattle.std.proofs.Common.{length-append}
use Rattle.std.proofs.lemmas.List.{append-nil}
use Rattle.tv_core.proofs.BelowLaws.{weighted-zero, weighted-suc, length-weighted, top-weighted}
use Rattle.tv_core.proofs.CombinationLaws.{top-append}
use Rattle.tv_core.specs.Below.{weighted}
use Rattle.tv_decode.specs.Instructions.{opcode_weight}
use Rattle.tv_decode.proofs.instructions.plus_opcodes.Goals as goal

pub loop-i-init : goal.loop-i-init
loop-i-init g c = sym (ap (λ l. c.args.lc.now ++ l) (weighted-zero c.offset-second.result (λ j. opcode_weight g.row.W (j + 1))) ∙ append-nil c.args.lc.now)

pub plus-requires : goal.plus-requires
plus-requires g c = grind (arith, common_steps, ℕ, length, length-append, length-weighted)

pub loop-i-preserved : goal.loop-i-preserved
loop-i-preserved g c =
    let weights : ℕ → ℕ = λ j. opcode_weight g.row.W (j + 1) in
    let term = rw (c.offset.ensures, c.from.ensures, c.opcode_weight.ensures) at c.plus.ensures.terms in
    rw (add-one, weighted-suc) (term ∙ ap (λ l. l ++ (weights c.loop-i.i, c.offset-second.result + c.loop-i.i) ∷ []) c.loop-i.invariant
    ∙ append_assoc c.args.lc.now (weighted c.offset-second.result c.loop-i.i weights) _)

pub returns-clause-terms : goal.returns-clause-terms
returns-clause-terms g c = grind (arith, common_steps)

pub returns-clause-top : goal.returns-clause-top
returns-clause-top g c = grind (arith, common_steps, ℕ, top-append, top-weighted)
