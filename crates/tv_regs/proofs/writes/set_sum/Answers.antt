use Rattle.tv_core.proofs.Common.{◌<◌, [], ◌∷◌, ◌++◌, ℕ, length, get_or, sym, ◌∙◌, ap, arith, add-one, length-each_below, top}
use Rattle.std.proofs.lemmas.Grind.{get_or_default_zero}
use Rattle.tv_core.proofs.BelowLaws.{each_below-zero}
use Rattle.tv_regs.proofs.WriteLaws.{sum_of-suc, top-sum_of}
use Rattle.tv_regs.proofs.writes.set_sum.Goals as goal

pub loop-i-init : goal.loop-i-init
loop-i-init c = c.clear.ensures ∙ sym (each_below-zero {A = ℕ × ℕ} _)

pub plus-requires : goal.plus-requires
plus-requires c = omega (arith, ap length c.loop-i.invariant, length-each_below {A = ℕ × ℕ} c.loop-i.i (λ i. (1, get_or c.args.regs.now i 0)))

pub loop-i-preserved : goal.loop-i-preserved
loop-i-preserved c =
    let within : c.loop-i.i < length c.args.regs.now = omega arith in
    let term = rw (get_or_default_zero c.args.regs.now c.loop-i.i c.index-regs-i.result within) at c.plus.ensures.terms in
    rw (add-one, sum_of-suc c.args.regs.now c.loop-i.i) (term ∙ ap (λ l. l ++ (1, get_or c.args.regs.now c.loop-i.i 0) ∷ []) c.loop-i.invariant)

pub returns-clause-top : goal.returns-clause-top
returns-clause-top c = omega (arith, ap top c.loop-i.invariant, top-sum_of c.args.regs.now c.loop-i.i (omega arith))

pub returns-clause-len : goal.returns-clause-len
returns-clause-len c = omega (arith, ap length c.loop-i.invariant, length-each_below {A = ℕ × ℕ} c.loop-i.i (λ i. (1, get_or c.args.regs.now i 0)))
