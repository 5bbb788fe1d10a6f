use Rattle.tv_core.proofs.Common.{◌≡◌, ◌+◌, ◌*◌, arith, rules}
use Rattle.std.proofs.Common.{slice_index}
use Rattle.tv_r1cs_read.proofs.Sums.{adds_one}
use Rattle.tv_r1cs_read.proofs.addition.add_term.Goals as goal

pub returns-then-this-ne0-clause-adds : goal.returns-then-this-ne0-clause-adds
returns-then-this-ne0-clause-adds g c =
    let none : c.args.sum.now + c.in-Some.term.1 * slice_index c.args.values.now c.in-Some.term.0
    ≡ c.args.sum.now = rw (c.requires.values.empty (search rules)) (grind arith) in
    rw none at (adds_one _ c.args.bounds.now c.args.values.now _ c.args.sum.now _ _ c.in-Some.ensures.wire c.in-Some.ensures.gives)

pub returns-clause-adds : goal.returns-clause-adds
returns-clause-adds g c =
    rw (c.add.ensures.sum, c.value_of.ensures) (adds_one _ c.args.bounds.now c.args.values.now _ _ _ _ c.in-Some.ensures.wire c.in-Some.ensures.gives)
