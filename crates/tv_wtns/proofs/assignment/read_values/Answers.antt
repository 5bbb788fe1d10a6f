use Rattle.tv_core.proofs.Common.{◌≤◌, arith}
use Rattle.tv_wtns.specs.Wtns.{assignment_of}
use Rattle.tv_wtns.proofs.Firsts.{are_all}
use Rattle.tv_wtns.proofs.assignment.read_values.Goals as goal

pub returns-clause-gives : goal.returns-clause-gives
returns-clause-gives g c = λ file known.
    let few : c.in_ok-first.first.count ≤ 4294967295 = omega arith in
    are_all _ (assignment_of file) _ few (c.in_ok-first.ensures.gives file known)
