use Rattle.std.proofs.Common.{ℕ, List, [], ◌∷◌, ap, arith}
use Rattle.tv_core.specs.Combinations.{top}
use Rattle.tv_core.proofs.CombinationLaws.{top-append}
use Rattle.tv_core.proofs.combination.Lc.plus.Goals as goal

pub returns-clause-top : goal.returns-clause-top
returns-clause-top c =
    let x = c.self.inside.terms.items in
    let t : List (ℕ × ℕ) = (c.args.coefficient, c.args.wire) ∷ [] in
    omega (arith, ap top c.push.ensures.items, top-append x t, ap top c.self.view_is)
