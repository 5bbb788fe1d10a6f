use Rattle.tv_core.proofs.Common.{◌≡◌, ℕ, ◌%◌, ◌^◌, List, map, ap, ◌∙◌, subst}
use Rattle.std.proofs.Common.{IfOk, IsPermutation}
use Rattle.std.proofs.lemmas.List.Sorted.{IsNonDecreasingBy-from_sort}
use Rattle.tv_doubles.proofs.Increase.{rising_is}
use Rattle.tv_doubles.specs.Doubles.{key}
use Rattle.tv_doubles.specs.Rising.{rising}
use Rattle.tv_doubles.specs.Successors.{address_order}
use Rattle.tv_stages.specs.Stages.{places}
use Rattle.tv_double_argument.proofs.address_order.address_order.Goals as goal

pub returns : goal.returns
returns g c =
    let lines = g.L.DoubleNumbers.numbers c.args.lines.now in
    let sorted : List ℕ = c.sort_unstable.new.self.items in
    let all : List ℕ = places lines.count (key lines.line) in
    let moved : IsPermutation all sorted = subst (λ ls. IsPermutation ls sorted) c.in_ok-keys.ensures c.sort_unstable.ensures.permutation in
    let is : sorted ≡ rising all = rising_is all sorted moved (IsNonDecreasingBy-from_sort (λ x. x) sorted c.sort_unstable.ensures.sorted) in
    let order : map (λ k. k % 2 ^ 20) c.deref.result.now ≡ address_order lines.count lines.line = ap (map (λ k. k % 2 ^ 20)) (c.deref.ensures.value ∙ is) in
    subst (λ ls. IfOk c.places_of.result (λ order. order.items ≡ ls)) order c.places_of.ensures
