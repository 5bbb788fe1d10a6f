use Rattle.tv_core.proofs.Common.{◌≡◌, ℕ, ◌%◌, ◌^◌, List, map, sym, ◌∙◌, ap, subst}
use Rattle.std.proofs.Common.{IfOk}
use Rattle.std.proofs.lemmas.List.Sorted.{IsNonDecreasingBy-from_sort}
use Rattle.std.specs.Prelude.{IsPermutation}
use Rattle.tv_lines.specs.Ordered.{key}
use Rattle.tv_lines.specs.PackedLines.{unpacked}
use Rattle.tv_argument.proofs.Order.{map_map}
use Rattle.tv_argument.proofs.Increase.{rising_is}
use Rattle.tv_argument.specs.Order.{rising, address_order}
use Rattle.tv_argument.proofs.address_order.address_order.Goals as goal

pub returns : goal.returns
returns c =
    let sorted : List ℕ = c.sort_unstable.new.self.items in
    let keys : c.in_ok-keys.keys.items ≡ map key (map unpacked c.args.pairs.now) = c.in_ok-keys.ensures ∙ sym (map_map unpacked key c.args.pairs.now) in
    let moved : IsPermutation (map key (map unpacked c.args.pairs.now)) sorted = subst
    (λ ls. IsPermutation ls sorted) keys c.sort_unstable.ensures.permutation in
    let is : sorted ≡ rising (map key (map unpacked c.args.pairs.now)) = rising_is (map key (map unpacked c.args.pairs.now)) sorted moved
    (IsNonDecreasingBy-from_sort (λ x. x) sorted c.sort_unstable.ensures.sorted) in
    let order : map (λ k. k % 2 ^ 20) c.deref.result.now ≡ address_order (map unpacked c.args.pairs.now) = ap (map (λ k. k % 2 ^ 20))
    (c.deref.ensures.value ∙ is) in
    subst (λ ls. IfOk c.times.result (λ order. order.items ≡ ls)) order c.times.ensures
