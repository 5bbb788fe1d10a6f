use Rattle.tv_core.proofs.Common.{◌≡◌, ℕ, List, length, sym, ap, ◌∙◌, subst}
use Rattle.std.proofs.Common.{IfOk, IsPermutation}
use Rattle.std.proofs.lemmas.List.Sorted.{length_permutation}
use Rattle.tv_doubles.proofs.SuccessorLaws.{sorted}
use Rattle.tv_doubles.specs.Successors.{address_order, next_in}
use Rattle.tv_stages.proofs.Reorders.{places-length}
use Rattle.tv_stages.specs.Stages.{places}
use Rattle.tv_double_argument.proofs.address_order.successors.Goals as goal

-- the order of all places is as long as they are many
long : (n : ℕ) (order : List ℕ) → IsPermutation (places n (λ i. i)) order → length order ≡ n
long n order moved = length_permutation (places n (λ i. i)) order moved ∙ places-length n (λ i. i)

pub next_in-requires : goal.next_in-requires
next_in-requires g c =
    let lines = g.L.DoubleNumbers.numbers c.args.lines.now in
    let moved = sorted lines.count lines.line c.requires.few in
    let is : c.deref.result.now ≡ address_order lines.count lines.line = c.deref.ensures.value ∙ c.in_ok-order.ensures in
    rw is (subst (λ m. IsPermutation (places m (λ i. i)) (address_order lines.count lines.line))
    (sym (long lines.count (address_order lines.count lines.line) moved)) moved)

pub returns : goal.returns
returns g c =
    let lines = g.L.DoubleNumbers.numbers c.args.lines.now in
    let is : c.deref.result.now ≡ address_order lines.count lines.line = c.deref.ensures.value ∙ c.in_ok-order.ensures in
    let many = long lines.count (address_order lines.count lines.line) (sorted lines.count lines.line c.requires.few) in
    let same : places (length c.deref.result.now) (next_in c.deref.result.now) ≡ places lines.count (next_in (address_order lines.count lines.line)) =
    ap (λ (o : List ℕ). places (length o) (next_in o)) is ∙ ap (λ m. places m (next_in (address_order lines.count lines.line))) many in
    subst (λ ls. IfOk c.next_in.result (λ found. found.items ≡ ls)) same c.next_in.ensures
