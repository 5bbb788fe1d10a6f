-- What the memory argument costs: how many constraints it puts, and how many terms they have.
use Rattle.tv_core.proofs.Common.{◌≡◌, ℕ, ◌+◌, ◌≤◌, length, refl, ap, ap₂, ◌∙◌, arith, pure, ◌>>=◌, top, wire, terms_in}
use Rattle.tv_core.specs.declared.lines.LineLc.{LineLc}
use Rattle.tv_core.specs.declared.lines.Pair.{Pair}
use Rattle.tv_lines.proofs.PredecessorCosts.{follows_cost}
use Rattle.tv_lines.proofs.StartsLaws.{boot_line_sizes, least_line_sizes}
use Rattle.tv_lines.specs.Placed.{line_in}
use Rattle.tv_argument.proofs.FewTerms.{terms_few}
use Rattle.tv_argument.proofs.Made.{at}
use Rattle.tv_network.proofs.CostLaws.{lengths, terms, turns_cost}
use Rattle.tv_argument.proofs.Sizes.{argument_is}
use Rattle.tv_argument.specs.Checks.{check_of, check_added, check_terms}
use Rattle.tv_argument.specs.Costs.{network_on}
use Rattle.tv_argument.specs.Memory.{items_of, ArgumentCosts}
use Rattle.tv_argument.specs.declared.kinds.Kind.{Kind}
use Rattle.tv_argument.specs.declared.kinds.Kind.TheVariants.{ZeroOld, Least, Boot, Within}
use Rattle.tv_network.proofs.NetworkLaws.{network_counted, network_fills}
use Rattle.tv_network.specs.Network.{network_of, output_of, output_wire}
use Rattle.tv_network.specs.declared.shape.Network.{Network}

-- ---- a check
check_count : (kind : Kind) (item : Pair) (next : ℕ) (line : LineLc) → length (check_of kind item line next).list ≡ check_added kind
unfolding pure
check_count ZeroOld item next line = refl
check_count Least item next line = least_line_sizes.constraints line next
check_count (Boot c) item next line = boot_line_sizes.constraints c item next
check_count (Within m) item next line = follows_cost.constraints m line item next

check_term : (kind : Kind) (u v next : ℕ) (line : LineLc) → 1 ≤ u → top line.cell ≤ u → top line.old ≤ u → top line.time ≤ v
    → terms_in (check_of kind (record { first = wire u; second = wire v }) line next).list ≡ check_terms kind line
unfolding pure
check_term ZeroOld u v next line some cell old time = refl
check_term Least u v next line some cell old time = least_line_sizes.terms line next
check_term (Boot c) u v next line some cell old time = boot_line_sizes.terms c u v next some
check_term (Within m) u v next line some cell old time = follows_cost.terms m line u v next some cell old time

-- ---- the argument
pub memory_cost : ArgumentCosts
unfolding ◌>>=◌
memory_cost = record {
  constraints = λ net checks lines next.
      let network : Network = network_on net (length lines) in
      ap (λ c. length c.list) (argument_is net checks lines next)
      ∙ lengths.adds (network_of network (items_of lines) next).list _
      ∙ ap₂ (λ a b. a + b) (network_counted.constraints network (items_of lines) next)
      (turns_cost length lengths (λ i _. check_of (checks.kind i) (output_of network next i) (line_in lines i)) tt
      (network_of network (items_of lines) next).next (λ i. check_added (checks.kind i)) (length lines)
      (λ i h a at. check_count (checks.kind i) (output_of network next i) at (line_in lines i)));
  terms = λ net checks lines next one made.
      let network : Network = network_on net (length lines) in
      ap (λ c. terms_in c.list) (argument_is net checks lines next)
      ∙ terms.adds (network_of network (items_of lines) next).list _
      ∙ ap₂ (λ a b. a + b) (network_counted.terms network (items_of lines) next)
      (turns_cost terms_in terms (λ i _. check_of (checks.kind i) (output_of network next i) (line_in lines i)) tt
      (network_of network (items_of lines) next).next (λ i. check_terms (checks.kind i) (line_in lines i)) (length lines)
      (λ i h a place.
      let line = at next lines i h made in
      let w : ℕ = output_wire network next i in
      let first : next ≤ w = network_fills.own network next i h in
      check_term (checks.kind i) w (w + 1) place (line_in lines i) (omega arith) (omega (arith, line.cell)) (omega (arith, line.old))
      (omega (arith, line.time))));
  few = terms_few;
}
