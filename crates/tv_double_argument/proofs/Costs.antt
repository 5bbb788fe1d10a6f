-- What the memory argument costs: how many constraints it puts, and how many terms they have.
use Rattle.tv_core.proofs.Common.{◌≡◌, ℕ, ◌+◌, ◌-◌, ◌≤◌, length, ap, ap₂, ◌∙◌, arith, ◌>>=◌, top, wire, terms_in, turns}
use Rattle.tv_core.specs.Below.{sum_below}
use Rattle.tv_core.specs.declared.lines.Pair.{Pair}
use Rattle.tv_double_argument.proofs.FewTerms.{terms_few}
use Rattle.tv_double_argument.proofs.Sizes.{argument_is, each_check, memory_next}
use Rattle.tv_double_argument.specs.Checks.{Lines, check_added, check_of, check_terms}
use Rattle.tv_double_argument.specs.Costs.{network_on}
use Rattle.tv_double_argument.specs.Memory.{ArgumentCosts, checks_of, items_of}
use Rattle.tv_double_argument.specs.declared.kinds.Kind.{Kind}
use Rattle.tv_double_argument.specs.declared.kinds.Kind.TheVariants.{Within, Image, Tape, Guard}
use Rattle.tv_double_checks.proofs.GuardLaws.{guard_costs}
use Rattle.tv_double_checks.proofs.ImageLaws.{image_pair_costs}
use Rattle.tv_double_checks.proofs.LastLaws.{last_line_sizes}
use Rattle.tv_double_checks.proofs.TapeLaws.{tape_word_sizes}
use Rattle.tv_double_checks.proofs.WithinCosts.{within_costs}
use Rattle.tv_double_checks.specs.declared.items.CellWords.{CellWords}
use Rattle.tv_network.proofs.CostLaws.{lengths, terms, turns_cost}
use Rattle.tv_network.proofs.NetworkLaws.{network_counted, network_fills}
use Rattle.tv_network.specs.Network.{network_of, output_of, output_wire}
use Rattle.tv_network.specs.declared.shape.Network.{Network}

-- ---- a check
check_count : (b : ℕ) (kind : Kind) (own : CellWords) (item : Pair) (next : ℕ) → length (check_of b kind own item next).list ≡ check_added kind
check_count b (Within m) own item next = within_costs.constraints b m own item next
check_count b (Image m) own item next = image_pair_costs.constraints b m own item next
check_count b Tape own item next = tape_word_sizes.constraints b own item next
check_count b (Guard m) own item next = guard_costs.constraints b m own item next

check_term : (b : ℕ) (kind : Kind) (own : CellWords) (u v next : ℕ) → 1 ≤ u → 1 ≤ v → top own.cell ≤ u → top own.sum ≤ u → top own.sum ≤ v → top own.second ≤ v
    → terms_in (check_of b kind own (record { first = wire u; second = wire v }) next).list ≡ check_terms b kind own
check_term b (Within m) own u v next one two cell sum sum' second = within_costs.terms b m own u v next one cell sum two sum' second
check_term b (Image m) own u v next one two cell sum sum' second = image_pair_costs.terms b m own u v next one cell sum two second
check_term b Tape own u v next one two cell sum sum' second = tape_word_sizes.terms b own u v next one cell sum
check_term b (Guard m) own u v next one two cell sum sum' second = guard_costs.terms b m own u v next one cell sum

-- ---- the checks
checks_count : (b : ℕ) (lines : Lines) (item : ℕ → Pair) (next : ℕ)
    → length (checks_of b lines item next).list ≡ sum_below (lines.count - 1) (λ i. check_added (lines.kind i)) + 1
unfolding ◌>>=◌
checks_count b lines item next =
    lengths.adds (turns (lines.count - 1) (λ i _. each_check b lines item i) tt next).list _
    ∙ ap₂ (λ a b. a + b)
    (turns_cost length lengths (λ i _. each_check b lines item i) tt next (λ i. check_added (lines.kind i)) (lines.count - 1)
    (λ i h a at. check_count b (lines.kind i) (lines.new i) (item i) at))
    (last_line_sizes.constraints (item (lines.count - 1)) _)

-- ---- the argument
pub memory_cost : ArgumentCosts
unfolding ◌>>=◌
memory_cost = record {
  end = λ net b lines next. memory_next net b lines next;
  constraints = λ net b lines next.
      let network : Network = network_on net lines.count in
      ap (λ c. length c.list) (argument_is net b lines next)
      ∙ lengths.adds (network_of network (items_of b lines) next).list _
      ∙ omega (
        arith,
        network_counted.constraints network (items_of b lines) next,
        checks_count b lines (output_of network next) (network_of network (items_of b lines) next).next,
      );
  terms = λ net b lines next some made.
      let network : Network = network_on net lines.count in
      let at = (network_of network (items_of b lines) next).next in
      let item : ℕ → Pair = output_of network next in
      ap (λ c. terms_in c.list) (argument_is net b lines next)
      ∙ terms.adds (network_of network (items_of b lines) next).list _
      ∙ ap₂ (λ a b. a + b) (network_counted.terms network (items_of b lines) next)
      (terms.adds (turns (lines.count - 1) (λ i _. each_check b lines item i) tt at).list _
      ∙ ap₂ (λ a b. a + b)
      (turns_cost terms_in terms (λ i _. each_check b lines item i) tt at (λ i. check_terms b (lines.kind i) (lines.new i)) (lines.count - 1)
      (λ i h a place.
      let words = made.new i (omega arith) in
      let w : ℕ = output_wire network next i in
      let one = made.one in
      let first : next ≤ w = network_fills.own network next i (omega arith) in
      check_term b (lines.kind i) (lines.new i) w (w + 1) place (omega arith) (omega arith) (omega (arith, words.cell)) (omega (arith, words.sum))
      (omega (arith, words.sum)) (omega (arith, words.second))))
      (last_line_sizes.terms (output_wire network next (lines.count - 1)) (output_wire network next (lines.count - 1) + 1) _))
      ∙ omega arith;
  few = terms_few;
}
