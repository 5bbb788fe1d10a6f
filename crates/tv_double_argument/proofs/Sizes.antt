-- The memory argument taken apart, and its values: as many as its wires, and below P.
use Rattle.tv_core.proofs.Common.{◌≡◌, ℕ, zero, suc, ◌+◌, ◌-◌, ◌<◌, List, [], ◌∷◌, length, refl, sym, ap, ◌∙◌, arith, length-append, joined_below}
use Rattle.tv_core.proofs.Common.{Circuit, pure, turns, ◌>>=◌, InField, InField-none}
use Rattle.tv_bits.proofs.SizeLaws.{length-bits}
use Rattle.tv_bits.specs.Bits.{bits_values}
use Rattle.tv_core.proofs.BelowLaws.{sum_below-zero, sum_below-suc}
use Rattle.tv_core.proofs.FieldLaws.{InField-append, InField-joined_below}
use Rattle.tv_core.proofs.JoinedLaws.{joined_below-zero, joined_below-suc}
use Rattle.tv_core.specs.Below.{sum_below}
use Rattle.tv_core.specs.declared.field.TheConstants.{P}
use Rattle.tv_core.specs.declared.lines.Pair.{Pair}
use Rattle.tv_double_argument.specs.Checks.{Lines, Numbers, check_of, check_values, check_made}
use Rattle.tv_double_argument.specs.Costs.{argument_made, network_on}
use Rattle.tv_double_argument.specs.Memory.{argument_of, checks_of, items_of}
use Rattle.tv_double_argument.specs.Order.{argument_values, checked_values, items_in, successor_bits}
use Rattle.tv_double_argument.specs.declared.kinds.Kind.{Kind}
use Rattle.tv_double_argument.specs.declared.kinds.Kind.TheVariants.{Within, Image, Tape, Guard}
use Rattle.tv_double_checks.proofs.GuardLaws.{guard_sizes}
use Rattle.tv_double_checks.proofs.ImageLaws.{image_pair_sizes}
use Rattle.tv_double_checks.proofs.LastLaws.{last_line_sizes}
use Rattle.tv_double_checks.proofs.TapeLaws.{tape_word_sizes}
use Rattle.tv_double_checks.proofs.WithinSizes.{within_sizes}
use Rattle.tv_double_checks.specs.declared.items.CellWords.{CellWords}
use Rattle.tv_doubles.specs.Doubles.{DoubleLine}
use Rattle.tv_doubles.specs.Successors.{successor}
use Rattle.tv_doubles.specs.Within.{cells_between, excess_between, reach_between, time_between}
use Rattle.tv_network.proofs.NetworkLaws.{network_fills, values_length}
use Rattle.tv_network.specs.Filling.{pair_at}
use Rattle.tv_network.specs.Network.{network_of, network_values, output_of}
use Rattle.tv_network.specs.declared.shape.Network.{Network}
use Rattle.tv_stages.specs.declared.nets.Net.{Net}

-- ---- one check
pub check_next : (b : ℕ) (kind : Kind) (own : CellWords) (item : Pair) (next : ℕ) → (check_of b kind own item next).next ≡ next + check_made kind
check_next b (Within m) own item next = within_sizes.end b m own item next ∙ omega arith
check_next b (Image m) own item next = image_pair_sizes.end b m own item next
check_next b Tape own item next = tape_word_sizes.end b own item next ∙ omega arith
check_next b (Guard m) own item next = guard_sizes.end b m own item next

pub check_many : (b : ℕ) (kind : Kind) (l : DoubleLine) (i : ℕ) (k : DoubleLine) (j : ℕ) → length (check_values b kind l i k j) ≡ check_made kind
check_many b (Within m) l i k j =
    length-append (bits_values (reach_between l i k j) m) (excess_between b l i k j ∷ []) ∙ ap (λ n. n + 1) (length-bits (reach_between l i k j) m)
check_many b (Image m) l i k j = length-bits (time_between l i k j) m
check_many b Tape l i k j = refl
check_many b (Guard m) l i k j = length-bits (cells_between l k) m

check_small : (b : ℕ) (kind : Kind) (l : DoubleLine) (i : ℕ) (k : DoubleLine) (j : ℕ) → InField (check_values b kind l i k j)
check_small b (Within m) l i k j = within_sizes.in_field b m l i k j
check_small b (Image m) l i k j = image_pair_sizes.in_field m l i k j
check_small b Tape l i k j = InField-none
check_small b (Guard m) l i k j = guard_sizes.in_field m l k

-- ---- pieces of a loop, each with its own number of wires
pub turns_end : (piece : ℕ → Circuit (Unit {0})) (made : ℕ → ℕ) → ((i at : ℕ) → (piece i at).next ≡ at + made i)
    → (n next : ℕ) → (turns n (λ i _. piece i) tt next).next ≡ next + sum_below n made
unfolding turns pure ◌>>=◌
turns_end piece made each zero next = omega (arith, sum_below-zero made)
turns_end piece made each (suc n) next =
    each n (turns n (λ i _. piece i) tt next).next ∙ omega (arith, turns_end piece made each n next, sum_below-suc n made)

joined_many : (n : ℕ) (f : ℕ → List ℕ) (made : ℕ → ℕ) → ((i : ℕ) → length (f i) ≡ made i) → length (joined_below n f) ≡ sum_below n made
joined_many zero f made each = ap (λ (l : List ℕ). length l) (joined_below-zero f) ∙ sym (sum_below-zero made)
joined_many (suc n) f made each =
    ap (λ (l : List ℕ). length l) (joined_below-suc n f) ∙ length-append (joined_below n f) (f n)
    ∙ omega (arith, joined_many n f made each, each n, sum_below-suc n made)

-- ---- the argument
-- the checks of all lines but the last
abbrev pub each_check : ℕ → Lines → (ℕ → Pair) → ℕ → Circuit (Unit {0})
each_check b lines item i = check_of b (lines.kind i) (lines.new i) (item i)

-- the argument is the network and the checks of its outputs
abbrev pub then_checks : Net → ℕ → Lines → ℕ → Circuit (Unit {0})
then_checks net b lines next =
    network_of (network_on net lines.count) (items_of b lines) >>= (λ _. checks_of b lines (output_of (network_on net lines.count) next))

pub argument_is : (net : Net) (b : ℕ) (lines : Lines) (next : ℕ) → argument_of net b lines next ≡ then_checks net b lines next next
unfolding argument_of ◌>>=◌
argument_is net b lines next =
    let n : Network = network_on net lines.count in
    ap (λ first. (network_of n (items_of b lines) >>= (λ _. checks_of b lines (output_of n first))) next) (network_fills.answer n next (items_of b lines))

pub checks_next : (b : ℕ) (lines : Lines) (item : ℕ → Pair) (next : ℕ)
    → (checks_of b lines item next).next ≡ next + sum_below (lines.count - 1) (λ i. check_made (lines.kind i))
unfolding ◌>>=◌
checks_next b lines item next =
    last_line_sizes.end (item (lines.count - 1)) _
    ∙ turns_end (each_check b lines item) (λ i. check_made (lines.kind i)) (λ i at. check_next b (lines.kind i) (lines.new i) (item i) at)
    (lines.count - 1) next

pub memory_next : (net : Net) (b : ℕ) (lines : Lines) (next : ℕ) → (argument_of net b lines next).next ≡ next + argument_made net lines.kind lines.count
unfolding ◌>>=◌
memory_next net b lines next =
    let n : Network = network_on net lines.count in
    ap (λ m. m.next) (argument_is net b lines next)
    ∙ omega (arith, checks_next b lines (output_of n next) (network_of n (items_of b lines) next).next, network_fills.ends n next (items_of b lines))

module _ (net : Net) (b : ℕ) (lines : Numbers) where
  abbrev wires : List ℕ
  wires = network_values (network_on net lines.count) (successor_bits net lines.count lines.line) (pair_at (items_in b lines))

  each_many : (i : ℕ) → length (checked_values b lines i) ≡ check_made (lines.kind i)
  each_many i =
      let j = successor lines.count lines.line i in
      check_many b (lines.kind i) (lines.line i) i (lines.line j) j

  pub memory_many : length (argument_values net b lines) ≡ argument_made net lines.kind lines.count
  memory_many =
      length-append wires (joined_below (lines.count - 1) (checked_values b lines))
      ∙ omega (
        arith,
        values_length (network_on net lines.count) (successor_bits net lines.count lines.line) (pair_at (items_in b lines)),
        joined_many (lines.count - 1) (checked_values b lines) (λ i. check_made (lines.kind i)) each_many,
      )

  pub memory_small : ((i : ℕ) → i < lines.count → ((pair_at (items_in b lines) i).first < P) × ((pair_at (items_in b lines) i).second < P))
      → InField (argument_values net b lines)
  memory_small small =
      InField-append wires (joined_below (lines.count - 1) (checked_values b lines))
      (network_fills.small (network_on net lines.count) (successor_bits net lines.count lines.line) (pair_at (items_in b lines)) small)
      (InField-joined_below (checked_values b lines) (lines.count - 1)
      (λ i h. let j = successor lines.count lines.line i in check_small b (lines.kind i) (lines.line i) i (lines.line j) j))
