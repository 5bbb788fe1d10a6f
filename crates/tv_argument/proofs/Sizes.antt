-- The values of the memory argument are as many as its wires, and below P.
use Rattle.tv_core.proofs.Common.{◌≡◌, ℕ, zero, suc, ◌+◌, ◌≤◌, ◌^◌, List, length, refl, sym, ap, ◌∙◌, arith, length-append, joined_below}
use Rattle.tv_core.proofs.Common.{Circuit, pure, ◌>>=◌, InField, InField-none, Line}
use Rattle.tv_core.proofs.BelowLaws.{sum_below-zero, sum_below-suc}
use Rattle.tv_core.proofs.FieldLaws.{InField-append, InField-joined_below}
use Rattle.tv_core.proofs.JoinedLaws.{joined_below-zero, joined_below-suc}
use Rattle.tv_core.specs.Below.{sum_below}
use Rattle.tv_core.specs.declared.lines.LineLc.{LineLc}
use Rattle.tv_core.specs.declared.lines.Pair.{Pair}
use Rattle.tv_lines.proofs.PredecessorSizes.{follows_many, follows_sizes}
use Rattle.tv_lines.proofs.StartsLaws.{boot_line_sizes, least_line_sizes}
use Rattle.tv_lines.specs.PackedLines.{LineInRange, packed_item}
use Rattle.tv_lines.specs.Placed.{LinesFrom, line_in, number_in}
use Rattle.tv_argument.proofs.Parts.{ranged, turns_end}
use Rattle.tv_argument.specs.Checks.{Checks, check_of, check_values, check_made}
use Rattle.tv_argument.specs.Costs.{network_on}
use Rattle.tv_argument.specs.Memory.{items_of, checks_of, argument_of, argument_made}
use Rattle.tv_argument.specs.Order.{line_before, predecessor_bits, argument_values}
use Rattle.tv_argument.specs.declared.kinds.Kind.{Kind}
use Rattle.tv_argument.specs.declared.kinds.Kind.TheVariants.{ZeroOld, Least, Boot, Within}
use Rattle.tv_network.proofs.NetworkLaws.{network_fills, values_length}
use Rattle.tv_network.specs.Network.{network_of, network_values, output_of}
use Rattle.tv_network.specs.declared.shape.Network.{Network}
use Rattle.tv_stages.specs.declared.nets.Net.{Net}

-- ---- one check
pub check_next : (kind : Kind) (next : ℕ) (item : Pair) (line : LineLc) → (check_of kind item line next).next ≡ next + check_made kind
unfolding pure
check_next ZeroOld next item line = omega arith
check_next Least next item line = least_line_sizes.end line next ∙ omega arith
check_next (Boot c) next item line = boot_line_sizes.end c item next ∙ omega arith
check_next (Within m) next item line = follows_sizes.end m line item next ∙ omega arith

pub check_many : (kind : Kind) (before line : Line) → length (check_values kind before line) ≡ check_made kind
check_many ZeroOld before line = refl
check_many Least before line = refl
check_many (Boot c) before line = refl
check_many (Within m) before line = follows_many m before line

check_small : (kind : Kind) (before line : Line) → LineInRange line → InField (check_values kind before line)
check_small ZeroOld before line r = InField-none
check_small Least before line r = InField-none
check_small (Boot c) before line r = InField-none
check_small (Within m) before line r = follows_sizes.in_field m before line r

-- ---- all checks
joined_many : (n : ℕ) (f : ℕ → List ℕ) (made : ℕ → ℕ) → ((i : ℕ) → length (f i) ≡ made i) → length (joined_below n f) ≡ sum_below n made
joined_many zero f made each = ap (λ (l : List ℕ). length l) (joined_below-zero f) ∙ sym (sum_below-zero made)
joined_many (suc n) f made each =
    ap (λ (l : List ℕ). length l) (joined_below-suc n f) ∙ length-append (joined_below n f) (f n)
    ∙ omega (arith, joined_many n f made each, each n, sum_below-suc n made)

-- ---- the argument
-- the argument is the network and these
abbrev pub then_checks : Net → Checks → List LineLc → ℕ → Circuit (Unit {0})
then_checks net checks lines next = network_of (network_on net (length lines)) (items_of lines) >>= (λ _. checks_of net checks lines next)

pub argument_is : (net : Net) (checks : Checks) (lines : List LineLc) (next : ℕ)
    → argument_of net checks lines next ≡ then_checks net checks lines next next
unfolding argument_of ◌>>=◌
argument_is net checks lines next =
    let n : Network = network_on net (length lines) in
    ap (λ first. (network_of n (items_of lines) >>= (λ _. checks_of net checks lines first)) next) (network_fills.answer n next (items_of lines))

pub memory_next : (net : Net) (checks : Checks) (lines : List LineLc) (at : ℕ)
    → (argument_of net checks lines at).next ≡ at + argument_made net checks (length lines)
unfolding ◌>>=◌
memory_next net checks lines at =
    let n : Network = network_on net (length lines) in
    let check : ℕ → Circuit (Unit {0}) = λ i. check_of (checks.kind i) (output_of n at i) (line_in lines i) in
    ap (λ m. m.next) (argument_is net checks lines at)
    ∙ omega (
      arith,
      turns_end check (λ i. check_made (checks.kind i)) (λ i w. check_next (checks.kind i) w (output_of n at i) (line_in lines i)) (length lines)
          (network_of n (items_of lines) at).next,
      network_fills.ends n at (items_of lines),
    )

module _ (net : Net) (checks : Checks) (lines : List Line) where
  abbrev wires : List ℕ
  wires = network_values (network_on net (length lines)) (predecessor_bits net lines) (λ j. packed_item (number_in lines j))

  abbrev check : ℕ → List ℕ
  check i = check_values (checks.kind i) (line_before lines i) (number_in lines i)

  pub memory_many : length (argument_values net checks lines) ≡ argument_made net checks (length lines)
  memory_many =
      length-append wires (joined_below (length lines) check)
      ∙ omega (
        arith,
        values_length (network_on net (length lines)) (predecessor_bits net lines) (λ j. packed_item (number_in lines j)),
        joined_many (length lines) check (λ i. check_made (checks.kind i)) (λ i. check_many (checks.kind i) (line_before lines i) (number_in lines i)),
      )

  pub memory_small : length lines ≤ 2 ^ 20 → LinesFrom 0 lines → InField (argument_values net checks lines)
  memory_small few from =
      InField-append wires (joined_below (length lines) check)
      (network_fills.small (network_on net (length lines)) (predecessor_bits net lines) (λ j. packed_item (number_in lines j))
      (λ j h. let r = ranged lines few from j in (omega (arith, r.cell), omega (arith, r.time, r.new))))
      (InField-joined_below check (length lines) (λ i h. check_small (checks.kind i) (line_before lines i) (number_in lines i) (ranged lines few from i)))
