-- The memory argument has fewer than 2 ^ 44 terms.
use Rattle.tv_core.proofs.Common.{ℕ, ◌+◌, ◌-◌, ◌*◌, ◌^◌, ◌<◌, ◌≤◌, List, [], ◌++◌, length, All, arith, length-append, constant, scaled, Combination}
use Rattle.std.proofs.Math.Nat.{mul-le-mul_right}
use Rattle.tv_bits.proofs.GateLaws.{length-scaled}
use Rattle.tv_core.proofs.NormalLaws.{length-normal}
use Rattle.tv_core.specs.declared.field.TheConstants.{P}
use Rattle.tv_core.specs.declared.lines.LineLc.{LineLc}
use Rattle.tv_lines.specs.Placed.{line_in}
use Rattle.tv_lines.specs.Predecessor.{less_above}
use Rattle.tv_argument.proofs.CheckCosts.{sum_few}
use Rattle.tv_argument.proofs.Made.{at, are_made}
use Rattle.tv_argument.specs.Checks.{Checks, check_terms, AreShort, IsShortKind}
use Rattle.tv_argument.specs.Costs.{network_on}
use Rattle.tv_argument.specs.Memory.{IsMade, items_of, argument_terms}
use Rattle.tv_argument.specs.declared.kinds.Kind.{Kind}
use Rattle.tv_argument.specs.declared.kinds.Kind.TheVariants.{ZeroOld, Least, Boot, Within}
use Rattle.tv_network.proofs.NetworkLaws.{network_counted}
use Rattle.tv_stages.specs.declared.nets.Net.{Net}

above_few : (x y : Combination) → length (less_above x y) ≤ length x + length y
above_few x y = omega (arith, length-normal (x ++ scaled (P - 2 ^ 32) y), length-append x (scaled (P - 2 ^ 32) y), length-scaled (P - 2 ^ 32) y)

check_few : (kind : Kind) (line : LineLc) → IsShortKind kind → length line.cell ≤ 14 → length line.time ≤ 1 → length line.old ≤ 14
    → check_terms kind line ≤ 2 ^ 8
check_few ZeroOld line short cell time old = omega arith
check_few Least line short cell time old = omega (arith, length-normal line.old)
check_few (Boot c) line short cell time old = omega (arith, above_few [] (constant c))
check_few (Within m) line short cell time old =
    omega (
      arith,
      above_few ((constant (2 ^ 32) ++ []) ++ scaled (P - 1) line.old) line.cell,
      length-append (constant (2 ^ 32) ++ []) (scaled (P - 1) line.old),
      length-scaled (P - 1) line.old,
      above_few [] line.cell,
      above_few [] line.time,
    )

pub terms_few : (net : Net) (checks : Checks) (lines : List LineLc) (next : ℕ) → length lines ≤ 2 ^ 20 → AreShort checks (length lines)
    → All (IsMade next) lines → argument_terms net checks next lines < 2 ^ 44
terms_few net checks lines next few short all =
    let network = network_counted.few (network_on net (length lines)) (items_of lines) next (omega arith) (are_made next lines all) in
    let checked = sum_few (length lines) (2 ^ 8) (λ i. check_terms (checks.kind i) (line_in lines i)) (λ i h.
    let line = at next lines i h all in
    check_few (checks.kind i) (line_in lines i) (short i h) line.cell_short line.time_short line.old_short) in
    let count : length lines * 2 ^ 8 ≤ 2 ^ 20 * 2 ^ 8 = mul-le-mul_right (2 ^ 8) few in
    omega (arith, network, checked, count)
