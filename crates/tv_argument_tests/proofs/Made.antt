-- The eight lines are short, and made of the first wires.
use Rattle.tv_core.proofs.Common.{◌≡◌, ℕ, ◌+◌, ◌*◌, ◌<◌, ◌≤◌, List, [], ◌∷◌, ◌++◌, length, All, refl, sym, ◌∙◌, subst, arith, rules, length-each_below}
use Rattle.tv_core.proofs.Common.{constant, wire, Line}
use Rattle.std.proofs.lemmas.List.Elements.{All-from_get_or}
use Rattle.tv_core.specs.declared.lines.LineLc.{LineLc}
use Rattle.tv_lines.proofs.Neighbours.{each_below-at}
use Rattle.tv_lines.specs.Placed.{no_line, line_in, IsLine, LinesFrom}
use Rattle.tv_argument.specs.Memory.{IsMade}
use Rattle.tv_route.specs.Permutations.{IsRoutable, Permutes}
use Rattle.tv_core.specs.Below.{sum_below}
use Rattle.tv_argument.specs.Checks.{AreShort, check_made, check_added}
use Rattle.tv_argument.specs.Costs.{network_made}
use Rattle.tv_network.specs.Stages.{wires_before}
use Rattle.tv_stages.specs.Stages.{stage_count, height, depth, switch_count, number_count, middle_count, pairs, gap_size}
use Rattle.tv_stages.specs.declared.nets.Net.{Net}
use Rattle.tv_stages.specs.declared.nets.Net.TheVariants.{Benes, Waksman}
use Rattle.tv_argument_tests.specs.Wired.{line_at, eight_lines, kind_at, eight_checks}

pub eight : length eight_lines ≡ 8
eight = length-each_below 8 line_at

one_made : (wires i : ℕ) → i < 8 → 25 ≤ wires → IsMade wires (line_at i)
one_made wires i h some = record {
  cell = omega arith;
  time = omega arith;
  old = omega arith;
  new = omega arith;
  cell_short = omega arith;
  time_short = omega arith;
  old_short = omega arith;
  new_short = omega arith;
}

pub eight_made : (wires : ℕ) → 25 ≤ wires → All (IsMade wires) eight_lines
eight_made wires some = All-from_get_or (IsMade wires) eight_lines no_line (λ i h.
    let few : i < 8 = omega (arith, eight) in
    subst (IsMade wires) (sym (each_below-at 8 i line_at no_line few)) (one_made wires i few some))

pub line_is : (i : ℕ) → i < 8 → line_in eight_lines i ≡ line_at i
line_is i h = each_below-at 8 i line_at no_line h

pub line_made : (i : ℕ) → ◌≡◌ {A = LineLc} (record { cell = (1, 3 * i + 1) ∷ []; time = constant i; old = wire (3 * i + 1 + 1); new = wire (3 * i + 1 + 2) })
    (line_at i)
line_made i =
    let two : 3 * i + 1 + 1 ≡ 3 * i + 2 = omega arith in
    let three : 3 * i + 1 + 2 ≡ 3 * i + 3 = omega arith in
    λ k. record { cell = wire (3 * i + 1); time = constant i; old = wire (two k); new = wire (three k) }

-- a line more, with its place for its time
pub more_placed : (t : ℕ) (ls : List Line) (l : Line) → LinesFrom t ls → l.time ≡ t + length ls → IsLine l → LinesFrom t (ls ++ l ∷ [])
more_placed t [] l from time is = (time ∙ omega arith, is, tt)
more_placed t (m ∷ ls) l from time is = (from.0, from.1, more_placed (t + 1) ls l from.2 (time ∙ omega arith) is)

-- a network on them makes 76 wires by Benes, 69 by Waksman
pub few_wires : (net : Net) → network_made net 8 ≤ 76
unfolding wires_before stage_count height depth switch_count number_count middle_count pairs gap_size
few_wires Benes = omega arith
few_wires Waksman = omega arith

-- its checks make 164 wires and put 178 constraints
pub checks_made : sum_below 8 (λ i. check_made (kind_at i)) ≡ 164
unfolding sum_below
checks_made = refl

pub checks_added : sum_below 8 (λ i. check_added (kind_at i)) ≡ 178
unfolding sum_below
checks_added = refl

pub are_short : AreShort eight_checks 8
are_short i h = search rules

-- a permutation of four places has settings
pub routable : (p : List ℕ) → length p ≡ 4 → Permutes (length p) p → IsRoutable p
routable p four is = record { k = 2; some = omega arith; few = omega arith; permutes = subst (λ n. Permutes n p) four is }
