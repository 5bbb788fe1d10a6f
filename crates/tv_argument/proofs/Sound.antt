-- The memory argument is sound.
use Rattle.tv_core.proofs.Common.{◌≡◌, ◌≢◌, ℕ, ◌<◌, ◌≤◌, ◌^◌, List, length, map, refl, ◌∙◌, arith, subst, length-map, Circuit, turns, Assigns, Meets, Line}
use Rattle.tv_core.proofs.LoopLaws.{turn_met}
use Rattle.tv_core.proofs.MeetsLaws.{parts}
use Rattle.tv_core.specs.Lines.{Honest, pair_value}
use Rattle.tv_core.specs.declared.lines.LineLc.{LineLc}
use Rattle.tv_core.specs.declared.lines.Pair.{Pair}
use Rattle.tv_lines.proofs.PackingLaws.{item_right}
use Rattle.tv_lines.proofs.PredecessorLaws.{follows_sound}
use Rattle.tv_lines.proofs.StartsLaws.{boot_line_sound, least_line_sound}
use Rattle.tv_lines.specs.Ordered.{Follows}
use Rattle.tv_lines.specs.PackedLines.{LineInRange, packed_item, line_value}
use Rattle.tv_lines.specs.Placed.{LinesFrom, no_line, line_in}
use Rattle.tv_network.proofs.NetworkLaws.{network_sound}
use Rattle.tv_network.specs.Network.{network_of, output_of}
use Rattle.tv_network.specs.Stages.{wire_bit}
use Rattle.tv_network.specs.declared.shape.Network.{Network}
use Rattle.tv_stages.proofs.Reorders.{permuted}
use Rattle.tv_stages.specs.Stages.{source}
use Rattle.tv_stages.specs.declared.nets.Net.{Net}
use Rattle.tv_argument.proofs.Honesty.{honest_places}
use Rattle.tv_argument.proofs.Parts.{at_place, each_place, in_range, number_is}
use Rattle.tv_argument.proofs.Sizes.{argument_is}
use Rattle.tv_argument.specs.Argument.{ArgumentIsSound}
use Rattle.tv_argument.specs.Checks.{Checks, check_of, IsOfKind, AreOfKinds}
use Rattle.tv_argument.specs.Costs.{network_on}
use Rattle.tv_argument.specs.Memory.{items_of, checks_of, argument_of}
use Rattle.tv_argument.specs.declared.kinds.Kind.{Kind}
use Rattle.tv_argument.specs.declared.kinds.Kind.TheVariants.{ZeroOld, Least, Boot, Within}

-- ---- one check
-- a checked line follows that of the item, but the least line
pub follows_kind : (z : List ℕ) (kind : Kind) (least i next : ℕ) (item : Pair) (line : LineLc) (before : Line) → Assigns z
    → IsOfKind least i (line_value z line) kind → i ≢ least
    → LineInRange before → LineInRange (line_value z line) → pair_value z item ≡ packed_item before → Meets z (check_of kind item line next).list
    → Follows before (line_value z line)
follows_kind z ZeroOld least i next item line before assigns suits other r s is met = absurd (other suits.0)
follows_kind z Least least i next item line before assigns suits other r s is met = absurd (other suits)
follows_kind z (Boot c) least i next item line before assigns suits other r s is met =
    boot_line_sound z next c item before (line_value z line) suits.1 assigns is r suits.2 suits.3 met
follows_kind z (Within m) least i next item line before assigns suits other r s is met =
    follows_sound z next m line item before (line_value z line) suits.1 assigns refl is r s met

-- the least line begins at 0
pub begins_kind : (z : List ℕ) (kind : Kind) (least next : ℕ) (item : Pair) (line : LineLc) → Assigns z → IsOfKind least least (line_value z line) kind
    → Meets z (check_of kind item line next).list → (line_value z line).old ≡ 0
begins_kind z ZeroOld least next item line assigns suits met = suits.1
begins_kind z Least least next item line assigns suits met = least_line_sound z next line assigns met
begins_kind z (Boot c) least next item line assigns suits met = absurd (suits.0 refl)
begins_kind z (Within m) least next item line assigns suits met = absurd (suits.0 refl)

-- ---- all
module _ (z : List ℕ) (net : Net) (checks : Checks) (lines : List LineLc) (next : ℕ) (few : length lines ≤ 2 ^ 20)
    (from : LinesFrom 0 (map (line_value z) lines)) (kinds : AreOfKinds checks (map (line_value z) lines)) (assigns : Assigns z) where
  abbrev network : Network
  network = network_on net (length lines)

  abbrev line : ℕ → Line
  line i = line_value z (line_in lines i)

  -- the place whose item comes out at a place
  abbrev place : ℕ → ℕ
  place = source net (length lines) (wire_bit z network next)

  long : length (map (line_value z) lines) ≡ length lines
  long = length-map lines (line_value z)

  is_of : (i : ℕ) → i < length lines → IsOfKind checks.least i (line i) (checks.kind i)
  is_of i k = subst (λ l. IsOfKind checks.least i l (checks.kind i)) (number_is z lines few from i) (kinds.kinds i (omega (arith, long)))

  ranged : (i : ℕ) → LineInRange (line i)
  ranged i = in_range z lines few from i

  brings : Meets z (network_of network (items_of lines) next).list → (i : ℕ) → i < length lines
      → pair_value z (output_of network next i) ≡ packed_item (line (place i))
  brings met i k =
      network_sound z network next (items_of lines) assigns met i k
      ∙ permuted.pairs net (length lines) (wire_bit z network next) (λ j. pair_value z (items_of lines j)) i
      ∙ item_right z (line_in lines (place i)) (ranged (place i))

  pub argument_sound : Meets z (argument_of net checks lines next).list → Honest (map (line_value z) lines)
  argument_sound met =
      let both = parts z (network_of network (items_of lines)) (λ _. checks_of net checks lines next) next
      (subst (λ c. Meets z c.list) (argument_is net checks lines next) met) in
      let end = (network_of network (items_of lines) next).next in
      let piece : ℕ → Circuit (Unit {0}) = λ i. check_of (checks.kind i) (output_of network next i) (line_in lines i) in
      let checked : (i : ℕ) → i < length lines → Meets z (piece i (turns i (λ i _. piece i) tt end).next).list =
      λ i k. turn_met z (λ i _. piece i) tt end (length lines) i k both.1 in
      let least : checks.least < length lines = let w = kinds.least in omega (arith, long) in
      subst Honest (each_place (line_value z) no_line lines)
      (honest_places (length lines) checks.least place line few (permuted.sources net (length lines) (wire_bit z network next)) (record {
        least = least;
        times = λ i k. (at_place z lines few from i k).0;
        begins = begins_kind z (checks.kind checks.least) checks.least _ (output_of network next checks.least) (line_in lines checks.least) assigns
            (is_of checks.least least) (checked checks.least least);
        follows = λ i k other. follows_kind z (checks.kind i) checks.least i _ (output_of network next i) (line_in lines i) (line (place i)) assigns
            (is_of i k) other (ranged (place i)) (ranged i) (brings both.0 i k) (checked i k);
      }))

pub memory_sound : (net : Net) → ArgumentIsSound (argument_of net)
memory_sound net z checks lines next few from kinds assigns met = argument_sound z net checks lines next few from kinds assigns met
