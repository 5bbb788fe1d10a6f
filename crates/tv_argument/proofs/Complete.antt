-- The memory argument is complete.
use Rattle.tv_core.proofs.Common.{◌≡◌, ◌≢◌, ℕ, zero, suc, ◌+◌, ◌<◌, ◌≤◌, ◌^◌, Bool, List, ◌++◌, length, map, inl, inr, sym, ap, ◌∙◌, arith, subst}
use Rattle.tv_core.proofs.Common.{length-append, length-map, HasFrom-split, joined_below, Circuit, pure, turns, ◌>>=◌, Assigns, Meets}
use Rattle.tv_core.proofs.Common.{HasFrom, Line, sequence, slice_index}
use Rattle.tv_core.proofs.JoinedLaws.{joined_below-zero, joined_below-suc}
use Rattle.tv_core.proofs.MeetsLaws.{whole}
use Rattle.tv_core.specs.Lines.{Honest, pair_value}
use Rattle.tv_core.specs.declared.lines.LineLc.{LineLc}
use Rattle.tv_core.specs.declared.lines.Pair.{Pair}
use Rattle.tv_core.specs.declared.lines.PairNum.{PairNum}
use Rattle.tv_lines.proofs.PredecessorComplete.{follows_complete}
use Rattle.tv_lines.proofs.PredecessorReach.{follows_reaches}
use Rattle.tv_lines.proofs.StartsLaws.{boot_line_complete, least_line_complete}
use Rattle.tv_lines.specs.Ordered.{Follows}
use Rattle.tv_lines.specs.PackedLines.{packed_item, line_value}
use Rattle.tv_lines.specs.Placed.{LinesFrom, line_in, number_in}
use Rattle.tv_lines.specs.Predecessor.{reach_between}
use Rattle.tv_argument.proofs.Parts.{at_place, number_is, packs, ranged}
use Rattle.tv_argument.proofs.Previous.{permutes, predecessors_long, follows, begins, near, next}
use Rattle.tv_argument.proofs.Sizes.{check_next, check_many, argument_is, memory_next, memory_many, memory_small}
use Rattle.tv_argument.specs.Argument.{ArgumentIsComplete}
use Rattle.tv_argument.specs.Checks.{Checks, check_of, check_values, IsOfKind, AreOfKinds, IsNear, AreNear}
use Rattle.tv_argument.specs.Costs.{network_on}
use Rattle.tv_argument.specs.Memory.{items_of, checks_of, argument_of, argument_made}
use Rattle.tv_argument.specs.Order.{line_before, argument_values, place_at, predecessor_bits, predecessors}
use Rattle.tv_argument.specs.declared.kinds.Kind.{Kind}
use Rattle.tv_argument.specs.declared.kinds.Kind.TheVariants.{ZeroOld, Least, Boot, Within}
use Rattle.tv_network.proofs.NetworkLaws.{network_complete, network_fills, values_length}
use Rattle.tv_network.specs.Network.{network_of, network_values, output_of}
use Rattle.tv_network.specs.declared.shape.Network.{Network}
use Rattle.tv_stages.proofs.SettingsLaws.{settings_right}
use Rattle.tv_stages.specs.Settings.{settings_of}
use Rattle.tv_stages.specs.Stages.{bit_in, through_stages, IsReordering}
use Rattle.tv_stages.specs.declared.nets.Net.{Net}

-- ---- pieces of a loop, each with as many wires as it has values
module _ (z : List ℕ) (piece : ℕ → Circuit (Unit {0})) (f : ℕ → List ℕ) (fills : (i at : ℕ) → (piece i at).next ≡ at + length (f i)) where
  pieces_next : (n first : ℕ) → (turns n (λ i _. piece i) tt first).next ≡ first + length (joined_below n f)
  unfolding turns pure ◌>>=◌
  pieces_next zero first = omega (arith, ap (λ (l : List ℕ). length l) (joined_below-zero f))
  pieces_next (suc n) first =
      fills n (turns n (λ i _. piece i) tt first).next
      ∙ omega (arith, pieces_next n first, ap (λ (l : List ℕ). length l) (joined_below-suc n f), length-append (joined_below n f) (f n))

  pub pieces_met : (n first : ℕ) → ((i at : ℕ) → i < n → HasFrom z at (f i) → Meets z (piece i at).list)
      → HasFrom z first (joined_below n f) → Meets z (turns n (λ i _. piece i) tt first).list
  unfolding turns pure
  pieces_met zero first each has = tt
  pieces_met (suc n) first each has =
      let both = HasFrom-split z first (joined_below n f) (f n) (subst (HasFrom z first) (joined_below-suc n f) has) in
      whole z (sequence n piece) (λ _. piece n) first (pieces_met n first (λ i at h. each i at (omega arith)) both.0)
      (each n (sequence n piece first).next (omega arith) (subst (λ w. HasFrom z w (f n)) (sym (pieces_next n first)) both.1))

-- the settings for the predecessors bring their items
pub brought : (net : Net) (lines : List Line) (item : ℕ → PairNum) → length lines ≤ 2 ^ 20 → LinesFrom 0 lines → (i : ℕ) → i < length lines
    → through_stages net (length lines) (predecessor_bits net lines) item i ≡ item (place_at (predecessors lines) i)
brought net lines item few from i h =
    let p : List ℕ = predecessors lines in
    let long : length p ≡ length lines = predecessors_long lines in
    let right = settings_right.sends net p (subst (λ n. IsReordering n (λ i. slice_index p i)) (sym long) (permutes lines few from)) in
    subst (λ n. through_stages net n (bit_in net n (settings_of net p)) item i ≡ item (place_at p i)) long (right.pairs item i (omega (arith, long)))

module _ (z : List ℕ) (net : Net) (checks : Checks) (lines : List LineLc) (few : length lines ≤ 2 ^ 20)
    (from : LinesFrom 0 (map (line_value z) lines))
    (kinds : AreOfKinds checks (map (line_value z) lines)) (nears : AreNear checks (map (line_value z) lines)) (honest : Honest (map (line_value z) lines))
    (assigns : Assigns z) where
  abbrev numbers : List Line
  numbers = map (line_value z) lines

  abbrev line : ℕ → Line
  line = number_in numbers

  abbrev number : ℕ → PairNum
  number j = packed_item (number_in numbers j)

  long : length numbers ≡ length lines
  long = length-map lines (line_value z)

  short : length numbers ≤ 2 ^ 20
  short = omega (arith, long)

  after : (i : ℕ) → i < length numbers → i ≢ checks.least → Follows (line_before numbers i) (line i)
  after i k other = follows numbers short from honest checks.least kinds.least nears.least i k other

  time_is : (i : ℕ) → i < length numbers → (line i).time ≡ i
  time_is i k = ap (λ (m : Line). m.time) (number_is z lines few from i)
      ∙ (at_place z lines few from i (omega (arith, long))).0

  reaches : (i m : ℕ) → i < length numbers → i ≢ checks.least → IsNear numbers i (Within m) → reach_between (line_before numbers i) (line i) < 2 ^ m
  reaches i m k other (inl e) =
      subst (λ m. reach_between (line_before numbers i) (line i) < 2 ^ m) (sym e)
      (follows_reaches.far (line_before numbers i) (line i) (ranged numbers short from i))
  reaches i m k other (inr (t, (c, e, cell))) =
      let n = near numbers short from honest checks.least kinds.least nears.least i cell.place k other cell.below
      (omega (arith, cell.is)) in
      let low : (line i).cell ≤ (line_before numbers i).cell + 1 = elim n [ inl x ↦ omega arith | inr x ↦ omega arith ] in
      follows_reaches.near m (line_before numbers i) (line i) low (subst (λ x. x < 2 ^ m) (sym (time_is i k)) t)

  check_met : (kind : Kind) (i at : ℕ) (out : Pair) → i < length numbers → IsOfKind checks.least i (line i) kind → IsNear numbers i kind
      → pair_value z out ≡ packed_item (line_before numbers i) → HasFrom z at (check_values kind (line_before numbers i) (line i))
      → Meets z (check_of kind out (line_in lines i) at).list
  unfolding pure
  check_met ZeroOld i at out k suits nearby is has = tt
  check_met Least i at out k suits nearby is has =
      least_line_complete z at (line_in lines i) assigns
      (ap (λ (m : Line). m.old) (sym (number_is z lines few from i)) ∙ ap (λ j. (line j).old) suits
      ∙ begins numbers short from honest checks.least kinds.least nears.least)
  check_met (Boot c) i at out k suits nearby is has =
      let cell = nearby.0 in
      let e : (line i).cell ≡ c + 1 = suits.2 in
      let n = next numbers short from honest checks.least kinds.least nears.least i cell.place k suits.0 cell.below
      (omega (arith, cell.is)) nearby.1 in
      boot_line_complete z at c out (line_before numbers i) suits.1 assigns is (omega arith)
  check_met (Within m) i at out k suits nearby is has =
      follows_complete z at m (line_in lines i) out (line_before numbers i) (line i) suits.1 assigns (sym (number_is z lines few from i)) is
      (ranged numbers short from (place_at (predecessors numbers) i)) (ranged numbers short from i) (after i k suits.0) (reaches i m k suits.0 nearby) has

  abbrev check : ℕ → List ℕ
  check i = check_values (checks.kind i) (line_before numbers i) (line i)

  -- the network of so many lines, and its values
  abbrev network : Network
  network = network_on net (length lines)

  abbrev bits : ℕ → ℕ → Bool
  bits = bit_in net (length lines) (settings_of net (predecessors numbers))

  values_are : argument_values net checks numbers ≡ network_values network bits number ++ joined_below (length lines) check
  values_are = ap (λ n. network_values (network_on net n) (bit_in net n (settings_of net (predecessors numbers))) number ++ joined_below n check) long

  routed : (i : ℕ) → i < length lines → through_stages net (length lines) bits number i ≡ packed_item (line_before numbers i)
  routed i k = subst (λ n. through_stages net n (bit_in net n (settings_of net (predecessors numbers))) number i ≡ packed_item (line_before numbers i)) long
      (brought net numbers number short from i (omega (arith, long)))

  pub argument_met : (at : ℕ) → HasFrom z at (argument_values net checks numbers) → Meets z (argument_of net checks lines at).list
  argument_met at has =
      let wires : List ℕ = network_values network bits number in
      let rest : List ℕ = joined_below (length lines) check in
      let one = HasFrom-split z at wires rest (subst (HasFrom z at) values_are has) in
      let filled = network_complete z network at (items_of lines) bits number assigns (λ j k. ap (λ f. f j) (packs z lines few from)) one.0 in
      let end = (network_of network (items_of lines) at).next in
      let at_end : at + length wires ≡ end = ap (λ m. at + m) (values_length network bits number) ∙ sym (network_fills.ends network at (items_of lines)) in
      subst (λ c. Meets z c.list) (sym (argument_is net checks lines at))
      (whole z (network_of network (items_of lines)) (λ _. checks_of net checks lines at) at filled.meets
      (pieces_met z (λ i. check_of (checks.kind i) (output_of network at i) (line_in lines i)) check
      (λ i w. check_next (checks.kind i) w (output_of network at i) (line_in lines i)
      ∙ ap (λ m. w + m) (sym (check_many (checks.kind i) (line_before numbers i) (line i)))) (length lines) end
      (λ i w k there.
      let low : i < length numbers = omega (arith, long) in
      check_met (checks.kind i) i w (output_of network at i) low (kinds.kinds i low) (nears.kinds i low) (filled.outputs i k ∙ routed i k) there)
      (subst (λ w. HasFrom z w rest) at_end one.1)))

pub memory_complete : (net : Net) → ArgumentIsComplete (argument_of net) (argument_values net) (argument_made net)
memory_complete net = record {
  next = λ checks lines at. memory_next net checks lines at;
  many = λ checks lines. memory_many net checks lines;
  below = λ checks lines few from. memory_small net checks lines few from;
  met = λ z checks lines at few from kinds nears honest assigns has. argument_met z net checks lines few from kinds nears honest assigns at has;
}
