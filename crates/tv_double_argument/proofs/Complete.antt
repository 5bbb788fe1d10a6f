-- The memory argument is complete.
use Rattle.tv_core.proofs.Common.{◌≡◌, ℕ, zero, suc, ◌+◌, ◌-◌, ◌<◌, ◌≤◌, ◌^◌, Bool, List, length, refl, sym, ap, ◌∙◌, arith, subst, inl, inr}
use Rattle.tv_core.proofs.Common.{length-append, HasFrom-split, joined_below, Circuit, pure, turns, ◌>>=◌, Assigns, Meets, HasFrom, sequence}
use Rattle.tv_core.proofs.JoinedLaws.{joined_below-zero, joined_below-suc}
use Rattle.tv_core.proofs.MeetsLaws.{whole}
use Rattle.tv_core.specs.Lines.{pair_value}
use Rattle.tv_core.specs.declared.field.TheConstants.{P}
use Rattle.tv_core.specs.declared.lines.Pair.{Pair}
use Rattle.tv_core.specs.declared.lines.PairNum.{PairNum}
use Rattle.tv_double_argument.proofs.Order.{brought, item_at}
use Rattle.tv_double_argument.proofs.Sizes.{argument_is, check_many, check_next, each_check, memory_many, memory_small}
use Rattle.tv_double_argument.specs.Argument.{AreHonest, ArgumentIsComplete, HasLines}
use Rattle.tv_double_argument.specs.Checks.{Lines, Numbers, check_of, check_values, plain, reach_bits}
use Rattle.tv_double_argument.specs.Costs.{network_on}
use Rattle.tv_double_argument.specs.Memory.{argument_of, checks_of, items_of}
use Rattle.tv_double_argument.specs.Order.{argument_values, checked_values, items_in, successor_bits}
use Rattle.tv_double_argument.specs.declared.kinds.Kind.{Kind}
use Rattle.tv_double_argument.specs.declared.kinds.Kind.TheVariants.{Within, Image, Tape, Guard}
use Rattle.tv_double_checks.proofs.GuardLaws.{guard_complete}
use Rattle.tv_double_checks.proofs.ImageLaws.{image_pair_complete}
use Rattle.tv_double_checks.proofs.ItemLaws.{items_right}
use Rattle.tv_double_checks.proofs.LastLaws.{last_line_complete}
use Rattle.tv_double_checks.proofs.TapeLaws.{tape_word_complete}
use Rattle.tv_double_checks.proofs.WithinLaws.{within_complete}
use Rattle.tv_double_checks.specs.Items.{packed}
use Rattle.tv_double_checks.specs.Last.{last_line_of}
use Rattle.tv_doubles.proofs.Counts.{permuted_below}
use Rattle.tv_doubles.proofs.SuccessorLaws.{successors_right}
use Rattle.tv_doubles.proofs.WholeLaws.{argument_right, next_cell}
use Rattle.tv_doubles.specs.Doubles.{DoubleLine, Succeeds}
use Rattle.tv_doubles.specs.Successors.{successor}
use Rattle.tv_doubles.specs.Whole.{IsKind, gap, reach_of}
use Rattle.tv_doubles.specs.Within.{DoubleInRange, IsBase}
use Rattle.tv_network.proofs.NetworkLaws.{network_complete, network_fills, values_length}
use Rattle.tv_network.specs.Filling.{pair_at}
use Rattle.tv_network.specs.Network.{network_of, network_values, output_of}
use Rattle.tv_network.specs.declared.shape.Network.{Network}
use Rattle.tv_stages.specs.declared.nets.Net.{Net}

-- ---- pieces of a loop, each with as many wires as it has values
module _ (z : List ℕ) (piece : ℕ → Circuit (Unit {0})) (f : ℕ → List ℕ) (fills : (i at : ℕ) → (piece i at).next ≡ at + length (f i)) where
  pieces_next : (n first : ℕ) → (turns n (λ i _. piece i) tt first).next ≡ first + length (joined_below n f)
  unfolding turns pure ◌>>=◌
  pieces_next zero first = omega (arith, ap (λ (l : List ℕ). length l) (joined_below-zero f))
  pieces_next (suc n) first =
      fills n (turns n (λ i _. piece i) tt first).next
      ∙ omega (arith, pieces_next n first, ap (λ (l : List ℕ). length l) (joined_below-suc n f), length-append (joined_below n f) (f n))

  pub pieces_met : (n first : ℕ) → ((i at : ℕ) → i < n → HasFrom z at (f i) → Meets z (piece i at).list)
      → HasFrom z first (joined_below n f) → Meets z (turns n (λ i _. piece i) tt first).list
  unfolding turns pure
  pieces_met zero first each has = tt
  pieces_met (suc n) first each has =
      let both = HasFrom-split z first (joined_below n f) (f n) (subst (HasFrom z first) (joined_below-suc n f) has) in
      whole z (sequence n piece) (λ _. piece n) first (pieces_met n first (λ i at h. each i at (omega arith)) both.0)
      (each n (sequence n piece first).next (omega arith) (subst (λ w. HasFrom z w (f n)) (sym (pieces_next n first)) both.1))

-- the numbers of an item are below P
packed_small : (b : ℕ) → IsBase b → (l : DoubleLine) (i : ℕ) → DoubleInRange b l → i < 2 ^ 20 → ((packed b l i).first < P) × ((packed b l i).second < P)
packed_small b (inl e) l i r h = by_base b e l i r h
  where
    by_base : (b : ℕ) → b ≡ 2 ^ 16 → (l : DoubleLine) (i : ℕ) → DoubleInRange b l → i < 2 ^ 20
        → ((packed b l i).first < P) × ((packed b l i).second < P)
    by_base b e l i r h = rw e (let c = r.cell in let o = r.old.first in let p = r.old.second in (omega (arith, e, c, o, p), omega (arith, e, p)))
packed_small b (inr e) l i r h = by_base b e l i r h
  where
    by_base : (b : ℕ) → b ≡ 2 ^ 32 → (l : DoubleLine) (i : ℕ) → DoubleInRange b l → i < 2 ^ 20
        → ((packed b l i).first < P) × ((packed b l i).second < P)
    by_base b e l i r h = rw e (let c = r.cell in let o = r.old.first in let p = r.old.second in (omega (arith, e, c, o, p), omega (arith, e, p)))

module _ (net : Net) (z : List ℕ) (b : ℕ) (lines : Lines) (line : ℕ → DoubleLine)
    (honest : AreHonest b (record { count = lines.count; line = line; kind = lines.kind }))
    (assigns : Assigns z) (has : HasLines z lines line) where
  abbrev numbers : Numbers
  numbers = record { count = lines.count; line = line; kind = lines.kind }

  abbrev s : ℕ → ℕ
  s i = successor lines.count line i

  small : (i : ℕ) → i < lines.count → i < 2 ^ 20
  small i h = omega (arith, honest.are.few)

  s_below : (i : ℕ) → i < lines.count → s i < lines.count
  s_below = permuted_below lines.count (successor lines.count line) (successors_right.moved lines.count line honest.are.few)

  follows : (i : ℕ) → i + 1 < lines.count → Succeeds (line i) i (line (s i)) (s i)
  follows i h = successors_right.succeeds lines.count (lines.count - 1) line honest.are.few honest.honest honest.greatest i (omega arith) (omega arith)

  item_is : (i : ℕ) → i < lines.count → pair_value z (items_of b lines i) ≡ packed b (line i) i
  item_is i h =
      items_right.item z b (lines.old i) (line i) honest.are.base assigns (has.old i h) (honest.are.in_range i h) (omega (arith, has.old_place i h, small i h))
      ∙ ap (packed b (line i)) (has.old_place i h)

  -- a check is met by its values
  module _ (i at : ℕ) (out : Pair) (h : i + 1 < lines.count) (is : pair_value z out ≡ packed b (line (s i)) (s i)) where
    own_place : (lines.new i).place < 2 ^ 20
    own_place = omega (arith, has.new_place i (omega arith), small i (omega arith))

    range : DoubleInRange b (line i)
    range = honest.are.in_range i (omega arith)

    next_range : DoubleInRange b (line (s i))
    next_range = honest.are.in_range (s i) (s_below i (omega arith))

    next_place : s i < 2 ^ 20
    next_place = small (s i) (s_below i (omega arith))

    placed : (A : ℕ → Type 0) → A i → A (lines.new i).place
    placed A x = subst A (sym (has.new_place i (omega arith))) x

    check_met : (k : Kind) → IsKind (plain k) lines.count line i → reach_bits k ≤ 30
        → reach_of (plain k) (line i) i (line (s i)) (s i) < 2 ^ reach_bits k → (gap (plain k) (reach_bits k) ≡ 1 → (line (s i)).cell ≤ (line i).cell + 1)
        → HasFrom z at (check_values b k (line i) i (line (s i)) (s i)) → Meets z (check_of b k (lines.new i) out at).list
    check_met (Within m) kind few fits low there =
        let own = lines.new i in
        within_complete z at b m own out (line i) (line (s i)) (s i) honest.are.base few assigns (has.new i (omega arith)) is range next_range own_place
        next_place
        (subst (λ p. Succeeds (line i) p (line (s i)) (s i)) (sym (has.new_place i (omega arith))) (follows i h))
        (subst (λ p. reach_of (plain (Within m)) (line i) p (line (s i)) (s i) < 2 ^ m) (sym (has.new_place i (omega arith))) fits)
        (subst (λ p. HasFrom z at (check_values b (Within m) (line i) p (line (s i)) (s i))) (sym (has.new_place i (omega arith))) there)
    check_met (Image m) kind few fits low there =
        let own = lines.new i in
        image_pair_complete z at b m own out (line i) (line (s i)) (s i) honest.are.base few assigns (has.new i (omega arith)) is range next_range own_place
        next_place
        (subst (λ p. Succeeds (line i) p (line (s i)) (s i)) (sym (has.new_place i (omega arith))) (follows i h)) (low refl)
        (subst (λ p. reach_of (plain (Image m)) (line i) p (line (s i)) (s i) < 2 ^ m) (sym (has.new_place i (omega arith))) fits)
        (subst (λ p. HasFrom z at (check_values b (Image m) (line i) p (line (s i)) (s i))) (sym (has.new_place i (omega arith))) there)
    check_met Tape kind few fits low there =
        tape_word_complete z at b (lines.new i) out (line i) (line (s i)) i (s i) honest.are.base assigns (has.new i (omega arith)) is range next_range
        (follows i h)
        kind.1 (low refl)
    check_met (Guard m) kind few fits low there =
        guard_complete z at b m (lines.new i) out (line i) (line (s i)) i (s i) honest.are.base few assigns (has.new i (omega arith)) is range next_range
        (follows i h)
        kind.1 fits there

  abbrev network : Network
  network = network_on net lines.count

  abbrev bits : ℕ → ℕ → Bool
  bits = successor_bits net lines.count line

  abbrev number : ℕ → PairNum
  number i = pair_at (items_in b numbers) i

  -- the last place has the item of the least line
  last_met : (at : ℕ) (out : Pair) → pair_value z out ≡ packed b (line (s (lines.count - 1))) (s (lines.count - 1)) → Meets z (last_line_of out at).list
  last_met at out is =
      let q = honest.reaches.least in
      let low = successors_right.least lines.count (lines.count - 1) line honest.are.few honest.greatest q.0 q.1 in
      last_line_complete z at b out (line (s (lines.count - 1))) (s (lines.count - 1)) assigns is (omega (arith, low, q.2))
      (successors_right.begins lines.count (lines.count - 1) line honest.are.few honest.honest honest.greatest)

  pub argument_met : (at : ℕ) → HasFrom z at (argument_values net b numbers) → Meets z (argument_of net b lines at).list
  argument_met at there =
      let wires : List ℕ = network_values network bits number in
      let rest : List ℕ = joined_below (lines.count - 1) (checked_values b numbers) in
      let one = HasFrom-split z at wires rest there in
      let filled = network_complete z network at (items_of b lines) bits number assigns (λ i h. item_is i h ∙ sym (item_at b numbers i h)) one.0 in
      let end = (network_of network (items_of b lines) at).next in
      let at_end : at + length wires ≡ end = ap (λ m. at + m) (values_length network bits number) ∙ sym (network_fills.ends network at (items_of b lines)) in
      let item : ℕ → Pair = output_of network at in
      let comes : (i : ℕ) → i < lines.count → pair_value z (item i) ≡ packed b (line (s i)) (s i)
      = λ i h. filled.outputs i h ∙ brought lines.count line honest.are.few net number i h ∙ item_at b numbers (s i) (s_below i h) in
      subst (λ c. Meets z c.list) (sym (argument_is net b lines at))
      (whole z (network_of network (items_of b lines)) (λ _. checks_of b lines item) at filled.meets
      (whole z (sequence (lines.count - 1) (each_check b lines item)) (λ _. last_line_of (item (lines.count - 1))) end
      (pieces_met z (each_check b lines item) (checked_values b numbers)
      (λ i w. check_next b (lines.kind i) (lines.new i) (item i) w
      ∙ ap (λ m. w + m) (sym (check_many b (lines.kind i) (line i) i (line (s i)) (s i)))) (lines.count - 1) end
      (λ i w k has_check.
      let h : i + 1 < lines.count = omega arith in
      check_met i w (item i) h (comes i (omega arith)) (lines.kind i) (honest.are.kinds i (omega arith)) (honest.short i (omega arith))
      (argument_right.fits b lines.count line (λ i. plain (lines.kind i)) (λ i. reach_bits (lines.kind i)) honest.are honest.reaches honest.honest
      honest.greatest i h)
      (λ e. next_cell b lines.count line (λ i. plain (lines.kind i)) honest.are (λ i. reach_bits (lines.kind i)) honest.reaches honest.honest
      honest.greatest i h e)
      has_check)
      (subst (λ w. HasFrom z w rest) at_end one.1))
      (last_met _ (item (lines.count - 1)) (comes (lines.count - 1) honest.greatest.0))))

pub memory_complete : ArgumentIsComplete
memory_complete = record {
  many = λ net b lines. memory_many net b lines;
  below = λ net b lines are. memory_small net b lines
      (λ i h. subst (λ (p : PairNum). (p.first < P) × (p.second < P)) (sym (item_at b lines i h))
      (packed_small b are.base (lines.line i) i (are.in_range i h) (omega (arith, are.few))));
  met = λ net z b lines line next honest assigns has there. argument_met net z b lines line honest assigns has next there;
}
