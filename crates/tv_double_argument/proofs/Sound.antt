-- The memory argument is sound: the checks make double lines honest over items in any order, and the network brings some order.
use Rattle.tv_core.proofs.Common.{◌≡◌, ◌⊎◌, ℕ, ◌-◌, ◌<◌, ◌≤◌, ◌^◌, List, inl, sym, ap, ◌∙◌, arith, subst, Assigns, Meets}
use Rattle.tv_core.proofs.Common.{sequence}
use Rattle.tv_core.proofs.LoopLaws.{turn_met}
use Rattle.tv_core.proofs.MeetsLaws.{parts}
use Rattle.tv_core.specs.Lines.{pair_value}
use Rattle.tv_core.specs.declared.lines.Pair.{Pair}
use Rattle.tv_double_argument.proofs.Sizes.{each_check, argument_is}
use Rattle.tv_double_argument.specs.Argument.{HasLines, ArePermuted, ChecksMakeHonest, ArgumentIsSound}
use Rattle.tv_double_argument.specs.Checks.{AreShort, Lines, check_of, plain, reach_bits}
use Rattle.tv_double_argument.specs.Costs.{network_on}
use Rattle.tv_double_argument.specs.Memory.{checks_of, items_of}
use Rattle.tv_double_argument.specs.declared.kinds.Kind.{Kind}
use Rattle.tv_double_argument.specs.declared.kinds.Kind.TheVariants.{Within, Image, Tape, Guard}
use Rattle.tv_double_checks.proofs.GuardLaws.{guard_sound}
use Rattle.tv_double_checks.proofs.ImageLaws.{image_pair_sound}
use Rattle.tv_double_checks.proofs.ItemLaws.{items_right}
use Rattle.tv_double_checks.proofs.LastLaws.{last_line_sound}
use Rattle.tv_double_checks.proofs.TapeLaws.{tape_word_sound}
use Rattle.tv_double_checks.proofs.WithinLaws.{within_sound}
use Rattle.tv_double_checks.specs.Items.{packed}
use Rattle.tv_double_checks.specs.Last.{last_line_of}
use Rattle.tv_doubles.proofs.ChainLaws.{chain_honest}
use Rattle.tv_doubles.proofs.Counts.{permuted_below}
use Rattle.tv_doubles.proofs.WholeLaws.{joined}
use Rattle.tv_doubles.specs.Chain.{Stays}
use Rattle.tv_doubles.specs.Doubles.{DoubleLine, Succeeds, HonestDoubles}
use Rattle.tv_doubles.specs.Places.{PermutesPlaces}
use Rattle.tv_doubles.specs.Whole.{AreLines, IsKind}
use Rattle.tv_network.proofs.NetworkLaws.{network_sound}
use Rattle.tv_network.specs.Network.{network_of, output_of}
use Rattle.tv_network.specs.Stages.{wire_bit}
use Rattle.tv_network.specs.declared.shape.Network.{Network}
use Rattle.tv_stages.proofs.Reorders.{permuted, places-same}
use Rattle.tv_stages.specs.Stages.{places, source, through_stages}
use Rattle.tv_stages.specs.declared.nets.Net.{Net}
use Rattle.std.specs.Prelude.{IsPermutation}

module _ (z : List ℕ) (b : ℕ) (lines : Lines) (line : ℕ → DoubleLine) (are : AreLines b lines.count line (λ i. plain (lines.kind i)))
    (short : AreShort lines.kind lines.count) (assigns : Assigns z) (has : HasLines z lines line) where
  abbrev n : ℕ
  n = lines.count

  small : (i : ℕ) → i < lines.count → i < 2 ^ 20
  small i h = omega (arith, are.few)

  module _ (item : ℕ → Pair) (order : ArePermuted z b lines.count line item) where
    abbrev p : ℕ → ℕ
    p = order.from

    p_below : (i : ℕ) → i < lines.count → p i < lines.count
    p_below = permuted_below lines.count order.from order.permutes

    -- a checked line is followed by that at its place in the permutation, or it stays
    each_kind : (k : Kind) (i next : ℕ) → i < lines.count → IsKind (plain k) lines.count line i → reach_bits k ≤ 30
        → Meets z (check_of b k (lines.new i) (item i) next).list
        → Succeeds (line i) i (line (p i)) (p i) ⊎ Stays order.from line i
    each_kind (Within m) i next h is few met =
        inl (subst (λ at. Succeeds (line i) at (line (p i)) (p i)) (has.new_place i h)
        (within_sound z next b m (lines.new i) (item i) (line i) (line (p i)) (p i) are.base few assigns (has.new i h) (order.items i h)
        (are.in_range i h) (are.in_range (p i) (p_below i h)) (omega (arith, has.new_place i h, small i h)) (small (p i) (p_below i h)) met))
    each_kind (Image m) i next h is few met =
        inl (subst (λ at. Succeeds (line i) at (line (p i)) (p i)) (has.new_place i h)
        (image_pair_sound z next b m (lines.new i) (item i) (line i) (line (p i)) (p i) are.base few assigns (has.new i h) (order.items i h)
        (are.in_range i h) (are.in_range (p i) (p_below i h)) (omega (arith, has.new_place i h, small i h)) (small (p i) (p_below i h)) met))
    each_kind Tape i next h is few met =
        joined order.from line i is.0 (tape_word_sound z next b (lines.new i) (item i) (line i) (line (p i)) (p i) are.base assigns (has.new i h)
        (order.items i h)
        (are.in_range i h) (are.in_range (p i) (p_below i h)) is.1 (λ same. is.2 (p i) (p_below i h) (sym same)) met)
    each_kind (Guard m) i next h is few met =
        joined order.from line i is.0 (guard_sound z next b m (lines.new i) (item i) (line i) (line (p i)) (p i) are.base few assigns (has.new i h)
        (order.items i h)
        (are.in_range i h) (are.in_range (p i) (p_below i h)) is.1 met)

    last_place : lines.count - 1 < lines.count
    last_place = omega (arith, are.some)

    pub honest : (next : ℕ) → Meets z (checks_of b lines item next).list → HonestDoubles lines.count line
    honest next met =
        let both = parts z (sequence (lines.count - 1) (each_check b lines item)) (λ _. last_line_of (item (lines.count - 1))) next met in
        chain_honest lines.count (lines.count - 1) order.from line (record {
          few = are.few;
          exempt = last_place;
          permutes = order.permutes;
          begins = (last_line_sound z _ b (item (lines.count - 1)) (line (p (lines.count - 1))) (p (lines.count - 1)) are.base assigns
              (order.items (lines.count - 1) last_place) (are.in_range (p (lines.count - 1)) (p_below (lines.count - 1) last_place)) both.1).1;
          each = λ i h other. each_kind (lines.kind i) i _ h (are.kinds i h) (short i h)
              (turn_met z (λ i _. each_check b lines item i) tt next (lines.count - 1) i (omega arith) both.0);
        })

  -- the network's outputs are such items
  module _ (net : Net) (next : ℕ) where
    abbrev network : Network
    network = network_on net lines.count

    abbrev place : ℕ → ℕ
    place = source net lines.count (wire_bit z network next)

    permutes : PermutesPlaces lines.count place
    permutes =
        let bit = wire_bit z network next in
        subst (λ ps. IsPermutation (places lines.count (λ i. i)) ps)
        (places-same lines.count (through_stages net lines.count bit (λ i. i)) place (λ i h. permuted.numbers net lines.count bit (λ i. i) i))
        (permuted.number_lists net lines.count bit (λ i. i))

    item_is : (i : ℕ) → i < lines.count → pair_value z (items_of b lines i) ≡ packed b (line i) i
    item_is i h =
        items_right.item z b (lines.old i) (line i) are.base assigns (has.old i h) (are.in_range i h) (omega (arith, has.old_place i h, small i h))
        ∙ ap (packed b (line i)) (has.old_place i h)

    pub brings : Meets z (network_of network (items_of b lines) next).list → ArePermuted z b lines.count line (output_of network next)
    brings met = record {
      from = place;
      permutes = permutes;
      items = λ i h.
          network_sound z network next (items_of b lines) assigns met i h
          ∙ permuted.pairs net lines.count (wire_bit z network next) (λ j. pair_value z (items_of b lines j)) i
          ∙ item_is (place i) (permuted_below lines.count place permutes i h);
    }

pub checks_honest : ChecksMakeHonest
checks_honest z b lines line item next are short assigns has order met = honest z b lines line are short assigns has item order next met

pub memory_sound : ArgumentIsSound
memory_sound net z b lines line next are short assigns has met =
    let network : Network = network_on net lines.count in
    let both = parts z (network_of network (items_of b lines)) (λ _. checks_of b lines (output_of network next)) next
    (subst (λ c. Meets z c.list) (argument_is net b lines next) met) in
    honest z b lines line are short assigns has (output_of network next) (brings z b lines line are short assigns has net next both.0) _ both.1
