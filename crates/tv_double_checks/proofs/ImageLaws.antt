-- The laws of an image pair.
use Rattle.tv_core.proofs.Common.{◌≡◌, ◌≢◌, ℕ, ◌+◌, ◌-◌, ◌*◌, ◌%◌, ◌^◌, ◌<◌, ◌≤◌, List, [], ◌++◌, length, sym, ◌∙◌, ap, ap₂, arith, length-append, Meets-split}
use Rattle.tv_core.proofs.Common.{Meets-join, bit_at, length-each_below, put, ◌>>=◌, scaled, top, wire, constant, value, Combination, Assigns}
use Rattle.tv_bits.proofs.BitNumbers.{value-bits_below}
use Rattle.tv_bits.proofs.BitsLaws.{new_bits_answer, new_bits_next, new_bits_complete}
use Rattle.tv_bits.proofs.DoubleRowLaws.{new_bits_constraints, new_bits_terms}
use Rattle.tv_bits.proofs.GateLaws.{terms-append}
use Rattle.tv_bits.proofs.NormalLaws.{new_bits_normal}
use Rattle.tv_bits.proofs.SizeLaws.{bits_in_field}
use Rattle.tv_bits.specs.Bits.{binary_value, bits_combination, new_bits_of}
use Rattle.tv_bits.specs.declared.bit_wires.Bits.{Bits}
use Rattle.tv_core.proofs.CombinationLaws.{value-constant}
use Rattle.tv_core.proofs.NormalCircuits.{normal_put, normal_then}
use Rattle.tv_core.proofs.NormalLaws.{IsNormalFrom-normal, value-normal}
use Rattle.tv_core.specs.Lines.{pair_value}
use Rattle.tv_core.specs.declared.field.TheConstants.{P}
use Rattle.tv_core.specs.declared.lines.Pair.{Pair}
use Rattle.tv_double_checks.proofs.DifferenceLaws.{value-cells, value-after, length-cells_after, length-cell_difference, length-reach, reach_normal}
use Rattle.tv_double_checks.proofs.ItemLaws.{second_is}
use Rattle.tv_double_checks.proofs.Numbers.{place_after_number}
use Rattle.tv_double_checks.proofs.Reaches.{HasReach, reach_sound, reach_complete}
use Rattle.tv_double_checks.proofs.Sums.{length-new, minus_top, value-minus, value-moved, value-once_more}
use Rattle.tv_double_checks.specs.Differences.{minus, first_less, cells_after, cell_difference}
use Rattle.tv_double_checks.specs.Image.{places_after, place_excess, image_pair_of, ImagePairIsSound, ImagePairIsComplete, ImagePairSizes}
use Rattle.tv_double_checks.specs.Image.{ImagePairCosts, ImagePairIsNormal}
use Rattle.tv_double_checks.specs.Items.{HasWords, packed}
use Rattle.tv_double_checks.specs.declared.items.CellWords.{CellWords}
use Rattle.tv_doubles.proofs.WithinLaws.{checks_sound, checks_complete}
use Rattle.tv_doubles.proofs.WithinNumbers.{by_base}
use Rattle.tv_doubles.specs.Doubles.{DoubleLine}
use Rattle.tv_doubles.specs.Within.{IsBase, DoubleInRange, MeetsImage, item_first, item_second, time_between}

module _ (z : List ℕ) (next b m : ℕ) (own : CellWords) (item : Pair) (l k : DoubleLine) (j : ℕ) (base : IsBase b) (short : m ≤ 30) (assigns : Assigns z)
    (has : HasWords z own l.cell l.new) (is_item : pair_value z item ≡ packed b k j) (in_l : DoubleInRange b l) (placed : own.place < 2 ^ 20) where
  value-place : (r : ℕ) → HasReach z next m r
      → value (place_excess b (new_bits_of m next).answer own item.second) z ≡ (item_second b k j + (P - (b * (own.place + 1 + r) + l.new.second))) % P
  value-place r reach =
      let bits : Combination = bits_combination (new_bits_of m next).answer.first (new_bits_of m next).answer.n in
      let is_r : value bits z ≡ r = ap (λ k. value (bits_combination (new_bits_of m next).answer.first k) z) reach.many
      ∙ value-bits_below reach.bits (omega arith) in
      let x : Combination = minus b item.second (constant (own.place + 1)) in
      let is_place : value (constant (own.place + 1)) z ≡ own.place + 1 = value-constant assigns (own.place + 1) ∙ omega arith in
      value-minus b (places_after b own item.second) bits z _ r
      (value-normal z (minus 1 x own.second)
      ∙ value-minus 1 x own.second z _ l.new.second
      (value-minus b item.second (constant (own.place + 1)) z _ (own.place + 1) (second_is z b item k j is_item) is_place)
      has.second)
      is_r
      ∙ place_after_number b base (item_second b k j) own.place l.new.second r placed in_l.new.second reach.small

pub image_pair_sound : ImagePairIsSound
unfolding image_pair_of put ◌>>=◌
image_pair_sound z next b m own item l k j base short assigns has is_item in_l in_k placed at_j meets =
    let one = Meets-split z (new_bits_of m next).list _ meets in
    let reach = reach_sound z next m short assigns one.0 in
    let r : ℕ = binary_value z (new_bits_of m next).answer.first m in
    let after = value-after z b own item l k j base assigns has is_item in_l in
    let met : MeetsImage b r (item_first b k) (item_second b k j) l own.place = record {
      cells = ap₂ (λ x y. x * y % P) (sym after) (sym (value-cells z b own item l k j base assigns has is_item in_l)) ∙ one.1.0;
      times = ap₂ (λ x y. x * y % P) (sym after)
          (sym (value-place z next b m own item l k j base short assigns has is_item in_l placed r reach)) ∙ one.1.1.0;
    } in
    checks_sound.image b r l k own.place j base reach.small in_l in_k placed at_j met

pub image_pair_complete : ImagePairIsComplete
unfolding image_pair_of put ◌>>=◌
image_pair_complete z next b m own item l k j base short assigns has is_item in_l in_k placed at_j succeeds near fits from =
    let r : ℕ = time_between l own.place k j in
    let reach = reach_complete z next m r short fits from in
    let after = value-after z b own item l k j base assigns has is_item in_l in
    let met : MeetsImage b r (item_first b k) (item_second b k j) l own.place =
    checks_complete.image b l k own.place j base in_l in_k placed at_j succeeds near in
    Meets-join z (new_bits_of m next).list _ (new_bits_complete z next m r assigns from) (
      ap₂ (λ x y. x * y % P) after (value-cells z b own item l k j base assigns has is_item in_l) ∙ met.cells,
      (ap₂ (λ x y. x * y % P) after (value-place z next b m own item l k j base short assigns has is_item in_l placed r reach) ∙ met.times, tt),
    )

image_pair_next : (b m : ℕ) (own : CellWords) (item : Pair) (next : ℕ) → (image_pair_of b m own item next).next ≡ next + m
unfolding image_pair_of put ◌>>=◌
image_pair_next b m own item next = new_bits_next m next

pub image_pair_sizes : ImagePairSizes
image_pair_sizes = record {
  end = image_pair_next;
  fills = λ b m own item l i k j next. omega (arith, image_pair_next b m own item next, length-each_below m (bit_at (time_between l i k j)));
  in_field = λ m l i k j. bits_in_field (time_between l i k j) m;
}

-- a wire after those of the own line is a term more
length-places_after : (b : ℕ) (own : CellWords) (w : ℕ) → 1 ≤ w → top own.second ≤ w
    → length (places_after b own (wire w)) ≡ length (places_after b own []) + 1
length-places_after b own w some h =
    let place : Combination = scaled (P - b) (constant (own.place + 1)) in
    let second : Combination = scaled (P - 1) own.second in
    length-new (([] ++ place) ++ second) ((wire w ++ place) ++ second) 1 w (omega arith) (omega arith)
    (minus_top 1 (minus b [] (constant (own.place + 1))) own.second w (minus_top b [] (constant (own.place + 1)) w (omega arith) (omega arith)) h)
    (λ z. value-moved (wire w ++ place) ([] ++ place) second 1 w z (value-moved (wire w) [] place 1 w z (value-once_more 1 w z)))

pub image_pair_costs : ImagePairCosts
unfolding image_pair_of put ◌>>=◌
image_pair_costs = record {
  constraints = λ b m own item next. length-append (new_bits_of m next).list _ ∙ omega (arith, new_bits_constraints m next);
  terms = λ b m own u v next some_u cell sum some_v second.
      terms-append (new_bits_of m next).list _
      ∙ omega (
        arith,
        new_bits_terms m next,
        ap (λ (x : Bits). x.n) (new_bits_answer m next),
        length-cell_difference b own u cell sum,
        length-cells_after b own u some_u cell,
        length-places_after b own v some_v second,
        length-reach b (places_after b own (wire v)) (new_bits_of m next).answer,
      );
}

word_apart : (b : ℕ) → IsBase b → (P - b) % P ≢ 0
word_apart = by_base (λ b. (P - b) % P ≢ 0) (λ e. absurd (omega arith)) (λ e. absurd (omega arith))

pub image_pair_normal : ImagePairIsNormal
unfolding image_pair_of
image_pair_normal b m own item next base short some second v =
    let reach = new_bits_of m next in
    let at : reach.answer.first ≡ next = ap (λ (x : Bits). x.first) (new_bits_answer m next) in
    let n : reach.answer.n ≡ m = ap (λ (x : Bits). x.n) (new_bits_answer m next) in
    let x : Combination = minus b item.second (constant (own.place + 1)) in
    let after = IsNormalFrom-normal (minus (2 * b) (first_less b own item.first) (constant 1)) in
    normal_then (new_bits_of m) _ next (new_bits_normal m next)
    (normal_then (put (cells_after b own item.first) (cell_difference b own item.first) [])
    (λ _. put (cells_after b own item.first) (place_excess b reach.answer own item.second) []) reach.next
    (normal_put _ _ _ reach.next after (IsNormalFrom-normal (minus 1 (first_less b own item.first) own.sum)) tt)
    (normal_put _ _ _ _ after
    (reach_normal b (minus 1 x own.second) reach.answer (word_apart b base) (omega arith)
    (minus_top 1 x own.second reach.answer.first (minus_top b item.second (constant (own.place + 1)) reach.answer.first (omega arith) (omega arith))
    (omega arith)))
    tt))
