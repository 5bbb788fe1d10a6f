-- A line checked against its successor: the constraints mean what is stated of double lines.
use Rattle.tv_core.proofs.Common.{◌≡◌, ℕ, ◌+◌, ◌-◌, ◌*◌, ◌%◌, List, [], ◌∷◌, ◌++◌, length, sym, ◌∙◌, ap, ap₂, subst, bit_at, slice_index}
use Rattle.tv_core.proofs.Common.{length-each_below, value-wire, Meets-split, Meets-join, HasFrom-split, put, ◌>>=◌, wire, value}
use Rattle.tv_core.proofs.Common.{Assigns, Meets, HasFrom}
use Rattle.tv_bits.proofs.BitsLaws.{new_bits_next, new_bits_complete}
use Rattle.tv_bits.proofs.TimesLaws.{kept_answer, kept_sound, kept_complete}
use Rattle.tv_bits.specs.Bits.{binary_value, bits_values, new_bits_of}
use Rattle.tv_bits.specs.Times.{kept_of}
use Rattle.tv_core.specs.declared.field.TheConstants.{P}
use Rattle.tv_core.specs.declared.lines.Pair.{Pair}
use Rattle.tv_double_checks.proofs.DifferenceLaws.{value-excess, value-cells}
use Rattle.tv_double_checks.proofs.Reaches.{reach_sound, reach_complete}
use Rattle.tv_double_checks.proofs.WithinValues.{value-places}
use Rattle.tv_double_checks.specs.Differences.{excess, cell_difference}
use Rattle.tv_double_checks.specs.Within.{place_difference, either_of, within_of, WithinIsSound, WithinIsComplete}
use Rattle.tv_double_checks.specs.declared.items.CellWords.{CellWords}
use Rattle.tv_doubles.proofs.WithinLaws.{checks_sound, checks_complete}
use Rattle.tv_doubles.specs.Within.{MeetsWithin, item_first, item_second, reach_between, excess_between}

-- what the last two constraints say
either_sound : (z : List ℕ) (next b w : ℕ) (own : CellWords) (item : Pair) → Assigns z → Meets z (either_of b w own item next).list
    → (slice_index z w * value (cell_difference b own item.first) z % P ≡ 0)
    × (slice_index z w * value (place_difference b own item.second ++ wire w) z % P ≡ 0)
unfolding either_of put ◌>>=◌
either_sound z next b w own item assigns meets =
    let is : value (wire w) z ≡ slice_index z w = value-wire assigns w in (
      ap (λ n. n * value (cell_difference b own item.first) z % P) (sym is) ∙ meets.0,
      ap (λ n. n * value (place_difference b own item.second ++ wire w) z % P) (sym is) ∙ meets.1.0,
    )

either_complete : (z : List ℕ) (next b w : ℕ) (own : CellWords) (item : Pair) → Assigns z
    → slice_index z w * value (cell_difference b own item.first) z % P ≡ 0
    → slice_index z w * value (place_difference b own item.second ++ wire w) z % P ≡ 0 → Meets z (either_of b w own item next).list
unfolding either_of put ◌>>=◌
either_complete z next b w own item assigns cells places =
    let is : value (wire w) z ≡ slice_index z w = value-wire assigns w in (
      ap (λ n. n * value (cell_difference b own item.first) z % P) is ∙ cells,
      (ap (λ n. n * value (place_difference b own item.second ++ wire w) z % P) is ∙ places, tt),
    )

pub within_sound : WithinIsSound
unfolding within_of ◌>>=◌
within_sound z next b m own item l k j base short assigns has is_item in_l in_k placed at_j meets =
    let reach = new_bits_of m next in
    let kept = kept_of (excess b reach.answer own item) reach.next in
    let one = Meets-split z reach.list _ meets in
    let two = Meets-split z kept.list _ one.1 in
    let r : ℕ = binary_value z reach.answer.first m in
    let has_reach = reach_sound z next m short assigns one.0 in
    let g : ℕ = slice_index z kept.answer in
    let is_g : g ≡ (item_first b k + (P - 2 * b * (1 + r + l.cell))) % P =
    kept_sound z reach.next (excess b reach.answer own item) assigns two.0
    ∙ value-excess z b own item l k j base assigns has is_item in_l reach.answer m r has_reach.many short has_reach.small has_reach.bits in
    let cells = value-cells z b own item l k j base assigns has is_item in_l in
    let places = value-places z b own item l k j base assigns has is_item in_l placed kept.answer g (λ i. g) in
    let met = either_sound z kept.next b kept.answer own item assigns two.1 in
    checks_sound.within b r g l k own.place j base has_reach.small in_l in_k placed at_j (record {
      excess = sym is_g;
      cells = ap (λ n. g * n % P) (sym cells) ∙ met.0;
      times = ap (λ n. g * n % P) (sym places) ∙ met.1;
    })

pub within_complete : WithinIsComplete
unfolding within_of ◌>>=◌
within_complete z next b m own item l k j base short assigns has is_item in_l in_k placed at_j succeeds fits from =
    let reach = new_bits_of m next in
    let kept = kept_of (excess b reach.answer own item) reach.next in
    let r : ℕ = reach_between l own.place k j in
    let g : ℕ = excess_between b l own.place k j in
    let both = HasFrom-split z next (bits_values r m) (g ∷ []) from in
    let at : next + length (bits_values r m) ≡ reach.next = ap (λ n. next + n) (length-each_below m (bit_at r)) ∙ sym (new_bits_next m next) in
    let there : slice_index z reach.next ≡ g = (subst (λ n. HasFrom z n (g ∷ [])) at both.1).0 in
    let there' : slice_index z kept.answer ≡ g = ap (λ w. slice_index z w) (kept_answer (excess b reach.answer own item) reach.next) ∙ there in
    let has_reach = reach_complete z next m r short fits both.0 in
    let met : MeetsWithin b r g (item_first b k) (item_second b k j) l own.place =
    checks_complete.within b l k own.place j base in_l in_k placed at_j succeeds in
    let sum = value-excess z b own item l k j base assigns has is_item in_l reach.answer m r has_reach.many short has_reach.small has_reach.bits in
    let cells = value-cells z b own item l k j base assigns has is_item in_l in
    let places = value-places z b own item l k j base assigns has is_item in_l placed kept.answer g there' in
    Meets-join z reach.list _ (new_bits_complete z next m r assigns both.0)
    (Meets-join z kept.list _ (kept_complete z reach.next (excess b reach.answer own item) assigns (there ∙ sym met.excess ∙ sym sum, tt))
    (either_complete z kept.next b kept.answer own item assigns (ap₂ (λ x y. x * y % P) there' cells ∙ met.cells)
    (ap₂ (λ x y. x * y % P) there' places ∙ met.times)))
