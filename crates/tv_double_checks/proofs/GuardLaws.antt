-- The laws of a guard.
use Rattle.tv_core.proofs.Common.{◌≡◌, ℕ, ◌+◌, ◌-◌, ◌*◌, ◌%◌, ◌≤◌, List, [], sym, ◌∙◌, ap, ap₂, arith, length-append, Meets-split, Meets-join}
use Rattle.tv_core.proofs.Common.{bit_at, length-each_below, put, ◌>>=◌, wire, value, Assigns}
use Rattle.tv_bits.proofs.BitsLaws.{new_bits_answer, new_bits_next, new_bits_complete}
use Rattle.tv_bits.proofs.DoubleRowLaws.{new_bits_constraints, new_bits_terms}
use Rattle.tv_bits.proofs.GateLaws.{terms-append}
use Rattle.tv_bits.proofs.NormalLaws.{new_bits_normal}
use Rattle.tv_bits.proofs.SizeLaws.{bits_in_field}
use Rattle.tv_bits.specs.Bits.{binary_value, new_bits_of}
use Rattle.tv_bits.specs.declared.bit_wires.Bits.{Bits}
use Rattle.tv_core.proofs.NormalCircuits.{normal_put, normal_then}
use Rattle.tv_core.proofs.NormalLaws.{IsNormalFrom-normal}
use Rattle.tv_core.specs.Lines.{pair_value}
use Rattle.tv_core.specs.declared.field.TheConstants.{P}
use Rattle.tv_core.specs.declared.lines.Pair.{Pair}
use Rattle.tv_double_checks.proofs.DifferenceLaws.{value-cells, value-excess, excess_normal, length-cells_after, length-cell_difference, length-reach}
use Rattle.tv_double_checks.proofs.Reaches.{HasReach, reach_sound, reach_complete}
use Rattle.tv_double_checks.specs.Differences.{minus, first_less, cells_after, excess, cell_difference}
use Rattle.tv_double_checks.specs.Guard.{guard_of, GuardIsSound, GuardIsComplete, GuardSizes, GuardCosts, GuardIsNormal}
use Rattle.tv_double_checks.specs.Items.{HasWords, packed}
use Rattle.tv_double_checks.specs.declared.items.CellWords.{CellWords}
use Rattle.tv_doubles.proofs.WithinLaws.{checks_sound, checks_complete}
use Rattle.tv_doubles.specs.Doubles.{DoubleLine, Words, no_words}
use Rattle.tv_doubles.specs.Within.{IsBase, DoubleInRange, MeetsGuard, sum_of, item_first, cells_between}

-- what the last constraint says
module _ (z : List ℕ) (next b m : ℕ) (own : CellWords) (item : Pair) (l k : DoubleLine) (j : ℕ) (base : IsBase b) (short : m ≤ 30) (assigns : Assigns z)
    (has : HasWords z own l.cell l.new) (is_item : pair_value z item ≡ packed b k j) (in_l : DoubleInRange b l) (none : l.new ≡ no_words) where
  same_cell : value (cell_difference b own item.first) z ≡ (item_first b k + (P - 2 * b * l.cell)) % P
  same_cell =
      let sum : 2 * b * l.cell + sum_of l.new ≡ 2 * b * l.cell = ap (λ (w : Words). 2 * b * l.cell + sum_of w) none ∙ omega arith in
      value-cells z b own item l k j base assigns has is_item in_l ∙ ap (λ c. (item_first b k + (P - c)) % P) sum

  above : (r : ℕ) → HasReach z next m r → value (excess b (new_bits_of m next).answer own item) z ≡ (item_first b k + (P - 2 * b * (l.cell + 1 + r))) % P
  above r reach =
      let order : 1 + r + l.cell ≡ l.cell + 1 + r = omega arith in
      value-excess z b own item l k j base assigns has is_item in_l (new_bits_of m next).answer m r reach.many short reach.small reach.bits
      ∙ ap (λ c. (item_first b k + (P - 2 * b * c)) % P) order

pub guard_sound : GuardIsSound
unfolding guard_of put ◌>>=◌
guard_sound z next b m own item l k j base short assigns has is_item in_l in_k none meets =
    let one = Meets-split z (new_bits_of m next).list _ meets in
    let reach = reach_sound z next m short assigns one.0 in
    let r : ℕ = binary_value z (new_bits_of m next).answer.first m in
    let met : MeetsGuard b r (item_first b k) l =
    ap₂ (λ x y. x * y % P) (sym (same_cell z next b m own item l k j base short assigns has is_item in_l none))
    (sym (above z next b m own item l k j base short assigns has is_item in_l none r reach)) ∙ one.1.0 in
    checks_sound.guard b r l k base reach.small in_l in_k none met

pub guard_complete : GuardIsComplete
unfolding guard_of put ◌>>=◌
guard_complete z next b m own item l k i j base short assigns has is_item in_l in_k succeeds none fits from =
    let r : ℕ = cells_between l k in
    let reach = reach_complete z next m r short fits from in
    let met : MeetsGuard b r (item_first b k) l = checks_complete.guard b l k i j base in_l in_k succeeds none in
    Meets-join z (new_bits_of m next).list _ (new_bits_complete z next m r assigns from) (
      ap₂ (λ x y. x * y % P) (same_cell z next b m own item l k j base short assigns has is_item in_l none)
          (above z next b m own item l k j base short assigns has is_item in_l none r reach) ∙ met,
      tt,
    )

guard_next : (b m : ℕ) (own : CellWords) (item : Pair) (next : ℕ) → (guard_of b m own item next).next ≡ next + m
unfolding guard_of put ◌>>=◌
guard_next b m own item next = new_bits_next m next

pub guard_sizes : GuardSizes
guard_sizes = record {
  end = guard_next;
  fills = λ b m own item l k next. omega (arith, guard_next b m own item next, length-each_below m (bit_at (cells_between l k)));
  in_field = λ m l k. bits_in_field (cells_between l k) m;
}

pub guard_costs : GuardCosts
unfolding guard_of put ◌>>=◌
guard_costs = record {
  constraints = λ b m own item next. length-append (new_bits_of m next).list _ ∙ omega (arith, new_bits_constraints m next);
  terms = λ b m own u v next some cell sum.
      terms-append (new_bits_of m next).list _
      ∙ omega (
        arith,
        new_bits_terms m next,
        ap (λ (x : Bits). x.n) (new_bits_answer m next),
        length-cell_difference b own u cell sum,
        length-cells_after b own u some cell,
        length-reach (2 * b) (cells_after b own (wire u)) (new_bits_of m next).answer,
      );
}

pub guard_normal : GuardIsNormal
unfolding guard_of
guard_normal b m own item next base short some cell u =
    let reach = new_bits_of m next in
    let at : reach.answer.first ≡ next = ap (λ (x : Bits). x.first) (new_bits_answer m next) in
    let n : reach.answer.n ≡ m = ap (λ (x : Bits). x.n) (new_bits_answer m next) in
    normal_then (new_bits_of m) (λ reach. put (cell_difference b own item.first) (excess b reach own item) []) next (new_bits_normal m next)
    (normal_put _ _ _ reach.next (IsNormalFrom-normal (minus 1 (first_less b own item.first) own.sum))
    (excess_normal b own item reach.answer base (omega arith) (omega arith) (omega arith) (omega arith)) tt)
