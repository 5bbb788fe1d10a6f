-- How many constraints a check costs, and how many terms they have.
use Rattle.tv_core.proofs.Common.{◌≡◌, ℕ, ◌+◌, ◌-◌, ◌*◌, ◌≤◌, [], ◌++◌, length, ◌∙◌, ap, arith, length-append}
use Rattle.tv_core.proofs.Common.{fresh, put, pure, ◌>>=◌, scaled, wire, constant, top, Combination, terms_in}
use Rattle.tv_bits.proofs.BitsLaws.{new_bits_answer}
use Rattle.tv_bits.proofs.DoubleRowLaws.{new_bits_constraints, new_bits_terms}
use Rattle.tv_bits.proofs.GateLaws.{terms-append}
use Rattle.tv_bits.specs.Bits.{new_bits_of}
use Rattle.tv_bits.specs.Times.{times_of}
use Rattle.tv_bits.specs.declared.bit_wires.Bits.{Bits}
use Rattle.tv_core.specs.declared.field.TheConstants.{P}
use Rattle.tv_core.specs.declared.lines.Pair.{Pair}
use Rattle.tv_double_checks.proofs.DifferenceLaws.{length-cells_after, length-cell_difference, length-reach}
use Rattle.tv_double_checks.proofs.Sums.{length-new, minus_top, value-moved, value-once_more}
use Rattle.tv_double_checks.specs.Differences.{minus, cells_after, cell_difference}
use Rattle.tv_double_checks.specs.Within.{place_difference, either_of, within_of, WithinCosts}
use Rattle.tv_double_checks.specs.declared.items.CellWords.{CellWords}

-- a wire after those of the own line is a term more
length-place_difference : (b : ℕ) (own : CellWords) (w : ℕ) → 1 ≤ w → top own.sum ≤ w → top own.second ≤ w
    → length (place_difference b own (wire w)) ≡ length (place_difference b own []) + 1
length-place_difference b own w some h i =
    let place : Combination = scaled (P - 2 * b) (constant own.place) in
    let sum : Combination = scaled (P - 1) own.sum in
    let second : Combination = scaled (P - 2) own.second in
    let x : Combination = scaled 2 (wire w) in
    length-new ((([] ++ place) ++ sum) ++ second) (((x ++ place) ++ sum) ++ second) 2 w (omega arith) (omega arith)
    (minus_top 2 (minus 1 (minus (2 * b) [] (constant own.place)) own.sum) own.second w
    (minus_top 1 (minus (2 * b) [] (constant own.place)) own.sum w (minus_top (2 * b) [] (constant own.place) w (omega arith) (omega arith)) h) i)
    (λ z.
    value-moved ((x ++ place) ++ sum) (([] ++ place) ++ sum) second 2 w z
    (value-moved (x ++ place) ([] ++ place) sum 2 w z (value-moved x [] place 2 w z (value-once_more 2 w z))))

-- ---- a check
within_lengths : (b m : ℕ) (own : CellWords) (item : Pair) (next : ℕ) → terms_in (within_of b m own item next).list
    ≡ 4 * m + 5 + length (cells_after b own item.first) + length (cell_difference b own item.first) + length (place_difference b own item.second)
unfolding within_of either_of times_of fresh put pure ◌>>=◌
within_lengths b m own item next =
    let reach = new_bits_of m next in
    terms-append reach.list _
    ∙ omega (
      arith,
      new_bits_terms m next,
      ap (λ (x : Bits). x.n) (new_bits_answer m next),
      length-reach (2 * b) (cells_after b own item.first) reach.answer,
      length-append (place_difference b own item.second) (wire reach.next),
    )

pub within_costs : WithinCosts
unfolding within_of either_of times_of fresh put pure ◌>>=◌
within_costs = record {
  constraints = λ b m own item next. length-append (new_bits_of m next).list _ ∙ omega (arith, new_bits_constraints m next);
  terms = λ b m own u v next some_u cell sum_u some_v sum_v second.
      within_lengths b m own (record { first = wire u; second = wire v }) next
      ∙ omega (
        arith,
        length-cells_after b own u some_u cell,
        length-cell_difference b own u cell sum_u,
        length-place_difference b own v some_v sum_v second,
      );
}
