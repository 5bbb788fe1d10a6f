-- By how much an item's first number exceeds one of the own line: values, terms and normal form.
use Rattle.tv_core.proofs.Common.{◌≡◌, ◌≢◌, ℕ, ◌+◌, ◌-◌, ◌*◌, ◌%◌, ◌^◌, ◌<◌, ◌≤◌, List, [], ◌++◌, length, ◌∙◌, ap, arith, length-append}
use Rattle.tv_core.proofs.Common.{constant, scaled, top, wire, Combination, value, normal, Assigns, IsNormal}
use Rattle.tv_bits.proofs.BitNumbers.{value-bits_below}
use Rattle.tv_bits.proofs.GateLaws.{length-scaled}
use Rattle.tv_bits.proofs.NormalLaws.{scaled_bits_normal}
use Rattle.tv_bits.specs.Bits.{HasBits, bits_combination}
use Rattle.tv_bits.specs.declared.bit_wires.Bits.{Bits}
use Rattle.tv_core.proofs.BelowLaws.{length-weighted}
use Rattle.tv_core.proofs.CombinationLaws.{value-constant}
use Rattle.tv_core.proofs.NormalCircuits.{normal_append}
use Rattle.tv_core.proofs.NormalLaws.{value-normal, IsNormalFrom-normal, top-normal}
use Rattle.tv_core.specs.Lines.{pair_value}
use Rattle.tv_core.specs.declared.field.TheConstants.{P}
use Rattle.tv_core.specs.declared.lines.Pair.{Pair}
use Rattle.tv_double_checks.proofs.ItemLaws.{first_is, small_sum}
use Rattle.tv_double_checks.proofs.Numbers.{after_number, excess_number, cells_number}
use Rattle.tv_double_checks.proofs.Sums.{length-new, minus_top, value-minus, value-moved, value-once_more}
use Rattle.tv_double_checks.specs.Differences.{minus, first_less, cells_after, excess, cell_difference}
use Rattle.tv_double_checks.specs.Items.{HasWords, packed}
use Rattle.tv_double_checks.specs.declared.items.CellWords.{CellWords}
use Rattle.tv_doubles.proofs.WithinNumbers.{by_base}
use Rattle.tv_doubles.specs.Doubles.{DoubleLine}
use Rattle.tv_doubles.specs.Within.{IsBase, DoubleInRange, sum_of, item_first}

-- ---- values
module _ (z : List ℕ) (b : ℕ) (own : CellWords) (item : Pair) (l k : DoubleLine) (j : ℕ) (base : IsBase b) (assigns : Assigns z)
    (has : HasWords z own l.cell l.new) (is_item : pair_value z item ≡ packed b k j) (in_l : DoubleInRange b l) where
  -- the item's first number less that of the own double cell
  value-first_less : value (first_less b own item.first) z ≡ (item_first b k + (P - 2 * b) * l.cell % P) % P
  value-first_less = value-minus (2 * b) item.first own.cell z (item_first b k) l.cell (first_is z b item k j is_item) has.cell

  pub value-after : value (cells_after b own item.first) z ≡ (item_first b k + (P - 2 * b * (l.cell + 1))) % P
  value-after =
      value-normal z (minus (2 * b) (first_less b own item.first) (constant 1))
      ∙ value-minus (2 * b) (first_less b own item.first) (constant 1) z _ 1 value-first_less (value-constant assigns 1)
      ∙ after_number b base (item_first b k) l.cell in_l.cell

  pub value-excess : (reach : Bits) (m r : ℕ) → reach.n ≡ m → m ≤ 30 → r < 2 ^ 30 → HasBits z reach.first m r
      → value (excess b reach own item) z ≡ (item_first b k + (P - 2 * b * (1 + r + l.cell))) % P
  value-excess reach m r many short small s =
      let bits : Combination = bits_combination reach.first reach.n in
      let is_r : value bits z ≡ r = ap (λ k. value (bits_combination reach.first k) z) many ∙ value-bits_below s (omega arith) in
      value-minus (2 * b) (cells_after b own item.first) bits z _ r value-after is_r ∙ excess_number b base (item_first b k) l.cell r in_l.cell small

  pub value-cells : value (cell_difference b own item.first) z ≡ (item_first b k + (P - (2 * b * l.cell + sum_of l.new))) % P
  value-cells =
      value-normal z (minus 1 (first_less b own item.first) own.sum)
      ∙ value-minus 1 (first_less b own item.first) own.sum z _ (sum_of l.new) value-first_less has.sum
      ∙ cells_number b base (item_first b k) l.cell (sum_of l.new) in_l.cell (small_sum b l.new in_l.new)

-- ---- terms
module _ (b : ℕ) (own : CellWords) (w : ℕ) where
  abbrev cell : Combination
  cell = scaled (P - 2 * b) own.cell

  abbrev sum : Combination
  sum = scaled (P - 1) own.sum

  -- a wire after those of the own line is a term more
  pub length-cells_after : 1 ≤ w → top own.cell ≤ w → length (cells_after b own (wire w)) ≡ length (cells_after b own []) + 1
  length-cells_after some h =
      let one : Combination = scaled (P - 2 * b) (constant 1) in
      length-new (([] ++ cell) ++ one) ((wire w ++ cell) ++ one) 1 w (omega arith) (omega arith)
      (minus_top (2 * b) (first_less b own []) (constant 1) w (minus_top (2 * b) [] own.cell w (omega arith) h) (omega arith))
      (λ z. value-moved (wire w ++ cell) ([] ++ cell) one 1 w z (value-moved (wire w) [] cell 1 w z (value-once_more 1 w z)))

  pub length-cell_difference : top own.cell ≤ w → top own.sum ≤ w → length (cell_difference b own (wire w)) ≡ length (cell_difference b own []) + 1
  length-cell_difference h i =
      length-new (([] ++ cell) ++ sum) ((wire w ++ cell) ++ sum) 1 w (omega arith) (omega arith)
      (minus_top 1 (first_less b own []) own.sum w (minus_top (2 * b) [] own.cell w (omega arith) h) i)
      (λ z. value-moved (wire w ++ cell) ([] ++ cell) sum 1 w z (value-moved (wire w) [] cell 1 w z (value-once_more 1 w z)))

-- those of a reach
pub length-reach : (k : ℕ) (x : Combination) (reach : Bits) → length (minus k x (bits_combination reach.first reach.n)) ≡ length x + reach.n
length-reach k x reach =
    let bits : Combination = bits_combination reach.first reach.n in
    omega (
      arith,
      length-append x (scaled (P - k) bits),
      length-scaled (P - k) bits,
      length-weighted reach.first reach.n (λ i. 2 ^ i % P),
    )

-- ---- normal form
-- a reach, whose bits are after the other wires
pub reach_normal : (k : ℕ) (x : Combination) (reach : Bits) → (P - k) % P ≢ 0 → reach.n ≤ 30 → top x ≤ reach.first
    → IsNormal (minus k (normal x) (bits_combination reach.first reach.n))
reach_normal k x reach apart short h =
    normal_append 0 reach.first (normal x) (scaled (P - k) (bits_combination reach.first reach.n)) (IsNormalFrom-normal x)
    (omega (arith, top-normal x)) (omega arith) (scaled_bits_normal (P - k) reach.first reach.n (omega arith) apart)

pub unit_apart : (b : ℕ) → IsBase b → (P - 2 * b) % P ≢ 0
unit_apart = by_base (λ b. (P - 2 * b) % P ≢ 0) (λ e. absurd (omega arith)) (λ e. absurd (omega arith))

pub excess_normal : (b : ℕ) (own : CellWords) (item : Pair) (reach : Bits) → IsBase b → reach.n ≤ 30 → 1 ≤ reach.first → top own.cell ≤ reach.first
    → top item.first ≤ reach.first → IsNormal (excess b reach own item)
excess_normal b own item reach base short some cell u =
    let d : Combination = first_less b own item.first in
    reach_normal (2 * b) (minus (2 * b) d (constant 1)) reach (unit_apart b base) short
    (minus_top (2 * b) d (constant 1) reach.first (minus_top (2 * b) item.first own.cell reach.first u cell) (omega arith))
