-- The power of a distance, and the shifts on a row, put normal combinations.
use Rattle.tv_core.proofs.Common.{ℕ, ◌+◌, ◌<◌, ◌≤◌, arith, fresh, put, pure, ◌>>=◌, Combination, IsNormal, AreNormal, for_widths, IsWidth}
use Rattle.tv_bits.proofs.NormalLaws.{wire_normal, power_some, row_number_normal}
use Rattle.tv_bits.specs.Gate.{gated_of}
use Rattle.tv_bits.specs.Times.{times_of}
use Rattle.tv_bits.specs.declared.bit_wires.Bits.{Bits}
use Rattle.tv_bits.specs.declared.double_rows.DoubleRow.{DoubleRow}
use Rattle.tv_core.specs.declared.field.TheConstants.{P}
use Rattle.tv_rows.specs.Power.{factor_by, pair_power, low_power_of, wide_power_of, shift_power_of}
use Rattle.tv_rows.specs.RowShift.{right_shift_of}

-- ---- combinations
factor_normal : (k b : ℕ) → 1 < k → k ≤ P → 0 < b → IsNormal (factor_by k b)
factor_normal k b more small above = (omega arith, omega arith, omega arith, (omega arith, omega arith, omega arith, tt))

pair_normal : (a product : ℕ) → 0 < a → a + 1 < product → IsNormal (pair_power a (a + 1) product)
pair_normal a product above before = search (arith)

-- ---- the power
low_normal : (y next : ℕ) → 0 < y → y + 4 ≤ next → AreNormal (low_power_of y next).list
unfolding low_power_of times_of fresh put pure ◌>>=◌
low_normal y next above within = search (arith, wire_normal, factor_normal, pair_normal)

wide_normal : (y next : ℕ) → 0 < y → y + 5 ≤ next → AreNormal (wide_power_of y next).list
unfolding wide_power_of low_power_of times_of fresh put pure ◌>>=◌
wide_normal y next above within = search (arith, low_normal, factor_normal, wire_normal)

abbrev power_at : ℕ → Type 0
power_at w = (y : Bits) (next : ℕ) → 0 < y.first → y.first + w ≤ next → AreNormal (shift_power_of w y next).list

pub shift_power_normal : (w : ℕ) → IsWidth w → (y : Bits) (next : ℕ) → 0 < y.first → y.first + w ≤ next → AreNormal (shift_power_of w y next).list
unfolding shift_power_of
shift_power_normal =
    for_widths power_at
    (λ y next above within. low_normal y.first next above (omega arith))
    (λ y next above within. wide_normal y.first next above (omega arith))

-- ---- the row
pub right_shift_normal : (w : ℕ) → IsWidth w → (gate : Combination) (v power : ℕ) (row : DoubleRow) (next : ℕ) → IsNormal gate
    → row.low < row.high → v < next → AreNormal (right_shift_of w gate v power row next).list
unfolding right_shift_of gated_of times_of fresh put pure ◌>>=◌
right_shift_normal w width gate v power row next g rises before = search (arith, power_some, row_number_normal, wire_normal)
