-- The rows' circuits put normal combinations.
use Rattle.tv_core.proofs.Common.{ℕ, ◌+◌, ◌-◌, ◌*◌, ◌<◌, ◌++◌, arith, fresh, put, pure, ◌>>=◌, wire, less, Combination, IsNormal, AreNormal, width_short}
use Rattle.tv_core.proofs.Common.{IsWidth}
use Rattle.tv_bits.proofs.NormalLaws.{wire_normal, less_normal, bits_normal, power_some, row_number_normal, times_normal, gated_normal}
use Rattle.tv_bits.specs.Bits.{bits_combination}
use Rattle.tv_bits.specs.Gate.{gated_of}
use Rattle.tv_bits.specs.Times.{times_of}
use Rattle.tv_bits.specs.declared.bit_wires.Bits.{Bits}
use Rattle.tv_bits.specs.declared.double_rows.DoubleRow.{DoubleRow}
use Rattle.tv_bits.specs.declared.signed_words.SignedWord.{SignedWord}
use Rattle.tv_core.proofs.NormalCircuits.{normal_put}
use Rattle.tv_core.proofs.NormalLaws.{IsNormalFrom-lower}
use Rattle.tv_core.specs.declared.field.TheConstants.{P}
use Rattle.tv_row_products.specs.RowDivision.{dividing, room_below, bits_less, row_division_of}
use Rattle.tv_row_products.specs.RowProduct.{row_product_of}
use Rattle.tv_row_products.specs.RowSignedProduct.{row_signed_product_of, sign_weight, signed_word}

-- ---- coefficients
weight_some : (w : ℕ) → IsWidth w → 0 < sign_weight w
weight_some w width = grind arith

long_weight_some : (w : ℕ) → IsWidth w → 0 < sign_weight (2 * w)
long_weight_some w width = grind arith

weight_small : (n : ℕ) → sign_weight n < P
weight_small n = omega arith

-- ---- combinations
word_normal : (w : ℕ) → IsWidth w → (x : SignedWord) → x.word < x.sign → IsNormal (signed_word w x)
word_normal w width x rises = search (arith, weight_some, weight_small)

-- ---- circuits
-- the product of two wires
wires_normal : (x y next : ℕ) → AreNormal (times_of (wire x) (wire y) next).list
wires_normal x y next = times_normal (wire x) (wire y) next (wire_normal 0 x (omega arith)) (wire_normal 0 y (omega arith))

-- where the row's wires are in order
pub row_product_normal : (w : ℕ) → IsWidth w → (gate : Combination) (x y : ℕ) (row : DoubleRow) (next : ℕ) → IsNormal gate
    → row.low < row.high → row.high < next → AreNormal (row_product_of w gate x y row next).list
unfolding row_product_of times_of gated_of fresh put pure ◌>>=◌
row_product_normal w width gate x y row next g rises made = search (arith, less_normal, row_number_normal, wire_normal, wires_normal, gated_normal)

pub row_signed_product_normal : (w : ℕ) → IsWidth w → (gate : Combination) (x y : SignedWord) (row : DoubleRow) (next : ℕ) → IsNormal gate
    → x.word < x.sign → y.word < y.sign → row.first + (2 * w - 1) < row.low → row.low < row.high → row.high < next
    → AreNormal (row_signed_product_of w gate x y row next).list
unfolding row_signed_product_of times_of gated_of fresh put pure ◌>>=◌
row_signed_product_normal w width gate x y row next g x_rises y_rises first rises made =
    search (arith, times_normal, word_normal, long_weight_some, weight_small, power_some, gated_normal)

-- where the other word's wire is the first, then the divisor's, that of the test, and those of the row and the bits
pub row_division_normal : (w : ℕ) → IsWidth w → (gate : Combination) (x y by_zero : ℕ) (bits : Bits) (row : DoubleRow) (next : ℕ) → IsNormal gate
    → 0 < x → x < y → y < by_zero → x < bits.first → by_zero < row.low → row.low < next
    → AreNormal (row_division_of w gate (dividing x y by_zero) bits row next).list
unfolding row_division_of times_of gated_of fresh put pure ◌>>=◌
row_division_normal w width gate x y f bits row next g some_x x_y y_f x_bits f_low made =
    let short = width_short w width in
    let spelled = IsNormalFrom-lower (x + 1) bits.first (bits_combination bits.first w) (omega arith) (bits_normal bits.first w (omega arith)) in
    let divisor : IsNormal (wire y ++ wire f) = search arith in
    let product = times_normal (wire row.high) (wire y ++ wire f) (next + 1) (wire_normal 0 row.high (omega arith)) divisor in
    let parts : IsNormal (less (wire x) (wire row.low ++ (wire next ++ wire (next + 1)))) = search arith in
    let held = gated_normal gate (wire x) (wire row.low ++ (wire next ++ wire (next + 1))) (next + 2) g parts in
    let room : IsNormal (room_below w x y f row) = search (arith, power_some) in
    let tie = normal_put gate (room_below w x y f row) (bits_less w x bits) (next + 2) g room (omega arith, omega arith, omega arith, spelled) in
    ((wires_normal f x next).0, (product.0, (held.0, tie)))
