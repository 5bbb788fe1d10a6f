-- The rows' circuits put normal combinations.
use Rattle.tv_core.proofs.Common.{ℕ, ◌+◌, ◌-◌, ◌*◌, ◌%◌, ◌^◌, ◌<◌, ◌≤◌, [], arith, fresh, put, pure, ◌>>=◌, wire, less, scaled, top, Combination, IsNormal}
use Rattle.tv_core.proofs.Common.{IsNormalFrom, AreNormal, IsWidth}
use Rattle.tv_bits.proofs.NormalLaws.{power_some}
use Rattle.tv_bits.specs.Gate.{gated_of}
use Rattle.tv_bits.specs.Times.{times_of}
use Rattle.tv_bits.specs.declared.double_rows.DoubleRow.{DoubleRow}
use Rattle.tv_bits.specs.declared.signed_words.SignedWord.{SignedWord}
use Rattle.tv_core.proofs.CombinationLaws.{top-append, top-scaled}
use Rattle.tv_core.proofs.NormalCircuits.{normal_append, normal_negated}
use Rattle.tv_core.specs.Normal.{IsNormalConstraint}
use Rattle.tv_core.specs.declared.field.TheConstants.{P}
use Rattle.tv_rows.specs.RowDifference.{comparing, minuend, subtrahend, row_difference_of}
use Rattle.tv_rows.specs.RowSum.{row_sum_of}

-- ---- the negative of 2 ^ w
negated_some : (w : ℕ) → IsWidth w → 0 < (P - 1) * (2 ^ w % P) % P
negated_some w width = grind arith

pub row_sum_normal : (w : ℕ) → IsWidth w → (gate : Combination) (x y : ℕ) (row : DoubleRow) (next : ℕ) → IsNormal gate
    → x < y → y < row.low → row.low < row.high → AreNormal (row_sum_of w gate x y row next).list
unfolding row_sum_of gated_of put
row_sum_normal w width gate x y row next g x_y y_low rises = search (arith, negated_some)

-- ---- the difference
minuend_normal : (w : ℕ) → IsWidth w → (strict : Combination) (x : ℕ) → IsNormalFrom 1 strict → top strict ≤ x → 0 < x → IsNormal (minuend w strict x)
minuend_normal w width strict x n below some = (
  omega arith,
  power_some w width,
  omega arith,
  normal_append 1 x (scaled (P - 1) strict) (wire x) (normal_negated 1 strict n) (omega (arith, top-scaled (P - 1) strict, below)) some
      (omega arith, omega arith, omega arith, tt),
)

top-minuend : (w : ℕ) (strict : Combination) (x : ℕ) → top strict ≤ x → top (minuend w strict x) ≤ x + 1
top-minuend w strict x below = omega (arith, top-append (scaled (P - 1) strict) (wire x), top-scaled (P - 1) strict, below)

pub row_difference_normal : (w : ℕ) → IsWidth w → (gate by_sign strict : Combination) (x y : SignedWord) (row : DoubleRow) (next : ℕ)
    → IsNormal gate → IsNormal by_sign → IsNormalFrom 1 strict → top strict ≤ x.word → 0 < x.word
    → x.word < y.word → y.sign < x.sign → y.word < row.low → row.low < row.high → row.high < next
    → AreNormal (row_difference_of w gate (comparing by_sign strict) x y row next).list
unfolding row_difference_of times_of gated_of fresh put pure ◌>>=◌
row_difference_normal w width gate by_sign strict x y row next g signed n below some_x x_y signs y_low rises made =
    let some = negated_some w width in
    let subtracted : IsNormalFrom (x.word + 1) (scaled (P - 1) (subtrahend w y.word row next)) = search arith in
    let second : IsNormalConstraint (record { a = gate; b = less (minuend w strict x.word) (subtrahend w y.word row next); c = [] }) = record {
      a = g;
      b = normal_append 0 (x.word + 1) (minuend w strict x.word) (scaled (P - 1) (subtrahend w y.word row next))
          (minuend_normal w width strict x.word n below some_x) (top-minuend w strict x.word below) (omega arith) subtracted;
      c = tt;
    } in
    (record { a = signed; b = search arith; c = search arith }, (second, tt))
