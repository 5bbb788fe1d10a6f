-- The bitwise operations as digits put normal combinations.
use Rattle.tv_core.proofs.Common.{ℕ, ◌+◌, ◌-◌, ◌*◌, ◌/◌, ◌%◌, ◌^◌, ◌<◌, ◌≤◌, ◌++◌, arith, pow-le-pow_right, put, ◌>>=◌, top, Combination, IsNormal}
use Rattle.tv_core.proofs.Common.{IsNormalFrom, AreNormal, IsWidth}
use Rattle.tv_bits.proofs.NormalLaws.{weighted_normal}
use Rattle.tv_bits.specs.declared.bit_wires.Bits.{Bits}
use Rattle.tv_bits.specs.declared.double_rows.DoubleRow.{DoubleRow}
use Rattle.tv_core.proofs.BelowLaws.{top-weighted}
use Rattle.tv_core.proofs.NormalCircuits.{normal_append}
use Rattle.tv_core.proofs.NormalLaws.{IsNormalFrom-lower}
use Rattle.tv_core.specs.declared.field.TheConstants.{P}
use Rattle.tv_rows.specs.Digits.{digits_combination, digit_sum, digits_of, bitwise_of}
use Rattle.tv_rows.specs.declared.digits.TheConstants.{BASE}

-- a number of the field other than 0
abbrev IsSome : ℕ → Type 0
IsSome n = (0 < n) × (n < P)

-- the coefficients are powers of the base up to 2 ^ 30, and such a power once or twice negated
power_some : (j : ℕ) → j < 16 → (0 < BASE ^ j) × (BASE ^ j ≤ 2 ^ 30)
power_some j h =
    let from : 0 ≤ j = omega arith in
    let up : j ≤ 15 = omega arith in
    let least : BASE ^ 0 ≤ BASE ^ j = pow-le-pow_right (omega arith) from in
    let greatest : BASE ^ j ≤ BASE ^ 15 = pow-le-pow_right (omega arith) up in
    (omega arith, omega arith)

once_some : (n : ℕ) → 0 < n → n ≤ 2 ^ 30 → IsSome (1 * n % P)
once_some n some small = (omega arith, omega arith)

less_twice_some : (n : ℕ) → 0 < n → n ≤ 2 ^ 30 → IsSome ((P - 2) * n % P)
less_twice_some n some small = (omega arith, omega arith)

less_once_some : (n : ℕ) → 0 < n → n ≤ 2 ^ 30 → IsSome ((P - 1) * n % P)
less_once_some n some small = (omega arith, omega arith)

digits_normal : (k first n : ℕ) → ((m : ℕ) → 0 < m → m ≤ 2 ^ 30 → IsSome (k * m % P)) → n ≤ 16 → IsNormalFrom first (digits_combination k first n)
digits_normal k first n times short =
    weighted_normal first n (λ j. k * BASE ^ j % P) (λ j h. let power = power_some j (omega arith) in times (BASE ^ j) power.0 power.1)

digits_top : (k first n : ℕ) → top (digits_combination k first n) ≤ first + n
digits_top k first n = top-weighted first n (λ j. k * BASE ^ j % P)

-- the digits of y, x and the row's halves, one after another
digit_sum_normal : (w n x y row : ℕ) → n ≤ 16 → n ≤ w → y + n ≤ x → x + n ≤ row → IsNormal (digit_sum w n x y row)
digit_sum_normal w n x y row short within y_x x_row =
    let xs = digits_combination 1 x n in
    let ys = digits_combination 1 y n in
    let boths = digits_combination (P - 2) row n in
    let ones = digits_combination (P - 1) (row + w) n in
    let last : IsNormalFrom (row + w) ones = digits_normal (P - 1) (row + w) n less_once_some short in
    let third : IsNormalFrom row (boths ++ ones) =
    normal_append row (row + w) boths ones (digits_normal (P - 2) row n less_twice_some short) (omega (arith, digits_top (P - 2) row n)) (omega arith) last in
    let second : IsNormalFrom x (xs ++ (boths ++ ones)) =
    normal_append x row xs (boths ++ ones) (digits_normal 1 x n once_some short) (omega (arith, digits_top 1 x n)) (omega arith) third in
    let first : IsNormalFrom y (ys ++ (xs ++ (boths ++ ones))) =
    normal_append y x ys (xs ++ (boths ++ ones)) (digits_normal 1 y n once_some short) (omega (arith, digits_top 1 y n)) (omega arith) second in
    IsNormalFrom-lower 0 y (ys ++ (xs ++ (boths ++ ones))) (omega arith) first

half_short : (w : ℕ) → IsWidth w → w / 2 ≤ 16
half_short w width = grind arith

halves_within : (w : ℕ) → IsWidth w → w / 2 + w / 2 ≤ w
halves_within w width = grind arith

pub bitwise_normal : (w : ℕ) → IsWidth w → (gate : Combination) (x y : Bits) (row : DoubleRow) (next : ℕ) → IsNormal gate
    → y.first + w ≤ x.first → x.first + w ≤ row.first → AreNormal (bitwise_of w gate x y row next).list
unfolding bitwise_of digits_of put ◌>>=◌
bitwise_normal w width gate x y row next g y_x x_row = search (arith, half_short, halves_within, digit_sum_normal)
