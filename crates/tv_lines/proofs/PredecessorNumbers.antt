-- The whole numbers that the three constraints are about.
use Rattle.tv_core.proofs.Common.{◌≡◌, ℕ, ◌+◌, ◌-◌, ◌*◌, ◌%◌, ◌^◌, ◌<◌, arith}
use Rattle.tv_core.proofs.DifferenceLaws.{same_of_minus}
use Rattle.tv_core.specs.declared.field.TheConstants.{P}

-- e = 0: the value at e is the difference of two numbers below P, the first at most P - 1 exactly
pub other_cells : (r q c o : ℕ) → r < 2 ^ 31 → q < 2 ^ 31 → c < 2 ^ 31 → o < 2 ^ 32 → (2 ^ 32 * (r + 1 + q) + (P - (2 ^ 32 * c + o))) % P ≡ 0
    → (o ≡ 0) × (c ≡ q + r + 1)
other_cells r q c o h i j k e =
    let same : 2 ^ 32 * (r + 1 + q) ≡ 2 ^ 32 * c + o = same_of_minus _ _ (omega arith) (omega arith) e in
    omega arith

-- e is not 0
pub same_cells : (q c : ℕ) → q < 2 ^ 31 → c < 2 ^ 31 → (2 ^ 32 * q + (P - 2 ^ 32 * c)) % P ≡ 0 → q ≡ c
same_cells q c h k e =
    let same : 2 ^ 32 * q ≡ 2 ^ 32 * c = same_of_minus (2 ^ 32 * q) (2 ^ 32 * c) (omega arith) (omega arith) e in
    omega arith

pub same_times : (r c o t s n : ℕ) → r < 2 ^ 31 → c < 2 ^ 31 → o < 2 ^ 32 → t < 2 ^ 20 → s < 2 ^ 20 → n < 2 ^ 32
    → ((2 ^ 32 * (r + 1 + c) + (P - (2 ^ 32 * c + o))) % P + (2 ^ 32 * s + n) + (P - 2 ^ 32 * t)) % P ≡ 0 → (o ≡ n) × (t ≡ s + r + 1)
same_times r c o t s n h i j k l m e =
    let one : (2 ^ 32 * (r + 1 + s) + n + (P - (2 ^ 32 * t + o))) % P ≡ 0 = omega arith in
    let same : 2 ^ 32 * (r + 1 + s) + n ≡ 2 ^ 32 * t + o = same_of_minus _ _ (omega arith) (omega arith) one in
    omega arith
