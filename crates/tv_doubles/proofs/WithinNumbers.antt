-- The whole numbers that the constraints are about: cells d of the own line and e of the item, the sum s of the own new
-- pair and t of the item's old pair, the places i and j, the second words n and o. Each is proved at 2 ^ 16 and at 2 ^ 32.
use Rattle.std.proofs.Common.{◌≡◌, ℕ, ◌+◌, ◌-◌, ◌*◌, ◌%◌, ◌^◌, ◌<◌, ◌≤◌, inl, inr, sym, subst, arith}
use Rattle.tv_core.specs.declared.field.TheConstants.{P}
use Rattle.tv_doubles.specs.Within.{IsBase}

-- what holds at both bases holds at a base
pub by_base : (Q : ℕ → Type 0) → Q (2 ^ 16) → Q (2 ^ 32) → (b : ℕ) → IsBase b → Q b
by_base Q x y b (inl e) = subst Q (sym e) x
by_base Q x y b (inr e) = subst Q (sym e) y

-- ---- sound
-- the item is of the cell d + 1 + r, if at all
abbrev OtherCells : ℕ → Type 0
OtherCells b = (r d e t : ℕ) → r < 2 ^ 30 → d ≤ 2 ^ 29 + 2 ^ 17 → e ≤ 2 ^ 29 + 2 ^ 17 → t < 2 * b
    → (2 * b * e + t + (P - 2 * b * (1 + r + d))) % P ≡ 0 → (t ≡ 0) × (e ≡ d + 1 + r)

pub other_cells : (b : ℕ) → IsBase b → OtherCells b
other_cells = by_base OtherCells (λ r d e t h i j k z. omega arith) (λ r d e t h i j k z. omega arith)

-- the item is of the same cell with the sum s
abbrev SameCells : ℕ → Type 0
SameCells b = (d e s t : ℕ) → d ≤ 2 ^ 29 + 2 ^ 17 → e ≤ 2 ^ 29 + 2 ^ 17 → s < 2 * b → t < 2 * b
    → (2 * b * e + t + (P - (2 * b * d + s))) % P ≡ 0 → (e ≡ d) × (t ≡ s)

pub same_cells : (b : ℕ) → IsBase b → SameCells b
same_cells = by_base SameCells (λ d e s t h i j k z. omega arith) (λ d e s t h i j k z. omega arith)

-- then the second words are the same and the reach is in time
abbrev SameTimes : ℕ → Type 0
SameTimes b = (r d s i j n o g : ℕ) → r < 2 ^ 30 → d ≤ 2 ^ 29 + 2 ^ 17 → s < 2 * b → i < 2 ^ 20 → j < 2 ^ 20 → n < b → o < b
    → (2 * b * d + s + (P - 2 * b * (1 + r + d))) % P ≡ g
    → (2 * (b * j + o) + g + (P - (2 * b * i + s + 2 * n))) % P ≡ 0 → (o ≡ n) × (j ≡ i + 1 + r)

pub same_times : (b : ℕ) → IsBase b → SameTimes b
same_times = by_base SameTimes (λ r d s i j n o g h a b c e f k is z. omega arith) (λ r d s i j n o g h a b c e f k is z. omega arith)

-- the same in full
abbrev ImageTimes : ℕ → Type 0
ImageTimes b = (r i j n o : ℕ) → r < 2 ^ 30 → i < 2 ^ 20 → j < 2 ^ 20 → n < b → o < b
    → (b * j + o + (P - (b * (i + 1 + r) + n))) % P ≡ 0 → (o ≡ n) × (j ≡ i + 1 + r)

pub image_times : (b : ℕ) → IsBase b → ImageTimes b
image_times = by_base ImageTimes (λ r i j n o h a b c e z. omega arith) (λ r i j n o h a b c e z. omega arith)

-- u = 0
abbrev None : ℕ → Type 0
None b = (e t : ℕ) → e ≤ 2 ^ 29 + 2 ^ 17 → t < 2 * b → (2 * b * e + t) % P ≡ 0 → (e ≡ 0) × (t ≡ 0)

pub none : (b : ℕ) → IsBase b → None b
none = by_base None (λ e t h k z. omega arith) (λ e t h k z. omega arith)

-- ---- complete
abbrev SameExcess : ℕ → Type 0
SameExcess b = (d s i j : ℕ) → d ≤ 2 ^ 29 + 2 ^ 17 → s < 2 * b → i < j → j < 2 ^ 20
    → (2 * b * d + s + (P - 2 * b * (1 + (j - i - 1) + d))) % P ≡ (s + (P - 2 * b * (j - i))) % P

pub same_excess : (b : ℕ) → IsBase b → SameExcess b
same_excess = by_base SameExcess (λ d s i j h k l e. omega arith) (λ d s i j h k l e. omega arith)

abbrev SameZero : ℕ → Type 0
SameZero b = (d s : ℕ) → d ≤ 2 ^ 29 + 2 ^ 17 → s < 2 * b → (2 * b * d + s + (P - (2 * b * d + s))) % P ≡ 0

pub same_zero : (b : ℕ) → IsBase b → SameZero b
same_zero = by_base SameZero (λ d s h k. omega arith) (λ d s h k. omega arith)

abbrev SameTime : ℕ → Type 0
SameTime b = (s i j n : ℕ) → s < 2 * b → i < j → j < 2 ^ 20 → n < b
    → (2 * (b * j + n) + (s + (P - 2 * b * (j - i))) % P + (P - (2 * b * i + s + 2 * n))) % P ≡ 0

pub same_time : (b : ℕ) → IsBase b → SameTime b
same_time = by_base SameTime (λ s i j n h k l e. omega arith) (λ s i j n h k l e. omega arith)

abbrev OtherExcess : ℕ → Type 0
OtherExcess b = (d e : ℕ) → d < e → e ≤ 2 ^ 29 + 2 ^ 17 → (2 * b * e + 0 + (P - 2 * b * (1 + (e - d - 1) + d))) % P ≡ 0

pub other_excess : (b : ℕ) → IsBase b → OtherExcess b
other_excess = by_base OtherExcess (λ d e h k. omega arith) (λ d e h k. omega arith)

abbrev ImageTime : ℕ → Type 0
ImageTime b = (i j n : ℕ) → i < j → j < 2 ^ 20 → n < b → (b * j + n + (P - (b * (i + 1 + (j - i - 1)) + n))) % P ≡ 0

pub image_time : (b : ℕ) → IsBase b → ImageTime b
image_time = by_base ImageTime (λ i j n k l e. omega arith) (λ i j n k l e. omega arith)
