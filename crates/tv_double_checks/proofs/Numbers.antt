-- The numbers of the combinations, part by part and as a whole, at 2 ^ 16 and at 2 ^ 32: the item's numbers u and v, the own
-- double cell d, the sum s and the second word n of its pair, its place i, the reach r and the excess g.
use Rattle.tv_core.proofs.Common.{◌≡◌, ℕ, ◌+◌, ◌-◌, ◌*◌, ◌%◌, ◌^◌, ◌<◌, ◌≤◌, arith}
use Rattle.tv_core.specs.declared.field.TheConstants.{P}
use Rattle.tv_doubles.proofs.WithinNumbers.{by_base}
use Rattle.tv_doubles.specs.Within.{IsBase}

abbrev After : ℕ → Type 0
After b = (u d : ℕ) → d ≤ 2 ^ 29 + 2 ^ 17 → ((u + (P - 2 * b) * d % P) % P + (P - 2 * b) * 1 % P) % P ≡ (u + (P - 2 * b * (d + 1))) % P

pub after_number : (b : ℕ) → IsBase b → After b
after_number = by_base After (λ u d h. omega arith) (λ u d h. omega arith)

abbrev Excess : ℕ → Type 0
Excess b = (u d r : ℕ) → d ≤ 2 ^ 29 + 2 ^ 17 → r < 2 ^ 30 → ((u + (P - 2 * b * (d + 1))) % P + (P - 2 * b) * r % P) % P ≡ (u + (P - 2 * b * (1 + r + d))) % P

pub excess_number : (b : ℕ) → IsBase b → Excess b
excess_number = by_base Excess (λ u d r h i. omega arith) (λ u d r h i. omega arith)

abbrev Cells : ℕ → Type 0
Cells b = (u d s : ℕ) → d ≤ 2 ^ 29 + 2 ^ 17 → s < 2 * b → ((u + (P - 2 * b) * d % P) % P + (P - 1) * s % P) % P ≡ (u + (P - (2 * b * d + s))) % P

pub cells_number : (b : ℕ) → IsBase b → Cells b
cells_number = by_base Cells (λ u d s h i. omega arith) (λ u d s h i. omega arith)

abbrev Places : ℕ → Type 0
Places b = (v i s n g : ℕ) → i < 2 ^ 20 → s < 2 * b → n < b
    → ((((2 * v % P + (P - 2 * b) * i % P) % P + (P - 1) * s % P) % P + (P - 2) * n % P) % P + g) % P ≡ (2 * v + g + (P - (2 * b * i + s + 2 * n))) % P

pub places_number : (b : ℕ) → IsBase b → Places b
places_number = by_base Places (λ v i s n g h j k. omega arith) (λ v i s n g h j k. omega arith)

abbrev PlaceAfter : ℕ → Type 0
PlaceAfter b = (v i n r : ℕ) → i < 2 ^ 20 → n < b → r < 2 ^ 30
    → (((v + (P - b) * (i + 1) % P) % P + (P - 1) * n % P) % P + (P - b) * r % P) % P ≡ (v + (P - (b * (i + 1 + r) + n))) % P

pub place_after_number : (b : ℕ) → IsBase b → PlaceAfter b
place_after_number = by_base PlaceAfter (λ v i n r h j k. omega arith) (λ v i n r h j k. omega arith)
