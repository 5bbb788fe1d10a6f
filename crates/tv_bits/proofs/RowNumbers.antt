-- The numbers of rows: a row's number is below P, and each number up to 2 ^ w * (2 ^ w - 1) is a row's.
use Rattle.tv_core.proofs.Common.{◌≡◌, ℕ, ◌+◌, ◌-◌, ◌*◌, ◌/◌, ◌%◌, ◌^◌, ◌<◌, ◌≤◌, ◌∙◌, arith, zero-mul, IsWidth}
use Rattle.std.proofs.Common.{add_comm}
use Rattle.std.proofs.Math.Nat.{div-add-mod}
use Rattle.tv_core.specs.declared.field.TheConstants.{P}
use Rattle.tv_bits.specs.DoubleRow.{IsRow, whole, above_edge_in}

row_most : (w : ℕ) → IsWidth w → (low high : ℕ) → low < 2 ^ w → high < 2 ^ w → (high ≡ 2 ^ w - 1 → low ≡ 0) → low + 2 ^ w * high < P
row_most w width low high h k edge = grind arith

pub row_below : (w : ℕ) → IsWidth w → (low high : ℕ) → IsRow w low high → whole w low high < P
row_below w width low high r = row_most w width low high r.low_word r.high_word r.edge

-- residues of numbers below P that are equal are equal numbers
pub row_is : (n v : ℕ) → n < P → v < P → n % P ≡ v % P → n ≡ v
row_is n v h k e = omega arith

-- the halves of a row's number
pub row_low : (w : ℕ) → IsWidth w → (low high v : ℕ) → low < 2 ^ w → whole w low high ≡ v → low ≡ v % 2 ^ w
row_low w width low high v h e = grind arith

pub row_high : (w : ℕ) → IsWidth w → (low high v : ℕ) → low < 2 ^ w → whole w low high ≡ v → high ≡ v / 2 ^ w
row_high w width low high v h e = grind arith

-- the constraint of the edge makes words a row
row_edge : (w : ℕ) → IsWidth w → (low high k : ℕ) → high < 2 ^ w → above_edge_in w high 0 * k % P ≡ low → high ≡ 2 ^ w - 1 → low ≡ 0
row_edge w width low high k h e full = search (arith, zero-mul)

pub row_sound : (w : ℕ) → IsWidth w → (low high k : ℕ) → low < 2 ^ w → high < 2 ^ w → above_edge_in w high 0 * k % P ≡ low → IsRow w low high
row_sound w width low high k h l e = record { low_word = h; high_word = l; edge = row_edge w width low high k l e }

-- and some number meets it for each row, and for all words where the row is signed
pub row_edge_met : (w : ℕ) → IsWidth w → (low high signed : ℕ) → high < 2 ^ w → signed < 2 → (signed ≡ 0 → IsRow w low high)
    → above_edge_in w high signed % P ≡ 0 → low ≡ 0
row_edge_met w width low high signed h bit row none = search (arith)

-- the row of a number
pub row_of : (w : ℕ) → IsWidth w → (n : ℕ) → n ≤ 2 ^ w * (2 ^ w - 1) → IsRow w (n % 2 ^ w) (n / 2 ^ w)
row_of w width n h = record { low_word = grind arith; high_word = grind arith; edge = λ full. grind arith }

pub row_whole : (w n : ℕ) → whole w (n % 2 ^ w) (n / 2 ^ w) ≡ n
row_whole w n = add_comm (n % 2 ^ w) (2 ^ w * (n / 2 ^ w)) ∙ div-add-mod n (2 ^ w)
