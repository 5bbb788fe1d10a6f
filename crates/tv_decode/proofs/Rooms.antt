-- What stands below the next wire, and the room that is left, after the calls of the gadgets.
use Rattle.tv_core.proofs.Common.{◌≡◌, ℕ, ◌+◌, ◌-◌, ◌*◌, ◌^◌, ◌≤◌, ◌<◌, arith, Grows, IsWidth}
use Rattle.std.proofs.Common.{max}
use Rattle.tv_bits.proofs.Growing.{room_after}
use Rattle.tv_core.specs.Sinks.{Meaning, Room}

pub greatest : (a b c : ℕ) {n : ℕ} → a + 16 ≤ n → b + 16 ≤ n → c + 16 ≤ n → max a (max b c) + 16 ≤ n
greatest a b c h k l = omega arith

-- ---- an instruction: after the bits of its first word below the opcode, the opcode's row, and the bits of its second word
module _ {S : Type 0} {m : Meaning S} {w : ℕ} (width : IsWidth w) {s0 s3 : S} (g : Grows m s0 s3 (w - 5 + 29 + w) (w - 5 + 29 + w)) where
  pub words_room : Room m s0 (2 * w + 26) (2 * w + 27) → Room m s3 2 3
  words_room room = room_after g room (omega (arith, width)) (omega (arith, width))

pub row_made : (op : ℕ) {k a : ℕ} → op + k ≤ a → k ≡ 29 → op + 29 ≤ a
row_made op h e = omega arith

pub head_made : (op : ℕ) {t u l n : ℕ} → u ≤ max t (op + 29) → t ≤ l → l ≤ n → op + 29 ≤ n → u ≤ n
head_made op g h e f = omega arith

pub through : {t l n : ℕ} → t ≤ l → l ≤ n → t ≤ n
through g h = omega arith

pub small : {l n : ℕ} → l ≤ n → n < 2 ^ 32 → l < 2 ^ 32
small h fits = omega arith

pub low_short : {w l : ℕ} → IsWidth w → l ≡ w - 5 → l ≤ 63
low_short width e = omega (arith, width)

pub second_short : {w l : ℕ} → IsWidth w → l ≡ w → l ≤ 63
second_short width e = omega (arith, width)

pub low_length : {w h l : ℕ} → IsWidth w → h ≡ l → l ≡ w - 5 → h ≤ 64
low_length width f e = omega (arith, width)
