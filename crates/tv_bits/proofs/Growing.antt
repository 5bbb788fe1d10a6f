-- What stands below the next wire, and the room that is left, after calls one after another. Where the numbers are
-- numerals, `refl` proves that there is room.
use Rattle.tv_core.proofs.Common.{◌≡◌, ℕ, ◌+◌, ◌-◌, ◌^◌, ◌≤◌, ◌<◌, true, arith, Grows}
use Rattle.std.proofs.Common.{leb}
use Rattle.std.proofs.lemmas.Bool.{leb-true}
use Rattle.tv_bits.specs.Bits.{AreBitsBelow}
use Rattle.tv_bits.specs.declared.bit_wires.Bits.{Bits}
pub use Rattle.tv_core.proofs.Rooms.{both}
use Rattle.tv_core.proofs.Rooms.{room_here, room_left}
use Rattle.tv_core.specs.Sinks.{Meaning, Room}

module _ {S : Type 0} {m : Meaning S} {a : S} {x y : ℕ} (r : Room m a x y) where
  pub less_room : {p q : ℕ} → p ≤ x → q ≤ y → Room m a p q
  less_room e f = room_here r (e, f)

  pub fewer : {p q : ℕ} → leb p x ≡ true → leb q y ≡ true → Room m a p q
  fewer e f = less_room (leb-true _ _ e) (leb-true _ _ f)

  pub fresh_fits : leb 1 x ≡ true → m.wires a < 2 ^ 32 - 1
  fresh_fits e = omega (arith, r.wires, leb-true 1 x e)

  pub fits : m.wires a < 2 ^ 32
  fits = omega (arith, r.wires)

module _ {S : Type 0} {m : Meaning S} {a b : S} {k l : ℕ} (g : Grows m a b k l) where
  pub within : {t : ℕ} → t ≤ m.wires a → t ≤ m.wires b
  within h = omega (arith, g.wires, h)

  pub kept : {w : ℕ} → w < m.wires a → w < m.wires b
  kept h = omega (arith, g.wires, h)

  pub bits_within : {n : ℕ} {x : Bits} → AreBitsBelow (m.wires a) n x → AreBitsBelow (m.wires b) n x
  bits_within h = record { size = h.size; below = within h.below }

  module _ {x y : ℕ} (r : Room m a x y) where
    pub room_after : {p q : ℕ} → k + p ≤ x → l + q ≤ y → Room m b p q
    room_after e f = room_left r g (e, f)

    pub left : {p q : ℕ} → leb (k + p) x ≡ true → leb (l + q) y ≡ true → Room m b p q
    left e f = room_after (leb-true _ _ e) (leb-true _ _ f)

    pub fresh_after : leb (k + 1) x ≡ true → m.wires b < 2 ^ 32 - 1
    fresh_after e = omega (arith, r.wires, g.wires, leb-true _ _ e)

    pub put_fits : leb (l + 1) y ≡ true → m.constraints b < 2 ^ 32 - 1
    put_fits e = omega (arith, r.constraints, g.constraints, leb-true _ _ e)

-- a new wire
pub made_by : {S : Type 0} {m : Meaning S} {a b : S} {l w : ℕ} → Grows m a b 1 l → w ≡ m.wires a → w < m.wires b
made_by g e = omega (arith, g.wires, e)

-- ---- combinations of wires
pub top_wire : {t w n : ℕ} → t ≡ w + 1 → w < n → t ≤ n
top_wire e h = omega arith
