-- The room that is left for a call, and what calls before it made.
use Rattle.std.proofs.Common.{ℕ, ◌+◌, ◌≤◌, arith}
use Rattle.tv_core.specs.Sinks.{Meaning, Grows, Room}

module _ {S : Type 0} {m : Meaning S} {a : S} where
  pub room_here : {x y p q : ℕ} → Room m a x y → (p ≤ x) × (q ≤ y) → Room m a p q
  room_here r e = record { whole = r.whole; constant = r.constant; wires = omega (arith, r.wires); constraints = omega (arith, r.constraints) }

  pub room_left : {b : S} {x y k l p q : ℕ} → Room m a x y → Grows m a b k l → (k + p ≤ x) × (l + q ≤ y) → Room m b p q
  room_left r g e = record {
    whole = g.whole;
    constant = omega (arith, r.constant, g.wires);
    wires = omega (arith, r.wires, g.wires);
    constraints = omega (arith, r.constraints, g.constraints);
  }

  pub both : {b c : S} {k l p q : ℕ} → Grows m a b k l → Grows m b c p q → Grows m a c (k + p) (l + q)
  both g h = record { wires = omega (arith, g.wires, h.wires); constraints = omega (arith, g.constraints, h.constraints); whole = h.whole }
