-- The bits of a reach.
use Rattle.tv_core.proofs.Common.{◌≡◌, ℕ, ◌^◌, ◌<◌, ◌≤◌, List, sym, ap, subst, arith, pow-le-pow_right, Assigns, Meets, HasFrom}
use Rattle.tv_bits.proofs.BitNumbers.{HasBits-below, HasBits-from_values}
use Rattle.tv_bits.proofs.BitsLaws.{new_bits_answer, new_bits_sound}
use Rattle.tv_bits.specs.Bits.{HasBits, binary_value, bits_values, new_bits_of}
use Rattle.tv_bits.specs.declared.bit_wires.Bits.{Bits}

-- m new wires have the bits of r
pub record HasReach (z : List ℕ) (next m r : ℕ) : Type 0 where
  pub many : (new_bits_of m next).answer.n ≡ m
  pub small : r < 2 ^ 30
  pub bits : HasBits z (new_bits_of m next).answer.first m r

short_power : (m r : ℕ) → m ≤ 30 → r < 2 ^ m → r < 2 ^ 30
short_power m r short h = let power : 2 ^ m ≤ 2 ^ 30 = pow-le-pow_right (omega arith) short in omega (arith, h)

new_many : (m next : ℕ) → (new_bits_of m next).answer.n ≡ m
new_many m next = ap (λ (x : Bits). x.n) (new_bits_answer m next)

pub reach_sound : (z : List ℕ) (next m : ℕ) → m ≤ 30 → Assigns z → Meets z (new_bits_of m next).list
    → HasReach z next m (binary_value z (new_bits_of m next).answer.first m)
reach_sound z next m short assigns meets =
    let s = new_bits_sound z next m assigns meets in
    record { many = new_many m next; small = short_power m _ short (HasBits-below s); bits = s }

pub reach_complete : (z : List ℕ) (next m r : ℕ) → m ≤ 30 → r < 2 ^ m → HasFrom z next (bits_values r m) → HasReach z next m r
reach_complete z next m r short fits has = record {
  many = new_many m next;
  small = short_power m r short fits;
  bits = subst (λ (x : Bits). HasBits z x.first m r) (sym (new_bits_answer m next)) (HasBits-from_values z next m r fits has);
}
