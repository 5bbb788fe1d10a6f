-- What follows where differences of residues, as `value-less` has them, are 0 or the same.
use Rattle.std.proofs.Common.{◌≡◌, ℕ, ◌+◌, ◌-◌, ◌%◌, ◌<◌, arith}
use Rattle.tv_core.specs.declared.field.TheConstants.{P}

-- two residues whose difference is 0 are one
pub same_of_minus : (a b : ℕ) → a < P → b < P → (a + (P - b)) % P ≡ 0 → a ≡ b
same_of_minus a b h k e = omega arith

-- and so are two that are the same less a third
pub cancel_minus : (a b c : ℕ) → a < P → b < P → c < P → (a + (P - c)) % P ≡ (b + (P - c)) % P → a ≡ b
cancel_minus a b c h k l e = omega arith
