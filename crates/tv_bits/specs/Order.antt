-- The order of two numbers, by the first of their parts that differ. A number of n bits is cut into t chunks
-- of c bits; without its lowest chunks it is a prefix. Of two numbers one is above the other exactly where
-- some prefix of it is above the other's by 1 to 2 ^ c, and one by less than 2 ^ c is then the shortest that differs.
use Rattle.std.specs.Prelude.{◌≡◌, ℕ, zero, suc, ◌+◌, ◌-◌, ◌*◌, ◌/◌, ◌%◌, ◌^◌, ◌<◌, ◌==◌, if◌then◌else◌}
use Rattle.tv_core.specs.declared.field.TheConstants.{P}

-- x less y, both without their p lowest bits, modulo P
abbrev pub prefix_difference : ℕ → ℕ → ℕ → ℕ
prefix_difference x y p = (x / 2 ^ p + (P - y / 2 ^ p)) % P

-- d is, modulo P, the difference of two prefixes, without their first `chunk` chunks of c bits
pub record IsPrefixDifference (c t x y d : ℕ) : Type 0 where
  pub chunk : ℕ
  pub within : chunk < t
  pub is : prefix_difference x y (c * chunk) ≡ d

-- by how much x is above y in the shortest prefix in which they differ, of t chunks; 0 where y is above, and
-- where none differs
unfoldable pub first_difference : ℕ → ℕ → ℕ → ℕ → ℕ
first_difference c zero x y = 0
first_difference c (suc t) x y = if x / 2 ^ (c * t) == y / 2 ^ (c * t) then first_difference c t x y else x / 2 ^ (c * t) - y / 2 ^ (c * t)
