-- Numbers represented by bits of which the highest has a weight of its own, and words in two halves.
use Rattle.std.specs.Prelude.{ℕ, ◌+◌, ◌-◌, ◌/◌, ◌%◌, ◌^◌, List, [], ◌∷◌, ◌++◌}
use Rattle.tv_bits.specs.Bits.{bits_combination, bits_values}
use Rattle.tv_core.specs.Constraints.{Combination}
use Rattle.tv_core.specs.declared.field.TheConstants.{P}

-- n wires from a first one on, each times its power of 2, but the last times a weight
abbrev pub weighed : ℕ → ℕ → ℕ → Combination
weighed first n weight = bits_combination first (n - 1) ++ (weight, first + (n - 1)) ∷ []

-- the number that n wires represent in two's complement: the highest counts negatively
abbrev pub signed_combination : ℕ → ℕ → Combination
signed_combination first n = weighed first n ((P - 2 ^ (n - 1) % P) % P)

-- the bits of a number of 2 w bits, lowest first
abbrev pub halves_values : ℕ → ℕ → List ℕ
halves_values w v = bits_values (v % 2 ^ w) w ++ bits_values (v / 2 ^ w) w
