-- Words on combinations.
use Rattle.std.specs.Prelude.{ℕ, ◌+◌, ◌-◌, ◌*◌, ◌%◌, [], ◌∷◌, ◌++◌, max, map}
use Rattle.tv_core.specs.Constraints.{Combination}
use Rattle.tv_core.specs.declared.field.TheConstants.{P}

-- one wire, once
abbrev pub wire : ℕ → Combination
wire w = (1, w) ∷ []

-- a number, as a multiple of the constant wire
abbrev pub constant : ℕ → Combination
constant c = (c, 0) ∷ []

-- 1 less a wire
abbrev pub one_less : ℕ → Combination
one_less w = (1, 0) ∷ (P - 1, w) ∷ []

-- each coefficient of x, k times
abbrev pub scaled : ℕ → Combination → Combination
scaled k x = map (λ t. (k * t.0 % P, t.1)) x

-- x less y
abbrev pub less : Combination → Combination → Combination
less x y = x ++ scaled (P - 1) y

-- one more than the greatest wire of x, and 0 where x has no term
abbrev pub top : Combination → ℕ
top [] = 0
top (t ∷ rest) = max (t.1 + 1) (top rest)
