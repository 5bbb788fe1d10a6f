-- Normal combinations: each wire at most once, in rising order, with a coefficient other than 0, as the public
-- description of the r1cs format asks for.
use Rattle.std.specs.Prelude.{ℕ, suc, ◌+◌, ◌%◌, ◌<◌, ◌≤◌, ◌≢◌, ◌==◌, nat_lt, List, [], ◌∷◌, if◌then◌else◌}
use Rattle.std.specs.List.{AllByRecursion, insert, sum_by}
use Rattle.tv_core.specs.Constraints.{Combination, Constraint}
use Rattle.tv_core.specs.declared.field.TheConstants.{P}

-- a term before a combination, unless its coefficient is 0
unfoldable pub with_term : ℕ → ℕ → Combination → Combination
with_term k w x = if k % P == 0 then x else (k % P, w) ∷ x

-- a normal combination and one more term, made normal
unfoldable pub added : ℕ × ℕ → Combination → Combination
added t [] = with_term t.0 t.1 []
added t (u ∷ rest) =
    if nat_lt t.1 u.1 then with_term t.0 t.1 (u ∷ rest)
    else (if t.1 == u.1 then with_term (t.0 + u.0) t.1 rest else u ∷ added t rest)

-- a combination made normal: the coefficients of a wire that occurs more than once add up
unfoldable pub normal : Combination → Combination
normal [] = []
normal (t ∷ rest) = added t (normal rest)

-- a combination with one more term at a place, unless the coefficient is 0
abbrev pub put_at : ℕ → ℕ → ℕ → Combination → Combination
put_at k w place x = if k % P == 0 then x else insert x place (k % P, w)

-- how many terms of a normal combination stand before a wire's place
unfoldable pub place : ℕ → Combination → ℕ
place w [] = 0
place w (t ∷ rest) = if nat_lt t.1 w then suc (place w rest) else 0

-- a constraint of such combinations
abbrev pub normal_constraint : Constraint → Constraint
normal_constraint c = record { a = normal c.a; b = normal c.b; c = normal c.c }

-- the coefficient of a wire, modulo P
unfoldable pub coefficient : ℕ → Combination → ℕ
coefficient w x = sum_by (λ t. if t.1 == w then t.0 else 0) x % P

-- the wires rise from a number on, and the coefficients are numbers of the field other than 0
abbrev pub IsNormalFrom : ℕ → Combination → Type 0
IsNormalFrom least [] = Unit {0}
IsNormalFrom least (t ∷ rest) = (least ≤ t.1) × (0 < t.0) × (t.0 < P) × IsNormalFrom (t.1 + 1) rest

abbrev pub IsNormal : Combination → Type 0
IsNormal x = IsNormalFrom 0 x

-- no wire of x is a wire of y
abbrev pub Apart : Combination → Combination → Type 0
Apart x y = AllByRecursion (λ t. AllByRecursion (λ u. t.1 ≢ u.1) y) x

-- a constraint of normal combinations, and a list of such constraints
pub record IsNormalConstraint (constraint : Constraint) : Type 0 where
  pub a : IsNormal constraint.a
  pub b : IsNormal constraint.b
  pub c : IsNormal constraint.c

abbrev pub AreNormal : List Constraint → Type 0
AreNormal list = AllByRecursion IsNormalConstraint list
