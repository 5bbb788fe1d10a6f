-- A combination in place of a wire.
use Rattle.std.specs.Prelude.{ℕ, ◌-◌, ◌<◌, ◌==◌, nat_lt, nat_le, Bool, not, ◌||◌, ◌&&◌, max, [], ◌∷◌, ◌++◌, length, Option, None, Some, if◌then◌else◌}
use Rattle.std.specs.List.{AllByRecursion, filter, list_any, list_all}
use Rattle.std.specs.Option.{option_or}
use Rattle.tv_core.specs.Combinations.{scaled, less}
use Rattle.tv_core.specs.Constraints.{Combination, Constraint}
use Rattle.tv_core.specs.Inverse.{inverse_of}
use Rattle.tv_core.specs.declared.field.TheConstants.{P}
use Rattle.tv_core.specs.Normal.{coefficient, normal, IsNormalFrom}

-- whether a wire stands in a combination
unfoldable pub has_wire : ℕ → Combination → Bool
has_wire w x = list_any (λ t. t.1 == w) x

-- a wire, and the terms that take its place
pub record Replacement : Type 0 where
  pub wire : ℕ
  pub terms : Combination

-- the terms are normal, of wires below the one that they replace
pub record IsReplacement (wire : ℕ) (terms : Combination) : Type 0 where
  pub normal : IsNormalFrom 0 terms
  pub below : AllByRecursion (λ t. t.1 < wire) terms

-- a combination without a wire
unfoldable pub without : ℕ → Combination → Combination
without w x = filter (λ t. not (t.1 == w)) x

-- the value of a combination that has no wire but wire 0, which is 1
unfoldable pub constant_in : Combination → Option ℕ
constant_in x = if list_all (λ t. t.1 == 0) x then Some (coefficient 0 x) else None

-- k times x less y, where there is such a k
unfoldable pub difference : Option ℕ → Combination → Combination → Option Combination
difference None x y = None
difference (Some k) x y = Some (normal (less (scaled k x) y))

-- what a constraint says is 0, where a or else b is a constant
unfoldable pub linear_form : Constraint → Option Combination
linear_form c = option_or (difference (constant_in c.a) c.b c.c) (difference (constant_in c.b) c.a c.c)

-- the greater of a wire, where it is not below a number, and of another one, where there is one
unfoldable pub greater_from : ℕ → ℕ → Option ℕ → Option ℕ
greater_from least w None = if nat_lt w least then None else Some w
greater_from least w (Some v) = Some (max w v)

-- the greatest wire of a combination that is not below a number
unfoldable pub greatest_from : ℕ → Combination → Option ℕ
greatest_from least [] = None
greatest_from least (t ∷ rest) = greater_from least t.1 (greatest_from least rest)

-- what a wire is where the value of a combination that has it is 0
unfoldable pub solved : ℕ → Combination → Combination
solved w x = normal (scaled (P - inverse_of (coefficient w x)) (without w x))

-- a combination with r in place of the wire w
unfoldable pub replaced : ℕ → Combination → Combination → Combination
replaced w r x = if has_wire w x then normal (without w x ++ scaled (coefficient w x) r) else x

-- a constraint with r in place of the wire w
abbrev pub replaced_in : ℕ → Combination → Constraint → Constraint
replaced_in w r c = record { a = replaced w r c.a; b = replaced w r c.b; c = replaced w r c.c }

-- a combination that has the wire w has at most 128 terms with r in its place
unfoldable pub fits : ℕ → Combination → Combination → Bool
fits w r x = not (has_wire w x) || nat_le (length (replaced w r x)) 128

-- each combination of a constraint does
abbrev pub fits_in : ℕ → Combination → Constraint → Bool
fits_in w r c = fits w r c.a && (fits w r c.b && fits w r c.c)
