-- A product plus a wire, as a new wire.
use Rattle.std.specs.Prelude.{ℕ, ◌-◌, [], ◌∷◌}
use Rattle.tv_core.specs.Circuits.{Circuit, fresh, put, pure, ◌>>=◌}
use Rattle.tv_core.specs.Constraints.{Combination}
use Rattle.tv_core.specs.declared.field.TheConstants.{P}

-- a new wire that is x times y plus the wire `old`
unfoldable pub product_plus_of : Combination → Combination → ℕ → Circuit ℕ
product_plus_of x y old = do
  new ← fresh
  _ ← put x y ((P - 1, old) ∷ (1, new) ∷ [])
  pure new
