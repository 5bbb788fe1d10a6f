-- Circuits: what a piece of a constraint system makes, as a function of the number of the next wire.
use Rattle.std.specs.Prelude.{ℕ, zero, suc, ◌+◌, List, [], ◌∷◌, ◌++◌}
use Rattle.tv_core.specs.Constraints.{Combination, Constraint}

-- what a piece makes: what it returns, its constraints in order, and the number of the next wire after it
pub record Made (A : Type 0) : Type 0 where
  pub answer : A
  pub list : List Constraint
  pub next : ℕ

-- a piece of a system, from the number of the next wire
abbrev pub Circuit : Type 0 → Type 0
Circuit A = ℕ → Made A

-- a piece that returns a value and emits nothing
unfoldable pub pure : {A : Type 0} → A → Circuit A
pure answer next = record { answer = answer; list = []; next = next }

-- the number of the next wire, which is not made
unfoldable pub here : Circuit ℕ
here next = record { answer = next; list = []; next = next }

-- a new wire
unfoldable pub fresh : Circuit ℕ
fresh next = record { answer = next; list = []; next = next + 1 }

-- the constraint that a times b is c
unfoldable pub put : Combination → Combination → Combination → Circuit (Unit {0})
put a b c next = record { answer = tt; list = record { a = a; b = b; c = c } ∷ []; next = next }

-- the second piece after the first, whose result it takes
infixl 10 ◌>>=◌
unfoldable pub ◌>>=◌ : {A B : Type 0} → Circuit A → (A → Circuit B) → Circuit B
◌>>=◌ first second next =
    let before = first next in
    let after = second before.answer before.next in
    record { answer = after.answer; list = before.list ++ after.list; next = after.next }

-- n pieces one after another, piece i, from 0, taking the result of the one before
unfoldable pub turns : {A : Type 0} → ℕ → (ℕ → A → Circuit A) → A → Circuit A
turns zero piece x = pure x
turns (suc n) piece x = turns n piece x >>= piece n
