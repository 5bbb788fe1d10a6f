-- Steps that may fail, one after another: the first fault is the answer.
use Rattle.std.specs.Prelude.{Bool, true, false, Result, Ok, Err}

infixl 10 ◌>>=◌
abbrev pub ◌>>=◌ : {A B E : Type 0} → Result A E → (A → Result B E) → Result B E
Ok a >>= f = f a
Err e >>= f = Err e

-- goes on where a test holds
abbrev pub check : {E : Type 0} → Bool → E → Result (Unit {0}) E
check true e = Ok tt
check false e = Err e
