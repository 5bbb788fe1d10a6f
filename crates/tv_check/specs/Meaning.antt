-- What a verdict says, in the words of constraint systems.
use Rattle.std.specs.Prelude.{◌≡◌, ◌≢◌, ℕ, ◌+◌, List, ◌∷◌, length, take, All, Some, slice_get}
use Rattle.tv_core.specs.Constraints.{System, Constraint, Holds, Sat, Extends}
use Rattle.tv_check.specs.declared.verdict.Verdict.{Verdict}
use Rattle.tv_check.specs.declared.verdict.Verdict.TheVariants.{Yes, WireCount, NoPublic, NoConstraint}

-- two lists agree before a place, and differ there; a place in one list alone differs
pub record DifferFirst (xs ys : List ℕ) (at : ℕ) : Type 0 where
  pub before : take at xs ≡ take at ys
  pub there : slice_get xs at ≢ slice_get ys at

-- each constraint before a place holds, and the one there doesn't
pub record FailsFirst (system : System) (z : List ℕ) (at : ℕ) : Type 0 where
  pub before : All (λ constraint. Holds constraint z) (take at system.constraints)
  pub failing : Constraint
  pub there : slice_get system.constraints at ≡ Some failing
  pub fails : ¬ (Holds failing z)

-- What a verdict says of a system, an assignment and public numbers: the assignment satisfies the system and extends
-- the numbers; or there are not as many values as wires; or there are, and this is the first place where the constant 1
-- and the public numbers differ from the values of the public wires; or they agree, and this is the first constraint
-- that doesn't hold.
abbrev pub VerdictMeans : Verdict → System → List ℕ → List ℕ → Type 0
VerdictMeans Yes s z x = Sat s z × Extends s z x
VerdictMeans (WireCount has wants) s z x = (length z ≡ has) × (s.wires ≡ wants) × (has ≢ wants)
VerdictMeans (NoPublic at) s z x =
    (length z ≡ s.wires) × DifferFirst (1 ∷ x) (take (1 + s.outputs + s.inputs) z) at
VerdictMeans (NoConstraint at) s z x =
    (length z ≡ s.wires) × (1 ∷ x ≡ take (1 + s.outputs + s.inputs) z) × FailsFirst s z at
