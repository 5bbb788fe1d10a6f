-- Two multiples of normal combinations added.
use Rattle.std.specs.Prelude.{◌≡◌, ℕ, ◌-◌, ◌^◌, ◌==◌, [], ◌∷◌, if◌then◌else◌}
use Rattle.tv_core.specs.Constraints.{Combination}
use Rattle.tv_shrink.specs.declared.merge.Side.{Side}

-- the first wire of a combination; after its end the greatest number of a wire
abbrev pub first_wire : Combination → ℕ
first_wire [] = 2 ^ 32 - 1
first_wire (t ∷ x) = t.1

-- the coefficient of a wire that may be the first
abbrev pub head_at : ℕ → Combination → ℕ
head_at w [] = 0
head_at w (t ∷ x) = if t.1 == w then t.0 else 0

-- a combination without a wire that may be the first
abbrev pub tail_at : ℕ → Combination → Combination
tail_at w [] = []
tail_at w (t ∷ x) = if t.1 == w then x else t ∷ x

-- a side goes past a wire, if it is the first that is ahead, and stays the same multiple
pub record GoesPast (wire : ℕ) (old new : Side) : Type 0 where
  pub terms : new.terms.now ≡ tail_at wire old.terms.now
  pub factor : new.factor ≡ old.factor
