-- What an assignment meets, and what it has, in parts.
use Rattle.std.proofs.Common.{◌≡◌, ℕ, suc, ◌+◌, List, [], ◌∷◌, ◌++◌, length, arith, add-zero}
use Rattle.tv_core.specs.Constraints.{Constraint}
use Rattle.tv_core.specs.Circuits.{Circuit, ◌>>=◌}
use Rattle.tv_core.specs.Laws.{Meets, HasFrom}

pub Meets-split : (z : List ℕ) (xs ys : List Constraint) → Meets z (xs ++ ys) → Meets z xs × Meets z ys
Meets-split z [] ys h = (tt, h)
Meets-split z (x ∷ xs) ys h = let rest = Meets-split z xs ys h.1 in ((h.0, rest.0), rest.1)

pub Meets-join : (z : List ℕ) (xs ys : List Constraint) → Meets z xs → Meets z ys → Meets z (xs ++ ys)
Meets-join z [] ys h k = k
Meets-join z (x ∷ xs) ys h k = (h.0, Meets-join z xs ys h.1 k)

module _ {A B : Type 0} (z : List ℕ) (first : Circuit A) (second : A → Circuit B) (next : ℕ) where
  -- two pieces one after the other
  pub parts : Meets z ((first >>= second) next).list
      → Meets z (first next).list × Meets z (second (first next).answer (first next).next).list
  unfolding ◌>>=◌
  parts h = Meets-split z (first next).list _ h

  pub whole : Meets z (first next).list → Meets z (second (first next).answer (first next).next).list
      → Meets z ((first >>= second) next).list
  unfolding ◌>>=◌
  whole h k = Meets-join z (first next).list _ h k

pub HasFrom-split : (z : List ℕ) (first : ℕ) (xs ys : List ℕ) → HasFrom z first (xs ++ ys) → HasFrom z first xs × HasFrom z (first + length xs) ys
HasFrom-split z first [] ys h = (tt, rw add-zero h)
HasFrom-split z first (x ∷ xs) ys h =
    let rest = HasFrom-split z (first + 1) xs ys h.1 in
    let same : first + 1 + length xs ≡ first + suc (length xs) = omega arith in
    ((h.0, rest.0), rw same at rest.1)
