-- What is kept of a constraint that was read, and the terms of one that is being read.
use Rattle.std.specs.Prelude.{◌≡◌, ℕ, ◌+◌, ◌*◌, ◌<◌, ◌≤◌, List, [], ◌∷◌, length, map, Ok}
use Rattle.std.specs.List.{All}
use Rattle.tv_core.specs.Constraints.{Combination, Constraint}
use Rattle.tv_r1cs_read.specs.declared.rows.Row.{Row}
use Rattle.tv_r1cs_read.specs.declared.terms.Bounds.{Bounds}
use Rattle.tv_container.specs.Reading.{IsPiece, Piece}
use Rattle.tv_r1cs_read.specs.R1cs.{Read, term_at}

-- the combination that terms make: wires before coefficients there, after them here
abbrev pub combination_of : List (ℕ × ℕ) → Combination
combination_of terms = map (λ t. (t.1, t.0)) terms

-- the constraint that a row makes
abbrev pub constraint_of : Row → Constraint
constraint_of row = record { a = combination_of row.a; b = combination_of row.b; c = combination_of row.c }

-- what was read, and the place after it
abbrev pub combination_read : List (ℕ × ℕ) → ℕ → Read Combination
combination_read terms next = record { value = combination_of terms; next = next }

abbrev pub constraint_read : Row → ℕ → Read Constraint
constraint_read row next = record { value = constraint_of row; next = next }

-- how many terms a row has
abbrev pub terms_in : Row → ℕ
terms_in row = length row.a + length row.b + length row.c

-- each wire of a row is one of a system with this many wires
pub record IsOver (wires : ℕ) (row : Row) : Type 0 where
  pub a : All (λ t. t.0 < wires) row.a
  pub b : All (λ t. t.0 < wires) row.b
  pub c : All (λ t. t.0 < wires) row.c

-- a file has these terms from a place on
abbrev pub AreAt : List ℕ → Bounds → ℕ → List (ℕ × ℕ) → Type 0
AreAt file bounds at [] = Unit {0}
AreAt file bounds at (term ∷ others) = (term_at file bounds.wires bounds.end at ≡ Ok (term.1, term.0)) × AreAt file bounds (at + 12) others

-- terms from a place up to another, each of a wire below `wires`, were taken
pub record IsTaken (Took : List (ℕ × ℕ) → Type 0) (wires at : ℕ) (terms : List (ℕ × ℕ)) (next : ℕ) : Type 0 where
  pub size : next ≡ at + 12 * length terms
  pub narrow : length terms ≤ 1048576
  pub below : All (λ t. t.0 < wires) terms
  pub took : Took terms

-- a window has n terms from a place on, each of a wire that there is, and this is so of them
pub record HasTerms (piece : Piece) (bounds : Bounds) (at n : ℕ) (So : List (ℕ × ℕ) → Type 0) : Type 0 where
  pub terms : List (ℕ × ℕ)
  pub count : length terms ≡ n
  pub below : All (λ t. t.0 < bounds.wires) terms
  pub there : (file : List ℕ) → IsPiece piece file → AreAt file bounds at terms
  pub so : So terms
