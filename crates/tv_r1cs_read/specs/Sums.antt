-- Constraints that are tried as they are read, with no term kept.
use Rattle.std.specs.Prelude.{◌≡◌, ℕ, ◌+◌, ◌*◌, ◌^◌, ◌≤◌, Bool, true, false, List, [], length, Result, Ok, slice_index}
use Rattle.std.specs.List.{sum_by}
use Rattle.tv_core.specs.Constraints.{Combination, Constraint}
use Rattle.tv_core.specs.Meanings.{holds, terms_of}
use Rattle.tv_container.specs.Places.{Fault}
use Rattle.tv_container.specs.Reading.{Piece}
use Rattle.tv_r1cs_read.specs.declared.terms.Bounds.{Bounds}
use Rattle.tv_r1cs_read.specs.R1cs.{Read}
use Rattle.tv_r1cs_read.specs.Rows.{HasTerms}

-- the sum of the values of terms under an assignment
abbrev pub sum_of : List ℕ → List (ℕ × ℕ) → ℕ
sum_of z terms = sum_by (λ t. t.1 * slice_index z t.0) terms

-- n terms that a window holds from a place on are added to a sum
abbrev pub Adds : Piece → Bounds → List ℕ → (at n old new : ℕ) → Type 0
Adds piece bounds z at n old new = HasTerms piece bounds at n (λ terms. new ≡ old + sum_of z terms)

-- a sum of the values of terms, which are below 2^128
pub record IsSum (z : List ℕ) (sum : ℕ) (terms : List (ℕ × ℕ)) : Type 0 where
  pub small : sum ≤ length terms * 2 ^ 128
  pub is : sum ≡ sum_of z terms

-- the values of an assignment: none where each wire counts as 0, else one for each wire
pub record AreValues (none : Bool) (wires : ℕ) (values : List ℕ) : Type 0 where
  pub empty : none ≡ true → values ≡ []
  pub whole : none ≡ false → wires ≤ length values

-- the combination at a place was read and added to a first sum, and ends before the next
pub record SumsTo (answer : Result (Read Combination) Fault) (z : List ℕ) (first sum at next : ℕ) : Type 0 where
  pub terms : Combination
  pub size : next ≡ at + 4 + 12 * length terms
  pub read : answer ≡ Ok (record { value = terms; next = next })
  pub is : sum ≡ first + sum_by (λ t. t.0 * slice_index z t.1) terms

-- the constraint at a place was read, holds or not, and ends before the next
pub record IsTried (answer : Result (Read Constraint) Fault) (z : List ℕ) (test : Bool) (at next : ℕ) : Type 0 where
  pub constraint : Constraint
  pub size : next ≡ at + 12 + 12 * terms_of constraint
  pub read : answer ≡ Ok (record { value = constraint; next = next })
  pub is : test ≡ holds z constraint
