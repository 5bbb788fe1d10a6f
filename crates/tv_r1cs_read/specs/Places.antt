-- The place in a system's file that reading has reached, by the constraints that it has returned.
use Rattle.std.specs.Prelude.{◌≡◌, ℕ, ◌+◌, List, [], ◌∷◌, length, Ok}
use Rattle.tv_core.specs.Constraints.{Constraint, System}
use Rattle.tv_core.specs.Meanings.{terms_in}
use Rattle.tv_r1cs_read.specs.declared.header.Header.{Header}
use Rattle.tv_r1cs_read.specs.Progress.{Reached, Follows, counts_of}
use Rattle.tv_r1cs_read.specs.R1cs.{constraint_at, header_of, r1cs_system}
use Rattle.tv_r1cs_read.specs.Survey.{survey_of}

-- the system of a header and of constraints
abbrev pub system_with : Header → List Constraint → System
system_with header list = record { wires = header.wires; outputs = header.outputs; inputs = header.inputs; constraints = list }

-- these constraints stand one after another in a section 2 that ends at `end`, from a place up to another
abbrev pub Stand : (file : List ℕ) (wires end at : ℕ) → List Constraint → ℕ → Type 0
Stand file wires end at [] next = at ≡ next
Stand file wires end at (c ∷ cs) next =
    (after : ℕ) × (constraint_at file wires end at ≡ Ok (record { value = c; next = after })) × Stand file wires end after cs next

-- Reading has returned these constraints of the file, in order: they stand from the beginning of section 2 on, whatever
-- comes after them; and those that are left, or the first fault in them, are ahead.
pub record IsAt (reached : Reached) (file : List ℕ) (rows : List Constraint) : Type 0 where
  pub follows : Follows reached file
  pub header : header_of file ≡ Ok reached.header
  pub stand : Stand file reached.header.wires (reached.header.rows.at + reached.header.rows.size) reached.header.rows.at rows reached.at
  pub count : length rows + reached.left ≡ reached.header.constraints
  pub terms : reached.terms ≡ terms_in rows

-- reading has returned all constraints: the file holds this system, and these are its counts
pub record IsAll (reached : Reached) (file : List ℕ) (rows : List Constraint) : Type 0 where
  pub place : IsAt reached file rows
  pub system : r1cs_system file ≡ Ok (system_with reached.header rows)
  pub counts : survey_of file ≡ Ok (counts_of reached)
