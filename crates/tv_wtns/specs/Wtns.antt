-- The assignment that a wtns file holds, version 2 of the binary format, or the file's first fault.
use Rattle.std.specs.Prelude.{◌≡◌, ℕ, zero, suc, ◌+◌, ◌*◌, ◌<◌, not, List, [], ◌∷◌, length, take, Result, Ok, nat_lt, ◌==◌}
use Rattle.std.specs.List.{All}
use Rattle.tv_core.specs.declared.field.TheConstants.{P}
use Rattle.tv_container.specs.Places.{Fault, ◌>>=◌, unless, number}
use Rattle.tv_container.specs.Field.{this_field}
use Rattle.tv_container.specs.Sections.{sections_of, wanted}
use Rattle.tv_container.specs.declared.sections.Section.{Section}
use Rattle.tv_container.specs.declared.why.ReadWhy.TheVariants.{BadCount, NotCanonical}
use Rattle.tv_wtns.specs.declared.values.FirstValues.{FirstValues}

-- n values from a place on: eight bytes each, a number below P
unfoldable pub values_at : List ℕ → ℕ → ℕ → Result (List ℕ) Fault
values_at file zero at = Ok []
values_at file (suc n) at = do
  _ ← unless (not (nat_lt (number file 8 at) P)) at NotCanonical
  others ← values_at file n (at + 8)
  Ok (number file 8 at ∷ others)

-- how many values a section 1 counts
abbrev pub counted : List ℕ → Section → ℕ
counted file one = number file 4 (one.at + 12)

-- a section 2 has the size of n values
abbrev pub fills : ℕ → Section → Result (Unit {0}) Fault
fills count two = unless (not (two.size == 8 * count)) two.at (BadCount two.size (8 * count))

-- the assignment, from the sections
unfoldable pub assignment_in : List ℕ → List Section → Result (List ℕ) Fault
assignment_in file sections = do
  one ← wanted 1 file sections
  two ← wanted 2 file sections
  _ ← this_field file 16 one
  _ ← fills (counted file one) two
  values_at file (counted file one) two.at

-- the assignment, or the first fault of the file; its magic is the text `wtns`
unfoldable pub assignment_of : List ℕ → Result (List ℕ) Fault
assignment_of file = do
  sections ← sections_of 2 0x736e7477 2 file
  assignment_in file sections

-- the first values of an assignment, and how many values it has
pub record Firsts : Type 0 where
  pub values : List ℕ
  pub count : ℕ

-- the first of these values, of which at most `most` are kept
abbrev pub firsts_of : ℕ → List ℕ → Firsts
firsts_of most z = record { values = take most z; count = length z }

-- as the code keeps them
abbrev pub firsts_in : FirstValues → Firsts
firsts_in first = record { values = first.values.items; count = first.count }

-- those of an assignment, where there is one
abbrev pub firsts : ℕ → Result (List ℕ) Fault → Result Firsts Fault
firsts most answer = do
  z ← answer
  Ok (firsts_of most z)

-- each value of each assignment is below P
abbrev pub AssignmentsAreBelow : Type 0
AssignmentsAreBelow = (file values : List ℕ) → assignment_of file ≡ Ok values → All (λ v. v < P) values
