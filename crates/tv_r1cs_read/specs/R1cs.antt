-- The constraint system that an r1cs file holds, version 1 of the binary format, or the file's first fault.
use Rattle.std.specs.Prelude.{ℕ, zero, suc, ◌+◌, ◌-◌, ◌*◌, ◌≤◌, not, List, [], ◌∷◌, Option, Some, None, Result, Ok, nat_lt, ◌==◌, if◌then◌else◌}
use Rattle.tv_core.specs.Constraints.{Combination, Constraint, System}
use Rattle.tv_core.specs.declared.field.TheConstants.{P}
use Rattle.tv_container.specs.declared.why.ReadWhy.TheVariants.{BadCount, WireRange, NotCanonical, TooWide}
use Rattle.tv_container.specs.Field.{this_field}
use Rattle.tv_container.specs.Places.{Fault, ◌>>=◌, wrong, unless, number, fit}
use Rattle.tv_r1cs_read.specs.declared.header.Header.{Header}
use Rattle.tv_container.specs.declared.sections.Section.{Section}
use Rattle.tv_container.specs.Sections.{section_of, sections_of, wanted}

-- what section 1 counts of wires, public outputs and inputs and constraints, and section 2
abbrev pub counted : List ℕ → Section → Section → Header
counted file one two = record {
  wires = number file 4 (one.at + 12);
  outputs = number file 4 (one.at + 16);
  inputs = number file 4 (one.at + 20);
  constraints = number file 4 (one.at + 36);
  rows = two;
}

-- there is a wire for the constant 1 and each public number
abbrev pub HasRoom : Header → Type 0
HasRoom header = 1 + header.outputs + header.inputs ≤ header.wires

-- there is a wire for the constant 1 and each public number, and section 3, where there is one, has
-- eight bytes for each wire
abbrev pub checked : Header → Section → Option Section → Result Header Fault
checked header one three = do
  _ ← unless (nat_lt header.wires (1 + header.outputs + header.inputs)) one.at (BadCount header.wires (1 + header.outputs + header.inputs))
  _ ← elim three [ None ↦ Ok (tt {0}) | Some labels ↦ unless (not (labels.size == 8 * header.wires)) labels.at (BadCount labels.size (8 * header.wires)) ]
  Ok header

-- everything but the constraints, from the sections
unfoldable pub header_in : List ℕ → List Section → Result Header Fault
header_in file sections = do
  one ← wanted 1 file sections
  two ← wanted 2 file sections
  _ ← this_field file 40 one
  checked (counted file one two) one (section_of 3 sections)

-- everything but the constraints
unfoldable pub header_of : List ℕ → Result Header Fault
header_of file = do
  sections ← sections_of 3 0x73633172 1 file
  header_in file sections

-- a value read at a place of the file, and the place after it
pub record Read (A : Type 0) : Type 0 where
  pub value : A
  pub next : ℕ

-- the term at a place, below the end of its section: twelve bytes, the wire, which is below `wires`, and the
-- coefficient, which is below P
unfoldable pub term_at : List ℕ → ℕ → ℕ → ℕ → Result (ℕ × ℕ) Fault
term_at file wires end at = do
  _ ← fit 12 at end
  _ ← unless (not (nat_lt (number file 4 at) wires)) at (WireRange (number file 4 at) wires)
  _ ← unless (not (nat_lt (number file 8 (at + 4)) P)) (at + 4) NotCanonical
  Ok (number file 8 (at + 4), number file 4 at)

-- n terms from a place on
unfoldable pub terms_at : List ℕ → ℕ → ℕ → ℕ → ℕ → Result (Read Combination) Fault
terms_at file wires end zero at = Ok (record { value = []; next = at })
terms_at file wires end (suc n) at = do
  term ← term_at file wires end at
  others ← terms_at file wires end n (at + 12)
  Ok (record { value = term ∷ others.value; next = others.next })

-- how many terms the combination at a place has: four bytes, at most 1,048,576
unfoldable pub count_at : List ℕ → ℕ → ℕ → Result ℕ Fault
count_at file end at = do
  _ ← fit 4 at end
  _ ← unless (nat_lt 1048576 (number file 4 at)) at (TooWide (number file 4 at))
  Ok (number file 4 at)

-- a combination: its terms, after their count
unfoldable pub combination_at : List ℕ → ℕ → ℕ → ℕ → Result (Read Combination) Fault
combination_at file wires end at = do
  count ← count_at file end at
  terms_at file wires end count (at + 4)

-- a constraint: its three combinations
unfoldable pub constraint_at : List ℕ → ℕ → ℕ → ℕ → Result (Read Constraint) Fault
constraint_at file wires end at = do
  a ← combination_at file wires end at
  b ← combination_at file wires end a.next
  c ← combination_at file wires end b.next
  Ok (record { value = record { a = a.value; b = b.value; c = c.value }; next = c.next })

-- n constraints, from a place to the end of section 2
unfoldable pub constraints_from : List ℕ → ℕ → Section → ℕ → ℕ → Result (List Constraint) Fault
constraints_from file wires rows zero at =
    if at == rows.at + rows.size then Ok [] else wrong rows.at (BadCount rows.size (at - rows.at))
constraints_from file wires rows (suc n) at = do
  first ← constraint_at file wires (rows.at + rows.size) at
  others ← constraints_from file wires rows n first.next
  Ok (first.value ∷ others)

-- the system, or the first fault of the file
unfoldable pub r1cs_system : List ℕ → Result System Fault
r1cs_system file = do
  header ← header_of file
  list ← constraints_from file header.wires header.rows header.constraints header.rows.at
  Ok (record { wires = header.wires; outputs = header.outputs; inputs = header.inputs; constraints = list })
