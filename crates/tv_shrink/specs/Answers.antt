-- What shrinking the system of a file answers.
use Rattle.std.specs.Prelude.{◌≡◌, ◌⊎◌, ℕ, ◌+◌, ◌*◌, ◌%◌, ◌^◌, ◌≤◌, ◌<◌, ◌==◌, nat_lt, Bool, ◌&&◌, List, [], ◌∷◌}
use Rattle.std.specs.Prelude.{length, Option, None, Some, Ok, Result, MatchResult, if◌then◌else◌}
use Rattle.std.specs.List.{flat_map, list_all}
use Rattle.std.specs.Option.{option_or}
use Rattle.tv_container.specs.Places.{wrong}
use Rattle.tv_container.specs.declared.why.ReadRefusal.{ReadRefusal}
use Rattle.tv_container.specs.declared.why.ReadRefusal.TheVariants as refusal
use Rattle.tv_core.specs.Constraints.{Combination, Constraint, System}
use Rattle.tv_core.specs.Meanings.{terms_in}
use Rattle.tv_files.specs.Outside.{Outside, OnlyReads, MissesOnly, RanOut}
use Rattle.tv_r1cs_read.specs.R1cs.{r1cs_system}
use Rattle.tv_shrink.specs.declared.fault.ShrinkFault.{ShrinkFault}
use Rattle.tv_shrink.specs.declared.fault.ShrinkFault.TheVariants as fault
use Rattle.tv_shrink.specs.declared.shrinker.TheConstants.{MOST_TERMS}
use Rattle.tv_core.specs.declared.lines.Counts.{Counts}
use Rattle.tv_core.specs.declared.field.TheConstants.{P}
use Rattle.tv_core.specs.Normal.{coefficient, normal, normal_constraint}
use Rattle.tv_shrink.specs.Spans.{row_terms}
use Rattle.tv_shrink.specs.Tidy.{RowsAreNormal, AreWithin}
use Rattle.tv_r1cs_write.specs.Shrunken.{Shrunken}
use Rattle.tv_shrink.specs.Shrunk.{shrink}
use Rattle.tv_word.specs.Counts.{Rose}

-- a refusal of reading, as one of shrinking
abbrev pub read_fault : ReadRefusal → ShrinkFault
read_fault (refusal.Bad at why) = fault.Bad at why
read_fault refusal.Fault = fault.Fault
read_fault refusal.Memory = fault.Memory

-- how many terms a combination has that, once made normal, has more than 128
abbrev pub wide : Combination → Option ℕ
wide x = if nat_lt 128 (length (normal x)) then Some (length (normal x)) else None

-- how many terms the first such combination of a constraint has, and of a list of constraints
abbrev pub wide_in : Constraint → Option ℕ
wide_in c = option_or (wide c.a) (option_or (wide c.b) (wide c.c))

unfoldable pub first_wide : List Constraint → Option ℕ
first_wide [] = None
first_wide (c ∷ list) = option_or (wide_in c) (first_wide list)

-- why reading a constraint was refused: memory ran out, or it has this many terms
abbrev pub IsTooWide : ShrinkFault → Option ℕ → Type 0
IsTooWide (fault.Bad at why) found = ⊥
IsTooWide (fault.Terms has) found = ⊥
IsTooWide (fault.Combination has) found = found ≡ Some has
IsTooWide fault.Fault found = ⊥
IsTooWide fault.Memory found = Unit {0}

-- the most terms of a system
abbrev pub most : ℕ
most = MOST_TERMS

-- how many terms a system has
abbrev pub all_terms : System → ℕ
all_terms system = terms_in system.constraints

-- a file holds a system of no more terms than the limit
pub record IsSmall (file : List ℕ) : Type 0 where
  pub system : System
  pub is : r1cs_system file ≡ Ok system
  pub few : all_terms system ≤ most

-- a file's system has no more terms than the limit, no combination of it is too wide, and this is the shrunk system
pub record Shrinks (shrunken : Shrunken) (file : List ℕ) : Type 0 where
  pub system : System
  pub is : r1cs_system file ≡ Ok system
  pub few : all_terms system ≤ most
  pub narrow : first_wide system.constraints ≡ None
  pub same : shrunken ≡ shrink system

-- a file's system has too many terms
pub record IsLong (has : ℕ) (file : List ℕ) : Type 0 where
  pub system : System
  pub is : r1cs_system file ≡ Ok system
  pub terms : has ≡ all_terms system
  pub many : most < has

-- it has not, but a combination of it is too wide
pub record IsWide (has : ℕ) (file : List ℕ) : Type 0 where
  pub system : System
  pub is : r1cs_system file ≡ Ok system
  pub few : all_terms system ≤ most
  pub first : first_wide system.constraints ≡ Some has

-- what a refusal says of a file
abbrev pub FaultMeans : ShrinkFault → List ℕ → Type 0
FaultMeans (fault.Bad at why) file = r1cs_system file ≡ wrong at why
FaultMeans (fault.Terms has) file = IsLong has file
FaultMeans (fault.Combination has) file = IsWide has file
FaultMeans fault.Fault file = Unit {0}
FaultMeans fault.Memory file = Unit {0}

-- what a refusal leaves: all, where it says what is wrong; a fault is a fault of a read; and where memory ran out
-- all is as before, or the files ran out of it, which leaves every other count
abbrev pub Leaves : ShrinkFault → Outside → Outside → Type 0
Leaves (fault.Bad at why) old new = new ≡ old
Leaves (fault.Terms has) old new = new ≡ old
Leaves (fault.Combination has) old new = new ≡ old
Leaves fault.Fault old new = Rose old.read_faults new.read_faults
Leaves fault.Memory old new = (new ≡ old) ⊎ RanOut old new

-- shrinking stopped with this refusal, from the outside before it to the outside after it: files and words said
-- stay and no count falls, `absent` changes only where this name isn't there, and no fault is passed over
pub record Halted (old new : Outside) (name : List ℕ) (why : ShrinkFault) : Type 0 where
  pub only : OnlyReads old new
  pub there : MissesOnly old new name
  pub leaves : Leaves why old new

-- what shrinking does to the outside: nothing, or it stopped
abbrev pub HaltsBy : {A : Type 0} → Outside → Outside → List ℕ → Result A ShrinkFault → Type 0
HaltsBy old new name result = MatchResult result (λ _. new ≡ old) (λ fault. Halted old new name fault)

-- whether a constraint has no wire but wire 0, which is 1, and holds
abbrev pub holds_by_constants : Constraint → Bool
holds_by_constants c = list_all (λ t. t.1 == 0) (row_terms c) && coefficient 0 c.a * coefficient 0 c.b % P == coefficient 0 c.c

-- a normal constraint, unless it holds by constants
abbrev pub start_row : Constraint → List (Option Constraint)
start_row c = if holds_by_constants c then [] else Some c ∷ []

-- a list's constraints made normal, without those that hold by constants
abbrev pub start_rows : List Constraint → List (Option Constraint)
start_rows list = flat_map (λ c. start_row (normal_constraint c)) list

-- the system with these counts and constraints
abbrev pub counted_system : Counts → List Constraint → System
counted_system counts list = record { wires = counts.wires; outputs = counts.outputs; inputs = counts.inputs; constraints = list }

-- a pass over these constraints may begin: they are normal, and of wires that there are, and there is a wire for the
-- constant 1 and each public number
pub record IsReady (counts : Counts) (rows : List (Option Constraint)) : Type 0 where
  pub room : 1 + counts.outputs + counts.inputs ≤ counts.wires
  pub within : AreWithin counts.wires rows
  pub normal : RowsAreNormal rows
  pub few : length rows < 2 ^ 32
  pub fits : counts.wires < 2 ^ 32

-- the rows are the constraints of the file's system, which are not too many terms, and none of which is too wide
pub record IsRead (counts : Counts) (rows : List (Option Constraint)) (file : List ℕ) : Type 0 where
  pub list : List Constraint
  pub is : r1cs_system file ≡ Ok (counted_system counts list)
  pub same : rows ≡ start_rows list
  pub few : terms_in list ≤ most
  pub narrow : first_wide list ≡ None
