-- What each step of reading a system promises.
use Rattle.std.specs.Prelude.{◌≡◌, ℕ, ◌+◌, ◌-◌, ◌<◌, ◌≤◌, Bool, true, false, if◌then◌else◌, List, [], ◌∷◌, ◌++◌, length, Option, Some, None, MatchOption}
use Rattle.std.specs.Prelude.{Result, MatchResult}
use Rattle.tv_files.specs.Outside.{Outside}
use Rattle.tv_core.specs.Constraints.{Constraint}
use Rattle.tv_core.specs.Meanings.{first_failure}
use Rattle.tv_container.specs.Reading.{Known, Refuses, StoppedBy}
use Rattle.tv_container.specs.declared.why.ReadRefusal.{ReadRefusal}
use Rattle.tv_r1cs_read.specs.declared.rows.Row.{Row}
use Rattle.tv_r1cs_read.specs.Places.{IsAt, IsAll}
use Rattle.tv_r1cs_read.specs.Progress.{Reached}
use Rattle.tv_r1cs_read.specs.R1cs.{r1cs_system}
use Rattle.tv_r1cs_read.specs.Rows.{constraint_of, terms_in, IsOver}

-- reading a name went on from one state to another, while all outside went from `before` to `after`; it may keep what it
-- reads
pub record Steps (keeps : Bool) (before after : Outside) (name : List ℕ) (old new : Reached) (Gives : List ℕ → List Constraint → Type 0) : Type 0 where
  -- the header stays
  pub header : new.header ≡ old.header
  -- where reading had stopped, nothing changes
  pub again : (why : ReadRefusal) → old.stopped ≡ Some why → (new ≡ old) × (after ≡ before)
  -- else all outside stays, or reading stops
  pub looks : old.stopped ≡ None → MatchOption new.stopped (after ≡ before) (λ why. StoppedBy keeps before after name why)
  -- after these constraints of the file, the step returns what is next in it, or reading stops at the file's first
  -- fault
  pub gives : (rows : List Constraint) → Known before name (λ file. IsAt old file rows
      → MatchOption new.stopped (Gives file rows) (λ why. Refuses why (r1cs_system file)))

-- an answer is a refusal where reading has stopped, and says why
abbrev pub ReportsStop : {A : Type 0} → Result A ReadRefusal → Option ReadRefusal → Type 0
ReportsStop result stopped = MatchResult result (λ _. stopped ≡ None) (λ why. stopped ≡ Some why)

-- a row that is the next constraint, or none, since those before are all
abbrev pub Yields : Bool → Row → Reached → List ℕ → List Constraint → Type 0
Yields true row reached file rows = IsAt reached file (rows ++ constraint_of row ∷ [])
Yields false row reached file rows = IsAll reached file rows

-- the same of a row of its own
abbrev pub YieldsOwned : Option Row → Reached → List ℕ → List Constraint → Type 0
YieldsOwned (Some row) reached file rows = Yields true row reached file rows
YieldsOwned None reached file rows = IsAll reached file rows

-- constraints ahead were tried: each of them holds, or each but for the last; from any number on that is the first that fails
pub record Tried (holds : Bool) (z : List ℕ) (old new : Reached) (file : List ℕ) (rows : List Constraint) : Type 0 where
  pub more : List Constraint
  pub place : IsAt new file (rows ++ more)
  pub count : new.left + length more ≡ old.left
  pub is : (at : ℕ) → first_failure z at more ≡ (if holds then None else Some (at + length more - 1))

-- how many were left, and fewer where one of those that were tried doesn't hold
abbrev pub Fewer : Bool → ℕ → ℕ → Type 0
Fewer true old new = new ≤ old
Fewer false old new = new < old

-- the constraint after this many more is the first that doesn't hold, or all hold
abbrev pub Failed : Option ℕ → List ℕ → Reached → List ℕ → List Constraint → Type 0
Failed (Some before) z reached file rows =
    (more : List Constraint) × IsAt reached file (rows ++ more) × (length more ≡ before + 1) × (first_failure z 0 more ≡ Some before)
Failed None z reached file rows = (more : List Constraint) × IsAll reached file (rows ++ more) × (first_failure z 0 more ≡ None)

-- with those after them these constraints are all
abbrev pub Passed : Reached → List ℕ → List Constraint → Type 0
Passed reached file rows = (more : List Constraint) × IsAll reached file (rows ++ more)

-- nothing was counted
abbrev pub Stays : Reached → Reached → Type 0
Stays old new = (new.terms ≡ old.terms) × (new.left ≡ old.left)

-- a row was counted, whose wires are the system's, or nothing was
abbrev pub WentOn : Bool → Row → Reached → Reached → Type 0
WentOn true row old new = (new.terms ≡ old.terms + terms_in row) × (new.left + 1 ≡ old.left) × IsOver old.header.wires row
WentOn false row old new = Stays old new

-- the same of a row of its own
abbrev pub WentOnBy : Option Row → Reached → Reached → Type 0
WentOnBy (Some row) old new = WentOn true row old new
WentOnBy None old new = Stays old new
