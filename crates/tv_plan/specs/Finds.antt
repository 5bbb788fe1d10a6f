-- What reading and judging files finds, against what is due by what they hold.
use Rattle.std.specs.Prelude.{◌≡◌, ℕ, ◌≤◌, ◌⊎◌, List, [], ◌∷◌, Result, Ok, Err, MatchResult}
use Rattle.tv_files.specs.Outside.{Names, Outside, WhereKnown, OnlyReads, RanOut}
use Rattle.tv_word.specs.Counts.{Rose}
use Rattle.tv_plan.specs.declared.refusal.Bad.{Bad}
use Rattle.tv_plan.specs.declared.refusal.Bad.TheVariants as bad
use Rattle.tv_plan.specs.declared.refusal.What.{What}
use Rattle.tv_plan.specs.declared.refusal.Stop.{Stop}
use Rattle.tv_plan.specs.declared.refusal.Stop.TheVariants.{Fault, Memory, Contents}
use Rattle.tv_plan.specs.Flaws.{Flaw, flaw_of}
use Rattle.tv_plan.specs.Plan.{Named, Look, input}

-- what contents are refused for of which something is made; a definition reads no file and never runs out of memory, so
-- those cases stand for nothing
abbrev pub stop_bad : What → Stop → Bad
stop_bad what (Contents why) = why
stop_bad what _ = bad.Limit what 0 0

-- what is made of contents, by what a fault of them is
abbrev pub made_by : {A E : Type 0} → What → (E → Stop) → Result A E → Result A Bad
made_by what of (Ok x) = Ok x
made_by what of (Err fault) = Err (stop_bad what (of fault))

-- it is one of these
abbrev pub IsOneOf : {A : Type 0} → A → List A → Type 0
IsOneOf x [] = ⊥
IsOneOf x (y ∷ ys) = (x ≡ y) ⊎ IsOneOf x ys

-- what was found is what is due; or reading failed at a word that was looked at; or memory ran out
abbrev pub IsFound : {X A : Type 0} → (X → A) → Look A → Result X Stop → Type 0
IsFound view due (Ok x) = due.gives ≡ Ok (view x)
IsFound view due (Err (Contents bad)) = due.gives ≡ Err (Contents bad)
IsFound view due (Err (Fault word)) = word ≤ due.at
IsFound view due (Err Memory) = Unit {0}

-- what a refused look leaves: all, but for the cause of a fault, or of memory that the files ran out of
abbrev pub Spares : Stop → Outside → Outside → Type 0
Spares (Contents bad) old new = new ≡ old
Spares (Fault word) old new = Unit {0}
Spares Memory old new = (new ≡ old) ⊎ RanOut old new

-- what a look leaves: all, unless it was refused
abbrev pub Leaves : {X : Type 0} → Result X Stop → Outside → Outside → Type 0
Leaves found old new = MatchResult found (λ _. new ≡ old) (λ stop. Spares stop old new)

-- a reading of files: the words at which their names stand, what they may be refused for, and what is due by their
-- contents
pub record Reading (A : Type 0) : Type 0 where
  pub words : List ℕ
  pub flaws : List Flaw
  pub due : Names → Look A

abbrev pub reading : {A : Type 0} → List ℕ → List Flaw → (Names → Look A) → Reading A
reading words flaws due = record { words = words; flaws = flaws; due = due }

-- that of one file
abbrev pub reading_of : {A : Type 0} → Named → List Flaw → (List ℕ → Result A Bad) → Reading A
reading_of place flaws read = reading (place.word ∷ []) flaws (input place read)

-- Files were read, and this was found. They are refused for what those of the reading may be alone, be their contents
-- known or not.
pub record Finds {X A : Type 0} (view : X → A) (of : Reading A) (old new : Outside) (found : Result X Stop) : Type 0 where
  pub known : WhereKnown old (λ files. IsFound view (of.due files) found)
  pub absent : WhereKnown old (λ files. (new.absent ≡ old.absent) ⊎ ((word : ℕ) × ((of.due files).gives ≡ Err (Fault word))))
  pub only : OnlyReads old new
  pub leaves : Leaves found old new
  pub caused : (word : ℕ) → found ≡ Err (Fault word) → IsOneOf word of.words × Rose old.read_faults new.read_faults
  pub flaws : (why : Bad) → found ≡ Err (Contents why) → IsOneOf (flaw_of why) of.flaws

-- what was made is what is due, or memory was wanting; no file is read
abbrev pub Makes : {X A : Type 0} → (X → A) → Result A Bad → Result X Stop → Type 0
Makes view due (Ok x) = due ≡ Ok (view x)
Makes view due (Err (Contents bad)) = due ≡ Err bad
Makes view due (Err (Fault word)) = ⊥
Makes view due (Err Memory) = Unit {0}
