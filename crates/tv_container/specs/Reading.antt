-- What reading a file may return and do, over any files.
use Rattle.std.specs.Prelude.{◌≡◌, ◌≢◌, ◌⊎◌, Bool, true, false, ℕ, ◌+◌, ◌≤◌, List, length, take, drop, Option, Some, None}
use Rattle.std.specs.Prelude.{Result, Ok, OnOk, MatchResult, option_and_then}
use Rattle.tv_files.specs.Outside.{Names, Outside, OnlyReads, MissesOnly, RanOut}
use Rattle.tv_container.specs.Places.{Fault, wrong}
use Rattle.tv_container.specs.declared.why.ReadRefusal.{ReadRefusal}
use Rattle.tv_container.specs.declared.why.ReadRefusal.TheVariants as refusal
use Rattle.tv_container.specs.declared.why.ReadWhy.{ReadWhy}
use Rattle.tv_word.specs.Counts.{Rose}

-- the bytes that a name stands for, where contents are known and the name is there
unfoldable pub bytes_of : Outside → List ℕ → Option (List ℕ)
bytes_of outside name = option_and_then (λ files. files name) outside.contents

-- where contents are known and the name is there, this is so of its bytes
abbrev pub Known : Outside → List ℕ → (List ℕ → Type 0) → Type 0
Known outside name So = (file : List ℕ) → bytes_of outside name ≡ Some file → So file

-- contents are known, and the name isn't there
pub record IsMissing (outside : Outside) (name : List ℕ) : Type 0 where
  pub files : Names
  pub known : outside.contents ≡ Some files
  pub none : files name ≡ None

-- what a refusal leaves: all, where it says what is wrong; a fault is a fault of a read; and where memory ran out the files
-- ran out of it, which leaves every other count, or, where the reader keeps what it reads, the memory for that ran out, and
-- all is as before
abbrev pub Leaves : Bool → ReadRefusal → Outside → Outside → Type 0
Leaves keeps (refusal.Bad at what) old new = new ≡ old
Leaves keeps refusal.Fault old new = Rose old.read_faults new.read_faults
Leaves keeps refusal.Memory old new = RanOut old new ⊎ ((keeps ≡ true) × (new ≡ old))

-- reading stopped with this refusal, from the outside before it to the outside after it: files and printed words stay
-- and no count falls, `absent` changes only where this name isn't there, and no fault is passed over
pub record StoppedBy (keeps : Bool) (old new : Outside) (name : List ℕ) (why : ReadRefusal) : Type 0 where
  pub only : OnlyReads old new
  pub there : MissesOnly old new name
  pub leaves : Leaves keeps why old new

-- the same of a reader that keeps nothing of what it reads: it takes no memory
abbrev pub Stopped : Outside → Outside → List ℕ → ReadRefusal → Type 0
Stopped old new name why = StoppedBy false old new name why

-- reading a name leaves all outside as it was, or it stopped
abbrev pub LooksBy : {A : Type 0} → Bool → Outside → Outside → List ℕ → Result A ReadRefusal → Type 0
LooksBy keeps old new name result = MatchResult result (λ _. new ≡ old) (λ why. StoppedBy keeps old new name why)

-- the same where nothing is kept of what was read, so that memory runs out only in the files, and where it is kept
abbrev pub Looks : {A : Type 0} → Outside → Outside → List ℕ → Result A ReadRefusal → Type 0
Looks old new name result = LooksBy false old new name result

abbrev pub LooksAndKeeps : {A : Type 0} → Outside → Outside → List ℕ → Result A ReadRefusal → Type 0
LooksAndKeeps old new name result = LooksBy true old new name result

-- a refusal that says what is wrong says what the definition does
pub record Refuses {A : Type 0} (why : ReadRefusal) (answer : Result A Fault) : Type 0 where
  pub bad : (at : ℕ) (what : ReadWhy) → why ≡ refusal.Bad at what → answer ≡ wrong at what

-- a reader returns what the definition does, as `view` sees it, unless a read failed or memory ran out
abbrev pub ReadsAsBy : {Y A : Type 0} → Result Y ReadRefusal → (Y → A) → Result A Fault → Type 0
ReadsAsBy result view answer = MatchResult result (λ value. answer ≡ Ok (view value)) (λ why. Refuses why answer)

-- the same of what needs no view
abbrev pub ReadsAs : {A : Type 0} → Result A ReadRefusal → Result A Fault → Type 0
ReadsAs result answer = ReadsAsBy result (λ value. value) answer

-- a refusal that comes of no read: it isn't a fault, nor want of memory unless what was read is kept
pub record IsOwn (keeps : Bool) (why : ReadRefusal) : Type 0 where
  pub known : why ≢ refusal.Fault
  pub memory : why ≡ refusal.Memory → keeps ≡ true

-- bytes of a file, from a place on
pub record Piece : Type 0 where
  pub at : ℕ
  pub bytes : List ℕ

-- the bytes are those that the file has there
pub record IsPiece (piece : Piece) (file : List ℕ) : Type 0 where
  pub same : piece.bytes ≡ take (length piece.bytes) (drop piece.at file)

-- the piece has `size` bytes from a place on
pub record Holds (piece : Piece) (at size : ℕ) : Type 0 where
  pub from : piece.at ≤ at
  pub to : at + size ≤ piece.at + length piece.bytes

-- where the bytes of a name are known, and a window has a piece of them, this is so of them
abbrev pub InPiece : Outside → List ℕ → Piece → (List ℕ → Type 0) → Type 0
InPiece outside name piece So = Known outside name (λ file. IsPiece piece file → So file)

-- a step of reading a name through a window: it looks at the name only; after an Ok the window has a piece of the
-- file again; and this is so of the file
pub record ReadsInBy {A : Type 0} (keeps : Bool) (old new : Outside) (name : List ℕ) (before after : Piece)
    (result : Result A ReadRefusal) (So : List ℕ → Type 0) : Type 0 where
  pub looks : LooksBy keeps old new name result
  pub piece : InPiece old name before (λ file. OnOk result (IsPiece after file))
  pub gives : InPiece old name before So

-- the same where nothing is kept
abbrev pub ReadsIn : {A : Type 0} → Outside → Outside → List ℕ → Piece → Piece → Result A ReadRefusal → (List ℕ → Type 0) → Type 0
ReadsIn old new name before after result So = ReadsInBy false old new name before after result So
