-- The outside world as a value: which files there are, what was printed, and the counts of what went wrong.
use Rattle.std.specs.Prelude.{◌≡◌, ℕ, ◌≤◌, ◌⊎◌, List, ◌++◌, Option, Some, None, option_map}
use Rattle.std.specs.Map.{update}
use Rattle.std.specs.Str.{bytes_eq}
use Rattle.tv_word.specs.Counts.{Rose}

-- the files that are there: from a name's bytes to the file's bytes
abbrev pub Names : Type 0
Names = List ℕ → Option (List ℕ)

-- the files once the name stands for these bytes
abbrev pub with_bytes : List ℕ → List ℕ → Names → Names
with_bytes name bytes files = update bytes_eq files name (Some bytes)

-- the files once these bytes stand after those that the name had; a name that isn't there stays absent
abbrev pub with_more : List ℕ → List ℕ → Names → Names
with_more name more files = update bytes_eq files name (option_map (λ bytes. bytes ++ more) (files name))

-- what is outside: contents and printed words, where they are known, and the counts
pub record Outside : Type 0 where
  pub contents : Option Names
  pub said : Option (List ℕ)
  pub read_faults : ℕ
  pub write_faults : ℕ
  pub say_faults : ℕ
  pub wants : ℕ
  pub absent : ℕ

-- where contents are known, this is so of them
abbrev pub WhereKnown : Outside → (Names → Type 0) → Type 0
WhereKnown outside P = (files : Names) → outside.contents ≡ Some files → P files

-- the count of absent names changed only where this name isn't there
abbrev pub MissesOnly : Outside → Outside → List ℕ → Type 0
MissesOnly old new name = WhereKnown old (λ files. (new.absent ≡ old.absent) ⊎ (files name ≡ None))

-- no count fell
pub record NoneFell (old new : Outside) : Type 0 where
  pub read_faults : old.read_faults ≤ new.read_faults
  pub write_faults : old.write_faults ≤ new.write_faults
  pub say_faults : old.say_faults ≤ new.say_faults
  pub wants : old.wants ≤ new.wants
  pub absent : old.absent ≤ new.absent

-- each count is as before
pub record SameCounts (old new : Outside) : Type 0 where
  pub read_faults : new.read_faults ≡ old.read_faults
  pub write_faults : new.write_faults ≡ old.write_faults
  pub say_faults : new.say_faults ≡ old.say_faults
  pub wants : new.wants ≡ old.wants
  pub absent : new.absent ≡ old.absent

-- memory ran out: the count `wants` rose, and each other count is as before
pub record RanOut (old new : Outside) : Type 0 where
  pub wants : Rose old.wants new.wants
  pub read_faults : new.read_faults ≡ old.read_faults
  pub write_faults : new.write_faults ≡ old.write_faults
  pub say_faults : new.say_faults ≡ old.say_faults
  pub absent : new.absent ≡ old.absent

-- what readers do to the outside: files and words said stay, and no count fell
pub record OnlyReads (old new : Outside) : Type 0 where
  pub contents : new.contents ≡ old.contents
  pub said : new.said ≡ old.said
  pub later : NoneFell old new

-- what writers do to the outside, but for its files: printed words stay, no count fell, and where contents are known no
-- name was missed
pub record OnlyWrites (old new : Outside) : Type 0 where
  pub said : new.said ≡ old.said
  pub absent : WhereKnown old (λ _. new.absent ≡ old.absent)
  pub later : NoneFell old new
