-- What the calls do to a session.
use Rattle.std.specs.Prelude.{◌≡◌, ℕ, ◌-◌, ◌≤◌, ◌<◌, ◌⊎◌, List, [], ◌∷◌, ◌++◌, map, length, take, drop, Some, None, string_bytes, IsUtf8}
use Rattle.tv_files.specs.Outside.{Outside, Names, with_bytes}
use Rattle.tv_files.specs.MemFiles.{outside_of, names_of, said_of, nothing}
use Rattle.tinyr1cs_c.specs.declared.session.Session.{Session}
use Rattle.tinyr1cs_c.specs.declared.answer.Answer.TheVariants.{Done, Memory, NotUtf8, Short, Absent}
use Rattle.tinyr1cs_c.specs.Answer.{code_of}

-- all that is outside of a command: its files, what was printed, and the counts
abbrev pub outside : Session → Outside
outside session = outside_of session.files

-- the files
abbrev pub files : Session → Names
files session = names_of session.files

-- the words of the next command
abbrev pub words : Session → List (List ℕ)
words session = map string_bytes session.words.items

-- what was printed by the last command
abbrev pub line : Session → List ℕ
line session = drop session.line_at (said_of session.files)

-- no files, no words, and nothing printed
pub record IsNew (session : Session) : Type 0 where
  pub outside : outside session ≡ nothing
  pub words : words session ≡ []
  pub line : line session ≡ []

-- nothing that a caller can see has changed
pub record IsSame (old new : Session) : Type 0 where
  pub outside : outside new ≡ outside old
  pub words : words new ≡ words old
  pub line : line new ≡ line old

-- the name stands for these bytes, and nothing else has changed
pub record IsSet (name bytes : List ℕ) (old new : Session) : Type 0 where
  pub outside : outside new ≡ record (outside old) { contents = Some (with_bytes name bytes (files old)) }
  pub words : words new ≡ words old
  pub line : line new ≡ line old

-- a call that sets a file
pub record Sets (name bytes : List ℕ) (old new : Session) (code : ℕ) : Type 0 where
  pub text : ¬ (IsUtf8 name) → (code ≡ code_of NotUtf8) × IsSame old new
  pub set : IsUtf8 name → ((code ≡ code_of Done) × IsSet name bytes old new) ⊎ ((code ≡ code_of Memory) × IsSame old new)

-- the word is the last of the next command's, and nothing else has changed
pub record IsAdded (word : List ℕ) (old new : Session) : Type 0 where
  pub outside : outside new ≡ outside old
  pub words : words new ≡ words old ++ word ∷ []
  pub line : line new ≡ line old

-- a call that adds a word
pub record AddsWord (word : List ℕ) (old new : Session) (code : ℕ) : Type 0 where
  pub text : ¬ (IsUtf8 word) → (code ≡ code_of NotUtf8) × IsSame old new
  pub added : IsUtf8 word → ((code ≡ code_of Done) × IsAdded word old new) ⊎ ((code ≡ code_of Memory) × IsSame old new)

-- where a call copies to: the bytes there before and after it, and the number that it stores
pub record Room : Type 0 where
  pub before : List ℕ
  pub after : List ℕ
  pub has : ℕ

-- What the bytes have from `from` on was copied, as much as there was room for, and `has` is its length.
-- Short says that there was more.
pub record Copies (bytes : List ℕ) (from : ℕ) (room : Room) (code : ℕ) : Type 0 where
  pub counted : room.has ≡ length bytes - from
  pub copied : room.after ≡ take (length room.before) (drop from bytes) ++ drop (length bytes - from) room.before
  pub whole : room.has ≤ length room.before → code ≡ code_of Done
  pub short : length room.before < room.has → code ≡ code_of Short

-- nothing was copied
pub record CopiesNone (room : Room) : Type 0 where
  pub counted : room.has ≡ 0
  pub copied : room.after ≡ room.before

-- a call that copies a file's bytes out of a session
pub record CopiesFile (name : List ℕ) (from : ℕ) (room : Room) (old new : Session) (code : ℕ) : Type 0 where
  pub same : new ≡ old
  pub text : ¬ (IsUtf8 name) → (code ≡ code_of NotUtf8) × CopiesNone room
  pub absent : IsUtf8 name → files old name ≡ None → (code ≡ code_of Absent) × CopiesNone room
  pub copies : (bytes : List ℕ) → IsUtf8 name → files old name ≡ Some bytes → Copies bytes from room code

-- a call that copies the last line out of a session
pub record CopiesLine (room : Room) (old new : Session) (code : ℕ) : Type 0 where
  pub same : new ≡ old
  pub copies : Copies (line old) 0 room code
