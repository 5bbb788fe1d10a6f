-- How the program ends.
use Rattle.std.specs.Prelude.{◌≡◌, ℕ, List, length, map, Option, Some, Result, Ok, Err, String, string_bytes, Vec}
use Rattle.std.specs.Global.{Global}
use Rattle.tv_disk.specs.Counts.{outside_of, zeros}
use Rattle.tv_files.specs.Outside.{Outside}
use Rattle.tv_plan.specs.declared.status.Status.{Status}
use Rattle.tv_plan.specs.Status.{code_of}
use Rattle.tv_top.specs.Commands.{Commands}
use Rattle.tinyr1cs.specs.Complaint.{complaint_text, no_words_text}
use Rattle.tinyr1cs.specs.declared.words.NoWords.{NoWords}
use Rattle.tinyr1cs.specs.declared.words.NoWords.TheVariants.{NoStreams, NotUtf8, NoMemory}

-- the exit code where there are no words
abbrev pub no_words_code : NoWords → ℕ
no_words_code NoStreams = 8
no_words_code NotUtf8 = 14
no_words_code NoMemory = 9

-- `command` does this of these words, with a status that the exit code and the line on standard error are of
pub record EndsSo (words : List (List ℕ)) (before after : Outside) (code : ℕ) (line : Option (List ℕ)) : Type 0 where
  pub status : Status
  pub commands : Commands words (length words) (record { before = before; after = after; status = status })
  pub coded : code ≡ code_of status
  pub complains : line ≡ complaint_text words status

-- nothing is done, and the exit code and the line say why
pub record EndsWithout (why : NoWords) (before after : Outside) (code : ℕ) (line : Option (List ℕ)) : Type 0 where
  pub same : after ≡ before
  pub coded : code ≡ no_words_code why
  pub complains : line ≡ Some (no_words_text why)

-- how the program ends by the words of the command line, or where there are none
abbrev pub EndsOn : Result (Vec (String Global) Global) NoWords → Outside → Outside → ℕ → Option (List ℕ) → Type 0
EndsOn (Ok words) before after code line = EndsSo (map string_bytes words.items) before after code line
EndsOn (Err why) before after code line = EndsWithout why before after code line

-- it ends so over the system's files, with this exit code
pub record EndsBy (words : Result (Vec (String Global) Global) NoWords) (code : ℕ) : Type 0 where
  pub after : Outside
  pub line : Option (List ℕ)
  pub ends : EndsOn words (outside_of zeros) after code line
