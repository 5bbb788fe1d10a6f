-- What a command does to a session: each clause of `command`, of the session's words and files.
use Rattle.std.specs.Prelude.{◌≡◌, ℕ, [], drop, length}
use Rattle.tv_files.specs.MemFiles.{said_of}
use Rattle.tv_top.specs.Commands.{Commands}
use Rattle.tv_plan.specs.Status.{code_of}
use Rattle.tv_plan.specs.declared.status.Status.{Status}
use Rattle.tinyr1cs_c.specs.declared.session.Session.{Session}
use Rattle.tinyr1cs_c.specs.Session.{outside, words, line}

-- a command ran on the session's words and files; its line is what it printed, and there are no words for the next one
pub record Ran (old new : Session) (status : Status) : Type 0 where
  pub command : Commands (words old) (length old.words.items) (record { before = outside old; after = outside new; status = status })
  pub words : words new ≡ []
  pub line : line new ≡ drop (length (said_of old.files)) (said_of new.files)

-- a call that runs a command
abbrev pub Runs : Session → Session → ℕ → Type 0
Runs old new code = (status : Status) × (code ≡ code_of status) × Ran old new status
