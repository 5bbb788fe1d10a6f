-- Bytes that are taken to be appended to a file, and what that does.
use Rattle.std.specs.Prelude.{◌≡◌, ℕ, List, ◌++◌, take, Result, Ok, Err, OnOk, OnErr}
use Rattle.tv_container.specs.Writing.{Adds, OnlyAppends, Passes}
use Rattle.tv_container.specs.Written.{HasCause}
use Rattle.tv_container.specs.declared.pending.Pending.{Pending}
use Rattle.tv_core.specs.declared.sink.SinkFault.{SinkFault}
use Rattle.tv_files.specs.Outside.{Outside}

-- what passing bytes on to a name did: a first part was appended and the rest is held, or after a refusal
-- the first few were; nothing but bytes of the name changed, and the cause is known
pub record PassesOn (old new : Outside) (name bytes held : List ℕ) (outcome : Result (Unit {0}) SinkFault) : Type 0 where
  pub done : OnOk outcome (Passes old new name bytes held)
  pub refused : OnErr outcome ((n : ℕ) × Adds old new name (take n bytes))
  pub only : OnlyAppends old new name
  pub cause : HasCause old new outcome

-- bytes were taken after those held, and some of them passed on; after a refusal nothing is
pub record TakesBytes (name : List ℕ) (old : Outside) (before : Pending) (new : Outside) (after : Pending) (bytes : List ℕ) : Type 0 where
  pub passes : before.outcome ≡ Ok tt → PassesOn old new name (before.buffer ++ bytes) after.buffer after.outcome
  pub lost : (fault : SinkFault) → before.outcome ≡ Err fault → (after.outcome ≡ Err fault) × (new ≡ old)
