-- What the calls do to a handle.
use Rattle.std.specs.Prelude.{◌≡◌, ℕ, ◌⊎◌, Option, Some, None}
use Rattle.tinyr1cs_c.specs.declared.session.Session.{Session}
use Rattle.tinyr1cs_c.specs.declared.answer.Answer.TheVariants.{Done, Memory, Closed, Opened}
use Rattle.tinyr1cs_c.specs.Answer.{code_of}
use Rattle.tinyr1cs_c.specs.Session.{IsNew}

-- a handle of no session has a new one, or memory was refused; one that holds a session keeps it
abbrev pub Opens : Option Session → Option Session → ℕ → Type 0
Opens None new code = ((code ≡ code_of Done) × ((session : Session) × (new ≡ Some session) × IsNew session))
    ⊎ ((code ≡ code_of Memory) × (new ≡ None))
Opens (Some session) new code = (code ≡ code_of Opened) × (new ≡ Some session)

-- what a call does to the session of a handle; where there is none, it does nothing
abbrev pub OnSession : Option Session → Option Session → ℕ → (Session → Session → ℕ → Type 0) → Type 0
OnSession None new code does = (code ≡ code_of Closed) × (new ≡ None)
OnSession (Some old) new code does = (session : Session) × (new ≡ Some session) × does old session code
