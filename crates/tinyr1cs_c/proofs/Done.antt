-- What was done to the session of a handle, and what opens one.
use Rattle.std.proofs.Common.{◌≡◌, ℕ, Option, Some, None, refl, sym, subst, inl}
use Rattle.tinyr1cs_c.specs.declared.session.Session.{Session}
use Rattle.tinyr1cs_c.specs.Calls.{Opens, OnSession}
use Rattle.tinyr1cs_c.specs.Session.{IsNew}

pub on_session : (old new : Option Session) (code : ℕ) (does : Session → Session → ℕ → Type 0) (before after : Session)
    → old ≡ Some before → new ≡ Some after → does before after code → OnSession old new code does
on_session old new code does before after was is did = subst (λ (held : Option Session). OnSession held new code does) (sym was) (after, is, did)

pub opens : (old new : Option Session) (session : Session) → old ≡ None → new ≡ Some session → IsNew session → Opens old new 0
opens old new session was is fresh = subst (λ (held : Option Session). Opens held new 0) (sym was) (inl (refl, (session, is, fresh)))
