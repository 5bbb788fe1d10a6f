-- A counted list, whose constraints fit, with one constraint more, and with one wire more.
use Rattle.std.proofs.Common.{◌≡◌, ℕ, ◌+◌, ◌≤◌, List, [], ◌∷◌, ◌++◌, length, arith, length-append}
use Rattle.std.specs.List.{AllByRecursion}
use Rattle.std.proofs.lemmas.List.Sums.{sum_by_push}
use Rattle.tv_core.specs.Constraints.{Constraint, Combination}
use Rattle.tv_core.specs.Meanings.{Fits, IsFit, Counted, IsCounted}

Fits-more : (n m : ℕ) (x : Combination) → n ≤ m → Fits n x → Fits m x
Fits-more n m x h fits = record { within = omega (arith, fits.within); short = fits.short }

all_fit-more : (n m : ℕ) (list : List Constraint) → n ≤ m → AllByRecursion (IsFit n) list → AllByRecursion (IsFit m) list
all_fit-more n m [] h fit = tt
all_fit-more n m (c ∷ rest) h fit =
    (record { a = Fits-more n m c.a h fit.0.a; b = Fits-more n m c.b h fit.0.b; c = Fits-more n m c.c h fit.0.c }, all_fit-more n m rest h fit.1)

all_fit-push : (n : ℕ) (list : List Constraint) (c : Constraint) → AllByRecursion (IsFit n) list → IsFit n c → AllByRecursion (IsFit n) (list ++ c ∷ [])
all_fit-push n [] c fit last = (last, tt)
all_fit-push n (x ∷ rest) c fit last = (fit.0, all_fit-push n rest c fit.1 last)

pub IsCounted-wire : (old new : Counted) (list : List Constraint) → new.wires ≡ old.wires + 1 → new.constraints ≡ old.constraints → new.terms ≡ old.terms
    → IsCounted old list → IsCounted new list
IsCounted-wire old new list wires constraints terms before = search (arith, all_fit-more)

pub IsCounted-push : (old new : Counted) (list : List Constraint) (c : Constraint) → new.wires ≡ old.wires → new.constraints ≡ old.constraints + 1
    → new.terms ≡ old.terms + (length c.a + length c.b + length c.c) → IsFit old.wires c → IsCounted old list → IsCounted new (list ++ c ∷ [])
IsCounted-push old new list c wires constraints terms fits before = search (arith, length-append, sum_by_push, length, all_fit-push)
