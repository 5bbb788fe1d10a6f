-- The verdict by the constraints that were tried.
use Rattle.tv_core.proofs.Common.{◌≡◌, ◌≢◌, ℕ, ◌+◌, ◌==◌, Bool, true, false, cond, List, [], ◌∷◌, ◌++◌, length, take, Option, Some, None, Result, Ok, Err, refl}
use Rattle.tv_core.proofs.Common.{sym, ap, ◌∙◌, Constraint}
use Rattle.std.proofs.Common.{MatchOption}
use Rattle.tv_core.specs.Constraints.{System}
use Rattle.tv_core.specs.Meanings.{holds, first_failure}
use Rattle.tv_r1cs_read.specs.declared.header.Header.{Header}
use Rattle.tv_container.specs.declared.why.ReadRefusal.{ReadRefusal}
use Rattle.tv_container.specs.Reading.{Refuses, ReadsAs}
use Rattle.tv_r1cs_read.specs.Places.{IsAll, system_with}
use Rattle.tv_r1cs_read.specs.Progress.{Reached}
use Rattle.tv_r1cs_read.specs.R1cs.{r1cs_system}
use Rattle.tv_r1cs_read.specs.Steps.{Failed}
use Rattle.tv_container.proofs.Chain.{refuses_first}
use Rattle.tv_check.specs.declared.verdict.Verdict.{Verdict}
use Rattle.tv_check.specs.declared.verdict.Verdict.TheVariants.{NoConstraint, Yes, WireCount}
use Rattle.tv_check.specs.Verdict.{first_difference, constraint_verdict, public_verdict, judge, verdict_of}

by_failure : (test : Bool) (public failing first : Option ℕ) (has wants : ℕ) → cond test (public_verdict public Yes) (WireCount has wants) ≡ Yes →
    failing ≡ first → cond test (public_verdict public (constraint_verdict failing)) (WireCount has wants) ≡ constraint_verdict first
by_failure true None failing first has wants decides is = ap constraint_verdict is
by_failure true (Some k) failing first has wants decides is = absurd cc
by_failure false public failing first has wants decides is = absurd cc

-- where no public wire decides, the first constraint that fails does
pub judge-failure : (header : Header) (z x : List ℕ) (done : List Constraint) (first : Option ℕ) → judge (system_with header []) z x ≡ Yes →
    first_failure z 0 done ≡ first → judge (system_with header done) z x ≡ constraint_verdict first
judge-failure header z x done first decides is =
    by_failure (length z == header.wires) (first_difference (1 ∷ x) (take (1 + header.outputs + header.inputs) z)) (first_failure z 0 done) first
    (length z) header.wires decides is

-- the verdict on a system that was read, and what is refused of it
pub verdict_of-read : (file z x : List ℕ) (system : System) → r1cs_system file ≡ Ok system → verdict_of file z x ≡ Ok (judge system z x)
unfolding verdict_of
verdict_of-read file z x system is = rw is refl

pub verdict_of-refuses : (file z x : List ℕ) (why : ReadRefusal) → Refuses why (r1cs_system file) → Refuses why (verdict_of file z x)
unfolding verdict_of
verdict_of-refuses file z x why refuses = refuses_first why _ _ refuses

-- the first that fails is the first whatever is after it
fails_still : (z : List ℕ) (at k : ℕ) (done rest : List Constraint) → first_failure z at done ≡ Some k → first_failure z at (done ++ rest) ≡ Some k
fails_still z at k [] rest is = absurd cc
fails_still z at k (c ∷ cs) rest is = by_test (holds z c) (fails_still z (at + 1) k cs rest) is
  where
    by_test : (test : Bool) → (first_failure z (at + 1) cs ≡ Some k → first_failure z (at + 1) (cs ++ rest) ≡ Some k) →
        cond test (first_failure z (at + 1) cs) (Some at) ≡ Some k → cond test (first_failure z (at + 1) (cs ++ rest)) (Some at) ≡ Some k
    by_test true later is = later is
    by_test false later is = is

by_first : (test : Bool) (public first all : Option ℕ) (has wants : ℕ) → ((k : ℕ) → first ≡ Some k → all ≡ Some k) →
    cond test (public_verdict public (constraint_verdict first)) (WireCount has wants) ≢ Yes →
    cond test (public_verdict public (constraint_verdict all)) (WireCount has wants)
    ≡ cond test (public_verdict public (constraint_verdict first)) (WireCount has wants)
by_first true None None all has wants still other = absurd (other refl)
by_first true None (Some k) all has wants still other = rw (still k refl) refl
by_first true (Some k) first all has wants still other = refl
by_first false public first all has wants still other = refl

-- a no stays, whatever constraints are after those that were tried
pub judge-stays : (header : Header) (z x : List ℕ) (done rest : List Constraint) → judge (system_with header done) z x ≢ Yes →
    judge (system_with header (done ++ rest)) z x ≡ judge (system_with header done) z x
judge-stays header z x done rest other =
    by_first (length z == header.wires) (first_difference (1 ∷ x) (take (1 + header.outputs + header.inputs) z)) (first_failure z 0 done)
    (first_failure z 0 (done ++ rest))
    (length z) header.wires (λ k is. fails_still z 0 k done rest is) other

-- the verdict on constraints that are all, or the file's first fault
pub read_ends : (stopped : Option ReadRefusal) (file z x : List ℕ) (reached : Reached) (header : Header) (rows : List Constraint) (verdict : Verdict) →
    MatchOption stopped (IsAll reached file rows) (λ why. Refuses why (r1cs_system file)) → reached.header ≡ header
    → verdict ≡ judge (system_with header rows) z x →
    MatchOption stopped (verdict_of file z x ≡ Ok verdict) (λ why. Refuses why (verdict_of file z x))
read_ends None file z x reached header rows verdict all same is =
    let system = rw same at all.system in
    verdict_of-read file z x (system_with header rows) system ∙ rw (← is) refl
read_ends (Some why) file z x reached header rows verdict refuses same is = verdict_of-refuses file z x why refuses

-- the same where all of them were tried, and hold
pub read_holds : (stopped : Option ReadRefusal) (file z x : List ℕ) (reached : Reached) (header : Header) (verdict : Verdict) →
    MatchOption stopped (Failed None z reached file []) (λ why. Refuses why (r1cs_system file)) → reached.header ≡ header →
    judge (system_with header []) z x ≡ Yes → verdict ≡ Yes → MatchOption stopped (verdict_of file z x ≡ Ok verdict) (λ why. Refuses why (verdict_of file z x))
read_holds None file z x reached header verdict all same decides is =
    read_ends None file z x reached header all.0 verdict all.1 same (is ∙ sym (judge-failure header z x all.0 None decides all.2))
read_holds (Some why) file z x reached header verdict refuses same decides is = verdict_of-refuses file z x why refuses

-- a constraint that fails is no Yes
pub failed_no : {verdict : Verdict} {at : ℕ} → verdict ≡ NoConstraint at → verdict ≢ Yes
failed_no is same = cc

-- and on those that were tried, where the verdict is the same whatever was passed after them
pub read_passes : (stopped : Option ReadRefusal) (file z x : List ℕ) (reached : Reached) (header : Header) (done : List Constraint) (verdict : Verdict) →
    MatchOption stopped ((rest : List Constraint) × IsAll reached file (done ++ rest)) (λ why. Refuses why (r1cs_system file)) → reached.header ≡ header →
    ((rest : List Constraint) → verdict ≡ judge (system_with header (done ++ rest)) z x) →
    MatchOption stopped (verdict_of file z x ≡ Ok verdict) (λ why. Refuses why (verdict_of file z x))
read_passes None file z x reached header done verdict all same is =
    read_ends None file z x reached header (done ++ all.0) verdict all.1 same (is all.0)
read_passes (Some why) file z x reached header done verdict refuses same is = verdict_of-refuses file z x why refuses

-- what is so of the verdict or of why reading stopped is so of the answer
pub answers : (stopped : Option ReadRefusal) (answer : Result Verdict ReadRefusal) (verdict : Verdict) (file z x : List ℕ) →
    MatchOption stopped (answer ≡ Ok verdict) (λ why. answer ≡ Err why) →
    MatchOption stopped (verdict_of file z x ≡ Ok verdict) (λ why. Refuses why (verdict_of file z x)) → ReadsAs answer (verdict_of file z x)
answers None answer verdict file z x is so = rw is so
answers (Some why) answer verdict file z x is so = rw is so
