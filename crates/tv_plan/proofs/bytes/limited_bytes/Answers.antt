use Rattle.tv_core.proofs.Common.{◌≡◌, ℕ, ◌+◌, ◌≤◌, List, length, Some, Result, Ok, Err, inl, inr, refl, arith, rules}
use Rattle.std.proofs.Common.{IfOk}
use Rattle.std.proofs.lemmas.Bool.{le-leb, lt-leb}
use Rattle.tv_files.specs.Outside.{WhereKnown}
use Rattle.tv_files.specs.Whole as whole
use Rattle.tv_files.specs.Whole.{IsLonger}
use Rattle.tv_files.specs.declared.outcome.Slurp.{Slurp}
use Rattle.tv_files.specs.declared.outcome.Slurp.TheVariants as slurp
use Rattle.tv_plan.specs.declared.refusal.Bad.TheVariants.{Limit}
use Rattle.tv_plan.specs.Flaws.{Flaw.{OverLimit}, flaw_of}
use Rattle.tv_plan.specs.Plan.{named}
use Rattle.tv_plan.proofs.Common.{Outside, OnlyReads, Rose, Leaves, Bad, What, Stop, Fault, Memory, Contents, IsFound, Named, input, within}
use Rattle.tv_plan.proofs.ContainerReads.{came}
use Rattle.tv_plan.proofs.LookLaws.{same_outside}
use Rattle.tv_plan.proofs.bytes.limited_bytes.Goals as goal

-- what a refusal of the file at a word stops
abbrev stop_of : ℕ → What → ℕ → Slurp → Stop
stop_of word what most slurp.Fault = Fault word
stop_of word what most slurp.Memory = Memory
stop_of word what most (slurp.TooLong limit) = Contents (Limit what (most + 1) most)

module _ {V : Type 0} (view : V → List ℕ) (place : Named) (what : What) (most : ℕ) where
  known : (old : Outside) (result : Result V Slurp) → IfOk result (λ v. WhereKnown old (λ held. held place.name ≡ Some (view v)))
      → IfOk result (λ v. length (view v) ≤ most) →
      ((limit : ℕ) → result ≡ Err (slurp.TooLong limit) → (limit ≡ most) × WhereKnown old (λ held. IsLonger most (held place.name))) →
      WhereKnown old (λ files. IsFound view (input place (within what most (λ bytes. Ok bytes)) files) (came (stop_of place.word what most) result))
  unfolding input
  known old (Ok v) whole short longer files is = rw (whole files is, le-leb (length (view v)) most short) refl
  known old (Err (slurp.TooLong limit)) whole short longer files is = let long = (longer limit refl).1 files is in
      rw (long.1, lt-leb (length long.0) most long.2) refl
  known old (Err slurp.Fault) whole short longer files is = omega arith
  known old (Err slurp.Memory) whole short longer files is = tt

  caused : (result : Result V Slurp) (at : ℕ) → came (stop_of place.word what most) result ≡ Err (Fault at) → (at ≡ place.word) × (result ≡ Err slurp.Fault)
  caused (Err slurp.Fault) at e = (cc, refl)
  caused (Ok v) at e = cc
  caused (Err slurp.Memory) at e = cc
  caused (Err (slurp.TooLong limit)) at e = cc

  spared : (result : Result V Slurp) (old new : Outside) → OnlyReads old new → whole.Leaves result old new
      → Leaves (came (stop_of place.word what most) result) old new
  spared (Ok v) old new only same = same_outside only same
  spared (Err (slurp.TooLong limit)) old new only same = same_outside only same
  spared (Err slurp.Fault) old new only rose = tt
  spared (Err slurp.Memory) old new only (inl same) = inl (same_outside only same)
  spared (Err slurp.Memory) old new only (inr rose) = inr rose

  faulty : (result : Result V Slurp) (old new : Outside) → whole.Leaves result old new → result ≡ Err slurp.Fault → Rose old.read_faults new.read_faults
  faulty (Err slurp.Fault) old new rose is = rose
  faulty (Ok v) old new leaves is = cc
  faulty (Err slurp.Memory) old new leaves is = cc
  faulty (Err (slurp.TooLong limit)) old new leaves is = cc

  flawed : (result : Result V Slurp) (why : Bad) → came (stop_of place.word what most) result ≡ Err (Contents why) → flaw_of why ≡ OverLimit what
  flawed (Err (slurp.TooLong _)) why e = let same : Limit what (most + 1) most ≡ why = cc in rw (← same) refl
  flawed (Ok v) why e = cc
  flawed (Err slurp.Fault) why e = cc
  flawed (Err slurp.Memory) why e = cc

pub returns : goal.returns
unfolding input
returns g c =
    let came : c.map_err.result ≡ came (stop_of c.args.place.word c.args.what c.args.most) c.slurp.result = search rules in
    let slurped = c.slurp.ensures in
    let place = named c.args.place in
    rw came (record {
      known = known (λ v. v.items) place c.args.what c.args.most (g.D.Files.seen c.args.files.now) c.slurp.result slurped.whole slurped.short slurped.longer;
      absent = λ files known. elim (slurped.there files known) [ inl same ↦ inl same | inr none ↦ inr (place.word, rw none refl) ];
      only = slurped.only;
      leaves = spared (λ v. v.items) place c.args.what c.args.most c.slurp.result _ _ slurped.only slurped.leaves;
      caused = λ at e. let cause = caused (λ v. v.items) place c.args.what c.args.most c.slurp.result at e in
          (inl cause.0, faulty (λ v. v.items) place c.args.what c.args.most c.slurp.result _ _ slurped.leaves cause.1);
      flaws = λ why e. inl (flawed (λ v. v.items) place c.args.what c.args.most c.slurp.result why e);
    })
