use Rattle.tv_core.proofs.Common.{◌≡◌, ◌⊎◌, ℕ, List, Result, Ok, Err, inl, inr, refl, rules}
use Rattle.std.specs.Prelude.{IfOk, IfErr}
use Rattle.tv_tape.specs.Tape.{tape_of}
use Rattle.tv_tape.specs.declared.items.TapeFault.{TapeFault}
use Rattle.tv_tape.specs.declared.items.TapeFault.TheVariants as tape
use Rattle.tv_plan.specs.Tapes.{numbers_of, tape_stop}
use Rattle.tv_plan.proofs.Common.{Makes, What}
use Rattle.tv_plan.proofs.ContainerReads.{came}
use Rattle.tv_plan.proofs.Flawed.{numbers_flawed}
use Rattle.tv_plan.proofs.LookLaws.{finds_unread, made_found}
use Rattle.tv_plan.proofs.tapes.read_numbers.Goals as goal

-- what reading a tape makes of a text
made : {X : Type 0} (Kept : Type 0) (view : X → List ℕ) (word : ℕ) (what : What) (below most : ℕ) (text : List ℕ) (read : Result X TapeFault)
    → IfOk read (λ v. tape_of text below most ≡ Ok (view v)) →
    IfErr read (λ fault. (tape_of text below most ≡ Err fault) ⊎ ((fault ≡ tape.Memory) × Kept))
    → Makes view (numbers_of word what below most text) (came (tape_stop word what) read)
unfolding numbers_of
made Kept view word what below most text (Ok v) is bad = rw is refl
made Kept view word what below most text (Err tape.Memory) is bad = tt
made Kept view word what below most text (Err (tape.BadItem at)) is (inl due) = rw due refl
made Kept view word what below most text (Err (tape.BadItem at)) is (inr memory) = let is = memory.0 in cc
made Kept view word what below most text (Err (tape.TooBig at)) is (inl due) = rw due refl
made Kept view word what below most text (Err (tape.TooBig at)) is (inr memory) = let is = memory.0 in cc
made Kept view word what below most text (Err (tape.TooMany many)) is (inl due) = rw due refl
made Kept view word what below most text (Err (tape.TooMany many)) is (inr memory) = let is = memory.0 in cc

pub returns-in_err-text-clause-found : goal.returns-in_err-text-clause-found
returns-in_err-text-clause-found g c = finds_unread _ _ _ _ _ _ _ _ _ c.from_residual.ensures.1 c.in_err-text.ensures

pub returns-clause-found : goal.returns-clause-found
returns-clause-found g c =
    let came : c.map_err.result ≡ came (tape_stop c.args.place.word c.args.what) c.read_tape.result = search rules in
    made_found _ _ _ _ _ _ _ _ _ _ _ _ c.in_ok-text.ensures c.deref.ensures.value
    (rw came (made _
    (λ v. v.items) c.args.place.word c.args.what c.args.below c.args.most c.deref.result.now c.read_tape.result c.read_tape.ensures.numbers
    c.read_tape.ensures.fault)) (numbers_flawed _ _ _ _ _)
