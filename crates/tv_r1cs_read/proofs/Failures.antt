-- Constraints that are tried one after another.
use Rattle.tv_core.proofs.Common.{◌≡◌, ℕ, ◌+◌, ◌-◌, Bool, true, false, cond, if◌then◌else◌, List, [], ◌∷◌, ◌++◌, length, Some, None, refl, sym, ap, ◌∙◌}
use Rattle.tv_core.proofs.Common.{append_assoc, append-nil, arith, ◌<◌, Constraint}
use Rattle.std.proofs.Common.{MatchOption, add-zero, length-append}
use Rattle.std.proofs.lemmas.List.{length_push}
use Rattle.tv_core.specs.Meanings.{holds, first_failure}
use Rattle.tv_container.proofs.Chain.{either_way}
use Rattle.tv_container.specs.Reading.{Refuses}
use Rattle.tv_r1cs_read.specs.Places.{IsAll, IsAt}
use Rattle.tv_r1cs_read.specs.Progress.{Reached}
use Rattle.tv_r1cs_read.specs.R1cs.{r1cs_system}
use Rattle.tv_r1cs_read.specs.Steps.{Failed, Fewer, Tried}

-- after constraints that hold, the first that fails is the first of the others
pub after_all : (z : List ℕ) (at : ℕ) (done more : List Constraint) → first_failure z at done ≡ None →
    first_failure z at (done ++ more) ≡ first_failure z (at + length done) more
after_all z at [] more none = ap (λ n. first_failure z n more) (sym (add-zero at))
after_all z at (c ∷ cs) more none = by_test (holds z c) (after_all z (at + 1) cs more) none
  where
    by_test : (test : Bool) → (first_failure z (at + 1) cs ≡ None → first_failure z (at + 1) (cs ++ more) ≡ first_failure z (at + 1 + length cs) more) →
        cond test (first_failure z (at + 1) cs) (Some at) ≡ None
        → cond test (first_failure z (at + 1) (cs ++ more)) (Some at) ≡ first_failure z (at + length (c ∷ cs)) more
    by_test true rest none = rest none ∙ ap (λ n. first_failure z n more) (omega arith)
    by_test false rest none = absurd cc

-- none was tried
abbrev pub over_none : (z : List ℕ) (reached : Reached) (file : List ℕ) (rows : List Constraint) → IsAt reached file rows
    → Tried true z reached reached file rows
over_none z reached file rows place = record { more = []; place = rw append-nil place; count = add-zero reached.left; is = λ at. refl }

-- one more was tried
pub over_more : (z : List ℕ) (first old new : Reached) (file : List ℕ) (rows : List Constraint) (constraint : Constraint) (test : Bool) →
    (over : Tried true z first old file rows) → IsAt new file ((rows ++ over.more) ++ constraint ∷ []) → test ≡ holds z constraint
    → new.left + 1 ≡ old.left →
    Tried test z first new file rows
over_more z first old new file rows constraint test over place is left = record {
  more = over.more ++ constraint ∷ [];
  place = rw (← append_assoc rows over.more (constraint ∷ [])) place;
  count = omega (arith, left, over.count, length_push over.more constraint);
  is = λ at. after_all z at over.more (constraint ∷ []) (over.is at) ∙ by_test at test is;
}
  where
    by_test : (at : ℕ) (test : Bool) → test ≡ holds z constraint →
        first_failure z (at + length over.more) (constraint ∷ []) ≡ (if test then None else Some (at + length (over.more ++ constraint ∷ []) - 1))
    by_test at true is = rw (← is) refl
    by_test at false is = rw (← is) (ap (λ (n : ℕ). Some n) (omega (arith, length_push over.more constraint)))

-- one was tried
pub over_one : (z : List ℕ) (old new : Reached) (file : List ℕ) (rows : List Constraint) (constraint : Constraint) (test : Bool) → IsAt old file rows →
    IsAt new file (rows ++ constraint ∷ []) → test ≡ holds z constraint → new.left + 1 ≡ old.left → Tried test z old new file rows
over_one z old new file rows constraint test place next is left =
    over_more z old old new file rows constraint test (over_none z old file rows place) (rw append-nil next) is left

-- others were tried after those that hold
pub over_over : (z : List ℕ) (first old new : Reached) (file : List ℕ) (rows : List Constraint) (test : Bool) →
    (over : Tried true z first old file rows) → Tried test z old new file (rows ++ over.more) → Tried test z first new file rows
over_over z first old new file rows test over later = record {
  more = over.more ++ later.more;
  place = rw (← append_assoc rows over.more later.more) later.place;
  count = omega (arith, over.count, later.count, length-append over.more later.more);
  is = λ at. after_all z at over.more later.more (over.is at) ∙ later.is (at + length over.more) ∙ by_test at test;
}
  where
    by_test : (at : ℕ) (test : Bool) → (if test then None else Some (at + length over.more + length later.more - 1))
        ≡ (if test then None else Some (at + length (over.more ++ later.more) - 1))
    by_test at true = refl
    by_test at false = ap (λ (n : ℕ). Some n) (omega (arith, length-append over.more later.more))

-- fewer are left
pub fewer : (holds : Bool) (old new : ℕ) → new < old → Fewer holds old new
fewer true old new less = omega (arith, less)
fewer false old new less = less

-- one of those that were tried doesn't hold
pub failed : (z : List ℕ) (old new : Reached) (file : List ℕ) (rows more : List Constraint) (all before : ℕ) → first_failure z 0 more ≡ None →
    Tried false z old new file (rows ++ more) → old.left + length more ≡ all → before + 1 + new.left ≡ all → Failed (Some before) z new file rows
failed z old new file rows more all before none over count place = (
  more ++ over.more,
  rw (← append_assoc rows more over.more) over.place,
  omega (arith, over.count, length-append more over.more),
  after_all z 0 more over.more none ∙ over.is (0 + length more) ∙ ap (λ (n : ℕ). Some n) (omega (arith, over.count)),
)

-- all hold, or reading stopped
pub none_failed : (z : List ℕ) (reached : Reached) (file : List ℕ) (rows more : List Constraint) → first_failure z 0 more ≡ None →
    MatchOption reached.stopped (IsAll reached file (rows ++ more)) (λ why. Refuses why (r1cs_system file)) →
    MatchOption reached.stopped (Failed None z reached file rows) (λ why. Refuses why (r1cs_system file))
none_failed z reached file rows more none ended =
    either_way {Q = Failed None z reached file rows} reached.stopped ended (λ all. (more, all, none)) (λ why refuses. refuses)
