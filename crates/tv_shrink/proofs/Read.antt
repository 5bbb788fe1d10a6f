-- Terms that were read, made normal.
use Rattle.tv_core.proofs.Common.{◌≡◌, ℕ, Bool, true, ◌+◌, ◌<◌, ◌≤◌, ◌^◌, List, ◌∷◌, ◌++◌, Option, Some, None, refl, sym, ◌∙◌, ap, subst, arith, append-nil}
use Rattle.tv_core.proofs.Common.{cond_both, inl, inr, [], cond, length, Result, Ok, Err, top, Combination, Constraint, normal}
use Rattle.std.proofs.Common.{ltb}
use Rattle.std.specs.Prelude.{IsErrAnd}
use Rattle.std.specs.List.{AllByRecursion, All}
use Rattle.std.specs.Option.{option_or}
use Rattle.tv_container.specs.Places.{Fault, ◌>>=◌, wrong}
use Rattle.tv_container.proofs.Chain.{err_is, stopped_here}
use Rattle.tv_container.specs.Reading.{Refuses, StoppedBy}
use Rattle.tv_container.specs.declared.why.ReadRefusal.{ReadRefusal}
use Rattle.tv_container.specs.declared.why.ReadRefusal.TheVariants as refusal
use Rattle.tv_core.specs.Meanings.{system_counts}
use Rattle.tv_files.specs.Outside.{Outside}
use Rattle.tv_r1cs_read.specs.Places.{IsAt, system_with}
use Rattle.tv_r1cs_read.specs.Progress.{Reached, ahead, counts_of, IsBegun}
use Rattle.tv_r1cs_read.specs.R1cs.{r1cs_system}
use Rattle.tv_r1cs_read.proofs.Done.{read_is}
use Rattle.tv_shrink.specs.declared.fault.ShrinkFault.{ShrinkFault}
use Rattle.tv_shrink.specs.declared.fault.ShrinkFault.TheVariants as fault
use Rattle.std.proofs.lemmas.Grind.{flat_map-append}
use Rattle.std.proofs.lemmas.Bool.{cases_Bool, ltb-false}
use Rattle.std.proofs.lemmas.List.Elements.{recursion_from_All}
use Rattle.tv_container.specs.declared.why.ReadWhy.{ReadWhy}
use Rattle.tv_core.specs.declared.lines.Counts.{Counts}
use Rattle.tv_r1cs_read.specs.Survey.{survey_of}
use Rattle.tv_core.specs.Constraints.{System}
use Rattle.tv_r1cs_read.specs.Rows.{combination_of, constraint_of, IsOver}
use Rattle.tv_r1cs_read.specs.declared.rows.Row.{Row}
use Rattle.tv_shrink.specs.Answers.{first_wide, read_fault, holds_by_constants, start_row, start_rows, wide, wide_in, all_terms, most, Halted, HaltsBy, IsLong}
use Rattle.tv_shrink.specs.Answers.{IsReady, IsSmall, IsTooWide, FaultMeans, Leaves}
use Rattle.tv_core.specs.Normal.{normal_constraint, IsNormalConstraint}
use Rattle.tv_core.proofs.NormalLaws.{Over, Over-normal, IsNormalFrom-normal}
use Rattle.tv_shrink.specs.Tidy.{AreWithin, RowsAreNormal, IsWithin, RowIsNormal}
use Rattle.tv_shrink.proofs.Elements.{each_pushed}

-- the wires of terms that were read
over_terms : (n : ℕ) (terms : List (ℕ × ℕ)) → AllByRecursion (λ t. t.0 < n) terms → Over (λ v. v < n) (combination_of terms)
over_terms n [] h = tt
over_terms n (t ∷ terms) h = (h.0, over_terms n terms h.1)

pub over_read : (n : ℕ) (terms : List (ℕ × ℕ)) → All (λ t. t.0 < n) terms → Over (λ v. v < n) (normal (combination_of terms))
over_read n terms h = Over-normal (λ v. v < n) (combination_of terms) (over_terms n terms (recursion_from_All (λ t. t.0 < n) terms h))

-- no combination of a constraint is too wide
none_both : (a b : Option ℕ) → option_or a b ≡ None → (a ≡ None) × (b ≡ None)
none_both None b e = (refl, e)
none_both (Some n) b e = absurd (cc)

narrow_short : (x : Combination) → wide x ≡ None → length (normal x) ≤ 128
narrow_short x e =
    elim (cases_Bool (ltb 128 (length (normal x)))) [
      | inl many ↦ let some : Some (length (normal x)) ≡ None = ap (λ b. cond b (Some (length (normal x))) None) (sym many) ∙ e in absurd (cc)
      | inr few ↦ ltb-false 128 (length (normal x)) few
    ]

pub narrow_within : (n : ℕ) (row : Row) → IsOver n row → wide_in (constraint_of row) ≡ None → IsWithin n (normal_constraint (constraint_of row))
narrow_within n row over e =
    let first = none_both (wide (combination_of row.a)) (option_or (wide (combination_of row.b)) (wide (combination_of row.c))) e in
    let others = none_both (wide (combination_of row.b)) (wide (combination_of row.c)) first.1 in
    record {
      a = over_read n row.a over.a;
      b = over_read n row.b over.b;
      c = over_read n row.c over.c;
      short_a = narrow_short (combination_of row.a) first.0;
      short_b = narrow_short (combination_of row.b) others.0;
      short_c = narrow_short (combination_of row.c) others.1;
    }

-- what holds of all rows, and of one more, unless it holds by constants
pub each_started : (R : Option Constraint → Type 0) (rows next : List (Option Constraint)) (c : Constraint) → next ≡ rows ++ start_row c → R (Some c)
    → AllByRecursion R rows → AllByRecursion R next
each_started R rows next c is here h =
    subst (AllByRecursion R) (sym is) (cond_both (holds_by_constants c) [] (Some c ∷ []) (λ more. AllByRecursion R (rows ++ more))
    (λ _. subst (AllByRecursion R) (sym (append-nil rows)) h) (λ _. each_pushed R rows (Some c) here h))

pub length-start_row : (c : Constraint) → length (start_row c) ≤ 1
length-start_row c = cond_both (holds_by_constants c) [] (Some c ∷ []) (λ rows. length rows ≤ 1) (λ _. omega arith) (λ _. omega arith)

pub constraint_normal : (c : Constraint) → IsNormalConstraint (normal_constraint c)
constraint_normal c = record { a = IsNormalFrom-normal c.a; b = IsNormalFrom-normal c.b; c = IsNormalFrom-normal c.c }

pub pushed_normal : (rows next : List (Option Constraint)) (row : Constraint) → next ≡ rows ++ start_row (normal_constraint row) → RowsAreNormal rows
    → RowsAreNormal next
pushed_normal rows next row is normal =
    each_started RowIsNormal rows next (normal_constraint row) is (constraint_normal row) normal

-- the first wide combination of a list and one more constraint
pub no_wide : first_wide [] ≡ None
unfolding first_wide
no_wide = refl

wide_last : (o : Option ℕ) → option_or o None ≡ o
wide_last None = refl
wide_last (Some n) = refl

first_more : (a b o p : Option ℕ) → (o ≡ None → p ≡ b) → option_or a o ≡ None → option_or a p ≡ b
first_more None b o p later e = later e
first_more (Some n) b o p later e = absurd (cc)

pub wide_more : (list : List Constraint) (c : Constraint) → first_wide list ≡ None → first_wide (list ++ c ∷ []) ≡ wide_in c
unfolding first_wide
wide_more [] c e = wide_last (wide_in c)
wide_more (d ∷ list) c e = first_more (wide_in d) (wide_in c) (first_wide list) (first_wide (list ++ c ∷ [])) (λ k. wide_more list c k) e

first_stays : (a o p : Option ℕ) (n : ℕ) → (o ≡ Some n → p ≡ Some n) → option_or a o ≡ Some n → option_or a p ≡ Some n
first_stays None o p n later e = later e
first_stays (Some m) o p n later e = e

pub wide_front : (list more : List Constraint) (n : ℕ) → first_wide list ≡ Some n → first_wide (list ++ more) ≡ Some n
unfolding first_wide
wide_front [] more n e = absurd (cc)
wide_front (d ∷ list) more n e = first_stays (wide_in d) (first_wide list) (first_wide (list ++ more)) n (λ k. wide_front list more n k) e

-- a refusal has one cause
pub same_cause : {T E : Type 0} (why cause : E) → (let refused : Result T E = Err why in refused) ≡ Err cause → why ≡ cause
same_cause why cause e = cc

-- what a refusal to read says of the file
pub read_means : (why : ReadRefusal) (file : List ℕ) → Refuses why (r1cs_system file) → FaultMeans (read_fault why) file
read_means (refusal.Bad at what) file refuses = refuses.bad at what refl
read_means refusal.Fault file refuses = tt
read_means refusal.Memory file refuses = tt

pub halted : {keeps : Bool} (old new : Outside) (name : List ℕ) (why : ReadRefusal) → StoppedBy keeps old new name why → Halted old new name (read_fault why)
halted old new name (refusal.Bad at what) stopped = record { only = stopped.only; there = stopped.there; leaves = stopped.leaves }
halted old new name refusal.Fault stopped = record { only = stopped.only; there = stopped.there; leaves = stopped.leaves }
halted old new name refusal.Memory stopped = record {
  only = stopped.only;
  there = stopped.there;
  leaves = elim stopped.leaves [ inl ran_out ↦ inr ran_out | inr own ↦ inl own.1 ];
}

-- a constraint is too wide by its first combination that is
pub too_wide_front : (why : ShrinkFault) (o p : Option ℕ) → IsTooWide why o → IsTooWide why (option_or o p)
too_wide_front (fault.Bad at what) o p e = e
too_wide_front (fault.Terms has) o p e = e
too_wide_front (fault.Combination has) o p e = ap (λ q. option_or q p) e
too_wide_front fault.Fault o p e = e
too_wide_front fault.Memory o p e = tt

-- shrinking that ends in a refusal stopped as it did
pub halts_err : {T : Type 0} (old new after : Outside) (name : List ℕ) (why : ShrinkFault) (result : Result T ShrinkFault) → IsErrAnd result (λ e. e ≡ why)
    → Halted old after name why → new ≡ after → HaltsBy old new name result
halts_err old new after name why result ends stopped is = rw (err_is result ends, is) stopped

-- a refusal that says what is wrong leaves all as it was
pub still_halted : (old new : Outside) (name : List ℕ) (why : ShrinkFault) → new ≡ old → Leaves why old old → Halted old new name why
still_halted old new name why is leaves =
    let here = stopped_here {keeps = true} old name refusal.Memory (record { known = λ same. absurd (cc); memory = λ same. refl }) in
    subst (λ outside. Halted old outside name why) (sym is) (record { only = here.only; there = here.there; leaves = leaves })

-- a constraint that is too wide leaves all as it was
pub wide_halted : (outside : Outside) (name : List ℕ) (why : ShrinkFault) (found : Option ℕ) → IsTooWide why found → Halted outside outside name why
wide_halted outside name (fault.Bad at why) found e = absurd e
wide_halted outside name (fault.Terms has) found e = absurd e
wide_halted outside name (fault.Combination has) found e = still_halted outside outside name (fault.Combination has) refl refl
wide_halted outside name fault.Fault found e = absurd e
wide_halted outside name fault.Memory found e = still_halted outside outside name fault.Memory refl (inl refl)

-- where reading has returned some constraints, they are the system's first
is_front : (reached : Reached) (file : List ℕ) (done : List Constraint) (system : System) → IsAt reached file done → r1cs_system file ≡ Ok system
    → (others : List Constraint) × (system.constraints ≡ done ++ others)
unfolding r1cs_system
is_front reached file done system at is = by_list (ahead reached file) refl
  where
    by_list : (left : Result (List Constraint) Fault) → ahead reached file ≡ left → (others : List Constraint) × (system.constraints ≡ done ++ others)
    by_list (Ok others) e =
        let all = rw e at (read_is file reached done at) in
        let whole = rw (at.header, all) at is in
        let same : system_with reached.header (done ++ others) ≡ system = cc in
        (others, ap (λ (s : System). s.constraints) (sym same))
    by_list (Err fault) e =
        let all = rw e at (read_is file reached done at) in
        let whole = rw (at.header, all) at is in
        absurd (cc)

-- a constraint that is too wide, in the file of a system within the limit of terms
pub wide_read : (why : ShrinkFault) (reached : Reached) (file : List ℕ) (done : List Constraint) (c : Constraint) → IsSmall file → first_wide done ≡ None
    → IsAt reached file (done ++ c ∷ []) → IsTooWide why (wide_in c) → FaultMeans why file
wide_read (fault.Bad place why) reached file done c small none at err = absurd err
wide_read (fault.Terms has) reached file done c small none at err = absurd err
wide_read (fault.Combination has) reached file done c small none at err =
    let front = is_front reached file (done ++ c ∷ []) small.system at small.is in
    record {
      system = small.system;
      is = small.is;
      few = small.few;
      first = ap first_wide front.1
          ∙ wide_front (done ++ c ∷ []) front.0 has (wide_more done c none ∙ err);
    }
wide_read fault.Fault reached file done c small none at err = absurd err
wide_read fault.Memory reached file done c small none at err = tt

-- a system within the limit of terms is the only one that its file holds
pub few_terms : (file : List ℕ) (system : System) → IsSmall file → r1cs_system file ≡ Ok system → all_terms system ≤ most
few_terms file system small is = let both : Ok small.system ≡ Ok system = sym small.is
    ∙ is in let same : small.system ≡ system = cc in subst (λ s. all_terms s ≤ most) same small.few

-- a pass may begin on what was read to the end
pub ready_as_read : (reached : Reached) (rows : List (Option Constraint)) (left : ℕ) → IsBegun reached → length rows + left ≤ reached.left
    → AreWithin reached.header.wires rows → RowsAreNormal rows → reached.header.wires < 2 ^ 32 → reached.header.constraints < 2 ^ 32
    → IsReady (counts_of reached) rows
ready_as_read reached rows left begun counted within normal wires few =
    record { room = begun.room; within = within; normal = normal; few = omega (arith, begun.left, counted); fits = wires }

-- one more constraint
pub left_falls : (left before : ℕ) → left + 1 ≡ before → left < before
left_falls left before e = omega arith

pub start_more : (done : List Constraint) (c : Constraint) → start_rows (done ++ c ∷ []) ≡ start_rows done ++ start_row (normal_constraint c)
start_more done c =
    flat_map-append (λ d. start_row (normal_constraint d)) done (c ∷ [])
    ∙ ap (λ rows. start_rows done ++ rows) (append-nil (start_row (normal_constraint c)))

-- what a survey says of a system
survey_refused : (file : List ℕ) (at : ℕ) (why : ReadWhy) → survey_of file ≡ wrong at why → r1cs_system file ≡ wrong at why
unfolding survey_of
survey_refused file at why e = by_system (r1cs_system file) e
  where
    by_system : (answer : Result System Fault) → (answer >>= (λ system. Ok (system_counts system))) ≡ wrong at why → answer ≡ wrong at why
    by_system (Ok system) e = absurd (cc)
    by_system (Err fault) e = let same : fault ≡ record { at = at; why = why } = cc in ap Err same

survey_system : (file : List ℕ) (counts : Counts) → survey_of file ≡ Ok counts → (system : System) × (r1cs_system file ≡ Ok system)
    × (counts ≡ system_counts system)
unfolding survey_of
survey_system file counts e = by_system (r1cs_system file) refl
  where
    by_system : (answer : Result System Fault) → r1cs_system file ≡ answer
        → (system : System) × (r1cs_system file ≡ Ok system) × (counts ≡ system_counts system)
    by_system (Ok system) is = let counted = rw is at e in let same : system_counts system ≡ counts = cc in (system, is, sym same)
    by_system (Err fault) is = let counted = rw is at e in absurd (cc)

-- and whether the system is within the limit of terms
pub survey_small : (file : List ℕ) (counts : Counts) → survey_of file ≡ Ok counts → counts.terms ≤ most → IsSmall file
survey_small file counts e few =
    let found = survey_system file counts e in
    record { system = found.0; is = found.1; few = omega (arith, ap (λ (c : Counts). c.terms) found.2) }

pub survey_long : (file : List ℕ) (counts : Counts) → survey_of file ≡ Ok counts → most < counts.terms → IsLong counts.terms file
survey_long file counts e many =
    let found = survey_system file counts e in
    record { system = found.0; is = found.1; terms = ap (λ (c : Counts). c.terms) found.2; many = many }

pub survey_means : (why : ReadRefusal) (file : List ℕ) → Refuses why (survey_of file) → FaultMeans (read_fault why) file
survey_means (refusal.Bad at what) file refuses = survey_refused file at what (refuses.bad at what refl)
survey_means refusal.Fault file refuses = tt
survey_means refusal.Memory file refuses = tt

top_within : (n : ℕ) (x : Combination) → Over (λ v. v < n) x → top x ≤ n
top_within n [] h = omega arith
top_within n (t ∷ x) h = omega (arith, h.0, top_within n x h.1)

-- so are those of a combination that they were put into
pub top_put : (n : ℕ) (put terms x : Combination) → put ≡ terms → terms ≡ x → Over (λ v. v < n) x → top put ≤ n
top_put n put terms x is same h = rw (is, same) (top_within n x h)
