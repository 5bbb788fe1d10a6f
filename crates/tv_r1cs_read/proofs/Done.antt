-- Constraints that were read, and those ahead.
use Rattle.tv_core.proofs.Common.{◌≡◌, ℕ, ◌+◌, ◌-◌, ◌*◌, ◌<◌, suc, List, ◌∷◌, ◌++◌, length, Option, None, [], Result, Ok, Err}
use Rattle.tv_core.proofs.Common.{append_assoc, append-nil, arith, ap, refl, sym, ◌∙◌, length-map, Constraint}
use Rattle.std.proofs.Common.{MatchOption, zero-add}
use Rattle.std.proofs.lemmas.List.{length_push}
use Rattle.std.proofs.lemmas.List.Sums.{sum_by_push}
use Rattle.tv_core.specs.Meanings.{terms_of}
use Rattle.tv_r1cs_read.specs.declared.header.Header.{Header}
use Rattle.tv_r1cs_read.specs.declared.rows.Row.{Row}
use Rattle.tv_container.specs.declared.sections.Section.{Section}
use Rattle.tv_container.specs.declared.why.ReadRefusal.{ReadRefusal}
use Rattle.tv_container.specs.Places.{Fault, ◌>>=◌}
use Rattle.tv_r1cs_read.specs.Places.{IsAt, IsAll, Stand}
use Rattle.tv_r1cs_read.specs.Progress.{Reached, Follows, IsWithin, ahead, terms_given}
use Rattle.tv_r1cs_read.specs.R1cs.{constraint_at, constraints_from, r1cs_system}
use Rattle.tv_container.specs.Reading.{Refuses}
use Rattle.tv_r1cs_read.specs.Rows.{constraint_of, terms_in}
use Rattle.tv_r1cs_read.specs.Steps.{Failed, Passed}
use Rattle.tv_r1cs_read.specs.Survey.{survey_of}
use Rattle.tv_container.proofs.Chain.{either_way, refuses_first}
use Rattle.tv_r1cs_read.proofs.Constraints.{constraints_from-next}

-- the next one goes after those that were read
stand_more : (file : List ℕ) (wires end at mid next : ℕ) (done : List Constraint) (one : Constraint) → Stand file wires end at done mid →
    constraint_at file wires end mid ≡ Ok (record { value = one; next = next }) → Stand file wires end at (done ++ one ∷ []) next
stand_more file wires end at mid next [] one here is = (next, rw here is, refl)
stand_more file wires end at mid next (c ∷ cs) one stand is = (stand.0, stand.1, stand_more file wires end stand.0 mid next cs one stand.2 is)

-- after those that stand, the others are read
add_more : (front : Constraint) (done : List Constraint) (others : Result (List Constraint) Fault) →
    ((others >>= λ more. Ok (done ++ more)) >>= λ more. Ok (front ∷ more)) ≡ (others >>= λ more. Ok (front ∷ done ++ more))
add_more front done (Ok more) = refl
add_more front done (Err fault) = refl

add_none : (others : Result (List Constraint) Fault) → others ≡ (others >>= λ more. Ok more)
add_none (Ok more) = refl
add_none (Err fault) = refl

stand_read : (file : List ℕ) (rows : Section) (wires left at next : ℕ) (done : List Constraint) → Stand file wires (rows.at + rows.size) at done next →
    constraints_from file wires rows (length done + left) at ≡ (do
      others ← constraints_from file wires rows left next
      Ok (done ++ others))
stand_read file rows wires left at next [] here =
    rw here (ap (λ n. constraints_from file wires rows n next) (zero-add left) ∙ add_none (constraints_from file wires rows left next))
stand_read file rows wires left at next (c ∷ cs) stand =
    constraints_from-next file wires (suc (length cs) + left) (length cs + left) at rows _ (omega arith) stand.1
    ∙ ap (λ read. read >>= (λ others. Ok (c ∷ others))) (stand_read file rows wires left stand.0 next cs stand.2)
    ∙ add_more c cs (constraints_from file wires rows left next)

-- all constraints are those that were read, and after them those that are ahead
pub read_is : (file : List ℕ) (reached : Reached) (rows : List Constraint) → IsAt reached file rows →
    constraints_from file reached.header.wires reached.header.rows reached.header.constraints reached.header.rows.at ≡ (do
      others ← ahead reached file
      Ok (rows ++ others))
read_is file reached rows place =
    let header = reached.header in
    ap (λ n. constraints_from file header.wires header.rows n header.rows.at) (sym place.count)
    ∙ stand_read file header.rows header.wires reached.left header.rows.at reached.at rows place.stand

-- in the end all were read
read_all : (file : List ℕ) (reached : Reached) (rows : List Constraint) → IsAt reached file rows → ahead reached file ≡ Ok [] →
    constraints_from file reached.header.wires reached.header.rows reached.header.constraints reached.header.rows.at ≡ Ok rows
read_all file reached rows place none = read_is file reached rows place ∙ rw (none, append-nil) refl

-- what is refused of the constraints ahead is refused of the system
pub refuses_ahead : (file : List ℕ) (reached : Reached) (rows : List Constraint) (why : ReadRefusal) → IsAt reached file rows →
    Refuses why (ahead reached file) → Refuses why (r1cs_system file)
unfolding r1cs_system
refuses_ahead file reached rows why place refuses =
    rw (place.header, read_is file reached rows place) (refuses_first why _ _ (refuses_first why _ _ refuses))

-- a row has the terms of its constraint
terms_of_row : (row : Row) → terms_of (constraint_of row) ≡ terms_in row
terms_of_row row = simp length-map

-- one constraint more was read
pub one_more : (file : List ℕ) (old new : Reached) (rows : List Constraint) (next : Constraint) → IsAt old file rows → Follows new file →
    new.header ≡ old.header → new.left + 1 ≡ old.left → new.terms ≡ old.terms + terms_of next →
    constraint_at file old.header.wires (old.header.rows.at + old.header.rows.size) old.at ≡ Ok (record { value = next; next = new.at })
    → IsAt new file (rows ++ next ∷ [])
one_more file old new rows next place follows same fewer terms read = record {
  follows = follows;
  header = rw same place.header;
  stand = rw same (stand_more file _ _ _ _ _ rows next place.stand read);
  count = rw same (omega (arith, fewer, place.count, length_push rows next));
  terms = terms ∙ ap (λ n. n + terms_of next) place.terms ∙ sym (sum_by_push terms_of rows next);
}

-- a constraint of n terms is returned
pub terms_rise : (header : Header) (at left n : ℕ) → IsWithin header at left → 0 < left →
    terms_given header (at + 12 + 12 * n) (left - 1) ≡ terms_given header at left + n
terms_rise header at left n is some = omega (arith, is.ahead, is.counted)

-- and it was a row's
pub next_at : (file : List ℕ) (old new : Reached) (rows : List Constraint) (row : Row) → IsAt old file rows → Follows new file →
    new.header ≡ old.header → new.left + 1 ≡ old.left → new.terms ≡ old.terms + terms_in row →
    constraint_at file old.header.wires (old.header.rows.at + old.header.rows.size) old.at ≡ Ok (record { value = constraint_of row; next = new.at })
    → IsAt new file (rows ++ constraint_of row ∷ [])
next_at file old new rows row place follows same fewer terms read =
    one_more file old new rows (constraint_of row) place follows same fewer (terms ∙ ap (λ n. old.terms + n) (sym (terms_of_row row))) read

-- no constraint is left
pub all_at : (file : List ℕ) (reached : Reached) (rows : List Constraint) → IsAt reached file rows → reached.left ≡ 0 → ahead reached file ≡ Ok [] →
    IsAll reached file rows
unfolding r1cs_system survey_of
all_at file reached rows place none end =
    let header = reached.header in
    let all = read_all file reached rows place end in
    let count : length rows ≡ header.constraints = omega (arith, place.count, none) in
    record {
      place = place;
      system = rw (place.header, all) refl;
      counts = rw (place.header, all, count, place.terms) refl;
    }

-- those that were tried last were passed too
pub passed_all : (file : List ℕ) (z : List ℕ) (reached : Reached) (rows more : List Constraint) →
    MatchOption reached.stopped (Failed None z reached file (rows ++ more)) (λ why. Refuses why (r1cs_system file)) →
    MatchOption reached.stopped (Passed reached file rows) (λ why. Refuses why (r1cs_system file))
passed_all file z reached rows more ended = either_way {Q = Passed reached file rows} reached.stopped ended
    (λ all. (more ++ all.0, rw (← append_assoc rows more all.0) all.1)) (λ why refuses. refuses)

-- what is given where reading is on
pub is_on : {Gives : Type 0} (file : List ℕ) (stopped : Option ReadRefusal) → stopped ≡ None → Gives
    → MatchOption stopped Gives (λ why. Refuses why (r1cs_system file))
is_on file stopped on gives = rw on gives
