-- A step of reading, by its place in the file.
use Rattle.tv_core.proofs.Common.{◌≡◌, ℕ, ◌+◌, ◌-◌, ◌*◌, ◌<◌, ◌≤◌, Bool, false, List, [], ◌∷◌, ◌++◌, Option, Some, None, Ok, Err, refl, sym, ◌∙◌, arith}
use Rattle.tv_core.proofs.Common.{Constraint}
use Rattle.tv_core.specs.Meanings.{terms_of}
use Rattle.tv_files.specs.Outside.{Outside}
use Rattle.tv_container.specs.declared.why.ReadRefusal.{ReadRefusal}
use Rattle.tv_container.specs.Places.{places}
use Rattle.tv_container.specs.Reading.{IsPiece, Piece, ReadsIn, ReadsInBy, Refuses}
use Rattle.tv_r1cs_read.specs.declared.header.Header.{Header}
use Rattle.tv_r1cs_read.specs.declared.rows.Row.{Row}
use Rattle.tv_r1cs_read.specs.declared.terms.Bounds.{Bounds}
use Rattle.tv_r1cs_read.specs.Places.{IsAt}
use Rattle.tv_r1cs_read.specs.Progress.{IsWithin, Reached, terms_given}
use Rattle.tv_r1cs_read.specs.R1cs.{constraint_at}
use Rattle.tv_r1cs_read.specs.Rows.{constraint_of, constraint_read, terms_in}
use Rattle.tv_r1cs_read.specs.Steps.{Steps, Tried}
use Rattle.tv_r1cs_read.specs.Sums.{IsTried}
use Rattle.tv_r1cs_read.proofs.Constraints.{constraints_from-refuses}
use Rattle.tv_r1cs_read.proofs.Done.{is_on, next_at, one_more, refuses_ahead, terms_rise}
use Rattle.tv_r1cs_read.proofs.Failures.{over_one}

-- reading at a place, with this many constraints left
abbrev pub reached_at : Header → Piece → (at left : ℕ) → Option ReadRefusal → Reached
reached_at header piece at left stopped = record {
  header = header;
  piece = piece;
  at = at;
  left = left;
  terms = terms_given header at left;
  stopped = stopped;
}

never_stopped : {X : Type 0} (stopped : Option ReadRefusal) (why : ReadRefusal) → stopped ≡ None → stopped ≡ Some why → X
never_stopped stopped why on is = let none : None ≡ Some why = sym on ∙ is in cc

module _ (header : Header) (old new : Piece) (at left : ℕ) (stopped : Option ReadRefusal) (on : stopped ≡ None) (within : IsWithin header at left)
    (some : 0 < left) (bounds : Bounds) (wires : bounds.wires ≡ header.wires) (end : bounds.end ≡ header.rows.at + header.rows.size) where
  -- the next constraint was tried
  pub one_tried : (z file : List ℕ) (rows : List Constraint) (holds : Bool) (next : ℕ) →
      IsAt (reached_at header old at left stopped) file rows → IsPiece new file →
      (tried : IsTried (constraint_at file bounds.wires bounds.end at) z holds at next) →
      IsAt (reached_at header new next (left - 1) stopped) file (rows ++ tried.constraint ∷ [])
  one_tried z file rows holds next place piece tried =
      one_more file (reached_at header old at left stopped) (reached_at header new next (left - 1) stopped) rows tried.constraint place
      (record { piece = piece; within = place.follows.within; on = on }) refl
      (omega (arith, some)) (rw tried.size (terms_rise header at left (terms_of tried.constraint) within some)) (rw (wires, end) at tried.read)

  -- or put into a row
  one_read : (file : List ℕ) (rows : List Constraint) (row : Row) (next : ℕ) → next ≡ at + 12 + 12 * terms_in row →
      IsAt (reached_at header old at left stopped) file rows → IsPiece new file →
      constraint_at file bounds.wires bounds.end at ≡ Ok (constraint_read row next) →
      IsAt (reached_at header new next (left - 1) stopped) file (rows ++ constraint_of row ∷ [])
  one_read file rows row next size place piece read =
      next_at file (reached_at header old at left stopped) (reached_at header new next (left - 1) stopped) rows row place
      (record { piece = piece; within = place.follows.within; on = on }) refl
      (omega (arith, some)) (rw size (terms_rise header at left (terms_in row) within some)) (rw (wires, end) at read)

  pub tried_steps : {T : Type 0} {before after : Outside} {name : List ℕ} {value : T} (z : List ℕ) (holds : Bool) (next : ℕ) →
      ReadsIn before after name old new (Ok value) (λ file. bounds.end ≤ places file → IsTried (constraint_at file bounds.wires bounds.end at) z holds
      at next) →
      Steps false before after name (reached_at header old at left stopped) (reached_at header new next (left - 1) stopped)
      (λ file rows. Tried holds z (reached_at header old at left stopped) (reached_at header new next (left - 1) stopped) file rows)
  tried_steps z holds next reads = record {
    header = refl;
    again = λ why is. never_stopped stopped why on is;
    looks = λ _. rw on reads.looks;
    gives = λ rows file known place.
        let held = reads.piece file known place.follows.piece in
        let tried = reads.gives file known place.follows.piece (rw end place.follows.within) in
        is_on file stopped on (over_one z _ _ file rows tried.constraint holds place (one_tried z file rows holds next place held tried)
        tried.is (omega (arith, some)));
  }

  pub read_steps : {T : Type 0} {keeps : Bool} {before after : Outside} {name : List ℕ} {value : T} (row : Row) (next : ℕ) →
      ReadsInBy keeps before after name old new (Ok value) (λ file. bounds.end ≤ places file → constraint_at file bounds.wires bounds.end at
      ≡ Ok (constraint_read row next)) → next ≡ at + 12 + 12 * terms_in row →
      Steps keeps before after name (reached_at header old at left stopped) (reached_at header new next (left - 1) stopped)
      (λ file rows. IsAt (reached_at header new next (left - 1) stopped) file (rows ++ constraint_of row ∷ []))
  read_steps row next reads size = record {
    header = refl;
    again = λ why is. never_stopped stopped why on is;
    looks = λ _. rw on reads.looks;
    gives = λ rows file known place. is_on file stopped on (one_read file rows row next size place (reads.piece file known place.follows.piece)
        (reads.gives file known place.follows.piece (rw end place.follows.within)));
  }

  -- or it is refused
  pub refused_steps : {T : Type 0} {keeps : Bool} {before after : Outside} {name : List ℕ} {why : ReadRefusal} {Gives : List ℕ → List Constraint → Type 0} →
      ReadsInBy {A = T} keeps before after name old new (Err why) (λ file. bounds.end ≤ places file
      → Refuses why (constraint_at file bounds.wires bounds.end at)) →
      Steps keeps before after name (reached_at header old at left stopped) (reached_at header new at left (Some why)) Gives
  refused_steps {why = why} reads = record {
    header = refl;
    again = λ other is. never_stopped stopped other on is;
    looks = λ _. reads.looks;
    gives = λ rows file known place.
        let refuses = reads.gives file known place.follows.piece (rw end place.follows.within) in
        refuses_ahead file _ rows why place
        (constraints_from-refuses file header.wires left (left - 1) at header.rows why (omega (arith, some)) (rw (wires, end) at refuses));
  }
