-- Steps that may refuse, one after another.
use Rattle.tv_core.proofs.Common.{◌≡◌, ℕ, Bool, true, false, List, Option, None, Some, Result, Ok, Err, inl, inr, refl, rules, ap, subst, ◌∙◌}
use Rattle.std.specs.Prelude.{IfOk, IsErrAnd, MatchOption}
use Rattle.tv_files.specs.Outside.{Outside}
use Rattle.tv_container.specs.declared.why.ReadRefusal.{ReadRefusal}
use Rattle.tv_container.specs.declared.why.ReadRefusal.TheVariants.{Bad, Fault, Memory}
use Rattle.tv_container.specs.declared.why.ReadWhy.{ReadWhy}
use Rattle.tv_container.specs.Places as places
use Rattle.tv_container.specs.Places.{wrong, ◌>>=◌}
use Rattle.tv_container.specs.Reading.{bytes_of, Refuses, IsOwn, IsPiece, LooksBy, Piece, ReadsIn, ReadsInBy, StoppedBy}

-- a step that was made gave what the answer was made of
pub made : {A B : Type 0} (first : Result A places.Fault) (next : A → Result B places.Fault) (value : B) → first >>= next ≡ Ok value →
    (part : A) × (first ≡ Ok part) × (next part ≡ Ok value)
made (Ok part) next value e = (part, refl, e)
made (Err fault) next value e = cc

-- what follows of what all steps give from what the first gives
pub bind_if : {A B : Type 0} (read : Result A places.Fault) (f : A → Result B places.Fault) (P : A → Type 0) (Q : B → Type 0) → IfOk read P
    → ((x : A) → P x → IfOk (f x) Q) → IfOk (read >>= f) Q
bind_if (Ok x) f P Q is h = h x is
bind_if (Err fault) f P Q is h = tt

pub bind_any : {A B : Type 0} (read : Result A places.Fault) (f : A → Result B places.Fault) (Q : B → Type 0) → ((x : A) → IfOk (f x) Q)
    → IfOk (read >>= f) Q
bind_any (Ok x) f Q h = h x
bind_any (Err fault) f Q h = tt

-- a test that was passed
pub passed : (test : Bool) (at : ℕ) (why : ReadWhy) → IfOk (places.unless test at why) (λ _. test ≡ false)
passed true at why = tt
passed false at why = refl

-- a refusal of the first step is one of all
pub refuses_first : {A B : Type 0} (why : ReadRefusal) (first : Result A places.Fault) (next : A → Result B places.Fault) → Refuses why first
    → Refuses why (first >>= next)
refuses_first why first next refuses = record { bad = λ at what e. rw (refuses.bad at what e) refl }

-- what is wrong is reported
pub refuses_wrong : {A : Type 0} (at : ℕ) (why : ReadWhy) (answer : Result A places.Fault) → answer ≡ wrong at why → Refuses (Bad at why) answer
refuses_wrong at why answer is = record { bad = λ there what e. cc }

-- a refusal that says nothing of what is wrong is one of any answer
pub refuses_any : {A B : Type 0} (why : ReadRefusal) (value : A) (answer : Result B places.Fault) → Refuses why (Ok value) → Refuses why answer
refuses_any why value answer refuses = record { bad = λ at what e. let none : Ok value ≡ wrong at what = refuses.bad at what e in cc }

-- a refusal that comes of no read may stop where nothing was read
pub stopped_here : {keeps : Bool} (outside : Outside) (name : List ℕ) (why : ReadRefusal) → IsOwn keeps why → StoppedBy keeps outside outside name why
stopped_here outside name (Bad at what) own = record { only = search rules; there = search rules; leaves = refl }
stopped_here outside name Fault own = absurd (own.known refl)
stopped_here outside name Memory own = record { only = search rules; there = search rules; leaves = inr (own.memory refl, refl) }

pub stopped_bad : {keeps : Bool} (outside : Outside) (name : List ℕ) (at : ℕ) (what : ReadWhy) → StoppedBy keeps outside outside name (Bad at what)
stopped_bad outside name at what = stopped_here outside name (Bad at what) (record { known = λ e. cc; memory = λ e. cc })

-- what stops a reader that keeps nothing may stop one that does
pub stopped_keeping : {keeps : Bool} (old new : Outside) (name : List ℕ) (why : ReadRefusal) → StoppedBy false old new name why
    → StoppedBy keeps old new name why
stopped_keeping old new name (Bad at what) stopped = record { only = stopped.only; there = stopped.there; leaves = stopped.leaves }
stopped_keeping old new name Fault stopped = record { only = stopped.only; there = stopped.there; leaves = stopped.leaves }
stopped_keeping old new name Memory stopped = record {
  only = stopped.only;
  there = stopped.there;
  leaves = elim stopped.leaves [ inl ran_out ↦ inl ran_out | inr own ↦ let never = own.0 in cc ];
}

pub looks_keeping : {A : Type 0} (keeps : Bool) (old new : Outside) (name : List ℕ) (result : Result A ReadRefusal) → LooksBy false old new name result
    → LooksBy keeps old new name result
looks_keeping keeps old new name (Ok value) looks = looks
looks_keeping keeps old new name (Err why) looks = stopped_keeping old new name why looks

-- what a step of reading gave, the piece that it left, and what the steps after it gave
pub record Both (So : List ℕ → Type 0) (piece : Piece) (Then : List ℕ → Type 0) (file : List ℕ) : Type 0 where
  pub first : So file
  pub held : IsPiece piece file
  pub rest : Then file

-- a step that was made, and those after it
pub reads_on : {A B : Type 0} {some keeps : Bool} {old mid new : Outside} {name : List ℕ} {before between after : Piece} {value : A}
    {result : Result B ReadRefusal} {So Then : List ℕ → Type 0} → ReadsInBy some old mid name before between (Ok value) So
    → ReadsInBy keeps mid new name between after result Then →
    ReadsInBy keeps old new name before after result (Both So between Then)
reads_on {A} {B} {some} {keeps} {old} {mid} {new} {name} {before} {between} {after} {value} {result} first rest = record {
  looks = subst (λ outside. LooksBy keeps outside new name result) first.looks rest.looks;
  piece = λ file known piece. rest.piece file (seen file known) (first.piece file known piece);
  gives = λ file known piece.
      let held = first.piece file known piece in
      record { first = first.gives file known piece; held = held; rest = rest.gives file (seen file known) held };
}
  where
    seen : (file : List ℕ) → bytes_of old name ≡ Some file → bytes_of mid name ≡ Some file
    seen file known = ap (λ outside. bytes_of outside name) first.looks ∙ known

-- a refusal ends all
pub reads_off : {A B : Type 0} {keeps : Bool} {old new : Outside} {name : List ℕ} {before after last : Piece} {why : ReadRefusal} {So : List ℕ → Type 0} →
    ReadsInBy {A = A} keeps old new name before after (Err why) So → ReadsInBy {A = B} keeps old new name before last (Err why) So
reads_off step = record { looks = step.looks; piece = λ file known piece. tt; gives = step.gives }

-- so does one that comes of no read
pub reads_own : {B : Type 0} {keeps : Bool} {outside : Outside} {name : List ℕ} {before after : Piece} {why : ReadRefusal} → IsOwn keeps why →
    ReadsInBy {A = B} keeps outside outside name before after (Err why) (λ file. Unit {0})
reads_own {B} {keeps} {outside} {name} {before} {after} {why} own = record {
  looks = stopped_here outside name why own;
  piece = λ file seen piece. tt;
  gives = λ file seen piece. tt;
}

-- as one that says what is wrong
pub reads_bad : {B : Type 0} {keeps : Bool} {outside : Outside} {name : List ℕ} {before after : Piece} {at : ℕ} {what : ReadWhy} →
    ReadsInBy {A = B} keeps outside outside name before after (Err (Bad at what)) (λ file. Unit {0})
reads_bad = reads_own (record { known = λ e. cc; memory = λ e. cc })

-- nothing more is read
pub reads_done : {A : Type 0} {keeps : Bool} {outside : Outside} {name : List ℕ} {piece : Piece} {value : A} →
    ReadsInBy keeps outside outside name piece piece (Ok value) (λ file. Unit {0})
reads_done = record { looks = refl; piece = λ file known held. held; gives = λ file known held. tt }

-- it doesn't matter which value was given
pub reads_past : {A B : Type 0} {keeps : Bool} {old new : Outside} {name : List ℕ} {before after : Piece} {value : A} {other : B} {So : List ℕ → Type 0} →
    ReadsInBy keeps old new name before after (Ok value) So → ReadsInBy keeps old new name before after (Ok other) So
reads_past step = record { looks = step.looks; piece = step.piece; gives = step.gives }

-- what a step does that keeps nothing is what one may do that does
pub reads_keeping : {A : Type 0} {keeps : Bool} {old new : Outside} {name : List ℕ} {before after : Piece} {result : Result A ReadRefusal}
    {So : List ℕ → Type 0} → ReadsIn old new name before after result So → ReadsInBy keeps old new name before after result So
reads_keeping {A} {keeps} {old} {new} {name} {before} {after} {result} step = record {
  looks = looks_keeping keeps old new name result step.looks;
  piece = step.piece;
  gives = step.gives;
}

-- what the steps gave is what the call does
pub reads_as : {A : Type 0} {keeps : Bool} {old new : Outside} {name : List ℕ} {before after : Piece} {result : Result A ReadRefusal}
    {So All : List ℕ → Type 0} →
    ReadsInBy keeps old new name before after result So → ((file : List ℕ) → bytes_of old name ≡ Some file → So file → All file)
    → ReadsInBy keeps old new name before after result All
reads_as steps all = record { looks = steps.looks; piece = steps.piece; gives = λ file known piece. all file known (steps.gives file known piece) }

-- what follows from what is so where reading goes on, or has stopped
pub either_way : {A P Q : Type 0} {R S : A → Type 0} (stopped : Option A) → MatchOption stopped P R → (P → Q) → ((why : A) → R why → S why)
    → MatchOption stopped Q S
either_way None p on off = on p
either_way (Some why) r on off = off why r

-- the exit of a `?` is a refusal, of what its cause was turned into
pub err_is : {T E : Type 0} {why : E} (result : Result T E) → IsErrAnd result (λ e. e ≡ why) → result ≡ Err why
err_is (Ok value) is = absurd is
err_is (Err e) is = ap Err is

-- a value is no refusal
pub not_refused : {A E X : Type 0} {value : A} {why : E} → Ok value ≡ Err why → X
not_refused is = cc

-- nor does it matter which value was refused
pub same_refusal : {A B E : Type 0} {why other : E} → ◌≡◌ {A = Result A E} (Err why) (Err other) → ◌≡◌ {A = Result B E} (Err why) (Err other)
same_refusal {A} {B} {E} {why} {other} is = let same : why ≡ other = cc in ap Err same
