-- From what reading a container came to, by what its file holds, to what a look at the file found.
use Rattle.tv_core.proofs.Common.{◌≡◌, ℕ, Bool, ◌≤◌, List, [], ◌∷◌, Option, Some, None, Result, Ok, Err, inl, inr, refl, ap, arith}
use Rattle.std.specs.Prelude.{MatchResult, IsErrAnd}
use Rattle.tv_plan.proofs.Common.{Names, Outside, OnlyReads, MissesOnly, Rose, Bad, Stop, MayStop, IsFound, Finds, Spares, Named, Look, input, held_at}
use Rattle.tv_plan.proofs.Common.{made_of, map_ok}
use Rattle.tv_container.specs.Places.{Fault, ◌>>=◌}
use Rattle.tv_container.specs.Reading as reading
use Rattle.tv_container.specs.Reading.{bytes_of, Known, ReadsAsBy, LooksBy, StoppedBy, IsMissing}
use Rattle.tv_container.specs.declared.why.ReadRefusal.{ReadRefusal}
use Rattle.tv_container.specs.declared.why.ReadRefusal.TheVariants as refusal
use Rattle.tv_plan.specs.declared.refusal.Stop.TheVariants as stop
use Rattle.tv_plan.specs.Containers.{container_result, refusal_stop}
use Rattle.tv_plan.proofs.LookLaws.{finds_still}
use Rattle.tv_plan.specs.Finds.{reading, reading_of}
use Rattle.tv_plan.specs.Flaws.{Flaw, flaw_of}

-- what a refusal of a reader is: a fault of this word, where it is that of reading, or contents that may be refused so
abbrev pub StopsBy : ℕ → List Flaw → Type 0 → Stop → Type 0
StopsBy word flaws Faulty (stop.Fault at) = (at ≡ word) × Faulty
StopsBy word flaws Faulty stop.Memory = Unit {0}
StopsBy word flaws Faulty (stop.Contents bad) = MayStop flaws (stop.Contents bad)

-- what a call came to, by what a refusal of it stops
abbrev pub came : {Y E : Type 0} → (E → Stop) → Result Y E → Result Y Stop
came stop (Ok y) = Ok y
came stop (Err why) = Err (stop why)

-- where each refusal was mapped to what it stops
pub came_by : {Y E : Type 0} (stop : E → Stop) (Maps : E → Stop → Type 0) (result : Result Y E) (found : Result Y Stop) →
    MatchResult result (λ y. found ≡ Ok y) (λ why. IsErrAnd found (Maps why)) → ((why : E) (s : Stop) → Maps why s → s ≡ stop why) → found ≡ came stop result
came_by stop Maps (Ok y) found is maps = is
came_by stop Maps (Err why) (Err s) is maps = ap Err (maps why s is)
came_by stop Maps (Err why) (Ok y) is maps = absurd is

module _ {Y E A : Type 0} (view : Y → A) (of : E → Stop) (fault : E) (word : ℕ) (flaws : List Flaw) (name : List ℕ) (due : Option (List ℕ) → Look A)
    (old new : Outside) (Stands : E → Type 0) where
  known : (result : Result Y E) → of fault ≡ stop.Fault word → word ≤ (due None).at → Known old name (λ file. IsFound view (due (Some file)) (came of result))
      → (IsMissing old name → result ≡ Err fault) → (files : Names) → old.contents ≡ Some files →
      (file : Option (List ℕ)) → files name ≡ file → IsFound view (due file) (came of result)
  unfolding bytes_of
  known result faulty within gives missing files held (Some file) is = gives file (rw (held, is) refl)
  known result faulty within gives missing files held None is = rw (missing (record { files = files; known = held; none = is }), faulty) within

  -- a file was read by a reader that stands so after a refusal
  pub finds_file : (result : Result Y E) → of fault ≡ stop.Fault word → word ≤ (due None).at → (due None).gives ≡ Err (stop.Fault word)
      → ((why : E) → StopsBy word flaws (why ≡ fault) (of why)) →
      ((why : E) → Stands why → OnlyReads old new × MissesOnly old new name × Spares (of why) old new × (why ≡ fault → Rose old.read_faults new.read_faults))
      → Known old name (λ file. IsFound view (due (Some file)) (came of result)) →
      MatchResult result (λ _. new ≡ old) Stands → (IsMissing old name → result ≡ Err fault)
      → Finds view (reading (word ∷ []) flaws (λ held. due (held name))) old new (came of result)
  finds_file (Ok y) faulty within none stops stands gives looks missing = rw looks
      (finds_still (λ files held. known (Ok y) faulty within gives missing files held (files name) refl))
  finds_file (Err why) faulty within none stops stands gives looks missing = record {
    known = λ files held. known (Err why) faulty within gives missing files held (files name) refl;
    absent = λ files held. elim ((stands why looks).1 files held) [ inl same ↦ inl same | inr missed ↦ inr (word, rw missed none) ];
    only = (stands why looks).0;
    leaves = (stands why looks).2;
    caused = λ at e. let same : of why ≡ stop.Fault at = cc in let is = rw same at (stops why) in (inl is.0, (stands why looks).3 is.1);
    flaws = λ bad e. let same : of why ≡ stop.Contents bad = cc in rw same at (stops why);
  }

-- ---- systems and assignments

-- each fault of the contents is of this kind
abbrev AreOf : Flaw → (Fault → Bad) → Type 0
AreOf flaw bad = (fault : Fault) → flaw_of (bad fault) ≡ flaw

read_stops : (word : ℕ) (flaw : Flaw) (bad : Fault → Bad) → AreOf flaw bad → (why : ReadRefusal)
    → StopsBy word (flaw ∷ []) (why ≡ refusal.Fault) (refusal_stop word bad why)
read_stops word flaw bad are (refusal.Bad at what) = inl (are (record { at = at; why = what }))
read_stops word flaw bad are refusal.Fault = (refl, refl)
read_stops word flaw bad are refusal.Memory = tt

read_spares : (keeps : Bool) (word : ℕ) (bad : Fault → Bad) (why : ReadRefusal) (old new : Outside) → reading.Leaves keeps why old new
    → Spares (refusal_stop word bad why) old new
read_spares keeps word bad (refusal.Bad at what) old new leaves = leaves
read_spares keeps word bad refusal.Fault old new leaves = tt
read_spares keeps word bad refusal.Memory old new leaves = elim leaves [ inl ran_out ↦ inr ran_out | inr own ↦ inl own.1 ]

read_caused : (keeps : Bool) (why : ReadRefusal) (old new : Outside) → reading.Leaves keeps why old new → why ≡ refusal.Fault
    → Rose old.read_faults new.read_faults
read_caused keeps refusal.Fault old new rose is = rose
read_caused keeps (refusal.Bad at what) old new leaves is = cc
read_caused keeps refusal.Memory old new leaves is = cc

read_found : {Y A : Type 0} (view : Y → A) (word : ℕ) (bad : Fault → Bad) (due : Result A Fault) (result : Result Y ReadRefusal) → ReadsAsBy result view due →
    IsFound view (record { at = word; gives = made_of (container_result bad due) }) (came (refusal_stop word bad) result)
read_found view word bad due (Ok y) gives = rw gives refl
read_found view word bad due (Err (refusal.Bad at what)) gives = rw (gives.bad at what refl) refl
read_found view word bad due (Err refusal.Fault) gives = omega arith
read_found view word bad due (Err refusal.Memory) gives = tt

-- what reading a container found, as its refusals are passed on
pub finds_read : {Y A : Type 0} (keeps : Bool) (view : Y → A) (place : Named) (flaw : Flaw) (bad : Fault → Bad) (read : List ℕ → Result A Fault)
    (old new : Outside)
    (result : Result Y ReadRefusal) (found : Result Y Stop) → found ≡ came (refusal_stop place.word bad) result → AreOf flaw bad →
    Known old place.name (λ file. ReadsAsBy result view (read file)) → LooksBy keeps old new place.name result → (IsMissing old place.name
    → result ≡ Err refusal.Fault) → Finds view (reading_of place (flaw ∷ []) (λ file. container_result bad (read file))) old new found
unfolding input
finds_read keeps view place flaw bad read old new result found is are gives looks missing =
    rw is (finds_file view (refusal_stop place.word bad) refusal.Fault place.word (flaw ∷ []) place.name
    (λ file. record { at = place.word; gives = held_at place.word (λ file. container_result bad (read file)) file }) old new
    (StoppedBy keeps old new place.name) result refl (omega arith) refl
    (read_stops place.word flaw bad are) (λ why stopped. (
      stopped.only,
      stopped.there,
      read_spares keeps place.word bad why old new stopped.leaves,
      read_caused keeps why old new stopped.leaves,
    )) (λ file there. read_found view place.word bad (read file) result (gives file there)) looks missing)

-- what is found of a container that isn't refused
pub read_of : {A : Type 0} (bad : Fault → Bad) (read : Result A Fault) (x : A) → container_result bad read ≡ Ok x → read ≡ Ok x
read_of bad (Ok found) x is = cc
read_of bad (Err fault) x is = cc

-- of a part of what a container holds
part_made : {A B : Type 0} (bad : Fault → Bad) (part : A → B) (read : Result A Fault)
    → made_of (container_result bad (read >>= λ x. Ok (part x))) ≡ map_ok part (made_of (container_result bad read))
part_made bad part (Ok x) = refl
part_made bad part (Err fault) = refl

pub part_held : {A B : Type 0} (word : ℕ) (bad : Fault → Bad) (read : List ℕ → Result A Fault) (part : A → B) (file : Option (List ℕ)) →
    held_at word (λ file. container_result bad (read file >>= λ x. Ok (part x))) file
    ≡ map_ok part (held_at word (λ file. container_result bad (read file)) file)
part_held word bad read part None = refl
part_held word bad read part (Some bytes) = part_made bad part (read bytes)
