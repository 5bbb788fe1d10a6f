-- What commands promise their user, from how their calls end.
use Rattle.tv_core.proofs.Common.{◌≡◌, ◌≢◌, ◌≤◌, ℕ, ◌⊎◌, List, [], ◌∷◌, Option, Some, None, Result, Ok, Err, inl, inr, refl, sym, ap, le-ltb}
use Rattle.std.specs.Prelude.{IfOk}
use Rattle.std.proofs.lemmas.Bool.{false_from_ne_true}
use Rattle.std.proofs.lemmas.Slice.Eq.{bytes_eq-Decides}
use Rattle.std.specs.Str.{bytes_eq}
use Rattle.tv_plan.proofs.Common.{Names, Amount, Bad, Stop, Fault, Memory, Contents, Answers, Call, IsStopped, Holds, Then}
use Rattle.tv_plan.proofs.Common.{AnswersOrStops, IsAnswered, Ends, Named, Plan, Look, Outcome, ◌>>=◌, held_at, input, made_of, outcome_by, answer_by}
use Rattle.tv_plan.proofs.Common.{answer_of, same_in, same_of, limit_of, request_of}
use Rattle.tv_plan.specs.declared.status.Status.TheVariants as status

-- ---- any plan

stopped_by : (plan : Plan) (words : ℕ) (call : Call) (word : ℕ) → Answers (Ok plan) words call.before call.after call.status
    → call.status ≡ status.FileFault word → IsStopped plan.writes call
stopped_by plan words call word answers e =
    inl (word, e, elim (answers.caused word e) [ inl read ↦ inl read.1 | inr (inl wrote) ↦ inr (inl wrote) | inr (inr said) ↦ inr (inr said.1) ])

-- the answer that is due, or something stopped the call
pub due_or_stopped : (plan : Plan) (words : ℕ) (files : Names) (call : Call) → Answers (Ok plan) words call.before call.after call.status →
    Ends (answer_of (Ok plan) files) words files call.before call.after call.status
    → IsAnswered (answer_of (Ok plan) files) files call.before call.after call.status ⊎ IsStopped plan.writes call
due_or_stopped plan words files call answers (inl answered) = inl answered
due_or_stopped plan words files call answers (inr (inl read)) = inr (stopped_by plan words call read.0 answers read.1)
due_or_stopped plan words files call answers (inr (inr (inl wrote))) = inr (stopped_by plan words call wrote.0 answers wrote.1)
due_or_stopped plan words files call answers (inr (inr (inr (inl said)))) = inr (stopped_by plan words call words answers said.0)
due_or_stopped plan words files call answers (inr (inr (inr (inr wanting)))) = inr (inr wanting.0)

-- whatever a look finds, this is so of it
abbrev pub IsHeld : {A : Type 0} → Result A Stop → (Result A Bad → Type 0) → Type 0
IsHeld {A} gives Held = (held : Result A Bad) → gives ≡ made_of held → Held held

ended_by : {A : Type 0} (plan : Plan) (ends : A → Outcome) (look : Look A) (gives : Result A Stop) (Held : Result A Bad → Type 0) (words : ℕ) (files : Names)
    (call : Call) → look.gives ≡ gives → Answers (Ok plan) words call.before call.after call.status → IsHeld gives Held
    → IsAnswered (answer_by plan.writes (outcome_by ends look)) files call.before call.after call.status → AnswersOrStops plan.writes ends Held files call
ended_by plan ends look (Ok x) Held words files call is answers holds answered = let due = rw is at answered in
    inl (record { held = Ok x; is = holds (Ok x) refl; status = due.status; contents = due.contents; read = due.read; said = due.said })
ended_by plan ends look (Err (Contents bad)) Held words files call is answers holds answered = let due = rw is at answered in
    inl (record { held = Err bad; is = holds (Err bad) refl; status = due.status; contents = due.contents; read = tt; said = due.said })
ended_by plan ends look (Err (Fault word)) Held words files call is answers holds answered = let due = rw is at answered in
    inr (stopped_by plan words call word answers due.status)
ended_by plan ends look (Err Memory) Held words files call is answers holds answered = let due = rw is at answered in inr (inr due.status)

-- ---- looks

pub made_is : {A : Type 0} (one other : Result A Bad) → made_of one ≡ made_of other → one ≡ other
made_is (Ok x) (Ok y) e = cc
made_is (Ok x) (Err bad) e = cc
made_is (Err bad) (Ok y) e = cc
made_is (Err bad) (Err other) e = cc

-- a look that wasn't refused for contents isn't stopped by contents
not_stopped : {B : Type 0} (held : Result B Bad) (stop : Stop) → Err stop ≡ made_of held → (bad : Bad) × (stop ≡ Contents bad) × (held ≡ Err bad)
not_stopped (Ok y) stop e = cc
not_stopped (Err bad) stop e = (bad, cc, refl)

file_held : {A : Type 0} (word : ℕ) (read : List ℕ → Result A Bad) (file : Option (List ℕ)) → IsHeld (held_at word read file) (Holds read file)
file_held word read None held e = let never = (not_stopped held (Fault word) e).1 in cc
file_held word read (Some bytes) held e = record { bytes = bytes; there = refl; reads = made_is (read bytes) held e }

-- and one look after another
held_then : {A B : Type 0} (look : Look A) (gives : Result A Stop) (f : A → Look B) (First : Result A Bad → Type 0) (Second : A → Result B Bad → Type 0)
    → look.gives ≡ gives → IsHeld gives First →
    ((x : A) → First (Ok x) → IsHeld (f x).gives (Second x)) → IsHeld (look >>= f).gives (Then First Second)
held_then look (Ok x) f First Second is first second held e = let has = first (Ok x) refl in inl (x, has, second x has held (rw is at e))
held_then look (Err stop) f First Second is first second held e = let bad = not_stopped held stop (rw is at e) in
    inr (bad.0, first (Err bad.0) (ap Err bad.1), bad.2)

-- what is read of a file is what it holds
pub shows_input : {A : Type 0} (place : Named) (read : List ℕ → Result A Bad) (files : Names)
    → IsHeld (input place read files).gives (Holds read (files place.name))
unfolding input
shows_input place read files = file_held place.word read (files place.name)

pub shows_then : {A B : Type 0} (look : Look A) (f : A → Look B) (First : Result A Bad → Type 0) (Second : A → Result B Bad → Type 0) → IsHeld look.gives First
    → ((x : A) → First (Ok x) → IsHeld (f x).gives (Second x)) → IsHeld (look >>= f).gives (Then First Second)
shows_then look f First Second first second = held_then look look.gives f First Second refl first second

-- what is so of it implies more
pub shows_more : {A : Type 0} (gives : Result A Stop) (First Held : Result A Bad → Type 0) → IsHeld gives First
    → ((held : Result A Bad) → First held → Held held) → IsHeld gives Held
shows_more gives First Held first to held e = to held (first held e)

-- what is made of what files hold
pub shows_made : {A : Type 0} (made : Result A Bad) → IsHeld (made_of made) (λ held. held ≡ made)
shows_made made held e = sym (made_is made held e)

-- ---- words that are granted

-- each quantity is within its limits
abbrev pub AreWithin : List Amount → Type 0
AreWithin [] = Unit {0}
AreWithin (one ∷ more) = (one.least ≤ one.has) × (one.has ≤ one.most) × AreWithin more

-- none of these is this name
abbrev IsOther : Named → List Named → Type 0
IsOther one [] = Unit {0}
IsOther one (other ∷ others) = (one.name ≢ other.name) × IsOther one others

-- the names that are written are none of the others
abbrev pub AreOther : List Named → List Named → Type 0
AreOther [] [] = Unit {0}
AreOther [] (w ∷ ws) = IsOther w ws × AreOther [] ws
AreOther (r ∷ rs) ws = IsOther r ws × AreOther rs ws

other_in : (one : Named) (others : List Named) → IsOther one others → same_in one others ≡ None
other_in one [] other = refl
other_in one (next ∷ others) other = rw (false_from_ne_true (bytes_eq next.name one.name) (λ is. other.0 (sym ((bytes_eq-Decides next.name one.name).0 is))))
    (other_in one others other.1)

other_of : (reads writes : List Named) → AreOther reads writes → same_of reads writes ≡ None
other_of [] [] other = refl
other_of [] (w ∷ ws) other = rw (other_in w ws other.0) (other_of [] ws other.1)
other_of (r ∷ rs) ws other = rw (other_in r ws other.0) (other_of rs ws other.1)

within_all : (amounts : List Amount) → AreWithin amounts → limit_of amounts ≡ None
within_all [] within = refl
within_all (one ∷ more) within = rw (le-ltb one.has one.least within.0, le-ltb one.most one.has within.1) (within_all more within.2)

-- words that ask for a plan whose names are others and whose quantities are within their limits are granted it
pub granted : (plan : Plan) (asked : Option Plan) (count : ℕ) (call : Call) → asked ≡ Some plan → AreOther plan.reads plan.writes → AreWithin plan.amounts →
    Answers (request_of asked) count call.before call.after call.status → Answers (Ok plan) count call.before call.after call.status
granted plan asked count call is other within answers =
    rw (is, other_of plan.reads plan.writes other, within_all plan.amounts within) at answers

-- ---- any command

-- words that ask for a plan, which isn't refused, end as its look finds
pub leads_to : {A : Type 0} (plan : Plan) (ends : A → Outcome) (look : Names → Look A) (Held : Result A Bad → Type 0) (asked : Option Plan) (count : ℕ)
    (files : Names) (call : Call) →
    asked ≡ Some plan → AreOther plan.reads plan.writes → AreWithin plan.amounts → plan.leads_to ≡ (λ files. outcome_by ends (look files))
    → call.before.contents ≡ Some files → Answers (request_of asked) count call.before call.after call.status → IsHeld (look files).gives Held
    → AnswersOrStops plan.writes ends Held files call
leads_to plan ends look Held asked count files call has other within is known answered shows =
    let answers = granted plan asked count call has other within answered in
    elim (due_or_stopped plan count files call answers (answers.ends files known)) [
      | inl due ↦ ended_by plan ends (look files) (look files).gives Held count files call refl answers shows (rw is at due)
      | inr stopped ↦ inr stopped
    ]

-- a form: the plan that words ask for, where they have it
abbrev pub Form : Type 0
Form = List (List ℕ) → Option Plan

-- words that begin with this name have this form
abbrev pub FormOf : Form → List ℕ → Form → Type 0
FormOf form name one = (words : List (List ℕ)) → form (name ∷ words) ≡ one words

-- what a clause of a command says comes of what every call promises
abbrev pub Promises : Form → (List (List ℕ) → Call → Type 0) → Type 0
Promises form On = (words : List (List ℕ)) (count : ℕ) (call : Call) → Answers (request_of (form words)) count call.before call.after call.status
    → On words call

-- what is so of each value that there is
pub if_ok : {A : Type 0} (held : Result A Bad) (P : A → Type 0) → ((x : A) → held ≡ Ok x → P x) → IfOk held P
if_ok (Ok x) P so = so x refl
if_ok (Err bad) P so = tt
