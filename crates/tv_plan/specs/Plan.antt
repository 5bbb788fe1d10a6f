-- What a command's words mean: a plan, whose parts all clauses share.
use Rattle.std.specs.Prelude.{ℕ, ◌+◌, max, Bool, List, [], ◌∷◌, length, Option, Some, None, option_map, find, Result, Ok, Err, nat_le, nat_lt, ◌||◌}
use Rattle.std.specs.Prelude.{if◌then◌else◌}
use Rattle.std.specs.Option.{option_or}
use Rattle.std.specs.Str.{bytes_eq}
use Rattle.tv_files.specs.Outside.{Names}
use Rattle.tv_plan.specs.declared.place.Place.{Place}
use Rattle.tv_plan.specs.declared.refusal.Bad.{Bad}
use Rattle.tv_plan.specs.declared.refusal.Bad.TheVariants as bad
use Rattle.tv_plan.specs.declared.refusal.Ending.{Ending}
use Rattle.tv_plan.specs.declared.refusal.Ending.TheVariants.{Refused, Stopped, Finished}
use Rattle.tv_plan.specs.declared.refusal.Finish.{Finish}
use Rattle.tv_plan.specs.declared.refusal.Finish.TheVariants.{Quiet}
use Rattle.tv_plan.specs.declared.refusal.What.{What}
use Rattle.tv_plan.specs.declared.refusal.Refusal.{Refusal}
use Rattle.tv_plan.specs.declared.refusal.Refusal.TheVariants.{Usage, SameName, Limit}
use Rattle.tv_plan.specs.declared.refusal.Stop.{Stop}
use Rattle.tv_plan.specs.declared.refusal.Stop.TheVariants as stop
use Rattle.tv_plan.specs.Contents.{Content, Content.{Bytes}}
use Rattle.tv_plan.specs.Flaws.{Flaw}

-- a word that is a file's name
pub record Named : Type 0 where
  pub word : ℕ
  pub name : List ℕ

-- the name at a word, and it alone
abbrev pub name_at : ℕ → List ℕ → Named
name_at word name = record { word = word; name = name }

abbrev pub one_name : ℕ → List ℕ → List Named
one_name word name = name_at word name ∷ []

-- the code's place of a name
abbrev pub named : Place → Named
named place = name_at place.word place.name.now

-- a look at files: the last word whose file was looked at, and what came of it
pub record Look (A : Type 0) : Type 0 where
  pub at : ℕ
  pub gives : Result A Stop

-- what the files' contents lead to: what each file that is written holds, in order, and the end
pub record Outcome : Type 0 where
  pub files : List Content
  pub finish : Finish

-- one file that holds these bytes, and nothing is said
abbrev pub writes_bytes : List ℕ → Outcome
writes_bytes bytes = record { files = Bytes bytes ∷ []; finish = Quiet }

-- a quantity that a word is: how many there are, and how many there may be
pub record Amount : Type 0 where
  pub what : What
  pub has : ℕ
  pub least : ℕ
  pub most : ℕ

-- The names that are read and that are written, in order of their words; the quantities among the words, with their
-- limits; what the files that are read may be refused for; how it may end; and what the files'
-- contents lead to.
pub record Plan : Type 0 where
  pub reads : List Named
  pub writes : List Named
  pub amounts : List Amount
  pub flaws : List Flaw
  pub ends_by : Finish → Bool
  pub leads_to : Names → Look Outcome

-- ---- words

-- what two words mean together, where each means something, and what three do
abbrev pub with_two : {A B C : Type 0} → (A → B → C) → Option A → Option B → Option C
with_two f (Some a) (Some b) = Some (f a b)
with_two f _ _ = None

abbrev pub with_three : {A B C D : Type 0} → (A → B → C → D) → Option A → Option B → Option C → Option D
with_three f (Some a) (Some b) (Some c) = Some (f a b c)
with_three f _ _ _ = None

-- the first name that is the same as this one
abbrev pub same_in : Named → List Named → Option Refusal
same_in one others = option_map (λ (other : Named). SameName one.word other.word) (find (λ (other : Named). bytes_eq other.name one.name) others)

-- the first two words that are one name, of which the second is written
abbrev pub same_of : List Named → List Named → Option Refusal
same_of [] [] = None
same_of [] (w ∷ ws) = option_or (same_in w ws) (same_of [] ws)
same_of (r ∷ rs) ws = option_or (same_in r ws) (same_of rs ws)

-- the quantity passes its limit, or doesn't reach the least that it may be
abbrev pub is_out : Amount → Bool
is_out one = nat_lt one.has one.least || nat_lt one.most one.has

-- the first quantity that does
abbrev pub limit_of : List Amount → Option Refusal
limit_of amounts = option_map (λ (one : Amount). Limit one.what one.has one.most) (find is_out amounts)

-- what names and quantities are refused for
abbrev pub refusal_of : List Named → List Named → List Amount → Option Refusal
refusal_of reads writes amounts = option_or (same_of reads writes) (limit_of amounts)

-- the plan, unless it is refused
abbrev pub unless : Option Refusal → Plan → Result Plan Refusal
unless None plan = Ok plan
unless (Some why) plan = Err why

-- what words ask for that have the form of this plan, or of none
abbrev pub request_of : Option Plan → Result Plan Refusal
request_of None = Err Usage
request_of (Some plan) = unless (refusal_of plan.reads plan.writes plan.amounts) plan

-- ---- looks at files

-- looks on, unless the first look is refused
abbrev pub look_on : {A B : Type 0} → ℕ → Result A Stop → (A → Look B) → Look B
look_on at (Ok x) f = record { at = max at (f x).at; gives = (f x).gives }
look_on at (Err stop) f = record { at = at; gives = Err stop }

infixl 10 ◌>>=◌
abbrev pub ◌>>=◌ : {A B : Type 0} → Look A → (A → Look B) → Look B
look >>= f = look_on look.at look.gives f

-- what is found of a file that may have this many bytes of this quantity
abbrev pub within : {A : Type 0} → What → ℕ → (List ℕ → Result A Bad) → List ℕ → Result A Bad
within what most f bytes = if nat_le (length bytes) most then f bytes else Err (bad.Limit what (most + 1) most)

-- what was made of contents
abbrev pub made_of : {A : Type 0} → Result A Bad → Result A Stop
made_of (Ok x) = Ok x
made_of (Err bad) = Err (stop.Contents bad)

-- what is found of the file at a word, by what is read of it: a fault where its name isn't there
abbrev pub held_at : {A : Type 0} → ℕ → (List ℕ → Result A Bad) → Option (List ℕ) → Result A Stop
held_at word read None = Err (stop.Fault word)
held_at word read (Some bytes) = made_of (read bytes)

-- a look at the file of a name
unfoldable pub input : {A : Type 0} → Named → (List ℕ → Result A Bad) → Names → Look A
input place read files = record { at = place.word; gives = held_at place.word read (files place.name) }

-- what is made of what was found, with no further look
abbrev pub settled : {A : Type 0} → Result A Bad → Look A
settled made = record { at = 0; gives = made_of made }

-- what is found, by what it leads to
abbrev pub map_ok : {A B E : Type 0} → (A → B) → Result A E → Result B E
map_ok f (Ok x) = Ok (f x)
map_ok f (Err e) = Err e

-- how a command ends by what was found
abbrev pub outcome_by : {A : Type 0} → (A → Outcome) → Look A → Look Outcome
outcome_by f look = record { at = look.at; gives = map_ok f look.gives }

-- ---- answers

-- a file that is to be written
pub record Write : Type 0 where
  pub word : ℕ
  pub name : List ℕ
  pub content : Content

-- one file, under this name
abbrev pub one_write : Named → Content → List Write
one_write place content = record { word = place.word; name = place.name; content = content } ∷ []

-- each of these goes under the name of its place
abbrev pub files_of : List Named → List Content → List Write
files_of names [] = []
files_of [] (c ∷ cs) = []
files_of (n ∷ ns) (c ∷ cs) = record { word = n.word; name = n.name; content = c } ∷ files_of ns cs

-- the files that are written: none where a look was refused
abbrev pub writes_by : List Named → Result Outcome Stop → List Write
writes_by places (Ok outcome) = files_of places outcome.files
writes_by places (Err stop) = []

-- the end of a look
abbrev pub ending_by : Result Outcome Stop → Ending
ending_by (Ok outcome) = Finished outcome.finish
ending_by (Err stop) = Stopped stop

-- the whole answer: the last word whose file was looked at, the files written, in order, and the end
pub record Answer : Type 0 where
  pub looked : ℕ
  pub writes : List Write
  pub ending : Ending

-- the answer to a look, given the names to be written
abbrev pub answer_by : List Named → Look Outcome → Answer
answer_by places look = record { looked = look.at; writes = writes_by places look.gives; ending = ending_by look.gives }

-- what is asked for is answered, over files that hold this; a fault stands for a name that isn't there
abbrev pub answer_of : Result Plan Refusal → Names → Answer
answer_of (Err why) files = record { looked = 0; writes = []; ending = Refused why }
answer_of (Ok plan) files = answer_by plan.writes (plan.leads_to files)
