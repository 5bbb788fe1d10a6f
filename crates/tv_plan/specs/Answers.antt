-- What every call of the command promises, by what its words ask for.
use Rattle.std.specs.Prelude.{◌≡◌, ℕ, ◌⊎◌, Bool, true, false, List, [], ◌∷◌, map, Option, option_map, Result, Ok, Err}
use Rattle.std.specs.List.{list_any}
use Rattle.std.specs.Str.{bytes_eq}
use Rattle.tv_files.specs.Outside.{Names, Outside, WhereKnown, NoneFell, RanOut, with_bytes}
use Rattle.tv_word.specs.Counts.{Rose}
use Rattle.tv_plan.specs.declared.refusal.Ending.{Ending}
use Rattle.tv_plan.specs.declared.refusal.Ending.TheVariants.{Refused, Stopped, Finished}
use Rattle.tv_plan.specs.declared.refusal.Finish.{Finish}
use Rattle.tv_plan.specs.declared.refusal.What.{What}
use Rattle.tv_plan.specs.declared.refusal.Refusal.{Refusal}
use Rattle.tv_plan.specs.declared.refusal.Refusal.TheVariants as refusal
use Rattle.tv_plan.specs.declared.refusal.Stop.{Stop}
use Rattle.tv_plan.specs.declared.refusal.Stop.TheVariants.{Fault, Contents}
use Rattle.tv_plan.specs.declared.refusal.Stop.TheVariants as stop
use Rattle.tv_plan.specs.declared.status.Status.{Status}
use Rattle.tv_plan.specs.declared.status.Status.TheVariants.{FileFault, Memory}
use Rattle.tv_plan.specs.Codes.{says, what_text}
use Rattle.tv_plan.specs.Ends.{Said, SaidPart, Completes, Ends, IsConcluded, IsQuiet, IsUntouched}
use Rattle.tv_plan.specs.Finds.{Finds, IsOneOf, reading, Reading}
use Rattle.tv_plan.specs.Flaws.{Flaw, Flaw.{OverLimit}, flaw_of}
use Rattle.tv_plan.specs.Plan.{Named, Amount, Outcome, Plan, answer_of}
use Rattle.tv_plan.specs.Status.{refusal_status, ending_status}

-- the words of names
abbrev pub words_of : List Named → List ℕ
words_of names = map (λ (n : Named). n.word) names

abbrev pub reads_of : Result Plan Refusal → List Named
reads_of (Ok plan) = plan.reads
reads_of (Err why) = []

abbrev pub writes_of : Result Plan Refusal → List Named
writes_of (Ok plan) = plan.writes
writes_of (Err why) = []

-- a look at files may be refused so: where that is for what they hold, it is one of these flaws
abbrev pub MayStop : List Flaw → Stop → Type 0
MayStop flaws (Fault word) = Unit {0}
MayStop flaws stop.Memory = Unit {0}
MayStop flaws (Contents why) = IsOneOf (flaw_of why) flaws

-- the quantities among the words
abbrev pub quantities_of : List Amount → List What
quantities_of amounts = map (λ (a : Amount). a.what) amounts

-- two quantities are the same: they have one name
abbrev pub is_same : What → What → Bool
is_same one other = bytes_eq (what_text one) (what_text other)

-- it is that there is too much of this quantity
abbrev pub is_over : What → Flaw → Bool
is_over one (OverLimit other) = is_same one other
is_over one _ = false

-- one of these quantities is among the words, and files may be refused for it too
abbrev pub is_shared : List Amount → List Flaw → Bool
is_shared amounts flaws = list_any (λ one. list_any (is_over one) flaws) (quantities_of amounts)

-- A refusal that comes of words alone: each, but where the words aren't refused a limit on a quantity that isn't among
-- them, since a file may pass that one.
abbrev pub IsOfWords : Result Plan Refusal → Refusal → Type 0
IsOfWords (Err other) why = Unit {0}
IsOfWords (Ok plan) refusal.Usage = Unit {0}
IsOfWords (Ok plan) (refusal.SameName first second) = Unit {0}
IsOfWords (Ok plan) (refusal.Limit what has most) = IsOneOf what (quantities_of plan.amounts)

-- what is asked for may end so
abbrev pub MayEnd : Result Plan Refusal → Ending → Type 0
MayEnd (Err why) (Refused other) = why ≡ other
MayEnd (Err why) (Stopped stop) = ⊥
MayEnd (Err why) (Finished finish) = ⊥
MayEnd (Ok plan) (Refused other) = ⊥
MayEnd (Ok plan) (Stopped stop) = MayStop plan.flaws stop
MayEnd (Ok plan) (Finished finish) = plan.ends_by finish ≡ true

-- the files, where they are known, changed at most at these names
abbrev pub ChangedAt : List Named → Option Names → Option Names → Type 0
ChangedAt [] old new = new ≡ old
ChangedAt (n ∷ ns) old new =
    ChangedAt ns old new ⊎ ((bytes : List ℕ) × ChangedAt ns (option_map (with_bytes n.name bytes) old) new)

-- the line of the end was printed, or, after a fault of printing or an allocation failure, a prefix of it
abbrev pub IsSaid : Ending → ℕ → Outside → Outside → Status → Type 0
IsSaid ending words old new result = ((result ≡ ending_status ending) × Said old new (says ending))
    ⊎ (((result ≡ FileFault words) ⊎ (result ≡ Memory)) × SaidPart old new (says ending))

-- what a plan reads files for
abbrev pub plan_reading : Plan → Reading Outcome
plan_reading plan = reading (words_of plan.reads) plan.flaws plan.leads_to

-- what a plan does up to its line: a look was refused; or what was found is completed, and its end may be
abbrev pub Does : Plan → Outside → Outside → Result Finish Stop → Type 0
Does plan old new result =
    ((stop : Stop) × (result ≡ Err stop) × Finds (λ (o : Outcome). o) (plan_reading plan) old new (Err stop))
    ⊎ ((outcome : Outcome) × (mid : Outside) × (plan.ends_by outcome.finish ≡ true)
    × Finds (λ (o : Outcome). o) (plan_reading plan) old mid (Ok outcome) × Completes plan.writes outcome mid new result)

-- the end of what was done
abbrev pub ending_of : Result Finish Stop → Ending
ending_of (Ok finish) = Finished finish
ending_of (Err stop) = Stopped stop

-- What every call promises, by what its words ask for. The first two are of files whose contents are known, the others
-- of any files.
pub record Answers (request : Result Plan Refusal) (words : ℕ) (old new : Outside) (result : Status) : Type 0 where
  -- the answer is that of the words and the files, up to faults and allocation failures
  pub ends : WhereKnown old (λ files. Ends (answer_of request files) words files old new result)
  -- no name was looked for in vain, unless the answer is that one isn't there
  pub absent : WhereKnown old (λ files. (new.absent ≡ old.absent)
      ⊎ ((word : ℕ) × ((answer_of request files).ending ≡ Stopped (Fault word))))
  -- what the words alone refuse is answered so; memory can then run out only in printing it
  pub refused : (why : Refusal) → request ≡ Err why → IsConcluded (Refused why) words old new result
  -- and nothing else is answered so: not Usage, not SameName, and no Limit on a quantity among the words
  pub refuses : (why : Refusal) → IsOfWords request why → result ≡ refusal_status why → request ≡ Err why
  -- which word a fault names, and that the count of its kind rose
  pub caused : (word : ℕ) → result ≡ FileFault word
      → (IsOneOf word (words_of (reads_of request)) × Rose old.read_faults new.read_faults)
      ⊎ (IsOneOf word (words_of (writes_of request)) × Rose old.write_faults new.write_faults)
      ⊎ ((word ≡ words) × Rose old.say_faults new.say_faults)
  -- no fault is passed over, nor is an allocation failure: all counts are as before, unless the answer is a fault, or
  -- memory that the files ran out of, which leaves every count but its own
  pub quiet : IsQuiet old new result
  -- memory that the files didn't run out of ran out before anything was written or said
  pub wanting : result ≡ Memory → IsUntouched old new ⊎ RanOut old new
  -- the line of an end that may be was printed; a fault and an allocation failure leave a prefix of one
  pub said : (ending : Ending) × MayEnd request ending × IsSaid ending words old new result
  -- every file but those that are to be written is as it was, and no count fell
  pub contents : ChangedAt (writes_of request) old.contents new.contents
  pub later : NoneFell old new
