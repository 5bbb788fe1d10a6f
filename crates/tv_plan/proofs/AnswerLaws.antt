-- What a call promises, from what reading found, from writing and from saying a line.
use Rattle.tv_core.proofs.Common.{◌≡◌, ℕ, ◌⊎◌, Bool, false, List, [], ◌∷◌, ◌++◌, take, Option, Some, None, true, Result, Ok, Err, inl, inr, refl, sym, ap, ◌∙◌}
use Rattle.tv_core.proofs.Common.{arith, rules}
use Rattle.std.proofs.Common.{option_map}
use Rattle.std.specs.List.{list_any}
use Rattle.std.specs.Prelude.{IfOk, IsErrAnd, MatchResult}
use Rattle.std.proofs.lemmas.Bool.{or_parts}
use Rattle.std.proofs.lemmas.Slice.Eq.{bytes_eq-Decides}
use Rattle.tv_plan.proofs.Common.{Names, Outside, OnlyWrites, Rose, Amount, Bad, Ending, Refused, Stopped, Finished, Finish, Refusal, Stop, Fault}
use Rattle.tv_plan.proofs.Common.{Memory, Contents, What, Status, words_of, MayStop, quantities_of, IsOfWords, ChangedAt, IsSaid, Answers, Content}
use Rattle.tv_plan.proofs.Common.{bytes_in, AreRead, files_with, IsCutAt, IsCutInWriting, Said, SaidPart, Ends, IsConcluded, Concludes, Writes, IsCut}
use Rattle.tv_plan.proofs.Common.{Completes, Does, ending_of, IsOneOf, IsFound, Finds, Leaves, IsQuiet, NoneFell, RanOut, SameCounts, Named, Look}
use Rattle.tv_plan.proofs.Common.{Outcome, Plan, Answer}
use Rattle.tv_plan.proofs.Common.{files_of, answer_of, ending_by, outcome_by, writes_by, MayEnd, bad_status, refusal_status}
use Rattle.tv_plan.proofs.Common.{stop_status, finish_status, ending_status}
use Rattle.tv_plan.specs.declared.refusal.Bad.TheVariants as bad
use Rattle.tv_plan.specs.declared.refusal.Finish.TheVariants as finishes
use Rattle.tv_plan.specs.declared.refusal.Refusal.TheVariants as refusal
use Rattle.tv_plan.specs.Answers.{is_over, is_shared, plan_reading}
use Rattle.tv_plan.specs.Flaws.{Flaw, Flaw.{OverLimit}, flaw_of}
use Rattle.tv_check.specs.declared.verdict.Verdict.TheVariants as verdict
use Rattle.tv_plan.specs.declared.status.Status.TheVariants as status
use Rattle.tv_step.specs.declared.end.End.TheVariants as end
use Rattle.tv_container.proofs.Buffers.{counts_stay, counts_then, ran_out_since}
use Rattle.tv_plan.specs.Codes.{says, what_text}
use Rattle.tv_plan.proofs.LookLaws.{finds_comes, finds_without_memory}
use Rattle.tv_plan.specs.Finds.{reading}

-- ---- each status comes from one stage

-- the refusal of words that a status is
abbrev of_words : Status → Option Refusal
of_words status.Usage = Some refusal.Usage
of_words (status.SameName first second) = Some (refusal.SameName first second)
of_words (status.Limit what has most) = Some (refusal.Limit what has most)
of_words _ = None

words_is : (why : Refusal) → of_words (refusal_status why) ≡ Some why
words_is (refusal.Limit what has most) = refl
words_is _ = refl

-- each refusal of words has a status of its own
words_same : (why other : Refusal) → refusal_status why ≡ refusal_status other → why ≡ other
words_same why other e = let same : Some why ≡ Some other = sym (words_is why) ∙ ap of_words e ∙ words_is other in cc

-- it is one of the two refusals that words alone are answered, limits aside
abbrev is_plain : Status → Bool
is_plain status.Usage = true
is_plain (status.SameName first second) = true
is_plain _ = false

-- the quantity of the limit that a status is
abbrev limit_in : Status → Option What
limit_in (status.Limit what has most) = Some what
limit_in _ = None

-- what refused contents are answered is neither a refusal of words nor a fault
bad_is : (b : Bad) → (is_plain (bad_status b) ≡ false) × ((word : ℕ) → ¬ (bad_status b ≡ status.FileFault word))
bad_is (bad.Image len) = (refl, λ word e. cc)
bad_is _ = (refl, λ word e. cc)

stop_is : (stop : Stop) → is_plain (stop_status stop) ≡ false
stop_is (Contents b) = (bad_is b).0
stop_is _ = refl

-- a limit is answered to a file that passes it
stop_limit : (stop : Stop) (what : What) → limit_in (stop_status stop) ≡ Some what → (has most : ℕ) × (stop ≡ Contents (bad.Limit what has most))
stop_limit (Contents (bad.Limit size has most)) what e = (has, most, cc)
stop_limit _ what e = cc

stop_faulty : (stop : Stop) (word : ℕ) → stop_status stop ≡ status.FileFault word → stop ≡ Fault word
stop_faulty (Contents b) word e = absurd ((bad_is b).1 word e)
stop_faulty _ word e = cc

-- a good end is neither a refusal of words nor a fault
finish_good : (finish : Finish) → (of_words (finish_status finish) ≡ None) × ((word : ℕ) → ¬ (finish_status finish ≡ status.FileFault word))
finish_good (finishes.Run (end.Silent steps)) = (refl, λ word e. cc)
finish_good (finishes.Verdict verdict.Yes) = (refl, λ word e. cc)
finish_good _ = (refl, λ word e. cc)

-- ---- allocation failures

abbrev is_memory : Status → Bool
is_memory status.Memory = true
is_memory _ = false

bad_other : (b : Bad) → is_memory (bad_status b) ≡ false
bad_other (bad.Image len) = refl
bad_other _ = refl

finish_other : (finish : Finish) → is_memory (finish_status finish) ≡ false
finish_other (finishes.Run (end.Silent steps)) = refl
finish_other (finishes.Verdict verdict.Yes) = refl
finish_other _ = refl

refusal_other : (why : Refusal) → is_memory (refusal_status why) ≡ false
refusal_other (refusal.Limit what has most) = refl
refusal_other _ = refl

not_memory : (result : Status) → is_memory result ≡ false → ¬ (result ≡ status.Memory)
not_memory result other e = let same : is_memory result ≡ true = ap is_memory e in cc

-- it is answered at the end of its own alone
ending_memory : (ending : Ending) → ending_status ending ≡ status.Memory → ending ≡ Stopped Memory
ending_memory (Refused why) e = absurd (not_memory (refusal_status why) (refusal_other why) e)
ending_memory (Finished finish) e = absurd (not_memory (finish_status finish) (finish_other finish) e)
ending_memory (Stopped (Contents b)) e = absurd (not_memory (bad_status b) (bad_other b) e)
ending_memory (Stopped (Fault word)) e = cc
ending_memory (Stopped Memory) e = refl

memory_concluded : (ending : Ending) (words : ℕ) (old new : Outside) (result : Status) → IsConcluded ending words old new result → result ≡ status.Memory →
    ((ending ≡ Stopped Memory) × (new.said ≡ old.said)) ⊎ RanOut old new
memory_concluded ending words old new result (inl answered) e = let is = ending_memory ending (sym answered.0 ∙ e) in inl (is, rw is at answered.1)
memory_concluded ending words old new result (inr (inl fault)) e = cc
memory_concluded ending words old new result (inr (inr memory)) e = inr memory.1

-- counts that stayed, and then an end
quiet_since : (old mid new : Outside) (result : Status) → SameCounts old mid → IsQuiet mid new result → IsQuiet old new result
quiet_since old mid new result same (inl later) = inl (counts_then same later)
quiet_since old mid new result same (inr (inl fault)) = inr (inl fault)
quiet_since old mid new result same (inr (inr memory)) = inr (inr (memory.0, ran_out_since same memory.1))

-- memory ran out, and then no fault was met
ran_out_then : (old mid new : Outside) (result : Status) → RanOut old mid → NoneFell mid new → IsQuiet mid new result → result ≡ status.Memory → RanOut old new
ran_out_then old mid new result ran_out later (inl same) e = record {
  wants = omega (arith, ran_out.wants, later.wants);
  read_faults = same.read_faults ∙ ran_out.read_faults;
  write_faults = same.write_faults ∙ ran_out.write_faults;
  say_faults = same.say_faults ∙ ran_out.say_faults;
  absent = same.absent ∙ ran_out.absent;
}
ran_out_then old mid new result ran_out later (inr (inl fault)) e = let never = fault.1 in cc
ran_out_then old mid new result ran_out later (inr (inr memory)) e = let again = memory.1 in record {
  wants = omega (arith, ran_out.wants, later.wants);
  read_faults = again.read_faults ∙ ran_out.read_faults;
  write_faults = again.write_faults ∙ ran_out.write_faults;
  say_faults = again.say_faults ∙ ran_out.say_faults;
  absent = again.absent ∙ ran_out.absent;
}

-- ---- a limit on a quantity among the words is of no file

none_of : {A : Type 0} (p : A → Bool) (x : A) (xs : List A) → list_any p xs ≡ false → IsOneOf x xs → p x ≡ false
none_of p x [] none at = absurd at
none_of p x (y ∷ ys) none (inl is) = rw is (or_parts (p y) (list_any p ys) none).0
none_of p x (y ∷ ys) none (inr at) = none_of p x ys (or_parts (p y) (list_any p ys) none).1 at

apart_from : (amounts : List Amount) (flaws : List Flaw) (what : What) → is_shared amounts flaws ≡ false → IsOneOf what (quantities_of amounts)
    → IsOneOf (OverLimit what) flaws → ⊥
apart_from amounts flaws what apart known at =
    let other = none_of (is_over what) (OverLimit what) flaws (none_of (λ one. list_any (is_over one) flaws) what (quantities_of amounts) apart known) at in
    let same = (bytes_eq-Decides (what_text what) (what_text what)).1 refl in cc

-- what looks were refused for is one of these
abbrev IsWithin : List Flaw → Result Outcome Stop → Type 0
IsWithin flaws found = (why : Bad) → found ≡ Err (Contents why) → IsOneOf (flaw_of why) flaws

-- the answer to what was found
abbrev found_answer : Plan → ℕ → Outcome → Answer
found_answer plan at outcome = record { looked = at; writes = files_of plan.writes outcome.files; ending = Finished outcome.finish }

-- what a look is answered that was refused isn't a refusal of words
stop_refuses : (plan : Plan) (stop : Stop) (why : Refusal) → is_shared plan.amounts plan.flaws ≡ false → IsWithin plan.flaws (Err stop)
    → IsOfWords (Ok plan) why
    → ¬ (stop_status stop ≡ refusal_status why)
stop_refuses plan stop refusal.Usage apart limited known e = let none = stop_is stop in let some : is_plain (stop_status stop) ≡ true = ap is_plain e in cc
stop_refuses plan stop (refusal.SameName first second) apart limited known e = let none = stop_is stop in
    let some : is_plain (stop_status stop) ≡ true = ap is_plain e in cc
stop_refuses plan stop (refusal.Limit quantity has most) apart limited known e =
    let found = stop_limit stop quantity (ap limit_in e) in
    apart_from plan.amounts plan.flaws quantity apart known (limited (bad.Limit quantity found.0 found.1) (ap Err found.2))

may_stop : (flaws : List Flaw) (stop : Stop) → IsWithin flaws (Err stop) → MayStop flaws stop
may_stop flaws (Contents why) within = within why refl
may_stop flaws _ within = tt

-- ---- what was concluded

refuses_concluded : (ending : Ending) (words : ℕ) (old new : Outside) (result : Status) (why : Refusal) → IsConcluded ending words old new result
    → result ≡ refusal_status why → ending_status ending ≡ refusal_status why
refuses_concluded ending words old new result why (inl answered) e = sym answered.0 ∙ e
refuses_concluded ending words old new result why (inr (inl fault)) e = let h : None ≡ Some why = ap of_words (sym fault.0 ∙ e) ∙ words_is why in cc
refuses_concluded ending words old new result why (inr (inr memory)) e = let h : None ≡ Some why = ap of_words (sym memory.0 ∙ e) ∙ words_is why in cc

caused_concluded : (ending : Ending) (words : ℕ) (old new : Outside) (result : Status) (word : ℕ) → IsConcluded ending words old new result
    → result ≡ status.FileFault word →
    (ending_status ending ≡ status.FileFault word) ⊎ ((word ≡ words) × Rose old.say_faults new.say_faults)
caused_concluded ending words old new result word (inl answered) e = inl (sym answered.0 ∙ e)
caused_concluded ending words old new result word (inr (inl fault)) e = inr (cc, fault.1)
caused_concluded ending words old new result word (inr (inr memory)) e = cc

said_concluded : (ending : Ending) (words : ℕ) (old new : Outside) (result : Status) → IsConcluded ending words old new result
    → IsSaid ending words old new result
said_concluded ending words old new result (inl answered) = inl answered
said_concluded ending words old new result (inr (inl fault)) = inr (inl fault.0, fault.2)
said_concluded ending words old new result (inr (inr memory)) = inr (inr memory.0, memory.2)

said_since : (old mid new : Outside) (says : Option (List ℕ)) → mid.said ≡ old.said → Said mid new says → Said old new says
said_since old mid new None same said = said ∙ same
said_since old mid new (Some bytes) same said = said ∙ ap (option_map (λ before. before ++ bytes)) same

part_since : (old mid new : Outside) (says : Option (List ℕ)) → mid.said ≡ old.said → SaidPart mid new says → SaidPart old new says
part_since old mid new says same part = (part.0, part.1, part.2, rw same at part.3)

-- no count changed before something is said
abbrev IsQuietBefore : Ending → Outside → Outside → Type 0
IsQuietBefore ending old mid = (line : List ℕ) → says ending ≡ Some line → SameCounts old mid

concluded_since : (ending : Ending) (words : ℕ) (old mid new : Outside) (result : Status) → mid.said ≡ old.said → IsQuietBefore ending old mid →
    IsConcluded ending words mid new result → IsConcluded ending words old new result
concluded_since ending words old mid new result same quiet (inl answered) = inl (answered.0, said_since old mid new (says ending) same answered.1)
concluded_since ending words old mid new result same quiet (inr (inl fault)) =
    let part = fault.2 in let counts = quiet part.0 part.2 in
    inr (inl (fault.0, omega (arith, fault.1, counts.say_faults), part_since old mid new (says ending) same part))
concluded_since ending words old mid new result same quiet (inr (inr memory)) =
    let part = memory.2 in
    inr (inr (memory.0, ran_out_since (quiet part.0 part.2) memory.1, part_since old mid new (says ending) same part))

ends_answered : (answer : Answer) (words : ℕ) (files : Names) (old new : Outside) (result : Status) → new.contents ≡ files_with answer.writes (Some files) →
    AreRead answer.writes → IsConcluded answer.ending words old new result → Ends answer words files old new result
ends_answered answer words files old new result held read (inl answered) = inl (record { status = answered.0; contents = held; read = read; said = answered.1 })
ends_answered answer words files old new result held read (inr (inl fault)) = inr (inr (inr (inl (fault.0, record { contents = held; said = fault.2 }))))
ends_answered answer words files old new result held read (inr (inr memory)) = inr
    (inr (inr (inr (memory.0, inr (inr (record { contents = held; said = memory.2 }))))))

-- an end of which nothing is said
silent : (ending : Ending) (words : ℕ) (old new : Outside) (result : Status) → says ending ≡ None → IsConcluded ending words old new result
    → (result ≡ ending_status ending) × (new.said ≡ old.said)
silent ending words old new result none (inl answered) = (answered.0, rw none at answered.1)
silent ending words old new result none (inr (inl fault)) = let part = fault.2 in cc
silent ending words old new result none (inr (inr memory)) = let part = memory.2 in cc

-- ---- what was files_with

unchanged : (names : List Named) (old new : Option Names) → new ≡ old → ChangedAt names old new
unchanged [] old new same = same
unchanged (n ∷ ns) old new same = inl (unchanged ns old new same)

changed_whole : (names : List Named) (contents : List Content) (old : Option Names) → ChangedAt names old (files_with (files_of names contents) old)
changed_whole names [] old = unchanged names old old refl
changed_whole [] (c ∷ cs) old = refl
changed_whole (n ∷ ns) (c ∷ cs) old = inr (bytes_in c, changed_whole ns cs _)

-- and the word that is reported is one of a name that is written
changed_cut : (word : ℕ) (names : List Named) (contents : List Content) (old new : Option Names) → IsCutAt word (files_of names contents) old new
    → ChangedAt names old new × IsOneOf word (words_of names)
changed_cut word names [] old new cut = absurd cut
changed_cut word [] (c ∷ cs) old new cut = absurd cut
changed_cut word (n ∷ ns) (c ∷ cs) old new (inl (is, inl same)) = (inl (unchanged ns old new same), inl is)
changed_cut word (n ∷ ns) (c ∷ cs) old new (inl (is, inr part)) = (inr (take part.0 (bytes_in c), unchanged ns _ new part.1), inl is)
changed_cut word (n ∷ ns) (c ∷ cs) old new (inr later) = let rest = changed_cut word ns cs _ new later in (inr (bytes_in c, rest.0), inr rest.1)

-- ---- the exits

-- words that are refused
pub answers_refused : (request : Result Plan Refusal) (words : ℕ) (why : Refusal) (old new : Outside) (result : Status) → request ≡ Err why
    → Concludes (Refused why) words old new result → Answers request words old new result
answers_refused request words why old new result refused concludes = rw refused (record {
  ends = λ files known. ends_answered (answer_of (Err why) files) words files old new result (concludes.contents ∙ known) tt concludes.ended;
  absent = λ files known. inl concludes.absent;
  refused = λ other e. let same : why ≡ other = cc in rw (← same) concludes.ended;
  refuses = λ other known e. ap Err (words_same why other (refuses_concluded (Refused why) words old new result other concludes.ended e));
  caused = λ word e. elim (caused_concluded (Refused why) words old new result word concludes.ended e) [
    | inl is ↦ absurd (let h : None ≡ Some why = ap of_words (sym is) ∙ words_is why in cc)
    | inr cause ↦ inr (inr cause)
  ];
  quiet = concludes.quiet;
  wanting = λ e. elim (memory_concluded (Refused why) words old new result concludes.ended e) [
    | inl is ↦ let never = is.0 in cc
    | inr ran_out ↦ inr ran_out
  ];
  said = (Refused why, refl, said_concluded (Refused why) words old new result concludes.ended);
  contents = concludes.contents;
  later = concludes.later;
})

-- ---- the end of a plan whose files were looked at, by what was found

ends_found : (plan : Plan) (found : Result Outcome Stop) (words : ℕ) (files : Names) (old new : Outside) (result : Status)
    → new.contents ≡ files_with (writes_by plan.writes found) old.contents → old.contents ≡ Some files →
    AreRead (writes_by plan.writes found) → IsFound (λ (o : Outcome). o) (plan.leads_to files) found → IsConcluded (ending_by found) words old new result
    → Ends (answer_of (Ok plan) files) words files old new result
ends_found plan (Ok outcome) words files old new result held known read is concluded =
    rw is (ends_answered (found_answer plan (plan.leads_to files).at outcome) words files old new result
    (held ∙ ap (files_with (files_of plan.writes outcome.files)) known) read concluded)
ends_found plan (Err (Contents bad)) words files old new result held known read is concluded =
    rw is (ends_answered (record { looked = (plan.leads_to files).at; writes = []; ending = Stopped (Contents bad) }) words files old new result
    (held ∙ known) tt concluded)
ends_found plan (Err (Fault word)) words files old new result held known read within concluded =
    let nothing = silent (Stopped (Fault word)) words old new result refl concluded in
    inr (inl (word, nothing.0, within, record { contents = held; said = nothing.1 }))
ends_found plan (Err Memory) words files old new result held known read any concluded =
    let nothing = silent (Stopped Memory) words old new result refl concluded in
    inr (inr (inr (inr (nothing.0, inl (record { contents = held; said = nothing.1 })))))

-- what is answered isn't a refusal of words, and a fault only where one was found
found_refuses : (plan : Plan) (found : Result Outcome Stop) (why : Refusal) → is_shared plan.amounts plan.flaws ≡ false → IsWithin plan.flaws found
    → IsOfWords (Ok plan) why → ¬ (ending_status (ending_by found) ≡ refusal_status why)
found_refuses plan (Ok outcome) why apart within known e = let h : None ≡ Some why = sym (finish_good outcome.finish).0 ∙ ap of_words e ∙ words_is why in cc
found_refuses plan (Err stop) why apart within known e = stop_refuses plan stop why apart within known e

found_faulty : (found : Result Outcome Stop) (word : ℕ) → ending_status (ending_by found) ≡ status.FileFault word → found ≡ Err (Fault word)
found_faulty (Ok outcome) word e = absurd ((finish_good outcome.finish).1 word e)
found_faulty (Err stop) word e = ap Err (stop_faulty stop word e)

found_ends : (plan : Plan) (found : Result Outcome Stop) → IfOk found (λ outcome. plan.ends_by outcome.finish ≡ true) → IsWithin plan.flaws found
    → MayEnd (Ok plan) (ending_by found)
found_ends plan (Ok outcome) may within = may
found_ends plan (Err stop) may within = may_stop plan.flaws stop within

found_changed : (names : List Named) (found : Result Outcome Stop) (old : Option Names) → ChangedAt names old (files_with (writes_by names found) old)
found_changed names (Ok outcome) old = changed_whole names outcome.files old
found_changed names (Err stop) old = unchanged names old old refl

same_counts : {old mid new : Outside} → mid ≡ old → SameCounts mid new → SameCounts old new
same_counts is same = rw is at same

-- counts that stayed, and then transition_in not fall
still_later : {old mid new : Outside} → SameCounts old mid → NoneFell mid new → NoneFell old new
still_later same later = record {
  read_faults = omega (arith, same.read_faults, later.read_faults);
  write_faults = omega (arith, same.write_faults, later.write_faults);
  say_faults = omega (arith, same.say_faults, later.say_faults);
  wants = omega (arith, same.wants, later.wants);
  absent = omega (arith, same.absent, later.absent);
}

-- what was found leaves all counts, but for a fault, or memory that the files wanted
quiet_found : (found : Result Outcome Stop) (words : ℕ) (old mid after new : Outside) (result : Status) → Leaves found old mid → SameCounts mid after
    → Concludes (ending_by found) words after new result → IsQuiet old new result
quiet_found (Ok outcome) words old mid after new result is same concludes = quiet_since old after new result (same_counts is same) concludes.quiet
quiet_found (Err (Contents b)) words old mid after new result is same concludes = quiet_since old after new result (same_counts is same) concludes.quiet
quiet_found (Err (Fault word)) words old mid after new result is same concludes = inr
    (inl (word, (silent (Stopped (Fault word)) words after new result refl concludes.ended).0))
quiet_found (Err Memory) words old mid after new result (inl is) same concludes = quiet_since old after new result (same_counts is same) concludes.quiet
quiet_found (Err Memory) words old mid after new result (inr ran_out) same concludes =
    let is = (silent (Stopped Memory) words after new result refl concludes.ended).0 in
    inr (inr (is, ran_out_then old mid new result ran_out (still_later same concludes.later) (quiet_since mid after new result same concludes.quiet) is))

-- and where something is said, it left all of them
quiet_before : (found : Result Outcome Stop) (old mid after : Outside) → Leaves found old mid → SameCounts mid after → IsQuietBefore (ending_by found) old after
quiet_before (Ok outcome) old mid after is same line said = same_counts is same
quiet_before (Err (Contents b)) old mid after is same line said = same_counts is same
quiet_before (Err (Fault word)) old mid after is same line said = cc
quiet_before (Err Memory) old mid after is same line said = cc

found_memory : (found : Result Outcome Stop) → ending_by found ≡ Stopped Memory → found ≡ Err Memory
found_memory (Ok outcome) e = cc
found_memory (Err stop) e = let same : stop ≡ Memory = cc in ap Err same

-- what was found was written, and the line said
answers_ended : (plan : Plan) (found : Result Outcome Stop) (words : ℕ) (old mid after new : Outside) (result : Status)
    → is_shared plan.amounts plan.flaws ≡ false
    → IfOk found (λ outcome. plan.ends_by outcome.finish ≡ true) →
    Finds (λ (o : Outcome). o) (plan_reading plan) old mid found → Writes {X = Unit {0}} (writes_by plan.writes found) mid after (Ok tt)
    → Concludes (ending_by found) words after new result → Answers (Ok plan) words old new result
answers_ended plan found words old mid after new result apart may finds writes concludes =
    let concluded = concluded_since (ending_by found) words old after new result (writes.only.said ∙ finds.only.said)
    (quiet_before found old mid after finds.leaves writes.quiet) concludes.ended in
    let held : new.contents ≡ files_with (writes_by plan.writes found) old.contents = concludes.contents ∙ writes.ended.0
    ∙ ap (files_with (writes_by plan.writes found)) finds.only.contents in
    record {
      ends = λ files known. ends_found plan found words files old new result held known writes.ended.1 (finds.known files known) concluded;
      absent = λ files known. elim (finds.absent files known) [
        | inl here ↦ inl (concludes.absent ∙ writes.only.absent files (finds.only.contents ∙ known) ∙ here)
        | inr missing ↦ inr (missing.0, ap ending_by missing.1)
      ];
      refused = λ why e. cc;
      refuses = λ why known e. absurd (found_refuses plan found why apart finds.flaws known
          (refuses_concluded (ending_by found) words old new result why concluded e));
      caused = λ word e. elim (caused_concluded (ending_by found) words old new result word concluded e) [
        | inl is ↦ let cause = finds.caused word (found_faulty found word is) in inl (cause.0, omega (arith, cause.1))
        | inr cause ↦ inr (inr cause)
      ];
      quiet = quiet_found found words old mid after new result finds.leaves writes.quiet concludes;
      wanting = λ e. elim (memory_concluded (ending_by found) words old new result concluded e) [
        | inl is ↦ inl (record { contents = held ∙ ap (λ f. files_with (writes_by plan.writes f) old.contents) (found_memory found is.0); said = is.1 })
        | inr ran_out ↦ inr ran_out
      ];
      said = (ending_by found, found_ends plan found may finds.flaws, said_concluded (ending_by found) words old new result concluded);
      contents = rw held (found_changed plan.writes found old.contents);
      later = search rules;
    }

-- a plan whose files were found, and writing was cut short at a word, by a fault or an allocation failure
answers_cut : (plan : Plan) (outcome : Outcome) (words at : ℕ) (old mid new : Outside) (result : Status)
    → Finds (λ (o : Outcome). o) (plan_reading plan) old mid (Ok outcome) → OnlyWrites mid new →
    IsCutAt at (files_of plan.writes outcome.files) mid.contents new.contents → ((result ≡ status.FileFault at) × Rose mid.write_faults new.write_faults)
    ⊎ ((result ≡ status.Memory) × RanOut mid new) → Answers (Ok plan) words old new result
answers_cut plan outcome words at old mid new result finds only cut ended =
    let said : new.said ≡ old.said = only.said ∙ finds.only.said in
    let held : IsCutAt at (files_of plan.writes outcome.files) old.contents new.contents = rw finds.only.contents at cut in
    record {
      ends = λ files known. let here : IsCutInWriting at
          (found_answer plan (plan.leads_to files).at outcome) files old new = record { contents = rw known at held; said = said } in
          rw (finds.known files known) (elim ended [
            | inl fault ↦ inr (inr (inl (at, fault.0, here)))
            | inr memory ↦ inr
                (inr (inr (inr (memory.0, inr (inl (at, here))))))
          ]);
      absent = λ files known. elim (finds.absent files known) [
        | inl here ↦ inl (only.absent files (finds.only.contents ∙ known) ∙ here)
        | inr missing ↦ inr (missing.0, ap ending_by missing.1)
      ];
      refused = λ why e. cc;
      refuses = λ why known e. absurd (let h : None
          ≡ Some why = elim ended [ inl fault ↦ ap of_words (sym fault.0 ∙ e) ∙ words_is why | inr memory ↦ ap of_words (sym memory.0 ∙ e) ∙ words_is why ] in
          cc);
      caused = λ word e. elim ended [
        | inl fault ↦ let is = fault.0 in let same : at ≡ word = cc in
            inr (inl (rw same at (changed_cut at plan.writes outcome.files old.contents new.contents held).1, let rose = fault.1 in omega (arith, rose)))
        | inr memory ↦ let is = memory.0 in cc
      ];
      quiet = elim ended [
        | inl fault ↦ inr (inl (at, fault.0))
        | inr memory ↦ inr (inr (memory.0, rw finds.leaves at memory.1))
      ];
      wanting = λ e. elim ended [
        | inl fault ↦ (let is = fault.0 in cc)
        | inr memory ↦ inr (rw finds.leaves at memory.1)
      ];
      said = elim ended [ inl fault ↦ (Stopped (Fault at), tt, inl (fault.0, said)) | inr memory ↦ (Stopped Memory, tt, inl (memory.0, said)) ];
      contents = (changed_cut at plan.writes outcome.files old.contents new.contents held).0;
      later = search rules;
    }

-- of writing that was cut short nothing is said
only_since : (ending : Ending) (words : ℕ) (old mid new : Outside) (result : Status) → new.said ≡ mid.said → OnlyWrites old mid
    → Concludes ending words mid new result → OnlyWrites old new
only_since ending words old mid new result same only concludes = record {
  said = same ∙ only.said;
  absent = λ files known. concludes.absent
      ∙ only.absent files known;
  later = search rules;
}

still : (outside : Outside) → OnlyWrites outside outside
still outside = record { said = refl; absent = λ _ _. refl; later = search rules }

nothing_written : {X : Type 0} {x : X} (outside : Outside) → Writes [] outside outside (Ok x)
nothing_written outside = record { ended = (refl, tt); quiet = counts_stay outside; only = still outside }

answers_halted : (plan : Plan) (outcome : Outcome) (stop : Stop) (words : ℕ) (old mid after new : Outside) (result : Status)
    → is_shared plan.amounts plan.flaws ≡ false
    → Finds (λ (o : Outcome). o) (plan_reading plan) old mid (Ok outcome) →
    OnlyWrites mid after → IsCut (files_of plan.writes outcome.files) mid after stop → Concludes (Stopped stop) words after new result
    → Answers (Ok plan) words old new result
answers_halted plan outcome (Fault at) words old mid after new result apart finds only cut concludes =
    let nothing = silent (Stopped (Fault at)) words after new result refl concludes.ended in
    answers_cut plan outcome words at old mid new result finds (only_since (Stopped (Fault at)) words mid after new result nothing.1 only concludes)
    (rw concludes.contents cut.0) (inl (nothing.0, omega (arith, cut.1, concludes.later.write_faults)))
answers_halted plan outcome Memory words old mid after new result apart finds only (at, cut, ran_out) concludes =
    let nothing = silent (Stopped Memory) words after new result refl concludes.ended in
    answers_cut plan outcome words at old mid new result finds (only_since (Stopped Memory) words mid after new result nothing.1 only concludes)
    (rw concludes.contents cut) (inr (nothing.0, ran_out_then mid after new result ran_out concludes.later concludes.quiet nothing.0))
answers_halted plan outcome (Contents bad) words old mid after new result apart finds only cut concludes = absurd cut

-- a plan was carried out, and the line of its end said
pub answers_done : (plan : Plan) (done : Result Finish Stop) (words : ℕ) (old after new : Outside) (result : Status) → is_shared plan.amounts plan.flaws ≡ false
    → Does plan old after done → Concludes (ending_of done) words after new result → Answers (Ok plan) words old new result
answers_done plan done words old after new result apart (inl (stop, is, finds)) concludes =
    answers_ended plan (Err stop) words old after after new result apart tt finds (nothing_written after) (rw is at concludes)
answers_done plan (Ok finish) words old after new result apart (inr (outcome, mid, may, finds, completes)) concludes =
    elim completes.writes [
      | inl writes ↦ answers_ended plan (Ok outcome) words old mid after new result apart may finds
          (record { ended = writes.ended; quiet = writes.quiet; only = writes.only }) (rw completes.finish at concludes)
      | inr wanting ↦ let never = wanting.0 in cc
    ]
answers_done plan (Err stop) words old after new result apart (inr (outcome, mid, may, finds, completes)) concludes =
    elim completes.writes [
      | inl writes ↦ answers_halted plan outcome stop words old mid after new result apart finds writes.only writes.ended concludes
      | inr wanting ↦ let is = wanting.0 in let memory : stop ≡ Memory = cc in
          answers_ended plan (Err Memory) words old mid mid new result apart tt
          (finds_without_memory (Err Memory) refl finds)
          (nothing_written mid)
          (rw (memory, wanting.1) at concludes)
    ]

-- ---- what a command does, whose plan leads to this by what was found

-- a look was refused, and `?` passes that on
pub does_stopped : {X A : Type 0} (plan : Plan) (view : X → A) (ends : A → Outcome) (due : Names → Look A) (stop : Stop) (old new : Outside)
    (result : Result Finish Stop) →
    plan.leads_to ≡ (λ files. outcome_by ends (due files)) → Finds view (reading (words_of plan.reads) plan.flaws due) old new (Err stop)
    → IsErrAnd result (λ e. e ≡ stop)
    → Does plan old new result
does_stopped plan view ends due stop old new (Ok finish) is finds same = absurd same
does_stopped plan view ends due stop old new (Err other) is finds same = inl
    (stop, ap Err same, rw is (finds_comes ends (Err stop) finds))

pub does_found : {X A : Type 0} (plan : Plan) (view : X → A) (ends : A → Outcome) (due : Names → Look A) (found : X) (old mid new : Outside)
    (result : Result Finish Stop) →
    plan.leads_to ≡ (λ files. outcome_by ends (due files)) → plan.ends_by (ends (view found)).finish ≡ true
    → Finds view (reading (words_of plan.reads) plan.flaws due) old mid (Ok found) → Completes plan.writes (ends (view found)) mid new result
    → Does plan old new result
does_found plan view ends due found old mid new result is may finds completes = inr
    (ends (view found), mid, may, rw is (finds_comes ends (Ok found) finds), completes)

-- ---- what was found is completed

-- all is written
pub completes_whole : {X : Type 0} (places : List Named) (outcome : Outcome) (finish : Finish) (written : X) (old new : Outside) → finish ≡ outcome.finish
    → Writes (files_of places outcome.files) old new (Ok written) → Completes places outcome old new (Ok finish)
completes_whole places outcome finish written old new is writes = record {
  writes = inl
      (record { ended = writes.ended; quiet = writes.quiet; only = writes.only });
  finish = is;
}

-- or writing was cut short, and `?` passes that on
pub completes_cut : {X : Type 0} (places : List Named) (outcome : Outcome) (stop : Stop) (old new : Outside) (result : Result Finish Stop)
    → Writes {X = X} (files_of places outcome.files) old new (Err stop) → IsErrAnd result (λ e. e ≡ stop) → Completes places outcome old new result
completes_cut places outcome stop old new (Ok finish) writes is = absurd is
completes_cut places outcome stop old new (Err other) writes is = rw is
    (record { writes = inl (record { ended = writes.ended; quiet = tt; only = writes.only }); finish = tt })

-- or nothing is written, since there is nothing to write or memory was wanting
pub completes_nothing : (places : List Named) (outcome : Outcome) (done : Result Finish Stop) (outside : Outside)
    → MatchResult done (λ finish. outcome ≡ record { files = []; finish = finish }) (λ stop. stop ≡ Memory) → Completes places outcome outside outside done
completes_nothing places outcome (Ok finish) outside is = rw is (record { writes = inl (nothing_written outside); finish = refl })
completes_nothing places outcome (Err stop) outside is = rw is (record { writes = inr (refl, refl); finish = tt })

pub completes_without_memory : (places : List Named) (outcome : Outcome) (outside : Outside) (result : Result Finish Stop) → IsErrAnd result (λ e. e ≡ Memory)
    → Completes places outcome outside outside result
completes_without_memory places outcome outside (Ok finish) is = absurd is
completes_without_memory places outcome outside (Err stop) is = completes_nothing places outcome (Err stop) outside is

-- an outcome may be written in another way
pub completes_as : (places : List Named) (outcome other : Outcome) (old new : Outside) (result : Result Finish Stop) → outcome ≡ other
    → Completes places other old new result → Completes places outcome old new result
completes_as places outcome other old new result is completes = rw is completes
