-- Looks at files, one after another, and what is made of what they find.
use Rattle.tv_core.proofs.Common.{◌≡◌, ℕ, ◌+◌, List, [], ◌∷◌, ◌++◌, length, Option, Some, None, Result, Ok, Err, inl, inr, refl, ap, subst, ◌∙◌, ◌≤◌, arith}
use Rattle.tv_core.proofs.Common.{rules, cond_both}
use Rattle.std.proofs.Common.{nat_le, IsErrAnd}
use Rattle.tv_plan.proofs.Common.{Names, Outside, OnlyReads, SameCounts, Bad, What, Stop, Fault, Memory, Contents, IsOneOf, IsFound, Finds, Leaves, Makes}
use Rattle.tv_plan.proofs.Common.{Named, Look, ◌>>=◌, look_on, Outcome, outcome_by, map_ok, input, within, held_at, made_of}
use Rattle.tv_plan.specs.Finds.{reading, reading_of}
use Rattle.tv_plan.specs.Flaws.{Flaw, Flaw.{OverLimit}, flaw_of}
use Rattle.tv_plan.specs.declared.refusal.Bad.TheVariants as bad

-- the outside is as it was where its contents, what was said and its counts are
pub same_outside : {old new : Outside} → OnlyReads old new → SameCounts old new → new ≡ old
same_outside only same = λ i. record {
  contents = only.contents i;
  said = only.said i;
  read_faults = same.read_faults i;
  write_faults = same.write_faults i;
  say_faults = same.say_faults i;
  wants = same.wants i;
  absent = same.absent i;
}

left_at : {A : Type 0} (x : A) (some more : List A) → IsOneOf x some → IsOneOf x (some ++ more)
left_at x [] more at = absurd at
left_at x (y ∷ ys) more (inl is) = inl is
left_at x (y ∷ ys) more (inr at) = inr (left_at x ys more at)

right_at : {A : Type 0} (x : A) (some more : List A) → IsOneOf x more → IsOneOf x (some ++ more)
right_at x [] more at = at
right_at x (y ∷ ys) more at = inr (right_at x ys more at)

found_on : {A Y B : Type 0} (to : Y → B) (look : Look A) (f : A → Look B) (x : A) (found : Result Y Stop) → look.gives ≡ Ok x → IsFound to (f x) found
    → IsFound to (look >>= f) found
found_on to look f x (Ok y) is finds = rw is finds
found_on to look f x (Err (Contents why)) is due = rw is due
found_on to look f x (Err (Fault word)) is within = rw is (omega (arith, within))
found_on to look f x (Err Memory) is any = tt

reaches : {A B : Type 0} (at : ℕ) (gives : Result A Stop) (f : A → Look B) (word : ℕ) → word ≤ at → word ≤ (look_on at gives f).at
reaches at (Ok x) f word within = omega (arith, within)
reaches at (Err stop) f word within = within

found_short : {X A Y B : Type 0} (view : X → A) (to : Y → B) (look : Look A) (f : A → Look B) (stop : Stop) → IsFound view look (Err stop)
    → IsFound to (look >>= f) (Err stop)
found_short view to look f (Contents why) is = rw is refl
found_short view to look f (Fault word) within = reaches look.at look.gives f word within
found_short view to look f Memory any = tt

finds_stop : {X A Y B : Type 0} (view : X → A) (to : Y → B) (some more : List ℕ) (few many : List Flaw) (due : Names → Look A) (f : Names → A → Look B)
    (old new : Outside) (stop : Stop) →
    Finds view (reading some few due) old new (Err stop) → Finds to (reading (some ++ more) (few ++ many) (λ files. due files >>= f files)) old new (Err stop)
finds_stop view to some more few many due f old new stop one = record {
  known = λ files known. found_short view to (due files) (f files) stop (one.known files known);
  absent = λ files known. elim (one.absent files known) [ inl same ↦ inl same | inr missing ↦ inr (missing.0, rw missing.1 refl) ];
  only = one.only;
  leaves = one.leaves;
  caused = λ word e. let same : stop ≡ Fault word = cc in let cause = one.caused word (ap Err same) in (left_at word some more cause.0, cause.1);
  flaws = λ why e. let same : stop ≡ Contents why = cc in left_at (flaw_of why) few many (one.flaws why (ap Err same));
}

-- ---- a look of several, each followed by `?`

-- the first that is refused is what all of them find
pub finds_short : {X A Y B : Type 0} {view : X → A} {to : Y → B} {some : List ℕ} {few : List Flaw} {due : Names → Look A} {old new : Outside} {stop : Stop}
    (more : List ℕ) (many : List Flaw) (f : Names → A → Look B) (found : Result Y Stop) →
    IsErrAnd found (λ e. e ≡ stop) → Finds view (reading some few due) old new (Err stop)
    → Finds to (reading (some ++ more) (few ++ many) (λ files. due files >>= f files)) old new found
finds_short more many f (Ok y) same one = absurd same
finds_short more many f (Err other) same one = rw same (finds_stop _ _ _ _ _ _ _ _ _ _ _ one)

-- after one that finds something, what the others find
pub finds_on : {X A Y B : Type 0} {view : X → A} {to : Y → B} {some more : List ℕ} {few many : List Flaw} {due : Names
    → Look A} {old mid new : Outside} {x : X} {found : Result Y Stop} (f : Names → A → Look B) →
    Finds view (reading some few due) old mid (Ok x) → Finds to (reading more many (λ files. f files (view x))) mid new found
    → Finds to (reading (some ++ more) (few ++ many) (λ files. due files >>= f files)) old new found
finds_on {view} {to} {some} {more} {few} {many} {due} {new} {x} {found} f one two = record {
  known = λ files known. found_on to (due files) (f files) (view x) found (one.known files known) (two.known files (one.only.contents ∙ known));
  absent = λ files known. elim (two.absent files (one.only.contents ∙ known)) [
    | inl same ↦ elim (one.absent files known) [
      | inl before ↦ inl (same ∙ before)
      | inr missing ↦ absurd (let gave = one.known files known in let missed = missing.1 in cc)
    ]
    | inr missing ↦ inr (missing.0, let gave = one.known files known in rw gave missing.1)
  ];
  only = record { contents = two.only.contents ∙ one.only.contents; said = two.only.said ∙ one.only.said; later = search rules };
  leaves = subst (λ o. Leaves found o new) one.leaves two.leaves;
  caused = λ word e. let cause = two.caused word e in (right_at word some more cause.0, omega (arith, cause.1));
  flaws = λ why e. right_at (flaw_of why) few many (two.flaws why e);
}

-- what was found once all is as it was
pub finds_still : {X A : Type 0} {view : X → A} {words : List ℕ} {flaws : List Flaw} {due : Names → Look A} {outside : Outside} {x : X}
    → ((files : Names) → outside.contents ≡ Some files → (due files).gives ≡ Ok (view x)) →
    Finds view (reading words flaws due) outside outside (Ok x)
finds_still is = record {
  known = is;
  absent = λ files known. inl refl;
  only = record { contents = refl; said = refl; later = search rules };
  leaves = refl;
  caused = λ word e. cc;
  flaws = λ why e. cc;
}

-- ---- what was made of what was read

found_made : {X A : Type 0} (view : X → A) (due : Look A) (held : Result A Bad) (made : Result X Stop) → due.gives ≡ made_of held → Makes view held made
    → IsFound view due made
found_made view due held (Ok x) is makes = is ∙ ap made_of makes
found_made view due held (Err (Contents why)) is makes = is ∙ ap made_of makes
found_made view due held (Err (Fault word)) is makes = absurd makes
found_made view due held (Err Memory) is makes = tt

no_fault : {X A : Type 0} (view : X → A) (held : Result A Bad) (made : Result X Stop) (word : ℕ) → Makes view held made → ¬ (made ≡ Err (Fault word))
no_fault view held (Err (Fault at)) word makes e = makes
no_fault view held _ word makes e = cc

-- what is made of contents is refused for these alone
abbrev pub IsFlawed : {A : Type 0} → Result A Bad → List Flaw → Type 0
IsFlawed held flaws = (why : Bad) → held ≡ Err why → IsOneOf (flaw_of why) flaws

flaws_made : {X A : Type 0} (view : X → A) (held : Result A Bad) (made : Result X Stop) (flaws : List Flaw) → Makes view held made → IsFlawed held flaws →
    (why : Bad) → made ≡ Err (Contents why) → IsOneOf (flaw_of why) flaws
flaws_made view held (Err (Contents other)) flaws makes flawed why e = let same : other ≡ why = cc in flawed why (makes ∙ ap Err same)
flaws_made view held _ flaws makes flawed why e = cc

-- making reads no file
leaves_made : {X A : Type 0} (view : X → A) (held : Result A Bad) (made : Result X Stop) (old new : Outside) → Makes view held made → new ≡ old
    → Leaves made old new
leaves_made view held (Ok x) old new makes same = same
leaves_made view held (Err (Contents why)) old new makes same = same
leaves_made view held (Err (Fault word)) old new makes same = tt
leaves_made view held (Err Memory) old new makes same = inl same

-- of a file that may have this many bytes, what is found of its bytes
limited_is : {A : Type 0} (word : ℕ) (what : What) (most : ℕ) (f : List ℕ → Result A Bad) (file : Option (List ℕ)) (bytes text : List ℕ) → text ≡ bytes
    → held_at word (within what most (λ bytes. Ok bytes)) file ≡ Ok bytes →
    held_at word (within what most f) file ≡ made_of (f text)
limited_is word what most f None bytes text is e = cc
limited_is word what most f (Some held) bytes text is e =
    cond_both (nat_le (length held) most) (Ok held) (Err (bad.Limit what (most + 1) most))
    (λ read. made_of read ≡ Ok bytes → held_at word (within what most f) (Some held) ≡ made_of (f text))
    (λ fits e. let same : held ≡ text = cc in rw (fits, same) refl) (λ _ e. cc) e

-- what was made of a file of this many bytes
pub made_found : {X Y A : Type 0} (view : X → A) (of_read : Y → List ℕ) (place : Named) (what : What) (flaws : List Flaw) (most : ℕ) (f : List ℕ → Result A Bad)
    (read : Y) (text : List ℕ) (made : Result X Stop) (old new : Outside) →
    Finds of_read (reading_of place (OverLimit what ∷ []) (within what most (λ bytes. Ok bytes))) old new (Ok read) → text ≡ of_read read
    → Makes view (f text) made → IsFlawed (f text) flaws →
    Finds view (reading_of place (OverLimit what ∷ flaws) (within what most f)) old new made
unfolding input
made_found view of_read place what flaws most f read text made old new finds is makes flawed = record {
  known = λ files known. found_made view (input place (within what most f) files) (f text) made
      (limited_is place.word what most f (files place.name) (of_read read) text is (finds.known files known)) makes;
  absent = λ files known. elim (finds.absent files known) [
    | inl same ↦ inl same
    | inr missing ↦ absurd (let found = finds.known files known in let missed = missing.1 in cc)
  ];
  only = finds.only;
  leaves = leaves_made view (f text) made old new makes finds.leaves;
  caused = λ at e. absurd (no_fault view (f text) made at makes e);
  flaws = λ why e. inr (flaws_made view (f text) made flaws makes flawed why e);
}

-- nothing is made of a file that couldn't be read
unread : {A : Type 0} (word : ℕ) (what : What) (most : ℕ) (f : List ℕ → Result A Bad) (file : Option (List ℕ)) (stop : Stop) →
    held_at word (within what most (λ bytes. Ok bytes)) file ≡ Err stop → held_at word (within what most f) file ≡ Err stop
unread word what most f None stop e = let same : Fault word ≡ stop = cc in ap Err same
unread word what most f (Some held) stop e =
    cond_both (nat_le (length held) most) (Ok held) (Err (bad.Limit what (most + 1) most))
    (λ read. made_of read ≡ Err stop → held_at word (within what most f) (Some held) ≡ Err stop) (λ _ e. cc)
    (λ over e. let same : Contents (bad.Limit what (most + 1) most) ≡ stop = cc in rw over (ap Err same)) e

unfound : {X Y A : Type 0} (view : X → A) (read : Y → List ℕ) (place : Named) (what : What) (most : ℕ) (f : List ℕ → Result A Bad) (files : Names) (stop : Stop)
    → IsFound read (input place (within what most (λ bytes. Ok bytes)) files) (Err stop) → IsFound view (input place (within what most f) files) (Err stop)
unfolding input
unfound view read place what most f files (Contents why) is = unread place.word what most f (files place.name) _ is
unfound view read place what most f files (Fault at) is = is
unfound view read place what most f files Memory is = tt

pub finds_unread : {X Y A : Type 0} {view : X → A} {of_read : Y → List ℕ} (place : Named) (what : What) (flaws : List Flaw) (most : ℕ)
    (f : List ℕ → Result A Bad) (old new : Outside) (stop : Stop) (found : Result X Stop) → IsErrAnd found (λ e. e ≡ stop) →
    Finds of_read (reading_of place (OverLimit what ∷ []) (within what most (λ bytes. Ok bytes))) old new (Err stop)
    → Finds view (reading_of place (OverLimit what ∷ flaws) (within what most f)) old new found
unfolding input
finds_unread place what flaws most f old new stop (Ok x) same finds = absurd same
finds_unread {view} {of_read} place what flaws most f old new stop (Err other) same finds = rw same (record {
  known = λ files known. unfound view of_read place what most f files stop (finds.known files known);
  absent = λ files known. elim (finds.absent files known) [ inl is ↦ inl is | inr gone ↦ inr (gone.0, unread place.word what most f _ _ gone.1) ];
  only = finds.only;
  leaves = finds.leaves;
  caused = λ word e. let same : stop ≡ Fault word = cc in finds.caused word (ap Err same);
  flaws = λ why e. let same : stop ≡ Contents why = cc in left_at (flaw_of why) (OverLimit what ∷ []) flaws (finds.flaws why (ap Err same));
})

-- ---- how a command ends by what was found

found_leads : {X A : Type 0} (view : X → A) (f : A → Outcome) (due : Look A) (found : Result X Stop) → IsFound view due found
    → IsFound (λ (o : Outcome). o) (outcome_by f due) (map_ok (λ x. f (view x)) found)
found_leads view f due (Ok x) is = ap (map_ok f) is
found_leads view f due (Err (Contents why)) is = ap (map_ok f) is
found_leads view f due (Err (Fault word)) within = within
found_leads view f due (Err Memory) any = tt

leaves_comes : {X Y : Type 0} (f : X → Y) (found : Result X Stop) (old new : Outside) → Leaves found old new → Leaves (map_ok f found) old new
leaves_comes f (Ok x) old new leaves = leaves
leaves_comes f (Err stop) old new leaves = leaves

-- ---- what was found, seen in another way

pub same_err : {X Y E : Type 0} (f : X → Y) (found : Result X E) (why : E) → map_ok f found ≡ Err why → found ≡ Err why
same_err f (Ok x) why e = cc
same_err f (Err other) why e = cc

finds_to : {X Y A B : Type 0} {view : X → A} {other : Y → B} {words : List ℕ} {flaws : List Flaw} {due : Names → Look A} {next : Names → Look B}
    {old new : Outside} (found : Result X Stop) (same : Result Y Stop) → ((files : Names) → IsFound view (due files) found → IsFound other (next files) same)
    → ((files : Names) (word : ℕ) → (due files).gives ≡ Err (Fault word) → (next files).gives ≡ Err (Fault word)) → (Leaves found old new → Leaves same old new)
    → ((word : ℕ) → same ≡ Err (Fault word) → found ≡ Err (Fault word)) → ((why : Bad) → same ≡ Err (Contents why) → found ≡ Err (Contents why))
    → Finds view (reading words flaws due) old new found → Finds other (reading words flaws next) old new same
finds_to found same to none leaves faults refused finds = record {
  known = λ files known. to files (finds.known files known);
  absent = λ files known. elim (finds.absent files known) [ inl kept ↦ inl kept | inr missing ↦ inr (missing.0, none files missing.0 missing.1) ];
  only = finds.only;
  leaves = leaves finds.leaves;
  caused = λ word e. finds.caused word (faults word e);
  flaws = λ why e. finds.flaws why (refused why e);
}

-- a look that finds the same
pub finds_as : {X A : Type 0} {view : X → A} {words : List ℕ} {flaws : List Flaw} {due other : Names → Look A} {old new : Outside} {found : Result X Stop}
    → ((files : Names) → due files ≡ other files) → Finds view (reading words flaws other) old new found → Finds view (reading words flaws due) old new found
finds_as is = finds_to _ _ (λ files gives. rw (is files) gives) (λ files word missed. rw (is files) missed) (λ left. left) (λ word e. e) (λ why e. e)

pub finds_view : {X Y A : Type 0} {view : X → A} {other : Y → A} {words : List ℕ} {flaws : List Flaw} {due : Names → Look A} {found : X} {same : Y}
    {old new : Outside} → view found ≡ other same → Finds view (reading words flaws due) old new (Ok found)
    → Finds other (reading words flaws due) old new (Ok same)
finds_view {found} {same} is = finds_to (Ok found) (Ok same) (λ files gives. gives ∙ ap Ok is) (λ files word missed. missed) (λ left. left) (λ word e. cc)
    (λ why e. cc)

-- what a look was refused for, which `?` passes on
also_found : {X Y A : Type 0} (view : X → A) (other : Y → A) (due : Look A) (stop : Stop) → IsFound view due (Err stop) → IsFound other due (Err stop)
also_found view other due (Contents why) is = is
also_found view other due _ is = is

pub finds_passed : {X Y A : Type 0} {view : X → A} {other : Y → A} {words : List ℕ} {flaws : List Flaw} {due : Names → Look A} {stop : Stop}
    {old new : Outside} (found : Result Y Stop) → IsErrAnd found (λ e. e ≡ stop) → Finds view (reading words flaws due) old new (Err stop)
    → Finds other (reading words flaws due) old new found
finds_passed (Ok y) same finds = absurd same
finds_passed {view} {other} {due} {stop} (Err e) same finds = rw same
    (finds_to (Err stop) (Err stop) (λ files. also_found view other (due files) stop) (λ files word missed. missed) (λ left. left)
    (λ word e. let is : stop ≡ Fault word = cc in ap Err is) (λ why e. let is : stop ≡ Contents why = cc in ap Err is) finds)

-- memory may be wanting for what follows on a look
pub finds_without_memory : {X Y A : Type 0} {view : X → A} {other : Y → A} {words : List ℕ} {flaws : List Flaw} {due : Names → Look A} {found : X}
    {old new : Outside} (result : Result Y Stop) → IsErrAnd result (λ e. e ≡ Memory) → Finds view (reading words flaws due) old new (Ok found)
    → Finds other (reading words flaws due) old new result
finds_without_memory (Ok y) is finds = absurd is
finds_without_memory {found} (Err stop) is finds = rw is
    (finds_to (Ok found) (Err Memory) (λ files gives. tt) (λ files word missed. missed) (λ same. inl same) (λ word e. cc) (λ why e. cc) finds)

pub finds_comes : {X A : Type 0} {view : X → A} {words : List ℕ} {flaws : List Flaw} {due : Names → Look A} {old new : Outside} (f : A → Outcome)
    (found : Result X Stop) → Finds view (reading words flaws due) old new found
    → Finds (λ (o : Outcome). o) (reading words flaws (λ files. outcome_by f (due files))) old new (map_ok (λ x. f (view x)) found)
finds_comes {view} {due} f found = finds_to found _ (λ files. found_leads view f (due files) found) (λ files word missed. ap (map_ok f) missed)
    (leaves_comes (λ x. f (view x)) found _ _) (λ word. same_err (λ x. f (view x)) found (Fault word)) (λ why. same_err (λ x. f (view x)) found (Contents why))
