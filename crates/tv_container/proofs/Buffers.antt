-- What appending bytes held and given does, piece by piece.
use Rattle.tv_core.proofs.Common.{◌≡◌, ℕ, ◌<◌, ◌∷◌, add-one, get_or, ◌+◌, ◌-◌, ◌≤◌, List, [], ◌++◌, length, take, drop, Option, Some, None, Result, Ok, Err}
use Rattle.tv_core.proofs.Common.{append_assoc, append-nil, ap, refl, sym, ◌∙◌, subst, arith, rules, inl, inr, ◌⊎◌, cases_lt}
use Rattle.std.proofs.Common.{min, ⊎_elim, option_map}
use Rattle.std.proofs.Common.{IsErrAnd}
use Rattle.std.proofs.lemmas.List.{take-append-le, take_min, take-take, take-append-drop, drop-take, drop_all, length-take-le, length-drop}
use Rattle.std.proofs.lemmas.List.Edits.{take-paste}
use Rattle.std.proofs.lemmas.Grind.{flat_map-append}
use Rattle.std.proofs.Math.Seq.{take-append-add, take-suc}
use Rattle.std.specs.List.{copy_within, flat_map}
use Rattle.std.specs.Prelude.{MatchResult, is_ok, is_err, true, false}
use Rattle.tv_container.specs.Taking.{PassesOn, TakesBytes}
use Rattle.tv_container.specs.declared.pending.Pending.{Pending}
use Rattle.tv_container.specs.Faults.{sink_fault}
use Rattle.tv_container.specs.Writing.{Adds, OnlyAppends, Passes}
use Rattle.tv_container.specs.Written.{Caused, HasCause, HasCauseFrom, faults_in, wants_in}
use Rattle.tv_core.specs.Sinks.{IsCause}
use Rattle.tv_core.specs.declared.sink.SinkFault.{SinkFault}
use Rattle.tv_core.specs.declared.sink.SinkFault.TheVariants as sink
use Rattle.tv_files.proofs.Cases.{OnErr-map, OnOk-map}
use Rattle.tv_files.proofs.NamedFiles.{with_more-none, known-with_more-with_more, with_more-none_before}
use Rattle.tv_files.proofs.Written as written
use Rattle.tv_files.specs.Calls.{Appends}
use Rattle.tv_files.specs.Outside.{Outside, Names, RanOut, SameCounts, with_more}
use Rattle.tv_files.specs.declared.calls.FileRefusal.{FileRefusal}
use Rattle.tv_files.specs.declared.calls.FileRefusal.TheVariants as file
use Rattle.tv_word.specs.Counts.{Rose}

-- the first of the bytes that are held, and the others, moved to the front
pub first_held : (bytes : List ℕ) (held n size : ℕ) → held ≤ length bytes → size ≡ min held n → take size bytes ≡ take n (take held bytes)
first_held bytes held n size room is =
    let same : size ≡ min n (length (take held bytes)) = omega (arith, is, length-take-le held bytes room) in
    sym (take-take size held bytes (omega (arith, is))) ∙ ap (λ k. take k (take held bytes)) same ∙ take_min n (take held bytes)

pub others_held : (bytes : List ℕ) (held n size : ℕ) → held ≤ length bytes → size ≡ min held n →
    take (held - size) (copy_within bytes size held 0) ≡ drop n (take held bytes)
others_held bytes held n size room is =
    let left : held - size ≤ length (drop size bytes) = omega (arith, is, length-drop size bytes) in
    let whole : size + (held - size) ≡ held = omega (arith, is) in
    let start : 0 + (held - size) ≡ held - size = omega arith in
    ap (λ k. take k (copy_within bytes size held 0)) (sym start)
    ∙ take-paste bytes 0 (drop size bytes) (held - size) (omega (arith, is)) left
    ∙ sym (drop-take size (held - size) bytes)
    ∙ ap (λ k. drop size (take k bytes)) whole
    ∙ ⊎_elim
    (λ (few : held < n). drop_all size (take held bytes) (omega (arith, is, few, length-take-le held bytes room))
    ∙ sym (drop_all n (take held bytes) (omega (arith, few, length-take-le held bytes room))))
    (λ (enough : n ≤ held). let same : size ≡ n = omega (arith, is, enough) in ap (λ k. drop k (take held bytes)) same)
    (cases_lt held n)

-- no bytes are added where nothing is done
pub adds_none : (outside : Outside) (name : List ℕ) → Adds outside outside name []
adds_none outside name = by_contents outside.contents
  where
    by_contents : (known : Option Names) → known ≡ option_map (with_more name []) known
    by_contents None = refl
    by_contents (Some files) = ap Some (sym (with_more-none name files))

pub nothing_appended : (outside : Outside) (name : List ℕ) → OnlyAppends outside outside name
nothing_appended outside name = record {
  more = [];
  contents = adds_none outside name;
  said = refl;
  later = search rules;
  there = λ files known. inl refl;
}

-- a shorter first part of bytes is one of bytes that begin with them
take_front : (n : ℕ) (bytes rest : List ℕ) → take (min n (length bytes)) (bytes ++ rest) ≡ take n bytes
take_front n bytes rest =
    let within : min n (length bytes) ≤ length bytes = omega arith in
    take-append-le (min n (length bytes)) bytes rest within ∙ take_min n bytes

-- all bytes are held
pub all_held : (outside : Outside) (name bytes held : List ℕ) → bytes ≡ held → PassesOn outside outside name bytes held (Ok tt)
all_held outside name bytes held same = record {
  done = record { front = []; split = same; contents = adds_none outside name };
  refused = tt;
  only = nothing_appended outside name;
  cause = search rules;
}

-- a refused call is the cause of the fault that is made of it
pub is_cause : (old new : Outside) (why : FileRefusal) (result : Result (Unit {0}) FileRefusal) → result ≡ Err why →
    (result ≡ Err file.Failed → Rose old.write_faults new.write_faults) → (result ≡ Err file.Memory → RanOut old new) → Caused (sink_fault why) old new
is_cause old new file.Failed result refused failed memory = failed refused
is_cause old new file.Memory result refused failed memory = memory refused

-- a first part was appended, and the rest is held; or that was refused
pub call_passes : (old new : Outside) (name bytes front held : List ℕ) (written : Result (Unit {0}) FileRefusal) (outcome : Result (Unit {0}) SinkFault) →
    Appends old new name front written → bytes ≡ front ++ held
    → MatchResult written (λ x. outcome ≡ Ok x) (λ why. IsErrAnd outcome (λ fault. fault ≡ sink_fault why)) →
    PassesOn old new name bytes held outcome
call_passes old new name bytes front held (Ok unit) outcome call split is = rw is (record {
  done = record { front = front; split = split; contents = call.done };
  refused = tt;
  only = record { more = front; contents = call.done; said = call.said; later = call.later; there = call.there };
  cause = call.counts;
})
call_passes old new name bytes front held (Err why) (Ok done) call split is = absurd is
call_passes old new name bytes front held (Err why) (Err fault) call split is =
    let some = call.refused in
    record {
      done = tt;
      refused = (min some.0 (length front), rw (split, take_front some.0 front held) some.1);
      only = record { more = take some.0 front; contents = some.1; said = call.said; later = call.later; there = call.there };
      cause = rw is (is_cause old new why (Err why) refl call.failed call.memory);
    }

-- bytes added, and then bytes added
adds_then : (old mid new : Outside) (name first second : List ℕ) → Adds old mid name first → Adds mid new name second → Adds old new name (first ++ second)
adds_then old mid new name first second p q = q ∙ ap (option_map (with_more name second)) p ∙ known-with_more-with_more name first second old.contents

-- appended, and then appended
pub appends_then : (old mid new : Outside) (name : List ℕ) → OnlyAppends old mid name → OnlyAppends mid new name → OnlyAppends old new name
appends_then old mid new name p q = record {
  more = p.more ++ q.more;
  contents = adds_then old mid new name p.more q.more p.contents q.contents;
  said = q.said ∙ p.said;
  later = record {
    read_faults = omega (arith, p.later.read_faults, q.later.read_faults);
    write_faults = omega (arith, p.later.write_faults, q.later.write_faults);
    say_faults = omega (arith, p.later.say_faults, q.later.say_faults);
    wants = omega (arith, p.later.wants, q.later.wants);
    absent = omega (arith, p.later.absent, q.later.absent);
  };
  there = λ files known. by_cases files known (p.there files known);
}
  where
    by_cases : (files : Names) → old.contents ≡ Some files → (mid.absent ≡ old.absent) ⊎ (files name ≡ None) → (new.absent ≡ old.absent) ⊎ (files name ≡ None)
    by_cases files known (inr none) = inr none
    by_cases files known (inl same) =
        let after : mid.contents ≡ Some (with_more name p.more files) = p.contents ∙ ap (option_map (with_more name p.more)) known in
        elim (q.there (with_more name p.more files) after) [
          | inl again ↦ inl (again ∙ same)
          | inr none ↦ inr (with_more-none_before name p.more files none)
        ]

pub counts_stay : (outside : Outside) → SameCounts outside outside
counts_stay outside = record { read_faults = refl; write_faults = refl; say_faults = refl; wants = refl; absent = refl }

-- counts that stayed, and stayed again
pub counts_then : {old mid new : Outside} → SameCounts old mid → SameCounts mid new → SameCounts old new
counts_then p q = record {
  read_faults = q.read_faults ∙ p.read_faults;
  write_faults = q.write_faults ∙ p.write_faults;
  say_faults = q.say_faults ∙ p.say_faults;
  wants = q.wants ∙ p.wants;
  absent = q.absent ∙ p.absent;
}

-- counts that stayed, and then memory ran out
pub ran_out_since : {old mid new : Outside} → SameCounts old mid → RanOut mid new → RanOut old new
ran_out_since {old} {mid} {new} p q = written.ran_out_since old mid new p q

-- what called bytes to be refused is the cause after calls that left the counts
pub cause_then : (old mid new : Outside) (outcome : Result (Unit {0}) SinkFault) → SameCounts old mid → HasCause mid new outcome → HasCause old new outcome
cause_then old mid new (Ok unit) p same = counts_then p same
cause_then old mid new (Err sink.Failed) p rose = written.rose_since old mid new p rose
cause_then old mid new (Err sink.Memory) p ran_out = ran_out_since p ran_out

-- bytes are passed on, and then others
passes_then : (old mid new : Outside) (name held first second between after : List ℕ) (outcome : Result (Unit {0}) SinkFault) →
    PassesOn old mid name (held ++ first) between (Ok tt) → PassesOn mid new name (between ++ second) after outcome →
    PassesOn old new name (held ++ (first ++ second)) after outcome
passes_then old mid new name held first second between after outcome p q = record {
  done = OnOk-map outcome done q.done;
  refused = OnErr-map outcome part q.refused;
  only = appends_then old mid new name p.only q.only;
  cause = cause_then old mid new outcome p.cause q.cause;
}
  where
    whole : held ++ (first ++ second) ≡ p.done.front ++ (between ++ second)
    whole = sym (append_assoc held first second) ∙ ap (λ bytes. bytes ++ second) p.done.split ∙ append_assoc p.done.front between second

    front : (n : ℕ) → take (length p.done.front + n) (held ++ (first ++ second)) ≡ p.done.front ++ take n (between ++ second)
    front n = ap (take (length p.done.front + n)) whole ∙ take-append-add p.done.front (between ++ second) n

    done : Passes mid new name (between ++ second) after → Passes old new name (held ++ (first ++ second)) after
    done d = record {
      front = p.done.front ++ d.front;
      split = whole ∙ ap (λ rest. p.done.front ++ rest) d.split ∙ sym (append_assoc p.done.front d.front after);
      contents = adds_then old mid new name p.done.front d.front p.done.contents d.contents;
    }

    part : ((n : ℕ) × Adds mid new name (take n (between ++ second))) → (n : ℕ) × Adds old new name (take n (held ++ (first ++ second)))
    part d = (
      length p.done.front + d.0,
      subst (λ bytes. Adds old new name bytes) (sym (front d.0)) (adds_then old mid new name p.done.front (take d.0 (between ++ second)) p.done.contents d.1),
    )

-- the first bytes are refused, and no others are tried
passes_cut : (old new : Outside) (name held first second between after : List ℕ) (fault : SinkFault) →
    PassesOn old new name (held ++ first) between (Err fault) → PassesOn old new name (held ++ (first ++ second)) after (Err fault)
passes_cut old new name held first second between after fault p =
    let some = p.refused in
    record {
      done = tt;
      refused = (min some.0 (length (held ++ first)), rw (← append_assoc held first second, take_front some.0 (held ++ first) second) some.1);
      only = p.only;
      cause = p.cause;
    }

-- no call was refused so far
pub unrefused : (outcome : Result (Unit {0}) SinkFault) → is_err outcome ≡ false → outcome ≡ Ok tt
unrefused (Ok unit) none = refl
unrefused (Err fault) none = cc

-- with no call between, an outcome has its cause; and so it has after calls that follow others
pub cause_here : (outcome : Result (Unit {0}) SinkFault) (outside : Outside) → HasCauseFrom outcome outside outside outcome
cause_here (Ok unit) outside = counts_stay outside
cause_here (Err fault) outside = (refl, refl)

pub cause_from_then : (before between after : Result (Unit {0}) SinkFault) (old mid new : Outside) → HasCauseFrom before old mid between
    → HasCauseFrom between mid new after → HasCauseFrom before old new after
cause_from_then (Ok unit) (Ok done) after old mid new p q = cause_then old mid new after p q
cause_from_then (Ok unit) (Err fault) after old mid new p (is, same) = rw (is, same) p
cause_from_then (Err fault) between after old mid new (is, same) q = let last = rw is at q in (last.0, last.1 ∙ same)

-- where nothing was refused by now, nothing was before, and no count changed
pub quiet_from : (before after : Result (Unit {0}) SinkFault) (old new : Outside) → HasCauseFrom before old new after → is_err after ≡ false
    → (is_err before ≡ false) × SameCounts old new
quiet_from (Ok unit) (Ok done) old new same none = (refl, same)
quiet_from (Ok unit) (Err fault) old new cause none = cc
quiet_from (Err fault) after old new (is, same) none = let some : is_err {T = Unit {0}} (Err fault) ≡ false = rw is at none in cc

-- the first refusal is one fault of its kind, however what writes has its outcome
pub cause_seen : {S : Type 0} (outcome : S → Result (Unit {0}) SinkFault) (old new : S) (fault : SinkFault) → is_err (outcome old) ≡ false
    → outcome new ≡ Err fault → IsCause fault (λ s. faults_in (outcome s)) (λ s. wants_in (outcome s)) old new
cause_seen outcome old new sink.Failed none is = rw (unrefused (outcome old) none, is) (omega arith)
cause_seen outcome old new sink.Memory none is = rw (unrefused (outcome old) none, is) (omega arith)

-- and a fault of that kind has its cause outside
caused_by : (after : Result (Unit {0}) SinkFault) (fault : SinkFault) (old new : Outside) → HasCause old new after
    → IsCause fault faults_in wants_in (Ok tt) after → Caused fault old new
caused_by (Err sink.Failed) sink.Failed old new cause rose = cause
caused_by (Err sink.Memory) sink.Memory old new cause rose = cause
caused_by (Err sink.Failed) sink.Memory old new cause rose = absurd (omega (arith, rose))
caused_by (Err sink.Memory) sink.Failed old new cause rose = absurd (omega (arith, rose))
caused_by (Ok unit) sink.Failed old new cause rose = absurd (omega (arith, rose))
caused_by (Ok unit) sink.Memory old new cause rose = absurd (omega (arith, rose))

pub caused_seen : {S : Type 0} (outcome : S → Result (Unit {0}) SinkFault) (seen : S → Outside) (old new : S) (fault : SinkFault)
    → is_err (outcome old) ≡ false → HasCauseFrom (outcome old) (seen old) (seen new) (outcome new)
    → IsCause fault (λ s. faults_in (outcome s)) (λ s. wants_in (outcome s)) old new → Caused fault (seen old) (seen new)
caused_seen outcome seen old new sink.Failed none cause rose =
    let first = unrefused (outcome old) none in caused_by (outcome new) sink.Failed (seen old) (seen new) (rw first at cause) (rw first at rose)
caused_seen outcome seen old new sink.Memory none cause rose =
    let first = unrefused (outcome old) none in caused_by (outcome new) sink.Memory (seen old) (seen new) (rw first at cause) (rw first at rose)

-- bytes are taken, and then others
pub took_then : {name : List ℕ} {old mid new : Outside} {before between after : Pending} {first second : List ℕ} →
    TakesBytes name old before mid between first → TakesBytes name mid between new after second → TakesBytes name old before new after (first ++ second)
took_then {name} {old} {mid} {new} {before} {between} {after} {first} {second} p q = record {
  passes = λ ok. by_outcome between.outcome refl (p.passes ok);
  lost = λ fault e. let early = p.lost fault e in let late = q.lost fault early.0 in (late.0, late.1 ∙ early.1);
}
  where
    by_outcome : (outcome : Result (Unit {0}) SinkFault) → between.outcome ≡ outcome → PassesOn old mid name (before.buffer ++ first) between.buffer outcome →
        PassesOn old new name (before.buffer ++ (first ++ second)) after.buffer after.outcome
    by_outcome (Ok unit) e passes = passes_then old mid new name before.buffer first second between.buffer after.buffer after.outcome passes (q.passes e)
    by_outcome (Err fault) e passes = let late = q.lost fault e in
        rw (late.0, late.1) (passes_cut old mid name before.buffer first second between.buffer after.buffer fault passes)

-- bytes are taken, and then those held are appended
pub took_last : {name : List ℕ} {old mid new : Outside} {before between after : Pending} {bytes : List ℕ} →
    TakesBytes name old before mid between bytes → TakesBytes name mid between new after [] → TakesBytes name old before new after bytes
took_last {name} {old} {mid} {new} {before} {between} {after} {bytes} p q =
    subst (λ l. TakesBytes name old before new after l) (append-nil bytes) (took_then p q)

-- bytes are held, and no call is made
pub pushed : {name : List ℕ} {outside : Outside} {before : Pending} {held bytes : List ℕ} → held ≡ before.buffer ++ bytes →
    TakesBytes name outside before outside (record before { buffer = held }) bytes
pushed {name} {outside} {before} {held} {bytes} is = record {
  passes = λ ok. rw ok (all_held outside name (before.buffer ++ bytes) held (sym is));
  lost = λ fault e. (e, refl);
}

pub took_none : {name : List ℕ} {outside : Outside} {before : Pending} → TakesBytes name outside before outside before []
took_none {name} {outside} {before} = pushed (sym (append-nil before.buffer))

-- the first bytes held were appended, or that was refused
pub called : {name : List ℕ} {old new : Outside} {before : Pending} {rest : List ℕ} {outcome : Result (Unit {0}) SinkFault} (n : ℕ)
    (written : Result (Unit {0}) FileRefusal) →
    is_ok before.outcome ≡ true → Appends old new name (take n before.buffer) written → rest ≡ drop n before.buffer →
    MatchResult written (λ x. outcome ≡ Ok x) (λ why. IsErrAnd outcome (λ fault. fault ≡ sink_fault why))
    → TakesBytes name old before new (record { buffer = rest; outcome = outcome }) []
called {name} {old} {new} {before} {rest} {outcome} n written ok call is answer = record {
  passes = λ _. call_passes old new name (before.buffer ++ []) (take n before.buffer) rest written outcome call
      (append-nil before.buffer ∙ sym (take-append-drop n before.buffer) ∙ ap (λ l. take n before.buffer ++ l) (sym is)) answer;
  lost = λ fault e. let none : is_ok {T = Unit {0}} (Err fault) ≡ true = rw e at ok in cc;
}

-- nothing more is appended after a refusal
pub lost_more : {name : List ℕ} {outside : Outside} {before : Pending} {held bytes : List ℕ} → is_ok before.outcome ≡ false →
    TakesBytes name outside before outside (record before { buffer = held }) bytes
lost_more refused = record {
  passes = λ ok. let none : is_ok {E = SinkFault} (Ok (tt {0})) ≡ false = rw ok at refused in cc;
  lost = λ fault e. (e, refl);
}

module _ {X : Type 0} (f : X → List ℕ) (xs : List X) (i : ℕ) (d : X) where
  -- the bytes of one more of the items of a list stand after those of the others
  pub each_more : (bytes : List ℕ) → i < length xs → bytes ≡ f (get_or xs i d) → flat_map f (take (i + 1) xs) ≡ flat_map f (take i xs) ++ bytes
  each_more bytes h is =
      let x = get_or xs i d in
      let next : take (i + 1) xs ≡ take i xs ++ x ∷ [] = ap (λ n. take n xs) (add-one i) ∙ take-suc xs i d h in
      ap (flat_map f) next ∙ flat_map-append f (take i xs) (x ∷ []) ∙ ap (λ l. flat_map f (take i xs) ++ l) (append-nil (f x) ∙ sym is)
