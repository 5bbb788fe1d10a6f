-- What the counts tell of a call is what such a call may do.
use Rattle.std.proofs.Common.{◌≡◌, ℕ, ◌≤◌, List, length, Result, Ok, Err, IfOk, OnOk, OnErr, refl, ap, inl, arith}
use Rattle.std.specs.Result.{result_ok}
use Rattle.tv_files.specs.Outside.{NoneFell, RanOut, SameCounts}
use Rattle.tv_files.specs.Calls.{Reads, Creates, Appends, Says}
use Rattle.tv_files.specs.declared.calls.FileRefusal.{FileRefusal}
use Rattle.tv_files.specs.declared.calls.FileRefusal.TheVariants.{Failed, Memory}
use Rattle.tv_disk.specs.declared.counts.Call.{Call}
use Rattle.tv_disk.specs.declared.counts.Call.TheVariants.{Reading, Writing, Saying}
use Rattle.tv_disk.specs.declared.counts.RefusalCounts.{RefusalCounts}
use Rattle.tv_disk.specs.Counts.{outside_of, after}
use Rattle.tv_word.specs.Counts.{Rose}

abbrev faults : Call → RefusalCounts → ℕ
faults Reading counts = counts.read_faults
faults Writing counts = counts.write_faults
faults Saying counts = counts.say_faults

same : {A : Type 0} (call : Call) (result : Result A FileRefusal) (old new : RefusalCounts) → new ≡ after call result old
    → OnOk result (SameCounts (outside_of old) (outside_of new))
same call (Ok value) old new is = record { read_faults = cc; write_faults = cc; say_faults = cc; wants = cc; absent = refl }
same call (Err why) old new is = tt

failed : {A : Type 0} (call : Call) (result : Result A FileRefusal) (old new : RefusalCounts) → new ≡ after call result old → result ≡ Err Failed
    → Rose (faults call old) (faults call new)
failed Reading (Err Failed) old new is err = grind arith
failed Writing (Err Failed) old new is err = grind arith
failed Saying (Err Failed) old new is err = grind arith
failed call (Ok value) old new is err = cc
failed call (Err Memory) old new is err = cc

wanted : {A : Type 0} (call : Call) (result : Result A FileRefusal) (old new : RefusalCounts) → new ≡ after call result old → result ≡ Err Memory
    → RanOut (outside_of old) (outside_of new)
wanted call (Err Memory) old new is err = record {
  wants = grind arith;
  read_faults = ap (λ (counts : RefusalCounts). counts.read_faults) is;
  write_faults = ap (λ (counts : RefusalCounts). counts.write_faults) is;
  say_faults = ap (λ (counts : RefusalCounts). counts.say_faults) is;
  absent = refl;
}
wanted call (Ok value) old new is err = cc
wanted call (Err Failed) old new is err = cc

within : (outcome result : Result ℕ FileRefusal) (into : List ℕ) → result_ok result ≡ result_ok outcome → IfOk outcome (λ count. count ≤ length into)
    → IfOk result (λ count. count ≤ length into)
within (Ok count) (Ok counted) into is most = grind arith
within (Ok count) (Err why) into is most = tt
within (Err why) (Ok counted) into is most = cc
within (Err why) (Err other) into is most = tt

on_ok : {A : Type 0} (result : Result A FileRefusal) (P : A → Type 0) → ((value : A) → P value) → IfOk result P
on_ok (Ok value) P holds = holds value
on_ok (Err why) P holds = tt

on_err : {A : Type 0} (result : Result A FileRefusal) (P : Type 0) → P → OnErr result P
on_err (Ok value) P holds = tt
on_err (Err why) P holds = holds

pub reads : (old new : RefusalCounts) (name : List ℕ) (at : ℕ) (into : List ℕ) (outcome result : Result ℕ FileRefusal) → result_ok result ≡ result_ok outcome
    → IfOk outcome (λ count. count ≤ length into) → new ≡ after Reading result old → NoneFell (outside_of old) (outside_of new)
    → Reads (outside_of old) (outside_of new) name at into result
reads old new name at into outcome result value most is later = record {
  within = within outcome result into value most;
  bytes = on_ok result _ (λ count files known. cc);
  contents = refl;
  said = refl;
  counts = same Reading result old new is;
  later = later;
  failed = failed Reading result old new is;
  memory = wanted Reading result old new is;
  missing = λ files known. cc;
  there = λ files known. cc;
}

pub creates : (old new : RefusalCounts) (name : List ℕ) (result : Result (Unit {0}) FileRefusal) → new ≡ after Writing result old
    → NoneFell (outside_of old) (outside_of new) → Creates (outside_of old) (outside_of new) name result
creates old new name result is later = record {
  done = on_ok result _ (λ _. refl);
  refused = on_err result _ (inl refl);
  said = refl;
  counts = same Writing result old new is;
  later = later;
  failed = failed Writing result old new is;
  memory = wanted Writing result old new is;
  absent = refl;
}

pub appends : (old new : RefusalCounts) (name bytes : List ℕ) (result : Result (Unit {0}) FileRefusal) → new ≡ after Writing result old
    → NoneFell (outside_of old) (outside_of new) → Appends (outside_of old) (outside_of new) name bytes result
appends old new name bytes result is later = record {
  done = on_ok result _ (λ _. refl);
  refused = on_err result _ (0, refl);
  said = refl;
  counts = same Writing result old new is;
  later = later;
  failed = failed Writing result old new is;
  memory = wanted Writing result old new is;
  missing = λ files known. cc;
  there = λ files known. cc;
}

pub says : (old new : RefusalCounts) (bytes : List ℕ) (result : Result (Unit {0}) FileRefusal) → new ≡ after Saying result old
    → NoneFell (outside_of old) (outside_of new) → Says (outside_of old) (outside_of new) bytes result
says old new bytes result is later = record {
  done = on_ok result _ (λ _. refl);
  refused = on_err result _ (0, refl);
  contents = refl;
  counts = same Saying result old new is;
  later = later;
  failed = failed Saying result old new is;
  memory = wanted Saying result old new is;
  absent = refl;
}
