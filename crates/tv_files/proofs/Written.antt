-- A file written piece by piece, from its front.
use Rattle.std.proofs.Common.{◌≡◌, ◌⊎◌, ℕ, ◌+◌, ◌≤◌, min, List, ◌++◌, length, take, Some, None, Err, option_map, arith, ap, subst, sym, inl, inr, ◌∙◌}
use Rattle.std.proofs.lemmas.List.{take-append-le, take_min}
use Rattle.std.proofs.Math.Seq.{take-append-add}
use Rattle.tv_files.specs.Outside.{Names, OnlyWrites, Outside, RanOut, SameCounts, with_bytes, with_more}
use Rattle.tv_files.specs.Whole.{HasBytes, HasPart}
use Rattle.tv_files.specs.Calls.{Appends}
use Rattle.tv_files.specs.declared.calls.FileRefusal.{FileRefusal}
use Rattle.tv_files.proofs.NamedFiles.{known-with_more-with_bytes, with_bytes-here}
use Rattle.tv_word.specs.Counts.{Rose}

-- the next piece goes after what was written
pub written_grows : (old now new : Outside) (name written piece : List ℕ) → HasBytes old now name written →
    new.contents ≡ option_map (with_more name piece) now.contents → HasBytes old new name (written ++ piece)
written_grows old now new name written piece before added =
    added ∙ ap (option_map (with_more name piece)) before ∙ known-with_more-with_bytes name written piece old.contents

-- a front, and the first few bytes after it, are a front
take_front : (written piece rest : List ℕ) (n : ℕ) → take (length written + min n (length piece)) (written ++ (piece ++ rest)) ≡ written ++ take n piece
take_front written piece rest n =
    let within : min n (length piece) ≤ length piece = omega arith in
    take-append-add written (piece ++ rest) (min n (length piece))
    ∙ ap (λ front. written ++ front) (take-append-le (min n (length piece)) piece rest within ∙ take_min n piece)

-- where an append is refused, a first part of the whole was written
pub written_in_part : (old now new : Outside) (name bytes written piece rest : List ℕ) → bytes ≡ written ++ (piece ++ rest) → HasBytes old now name written →
    ((n : ℕ) × (new.contents ≡ option_map (with_more name (take n piece)) now.contents)) → HasPart old new name bytes
written_in_part old now new name bytes written piece rest whole before added =
    let front = ap (take (length written + min added.0 (length piece))) whole ∙ take_front written piece rest added.0 in
    inr (
      length written + min added.0 (length piece),
      written_grows old now new name written (take added.0 piece) before added.1 ∙ sym (ap (λ part. option_map (with_bytes name part) old.contents) front),
    )

-- counts that stayed, and then a fault or memory that ran out
pub rose_since : (old now new : Outside) → SameCounts old now → Rose now.write_faults new.write_faults → Rose old.write_faults new.write_faults
rose_since old now new same rose = subst (λ n. Rose n new.write_faults) same.write_faults rose

pub ran_out_since : (old now new : Outside) → SameCounts old now → RanOut now new → RanOut old new
ran_out_since old now new same ran_out = record {
  wants = subst (λ n. Rose n new.wants) same.wants ran_out.wants;
  read_faults = ran_out.read_faults ∙ same.read_faults;
  write_faults = ran_out.write_faults ∙ same.write_faults;
  say_faults = ran_out.say_faults ∙ same.say_faults;
  absent = ran_out.absent ∙ same.absent;
}

-- a piece was refused, after others that were written
pub only_writes : (old now new : Outside) (name written piece : List ℕ) (why : FileRefusal) → HasBytes old now name written → now.said ≡ old.said →
    SameCounts old now → Appends now new name piece (Err why) → OnlyWrites old new
only_writes old now new name written piece why before said same call = record {
  said = call.said ∙ said;
  absent = λ files known. by_there files (call.there (with_bytes name written files) (before ∙ ap (option_map (with_bytes name written)) known));
  later = record {
    read_faults = omega (arith, call.later.read_faults, same.read_faults);
    write_faults = omega (arith, call.later.write_faults, same.write_faults);
    say_faults = omega (arith, call.later.say_faults, same.say_faults);
    wants = omega (arith, call.later.wants, same.wants);
    absent = omega (arith, call.later.absent, same.absent);
  };
}
  where
    by_there : (files : Names) → (new.absent ≡ now.absent) ⊎ (with_bytes name written files name ≡ None) → new.absent ≡ old.absent
    by_there files (inl stays) = stays ∙ same.absent
    by_there files (inr none) = let here : Some written ≡ None = sym (with_bytes-here name written files) ∙ none in cc
