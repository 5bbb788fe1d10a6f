-- Pieces of a file, and a read that returns one.
use Rattle.tv_core.proofs.Common.{◌≡◌, ℕ, ◌+◌, ◌-◌, ◌^◌, ◌<◌, ◌≤◌, List, ◌++◌, length, take, drop, Option, Some, None, Ok, arith, ap, refl, sym, ◌∙◌, nat_tests}
use Rattle.tv_core.proofs.Common.{cases_lt}
use Rattle.std.proofs.Common.{nat_le, nat_eq, ⊎_elim}
use Rattle.std.proofs.lemmas.List.{take-append-le, take-take, drop-take, drop-drop, length-take, length-take-le, length-drop}
use Rattle.std.proofs.Math.Seq.{take-add, take-append-add}
use Rattle.std.proofs.lemmas.List.Edits.{take-paste}
use Rattle.std.specs.List.{copy_within}
use Rattle.std.specs.Option.{option_and_then}
use Rattle.tv_word.specs.Word.{little_endian}
use Rattle.tv_files.specs.Outside.{Outside, Names}
use Rattle.tv_files.specs.Calls.{Reads, Gives}
use Rattle.tv_container.specs.Places.{number, places}
use Rattle.tv_container.specs.Reading.{bytes_of, IsMissing, IsPiece, Holds}

-- what a read that was answered put into the buffer, where the file is known
pub read_gives : (start old new : Outside) (name file : List ℕ) (at : ℕ) (into : List ℕ) (count : ℕ) → Reads old new name at into (Ok count) →
    old ≡ start → bytes_of start name ≡ Some file → Gives file at count into
unfolding bytes_of
read_gives start old new name file at into count reads same known = by_contents old.contents refl
  where
    named_file : option_and_then (λ (files : Names). files name) old.contents ≡ Some file
    named_file = rw same known

    by_contents : (held : Option Names) → old.contents ≡ held → Gives file at count into
    by_contents None e = let none : None ≡ Some file = rw e at named_file in cc
    by_contents (Some files) e = reads.bytes files e file (rw e at named_file)

-- the next piece goes after what is held
pub piece_grows : (front into rest file : List ℕ) (at held count : ℕ) → length front ≡ held → count ≤ length into →
    front ≡ take held (drop at file) → take count into ≡ take count (drop (at + held) file) →
    take (held + count) (front ++ (into ++ rest)) ≡ take (held + count) (drop at file)
piece_grows front into rest file at held count size fits is_front next =
    ap (λ n. take (n + count) (front ++ (into ++ rest))) (sym size)
    ∙ take-append-add front (into ++ rest) count
    ∙ ap (λ piece. front ++ piece) (take-append-le count into rest fits ∙ next)
    ∙ ap (λ piece. piece ++ take count (drop (at + held) file)) is_front
    ∙ ap (λ left. take held (drop at file) ++ take count left) (sym (drop-drop held at file))
    ∙ sym (take-add held count (drop at file))

-- the bytes in the buffer at a place that a piece holds are those of the file
pub bytes_held : (buffer file : List ℕ) (held from at size : ℕ) → held ≤ length buffer →
    IsPiece (record { at = from; bytes = take held buffer }) file → Holds (record { at = from; bytes = take held buffer }) at size →
    take size (drop (at - from) buffer) ≡ take size (drop at file)
bytes_held buffer file held from at size room piece holds =
    let n : length (take held buffer) ≡ held = length-take-le held buffer room in
    let k : at - from + size ≤ held = omega (arith, holds.to, holds.from) in
    let there : from + (at - from) ≡ at = omega (arith, holds.from) in
    let same : take held buffer ≡ take held (drop from file) = rw n at piece.same in
    sym (drop-take (at - from) size buffer)
    ∙ ap (λ front. drop (at - from) front) (
    sym (take-take (at - from + size) held buffer k)
    ∙ ap (λ front. take (at - from + size) front) same
    ∙ take-take (at - from + size) held (drop from file) k)
    ∙ drop-take (at - from) size (drop from file)
    ∙ ap (λ left. take size left) (drop-drop (at - from) from file)
    ∙ ap (λ p. take size (drop p file)) there

-- and so are the numbers that they represent
pub number_held : (buffer file : List ℕ) (held from at size : ℕ) → held ≤ length buffer →
    IsPiece (record { at = from; bytes = take held buffer }) file → Holds (record { at = from; bytes = take held buffer }) at size →
    little_endian (take size (drop (at - from) buffer)) ≡ number file size at
number_held buffer file held from at size room piece holds = ap little_endian (bytes_held buffer file held from at size room piece holds)

-- all the bytes from a place on that a piece holds
pub rest_held : (buffer file : List ℕ) (held from at size : ℕ) → held ≤ length buffer →
    IsPiece (record { at = from; bytes = take held buffer }) file → Holds (record { at = from; bytes = take held buffer }) at 0 → size ≡ held - (at - from) →
    take size (drop (at - from) buffer) ≡ take (length (take size (drop (at - from) buffer))) (drop at file)
rest_held buffer file held from at size room piece holds is =
    let n : length (take held buffer) ≡ held = length-take-le held buffer room in
    let some : at + size ≤ from + length (take held buffer) = omega (arith, holds.to, holds.from) in
    let left : size ≤ length (drop (at - from) buffer) = omega (arith, length-drop (at - from) buffer, holds.to, holds.from) in
    bytes_held buffer file held from at size room piece (record { from = holds.from; to = some })
    ∙ ap (λ m. take m (drop at file)) (sym (length-take-le size (drop (at - from) buffer) left))

-- the bytes from a place on, moved to the front
pub moved : (buffer file : List ℕ) (held from at : ℕ) → held ≤ length buffer →
    IsPiece (record { at = from; bytes = take held buffer }) file → Holds (record { at = from; bytes = take held buffer }) at 0 →
    IsPiece (record { at = at; bytes = take (held - (at - from)) (copy_within buffer (at - from) held 0) }) file
moved buffer file held from at room piece holds =
    let n : length (take held buffer) ≡ held = length-take-le held buffer room in
    let left : held - (at - from) ≤ length (drop (at - from) buffer) = omega (arith, length-drop (at - from) buffer, holds.to, holds.from) in
    let none : 0 + (held - (at - from)) ≡ held - (at - from) = omega arith in
    let front : take (held - (at - from)) (copy_within buffer (at - from) held 0) ≡ take (held - (at - from)) (drop (at - from) buffer)
    = ap (λ n. take n (copy_within buffer (at - from) held 0)) (sym none)
    ∙ take-paste buffer 0 (drop (at - from) buffer) (held - (at - from)) (omega arith) left in
    record { same = rw front (rest_held buffer file held from at (held - (at - from)) room piece holds refl) }

-- bytes at the front of a buffer are a piece of the file exactly where they are the file's at its place
pub front_of : (buffer file : List ℕ) (held at place : ℕ) → held ≤ length buffer → IsPiece (record { at = at; bytes = take held buffer }) file →
    at ≡ place → take held buffer ≡ take held (drop place file)
front_of buffer file held at place room piece is = piece.same ∙ ap (λ n. take n (drop at file)) (length-take-le held buffer room)
    ∙ ap (λ p. take held (drop p file)) is

pub is_piece : (buffer file : List ℕ) (held at place : ℕ) → held ≤ length buffer → take held buffer ≡ take held (drop place file) →
    at ≡ place → IsPiece (record { at = at; bytes = take held buffer }) file
is_piece buffer file held at place room same is = record {
  same = same ∙ ap (λ p. take held (drop p file)) (sym is) ∙ ap (λ n. take n (drop at file)) (sym (length-take-le held buffer room));
}

-- the file has the bytes at a place exactly where this many were read there
pub there_if_read : (buffer file : List ℕ) (at size held : ℕ) → held ≤ length buffer → take held buffer ≡ take held (drop at file) →
    (held < size → length file ≤ at + held) → 0 < size → at + size ≤ 2 ^ 64 - 1 → nat_le (at + size) (places file) ≡ nat_le size held
there_if_read buffer file at size held room same end some small =
    let left : held ≤ length file - at = omega (arith, length-take-le held buffer room, ap length same, length-take held (drop at file), length-drop at file) in
    ⊎_elim
    (λ (short : held < size). let past : length file < at + size = omega (arith, end short) in grind (arith, nat_tests))
    (λ (enough : size ≤ held). let within : at + size ≤ length file = omega arith in grind (arith, nat_tests))
    (cases_lt held size)

-- a read returns nothing exactly where the file has no byte there
pub ends_if_none : (file into : List ℕ) (at count : ℕ) → Gives file at count into → 0 < length into → nat_le (length file) at ≡ nat_eq count 0
ends_if_none file into at count gives some =
    ⊎_elim
    (λ (none : count < 1). let zero : count ≡ 0 = omega arith in let past : length file ≤ at = omega (arith, gives.none zero) in grind (arith, nat_tests))
    (λ (more : 1 ≤ count). let here : at < length file = omega (arith, gives.inside) in grind (arith, nat_tests))
    (cases_lt count 1)

-- a name that isn't there is not read
pub read_there : (start old new : Outside) (name : List ℕ) (at : ℕ) (into : List ℕ) (count : ℕ) → Reads old new name at into (Ok count) →
    old ≡ start → IsMissing start name → ⊥
read_there start old new name at into count reads same missing =
    let known : old.contents ≡ Some missing.files = rw same missing.known in
    let fails = reads.missing missing.files known missing.none in
    cc fails.0
