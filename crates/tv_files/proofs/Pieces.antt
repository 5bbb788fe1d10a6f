-- A file read piece by piece, from its front.
use Rattle.std.proofs.Common.{◌≡◌, ℕ, ◌+◌, ◌<◌, ◌≤◌, List, ◌++◌, length, take, drop, Option, Some, None, Ok, arith, ap, refl, sym, ◌∙◌}
use Rattle.std.proofs.lemmas.List.{take_all, length-append, length-take-le}
use Rattle.std.proofs.Math.Seq.{take-add}
use Rattle.tv_files.specs.Outside.{Outside, WhereKnown}
use Rattle.tv_files.specs.Calls.{Reads, Gives}

-- what was read of the file so far is its front
abbrev pub IsFront : List ℕ → List ℕ → Type 0
IsFront front bytes = front ≡ take (length front) bytes

-- the next piece goes after the front
pub front_grows : (front bytes into : List ℕ) (at count : ℕ) → at ≡ length front → IsFront front bytes → Gives bytes at count into →
    count ≤ length into → IsFront (front ++ take count into) bytes
front_grows front bytes into at count here is_front gives fits =
    let grown : length (front ++ take count into) ≡ at + count = omega (arith, length-append front (take count into), length-take-le count into fits) in
    let before : front ≡ take at bytes = rw here is_front in
    ap (λ piece. front ++ piece) gives.front ∙ ap (λ held. held ++ take count (drop at bytes)) before
    ∙ sym (ap (λ n. take n bytes) grown ∙ take-add at count bytes)

-- where no more is given, the front is all
pub front_ends : (front bytes into : List ℕ) (at : ℕ) → at ≡ length front → IsFront front bytes → Gives bytes at 0 into → 0 < length into → front ≡ bytes
front_ends front bytes into at here is_front gives room =
    is_front ∙ take_all (length front) bytes (omega arith)

-- a name that was read is there, where contents are known
pub held_of_read : (old new : Outside) (name : List ℕ) (at : ℕ) (into : List ℕ) (count : ℕ) → Reads old new name at into (Ok count) →
    WhereKnown old (λ files. (bytes : List ℕ) × (files name ≡ Some bytes) × Gives bytes at count into)
held_of_read old new name at into count reads files known = by_name (files name) refl
  where
    by_name : (file : Option (List ℕ)) → (files name ≡ file) → (bytes : List ℕ) × (files name ≡ Some bytes) × Gives bytes at count into
    by_name None e = let fails = reads.missing files known e in cc fails.0
    by_name (Some bytes) e = (bytes, e, reads.bytes files known bytes e)
