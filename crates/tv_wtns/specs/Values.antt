-- What is kept of values that are being read.
use Rattle.std.specs.Prelude.{◌≡◌, ℕ, ◌+◌, ◌*◌, ◌<◌, List, ◌++◌, length, take, slice_index_or, Result, Ok}
use Rattle.tv_word.specs.Word.{little_endian}
use Rattle.tv_container.specs.Places.{Fault, ◌>>=◌, number}
use Rattle.tv_wtns.specs.Wtns.{values_at}

-- words of eight bytes are those of the numbers that the file has from a place on
pub record AreWords (words : List (List ℕ)) (file : List ℕ) (at : ℕ) : Type 0 where
  pub words_are : (k : ℕ) (d : List ℕ) → k < length words → little_endian (slice_index_or words k d) ≡ number file 8 (at + 8 * k)

-- values of which the first were read before the others
unfoldable pub with_front : List ℕ → Result (List ℕ) Fault → Result (List ℕ) Fault
with_front front others = do
  values ← others
  Ok (front ++ values)

-- an answer is some values and n more, from a place on; the first of the values are kept
pub record IsAhead (answer : Result (List ℕ) Fault) (most : ℕ) (kept file : List ℕ) (n at : ℕ) : Type 0 where
  pub front : List ℕ
  pub same : answer ≡ with_front front (values_at file n at)
  pub keeps : kept ≡ take most front
