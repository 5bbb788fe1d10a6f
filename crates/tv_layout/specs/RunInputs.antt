-- What a run starts from.
use Rattle.std.specs.Prelude.{ℕ, List}

-- the bits of a word, an image, a primary and an auxiliary tape, and the most steps
pub record RunInput : Type 0 where
  pub width : ℕ
  pub image : List ℕ
  pub tape : List ℕ
  pub aux : List ℕ
  pub t : ℕ

-- the input of a run with these parts
abbrev pub run_on : ℕ → List ℕ → List ℕ → List ℕ → ℕ → RunInput
run_on w image tape aux t = record { width = w; image = image; tape = tape; aux = aux; t = t }
