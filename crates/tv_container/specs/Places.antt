-- Reading numbers at places of a file, the whole of which is at hand.
use Rattle.std.specs.Prelude.{ℕ, Bool, ◌+◌, ◌-◌, ◌^◌, min, List, length, take, drop, Result, Ok, Err, nat_le, if◌then◌else◌}
use Rattle.tv_word.specs.Word.{little_endian}
use Rattle.tv_container.specs.declared.why.ReadWhy.{ReadWhy}
use Rattle.tv_container.specs.declared.why.ReadWhy.TheVariants.{Truncated}

-- what is wrong, and at which place of the file
pub record Fault : Type 0 where
  pub at : ℕ
  pub why : ReadWhy

infixl 10 ◌>>=◌
abbrev pub ◌>>=◌ : {A B : Type 0} → Result A Fault → (A → Result B Fault) → Result B Fault
(Ok x) >>= f = f x
(Err fault) >>= f = Err fault

abbrev pub wrong : {A : Type 0} → ℕ → ReadWhy → Result A Fault
wrong at why = Err (record { at = at; why = why })

-- goes on where a test holds
abbrev pub unless : Bool → ℕ → ReadWhy → Result (Unit {0}) Fault
unless test at why = if test then wrong at why else Ok tt

-- the number in n bytes of a file from a place on, the lowest first
abbrev pub number : List ℕ → ℕ → ℕ → ℕ
number file size at = little_endian (take size (drop at file))

-- how many bytes of a file have a place below the bound of places: all, unless the file is longer than that
abbrev pub places : List ℕ → ℕ
places file = min (length file) (2 ^ 64 - 1)

-- bytes at a place fit below an end
abbrev pub fit : ℕ → ℕ → ℕ → Result (Unit {0}) Fault
fit size at end = if nat_le (at + size) end then Ok tt else wrong at Truncated
