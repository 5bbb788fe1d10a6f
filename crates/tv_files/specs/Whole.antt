-- Whole files.
use Rattle.std.specs.Prelude.{◌≡◌, ℕ, ◌<◌, ◌⊎◌, List, length, take, Option, Some, option_map, Result, Ok, Err}
use Rattle.tv_files.specs.Outside.{Outside, RanOut, SameCounts, with_bytes}
use Rattle.tv_files.specs.declared.outcome.Slurp.{Slurp}
use Rattle.tv_files.specs.declared.outcome.Slurp.TheVariants.{Fault, Memory, TooLong}
use Rattle.tv_word.specs.Counts.{Rose}

-- the name is there, with more than `most` bytes
abbrev pub IsLonger : ℕ → Option (List ℕ) → Type 0
IsLonger most file = (bytes : List ℕ) × (file ≡ Some bytes) × (most < length bytes)

-- what reading a whole file leaves of the counts: all, unless a read failed, or the files ran out of memory, which
-- leaves all but that of memory
abbrev pub Leaves : {A : Type 0} → Result A Slurp → Outside → Outside → Type 0
Leaves (Ok bytes) old new = SameCounts old new
Leaves (Err (TooLong most)) old new = SameCounts old new
Leaves (Err Fault) old new = Rose old.read_faults new.read_faults
Leaves (Err Memory) old new = SameCounts old new ⊎ RanOut old new

-- where contents are known, the name stands for these bytes now, and every other name for what it did
abbrev pub HasBytes : Outside → Outside → List ℕ → List ℕ → Type 0
HasBytes old new name bytes = new.contents ≡ option_map (with_bytes name bytes) old.contents

-- where contents are known, all is as it was, or the name stands for the first few of these bytes
abbrev pub HasPart : Outside → Outside → List ℕ → List ℕ → Type 0
HasPart old new name bytes =
    (new.contents ≡ old.contents) ⊎ ((n : ℕ) × HasBytes old new name (take n bytes))
