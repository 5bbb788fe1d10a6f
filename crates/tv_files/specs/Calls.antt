-- What each of the four calls may do, from the outside before it and after it.
use Rattle.std.specs.Prelude.{◌≡◌, ℕ, ◌-◌, ◌≤◌, ◌⊎◌, List, [], ◌++◌, length, take, drop, Some, None, option_map, Result, Err, IfOk, OnOk, OnErr}
use Rattle.tv_files.specs.Outside.{with_bytes, with_more, Outside, WhereKnown, MissesOnly, NoneFell, RanOut, SameCounts}
use Rattle.tv_files.specs.declared.calls.FileRefusal.{FileRefusal}
use Rattle.tv_files.specs.declared.calls.FileRefusal.TheVariants.{Failed, Memory}
use Rattle.tv_word.specs.Counts.{Rose}

-- the first `count` bytes of `into` are those that the file has from place `at` on; none only at or
-- past its end or where `into` is empty
pub record Gives (bytes : List ℕ) (at count : ℕ) (into : List ℕ) : Type 0 where
  pub inside : count ≤ length bytes - at
  pub front : take count into ≡ take count (drop at bytes)
  pub none : count ≡ 0 → (length bytes ≤ at) ⊎ (length into ≡ 0)

-- a read of a name, from place `at` on, that left `into`
pub record Reads (old new : Outside) (name : List ℕ) (at : ℕ) (into : List ℕ)
    (result : Result ℕ FileRefusal) : Type 0 where
  pub within : IfOk result (λ count. count ≤ length into)
  pub bytes : IfOk result (λ count.
      WhereKnown old (λ files. (bytes : List ℕ) → files name ≡ Some bytes → Gives bytes at count into))
  pub contents : new.contents ≡ old.contents
  pub said : new.said ≡ old.said
  pub counts : OnOk result (SameCounts old new)
  pub later : NoneFell old new
  pub failed : result ≡ Err Failed → Rose old.read_faults new.read_faults
  pub memory : result ≡ Err Memory → RanOut old new
  pub missing : WhereKnown old (λ files.
      files name ≡ None → (result ≡ Err Failed) × Rose old.absent new.absent)
  pub there : MissesOnly old new name

-- a name was made to stand for no bytes, or after a refusal is as it was
pub record Creates (old new : Outside) (name : List ℕ)
    (result : Result (Unit {0}) FileRefusal) : Type 0 where
  pub done : OnOk result (new.contents ≡ option_map (with_bytes name []) old.contents)
  pub refused : OnErr result ((new.contents ≡ old.contents)
      ⊎ (new.contents ≡ option_map (with_bytes name []) old.contents))
  pub said : new.said ≡ old.said
  pub counts : OnOk result (SameCounts old new)
  pub later : NoneFell old new
  pub failed : result ≡ Err Failed → Rose old.write_faults new.write_faults
  pub memory : result ≡ Err Memory → RanOut old new
  pub absent : new.absent ≡ old.absent

-- bytes were added to a name, or after a refusal the first few of them
pub record Appends (old new : Outside) (name bytes : List ℕ)
    (result : Result (Unit {0}) FileRefusal) : Type 0 where
  pub done : OnOk result (new.contents ≡ option_map (with_more name bytes) old.contents)
  pub refused : OnErr result ((n : ℕ)
      × (new.contents ≡ option_map (with_more name (take n bytes)) old.contents))
  pub said : new.said ≡ old.said
  pub counts : OnOk result (SameCounts old new)
  pub later : NoneFell old new
  pub failed : result ≡ Err Failed → Rose old.write_faults new.write_faults
  pub memory : result ≡ Err Memory → RanOut old new
  pub missing : WhereKnown old (λ files.
      files name ≡ None → (result ≡ Err Failed) × Rose old.absent new.absent)
  pub there : MissesOnly old new name

-- bytes were printed, or after a refusal the first few of them
pub record Says (old new : Outside) (bytes : List ℕ)
    (result : Result (Unit {0}) FileRefusal) : Type 0 where
  pub done : OnOk result (new.said ≡ option_map (λ said. said ++ bytes) old.said)
  pub refused : OnErr result ((n : ℕ)
      × (new.said ≡ option_map (λ said. said ++ take n bytes) old.said))
  pub contents : new.contents ≡ old.contents
  pub counts : OnOk result (SameCounts old new)
  pub later : NoneFell old new
  pub failed : result ≡ Err Failed → Rose old.say_faults new.say_faults
  pub memory : result ≡ Err Memory → RanOut old new
  pub absent : new.absent ≡ old.absent
