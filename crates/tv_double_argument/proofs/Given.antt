-- What was passed of a list, the list being written in another way.
use Rattle.tv_core.proofs.Common.{◌≡◌, ℕ, List, Result, GivesAll}
use Rattle.tv_core.specs.Values.{ValuesMeaning, GivesSome, GivesIn}
use Rattle.tv_core.specs.declared.sink.SinkFault.{SinkFault}

module _ {V : Type 0} (m : ValuesMeaning V) (xs ys : List ℕ) (old new : V) (same : xs ≡ ys) where
  pub given_all : GivesAll m old new xs → GivesAll m old new ys
  given_all p = rw same at p

  pub given_some : (fault : SinkFault) → GivesSome m old new xs fault → GivesSome m old new ys fault
  given_some fault p = rw same at p

  pub given_in : (result : Result (Unit {0}) SinkFault) → GivesIn m old new xs result → GivesIn m old new ys result
  given_in result p = rw same at p
