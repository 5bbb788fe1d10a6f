-- The field that a container's numbers are of, as its section 1 says.
use Rattle.std.specs.Prelude.{ℕ, ◌+◌, not, List, Result, nat_lt, ◌==◌}
use Rattle.tv_core.specs.declared.field.TheConstants.{P}
use Rattle.tv_container.specs.declared.sections.Section.{Section}
use Rattle.tv_container.specs.declared.why.ReadWhy.TheVariants.{OtherPrime, BadCount}
use Rattle.tv_container.specs.Places.{Fault, ◌>>=◌, unless, number}

-- a section 1 of this size says that the field is this one: the size of a number, 8, and the prime
unfoldable pub this_field : List ℕ → ℕ → Section → Result (Unit {0}) Fault
this_field file wants one = do
  _ ← unless (nat_lt one.size 4) one.at (BadCount one.size wants)
  _ ← unless (not (number file 4 one.at == 8)) one.at OtherPrime
  _ ← unless (not (one.size == wants)) one.at (BadCount one.size wants)
  unless (not (number file 8 (one.at + 4) == P)) one.at OtherPrime
