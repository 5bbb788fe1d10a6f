-- What the contents of files may be refused for, by kind.
use Rattle.std.specs.Prelude.{ℕ}
use Rattle.tv_plan.specs.declared.refusal.Bad.{Bad}
use Rattle.tv_plan.specs.declared.refusal.Bad.TheVariants as bad
use Rattle.tv_plan.specs.declared.refusal.What.{What}

-- there is no program, no tape at this word, no system, no witness or no image; or there is too much of a quantity
pub data Flaw : Type 0 where
  OfProgram : Flaw
  OfTape : ℕ → Flaw
  OfSystem : Flaw
  OfWitness : Flaw
  OfImage : Flaw
  OverLimit : What → Flaw

-- the kind of a refusal
abbrev pub flaw_of : Bad → Flaw
flaw_of (bad.Program line why) = OfProgram
flaw_of (bad.Tape word at) = OfTape word
flaw_of (bad.System at why) = OfSystem
flaw_of (bad.Witness at why) = OfWitness
flaw_of (bad.Image len) = OfImage
flaw_of (bad.Limit what has most) = OverLimit what
