-- The system of a program's runs is within the limits.
use Rattle.tv_core.proofs.Common.{◌≤◌, ℕ, length, arith}
use Rattle.tv_core.specs.declared.limits.TheConstants.{IMAGE_WORDS, TAPE_WORDS, STEPS}
use Rattle.tv_layout.specs.Places.{WithinLimits}
use Rattle.tv_plan.proofs.Common.{HasImage, image_words}
use Rattle.tv_plan.specs.declared.programs.Program.{Program}
use Rattle.tv_plan.specs.declared.programs.Width.{Width}
use Rattle.tv_plan.specs.declared.programs.Width.TheVariants.{Bits16, Bits32}
use Rattle.tv_plan.proofs.ProgramLaws.{is_width}
use Rattle.tv_top.specs.Build.{program_runs}

few_words : (width : Width) (n : ℕ) → n ≤ image_words width → n ≤ IMAGE_WORDS
few_words Bits16 n few = omega arith
few_words Bits32 n few = few

-- the system of a program's runs has a size
pub within_limits : (program : Program) (n t : ℕ) → HasImage program → n ≤ TAPE_WORDS → 1 ≤ t → t ≤ STEPS → WithinLimits (program_runs n t program)
within_limits program n t image few some most = record {
  width = is_width program.width;
  words = image.words;
  image_fits = few_words program.width (length program.words) image.short;
  tape_fits = few;
  some = some;
  steps_fit = most;
}
