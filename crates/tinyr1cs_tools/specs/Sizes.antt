-- `sizes TEXT N T`: how large the system of a program's runs is.
use Rattle.std.specs.Prelude.{ℕ, ◌+◌, ◌*◌, List, ◌++◌, length, codes, decimal}
use Rattle.tv_stages.specs.declared.nets.Net.{Net}
use Rattle.tv_core.specs.Constraints.{System}
use Rattle.tv_core.specs.Meanings.{system_counts}
use Rattle.tv_core.specs.declared.lines.Counts.{Counts}
use Rattle.tv_files.specs.Outside.{Outside}
use Rattle.tv_layout.specs.Places.{runs_of}
use Rattle.tv_layout.specs.Systems.{system_of}
use Rattle.tv_plan.specs.Contents.{Content.{Constraints}, bytes_in}
use Rattle.tv_plan.specs.Finds.{reading_of}
use Rattle.tv_plan.specs.Plan.{named}
use Rattle.tv_plan.specs.Programs.{bits, program_in, program_flaws}
use Rattle.tv_plan.specs.declared.programs.Program.{Program}
use Rattle.tv_plan.specs.declared.refusal.Finish.TheVariants.{Quiet}
use Rattle.tv_plan.specs.declared.status.Status.{Status}
use Rattle.tinyr1cs_tools.specs.Print.{PrintsFound}
use Rattle.tinyr1cs_tools.specs.declared.sizes.SizesArgs.{SizesArgs}

-- a line of a name and a number
abbrev pub item : List ℕ → ℕ → List ℕ
item name number = name ++ decimal number ++ codes "\n"

-- the lines of a system: its wires, constraints and terms, and the bytes of its file
abbrev pub lines_of : ℕ → ℕ → ℕ → ℕ → List ℕ
lines_of wires constraints terms bytes =
    item (codes "wires ") wires ++ item (codes "constraints ") constraints ++ item (codes "terms ") terms ++ item (codes "bytes ") bytes

abbrev pub system_text : System → List ℕ
system_text system =
    lines_of system.wires (length system.constraints) (system_counts system).terms (length (bytes_in (Constraints system)))

-- the same by its sizes alone
abbrev pub file_size : Counts → ℕ
file_size counts = 88 + 12 * (counts.constraints + counts.terms) + 8 * counts.wires

abbrev pub counts_text : Counts → List ℕ
counts_text counts = lines_of counts.wires counts.constraints counts.terms (file_size counts)

-- the system that `build` writes for a program
abbrev pub program_system : Net → ℕ → ℕ → Program → System
program_system net n t program = system_of net (runs_of (bits program.width) program.words n t)

-- the program is read, and the sizes are printed of the system that `build` writes for it
abbrev pub Sizes : SizesArgs → Outside → Outside → Status → Type 0
Sizes args = PrintsFound (reading_of (named args.text) program_flaws program_in)
    (λ (program : Program). system_text (program_system args.net args.n args.t program)) (λ _. Quiet) 4
