-- That every combination of a system is normal.
use Rattle.tv_stages.specs.declared.nets.Net.{Net}
use Rattle.tv_core.specs.Normal.{AreNormal}
use Rattle.tv_layout.specs.Places.{WithinLimits, ProgramRuns}
use Rattle.tv_layout.specs.Systems.{system_of}

-- in each constraint of each system within the limits a wire stands at most once, in rising order, with a coefficient
-- other than 0
abbrev pub SystemIsNormal : Type 0
SystemIsNormal = (net : Net) (runs : ProgramRuns) → WithinLimits runs → AreNormal (system_of net runs).constraints
