-- The good ends that commands have.
use Rattle.std.specs.Prelude.{Bool, true, false}
use Rattle.tv_plan.specs.declared.refusal.Finish.{Finish}
use Rattle.tv_plan.specs.declared.refusal.Finish.TheVariants.{Quiet, Run, NoRun, NotARun, Verdict, Trial}

-- nothing is said
abbrev pub is_quiet : Finish → Bool
is_quiet Quiet = true
is_quiet _ = false

-- it says how a run ends
abbrev pub is_run : Finish → Bool
is_run (Run end) = true
is_run _ = false

-- nothing is said, or that a run doesn't answer
abbrev pub is_witness : Finish → Bool
is_witness Quiet = true
is_witness (NoRun end) = true
is_witness _ = false

-- it says how a run ends, or that there is none
abbrev pub is_extract : Finish → Bool
is_extract (Run end) = true
is_extract (NotARun why) = true
is_extract _ = false

-- nothing is said, or that there is no run
abbrev pub is_listing : Finish → Bool
is_listing Quiet = true
is_listing (NotARun why) = true
is_listing _ = false

-- it says a verdict
abbrev pub is_verdict : Finish → Bool
is_verdict (Verdict verdict) = true
is_verdict _ = false

-- it says the result of a trial
abbrev pub is_trial : Finish → Bool
is_trial (Trial trial) = true
is_trial _ = false
