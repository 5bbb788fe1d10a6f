-- What each stage's end is answered, and the exit codes.
use Rattle.std.specs.Prelude.{ℕ}
use Rattle.tv_check.specs.declared.verdict.Verdict.{Verdict}
use Rattle.tv_check.specs.declared.verdict.Verdict.TheVariants as verdicts
use Rattle.tv_step.specs.declared.end.End.{End}
use Rattle.tv_step.specs.declared.end.End.TheVariants.{Answer, Undefined, Silent}
use Rattle.tv_plan.specs.declared.refusal.Bad.{Bad}
use Rattle.tv_plan.specs.declared.refusal.Bad.TheVariants as bad
use Rattle.tv_plan.specs.declared.refusal.Ending.{Ending}
use Rattle.tv_plan.specs.declared.refusal.Ending.TheVariants.{Refused, Stopped, Finished}
use Rattle.tv_plan.specs.declared.refusal.Finish.{Finish}
use Rattle.tv_plan.specs.declared.refusal.Finish.TheVariants as finishes
use Rattle.tv_plan.specs.declared.refusal.Refusal.{Refusal}
use Rattle.tv_plan.specs.declared.refusal.Refusal.TheVariants as refusal
use Rattle.tv_plan.specs.declared.refusal.Stop.{Stop}
use Rattle.tv_plan.specs.declared.refusal.Stop.TheVariants as stop
use Rattle.tv_plan.specs.declared.status.NoWhy.TheVariants as no
use Rattle.tv_plan.specs.declared.status.Status.{Status}
use Rattle.tv_plan.specs.declared.status.Status.TheVariants.{Done, No, Usage, BadProgram, BadTape, BadSystem, BadWitness, Limit, FileFault, Memory, NoRun}
use Rattle.tv_plan.specs.declared.status.Status.TheVariants.{NotARun, SameName, BadImage}

-- the exit code
abbrev pub code_of : Status → ℕ
code_of Done = 0
code_of (No _) = 1
code_of Usage = 2
code_of (BadProgram _ _) = 3
code_of (BadTape _ _) = 4
code_of (BadSystem _ _) = 5
code_of (BadWitness _ _) = 6
code_of (Limit _ _ _) = 7
code_of (FileFault _) = 8
code_of Memory = 9
code_of (NoRun _) = 10
code_of (NotARun _) = 11
code_of (SameName _ _) = 12
code_of (BadImage _) = 13

-- what refused words are answered
abbrev pub refusal_status : Refusal → Status
refusal_status refusal.Usage = Usage
refusal_status (refusal.SameName first second) = SameName first second
refusal_status (refusal.Limit what has most) = Limit what has most

-- what refused contents are answered
abbrev pub bad_status : Bad → Status
bad_status (bad.Program line why) = BadProgram line why
bad_status (bad.Tape word at) = BadTape word at
bad_status (bad.System at why) = BadSystem at why
bad_status (bad.Witness at why) = BadWitness at why
bad_status (bad.Image len) = BadImage len
bad_status (bad.Limit what has most) = Limit what has most

-- what is answered where something kept the command from being done
abbrev pub stop_status : Stop → Status
stop_status (stop.Fault word) = FileFault word
stop_status stop.Memory = Memory
stop_status (stop.Contents bad) = bad_status bad

-- what a verdict is answered
abbrev pub verdict_status : Verdict → Status
verdict_status verdicts.Yes = Done
verdict_status (verdicts.WireCount has wants) = No (no.Wires has wants)
verdict_status (verdicts.NoPublic at) = No (no.Public at)
verdict_status (verdicts.NoConstraint at) = No (no.Constraint at)

-- what the end of a run is answered: an answer is what the machine accepts by
abbrev pub run_status : End → Status
run_status (Answer value step) = Done
run_status (Undefined op step) = No (no.End (Undefined op step))
run_status (Silent steps) = No (no.End (Silent steps))

-- what a good end is answered
abbrev pub finish_status : Finish → Status
finish_status finishes.Quiet = Done
finish_status (finishes.Run end) = run_status end
finish_status (finishes.NoRun end) = NoRun end
finish_status (finishes.NotARun why) = NotARun why
finish_status (finishes.Verdict verdict) = verdict_status verdict
finish_status (finishes.Trial trial) = Done

-- what an end is answered, once its line was said
abbrev pub ending_status : Ending → Status
ending_status (Refused why) = refusal_status why
ending_status (Stopped stop) = stop_status stop
ending_status (Finished finish) = finish_status finish
