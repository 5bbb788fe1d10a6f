-- The program's machine as a state, and what its steps lead to.
use Rattle.std.specs.Prelude.{◌≡◌, ℕ}
use Rattle.tv_mem.specs.Pages.{bytes_in}
use Rattle.tv_step.specs.State.{State, Next}
use Rattle.tv_step.specs.declared.end.Outcome.{Outcome}
use Rattle.tv_step.specs.declared.end.Outcome.TheVariants as outcomes
use Rattle.tv_step.specs.declared.state.Machine.{Machine}

-- the state that a machine is in
abbrev pub state_of : {w : ℕ} → Machine w → State
state_of machine = record {
  pc = machine.pc;
  regs = machine.regs;
  flag = machine.flag;
  memory = bytes_in machine.memory;
  primary = machine.primary;
  aux = machine.aux;
}

-- a step came to what was due: it went on to the new state, or the state is as before
abbrev pub CameTo : Next → Outcome → State → State → Type 0
CameTo due outcomes.Gone old new = due ≡ Next.Gone new
CameTo due (outcomes.Answered value) old new = (due ≡ Next.Answered value) × (new ≡ old)
CameTo due (outcomes.Undefined op) old new = (due ≡ Next.Undefined op) × (new ≡ old)
