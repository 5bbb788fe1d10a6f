-- One step of the machine, and its runs.
use Rattle.std.specs.Prelude.{ℕ, zero, suc, ◌+◌, ◌/◌, ◌%◌, ◌≤◌, ◌≡◌, false, if◌then◌else◌, List, replicate, slice_index}
use Rattle.tv_isa.specs.Instruction.{decode}
use Rattle.tv_isa.specs.declared.instr.Instr.{Instr}
use Rattle.tv_mem.specs.Bytes.{Bytes, byte_of, word_in}
use Rattle.tv_step.specs.Ops.{op_of}
use Rattle.tv_step.specs.Rows.{row, word_size}
use Rattle.tv_step.specs.State.{State, Next}
use Rattle.tv_step.specs.declared.end.End.{End}
use Rattle.tv_step.specs.declared.end.End.TheVariants as ends

-- the word in a register
abbrev pub reg : State → ℕ → ℕ
reg st i = slice_index st.regs i

-- the instruction at the program counter
abbrev pub fetched : ℕ → State → Instr
fetched w st = decode w (word_in w st.memory (st.pc / word_size w)) (word_in w st.memory (st.pc / word_size w + 1))

-- an instruction's operand: the second word, or the register that it names
abbrev pub operand : State → Instr → ℕ
operand st i = if i.imm then i.a else reg st (i.a % 16)

-- what an instruction does; all operands are read before anything is written
abbrev pub executed : ℕ → State → Instr → Next
executed w st i =
    row w (op_of i.op) st (record { dest = i.dest; held = reg st i.dest; source = reg st i.source; operand = operand st i })

-- one step
abbrev pub next : ℕ → State → Next
next w st = executed w st (fetched w st)

-- the end of a run whose step with this number leads to this; where it goes on, `on` is the end
abbrev pub ended : (State → End) → ℕ → Next → End
ended on step (Next.Gone after) = on after
ended on step (Next.Answered v) = ends.Answer v step
ended on step (Next.Undefined op) = ends.Undefined op step

-- the end within n more steps, where k were taken; steps count from 1
abbrev pub end_from : ℕ → ℕ → ℕ → State → End
end_from w k zero st = ends.Silent k
end_from w k (suc n) st = ended (λ after. end_from w (k + 1) n after) (k + 1) (next w st)

-- the end of a run of at most n steps
abbrev pub end_of : ℕ → ℕ → State → End
end_of w n st = end_from w 0 n st

-- the state that a run is left in whose step from `st` leads to this; where it goes on, `on` is that state
abbrev pub left_in : (State → State) → State → Next → State
left_in on st (Next.Gone after) = on after
left_in on st (Next.Answered v) = st
left_in on st (Next.Undefined op) = st

-- the state that a run of at most n steps is left in
abbrev pub state_after : ℕ → ℕ → State → State
state_after w zero st = st
state_after w (suc n) st = left_in (λ after. state_after w n after) st (next w st)

-- memory that begins with these words, and has 0 after them
abbrev pub image_bytes : ℕ → List ℕ → Bytes
image_bytes w image at = byte_of (slice_index image (at / word_size w)) (at % word_size w)

-- the start: all 0, with an image in memory and two whole tapes
abbrev pub start : ℕ → List ℕ → List ℕ → List ℕ → State
start w image primary aux = record {
  pc = 0;
  regs = replicate 16 0;
  flag = false;
  memory = image_bytes w image;
  primary = primary;
  aux = aux;
}

-- the machine answers v at a step of at most t
abbrev pub Accepts : ℕ → List ℕ → List ℕ → List ℕ → ℕ → ℕ → Type 0
Accepts w image primary aux t v = (step : ℕ) × (step ≤ t) × (end_of w t (start w image primary aux) ≡ ends.Answer v step)
