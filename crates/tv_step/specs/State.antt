-- The machine's state, and what comes of a step.
use Rattle.std.specs.Prelude.{ℕ, Bool, List}
use Rattle.tv_mem.specs.Bytes.{Bytes}

-- a program counter, 16 registers, a flag, memory, and what is left of two tapes that are read once
pub record State : Type 0 where
  pub pc : ℕ
  pub regs : List ℕ
  pub flag : Bool
  pub memory : Bytes
  pub primary : List ℕ
  pub aux : List ℕ

-- a step goes on to a state, answers a number, or stops at an opcode that isn't used
pub data Next : Type 0 where
  Gone : State → Next
  Answered : ℕ → Next
  Undefined : ℕ → Next
