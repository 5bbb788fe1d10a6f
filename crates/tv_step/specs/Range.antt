-- States whose numbers are words and bytes, w being 16 or 32.
use Rattle.std.specs.Prelude.{◌≡◌, ℕ, ◌%◌, ◌^◌, ◌<◌, List, length, All}
use Rattle.tv_mem.specs.Words.{AreBytes}
use Rattle.tv_word.specs.Widths.{IsWidth}
use Rattle.tv_step.specs.Machine.{next, fetched, operand, start, state_after}
use Rattle.tv_step.specs.Rows.{instruction_size}
use Rattle.tv_step.specs.State.{State, Next}

-- numbers that are words
abbrev pub AreWords : ℕ → List ℕ → Type 0
AreWords w numbers = All (λ v. v < 2 ^ w) numbers

-- a state in range: its program counter is a word and the place of an instruction, it has 16 registers, which
-- hold words, memory is of bytes, and what is left of the tapes is of words
pub record StateInRange (w : ℕ) (st : State) : Type 0 where
  pub pc_fits : st.pc < 2 ^ w
  pub pc_aligned : st.pc % instruction_size w ≡ 0
  pub registers : length st.regs ≡ 16
  pub words : AreWords w st.regs
  pub bytes : AreBytes st.memory
  pub primary : AreWords w st.primary
  pub aux : AreWords w st.aux

-- the start on tapes of words is in range, whatever the image
abbrev pub StartInRange : Type 0
StartInRange = (w : ℕ) → IsWidth w → (image x aux : List ℕ) → AreWords w x → AreWords w aux → StateInRange w (start w image x aux)

-- a step keeps a state in range, and so does a run
abbrev pub StepKeepsRange : Type 0
StepKeepsRange = (w : ℕ) → IsWidth w → (st after : State) → StateInRange w st → next w st ≡ Next.Gone after → StateInRange w after

abbrev pub RunKeepsRange : Type 0
RunKeepsRange = (w : ℕ) → IsWidth w → (st : State) (t : ℕ) → StateInRange w st → StateInRange w (state_after w t st)

-- an answered value is a word, and so is the operand of each instruction
abbrev pub AnswerIsWord : Type 0
AnswerIsWord = (w : ℕ) → IsWidth w → (st : State) (v : ℕ) → StateInRange w st → next w st ≡ Next.Answered v → v < 2 ^ w

abbrev pub OperandIsWord : Type 0
OperandIsWord = (w : ℕ) → IsWidth w → (st : State) → StateInRange w st → operand st (fetched w st) < 2 ^ w
