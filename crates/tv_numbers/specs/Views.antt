-- A state of the machine in numbers: all of it but its memory and its auxiliary tape.
use Rattle.std.specs.Prelude.{◌≡◌, ℕ, ◌%◌, ◌^◌, ◌<◌, ◌≤◌, List, length, drop}
use Rattle.tv_step.specs.Range.{AreWords}
use Rattle.tv_step.specs.Rows.{instruction_size}
use Rattle.tv_step.specs.State.{State}
use Rattle.tv_word.specs.Word.{flag_of}

-- the program counter, the registers' words, the flag, how many words of the primary tape are taken, and the ended bit,
-- which says whether a read of the auxiliary tape has found nothing; flag and ended bit are 0 or 1
pub record View : Type 0 where
  pub pc : ℕ
  pub regs : List ℕ
  pub flag : ℕ
  pub taken : ℕ
  pub ended : ℕ

-- the view of a state, `taken` words of the primary tape being gone
abbrev pub seen : State → ℕ → ℕ → View
seen st taken ended = record { pc = st.pc; regs = st.regs; flag = flag_of st.flag; taken = taken; ended = ended }

-- a view in range, w being the width and n how many words the primary tape has
pub record ViewInRange (w n : ℕ) (v : View) : Type 0 where
  pub pc_fits : v.pc < 2 ^ w
  pub pc_aligned : v.pc % instruction_size w ≡ 0
  pub registers : length v.regs ≡ 16
  pub words : AreWords w v.regs
  pub flag : v.flag < 2
  pub taken : v.taken ≤ n
  pub ended : v.ended < 2

-- a view is of a state, x being the whole primary tape
pub record Matches (x : List ℕ) (v : View) (st : State) : Type 0 where
  pub pc : st.pc ≡ v.pc
  pub regs : st.regs ≡ v.regs
  pub flag : flag_of st.flag ≡ v.flag
  pub primary : st.primary ≡ drop v.taken x
