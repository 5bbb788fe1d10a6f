-- The text of a step.
use Rattle.std.specs.Prelude.{ℕ, ◌/◌, ◌==◌, Bool, if◌then◌else◌, List, [], ◌++◌, codes, decimal}
use Rattle.tv_disasm.specs.Disassembly.{two_words_text}
use Rattle.tv_mem.specs.Bytes.{word_in}
use Rattle.tv_step.specs.Machine.{reg}
use Rattle.tv_step.specs.Rows.{word_size}
use Rattle.tv_step.specs.State.{State}
use Rattle.tv_trace.specs.declared.before.Before.{Before}
use Rattle.tv_trace.specs.declared.before.Left.{Left}

-- the step's number, the program counter and the instruction
abbrev pub begin_text : ℕ → ℕ → Before → List ℕ
begin_text w step before = decimal step ++ codes " " ++ decimal before.pc ++ codes " " ++ two_words_text w before.first before.second

-- a word that changes, by the name and the number of its place: nothing where it stays
abbrev pub changed : List ℕ → ℕ → ℕ → ℕ → List ℕ
changed name number old new =
    if old == new then [] else codes "; " ++ name ++ decimal number ++ codes " " ++ decimal old ++ codes " -> " ++ decimal new

-- the destination register, and the cell of memory in which the operand lies as an address
abbrev pub changes_text : ℕ → Before → State → List ℕ
changes_text w before after =
    changed (codes "r") before.instr.dest before.held (reg after before.instr.dest)
    ++ changed (codes "cell ") (before.operand / word_size w) before.word (word_in w after.memory (before.operand / word_size w))

-- the flag, how many words are taken of the primary tape and of the auxiliary one, and a line feed
abbrev pub ends_text : Bool → Left → List ℕ
ends_text flag taken =
    codes "; flag " ++ (if flag then codes "1" else codes "0") ++ codes "; taken " ++ decimal taken.primary ++ codes " " ++ decimal taken.aux
    ++ codes "\n"

-- the line of a step: what it begins with, what it changes, and what is after it
unfoldable pub step_text : ℕ → ℕ → Before → State → Left → List ℕ
step_text w step before after taken = begin_text w step before ++ changes_text w before after ++ ends_text after.flag taken
