-- What the line of a step shows of the state before it, and how many words are left of the tapes.
use Rattle.std.specs.Prelude.{ℕ, ◌+◌, ◌/◌, ◌==◌, ◌&&◌, if◌then◌else◌, length}
use Rattle.tv_isa.specs.declared.opcode.TheConstants.{READ}
use Rattle.tv_mem.specs.Bytes.{word_in}
use Rattle.tv_step.specs.Machine.{fetched, operand, reg}
use Rattle.tv_step.specs.Rows.{word_size}
use Rattle.tv_step.specs.State.{State}
use Rattle.tv_trace.specs.declared.before.Before.{Before}
use Rattle.tv_trace.specs.declared.before.Left.{Left}

-- the program counter, the instruction by its words and by its fields, the word in its destination register, its operand,
-- and the word of memory in which that lies as an address
abbrev pub before_of : ℕ → State → Before
before_of w st =
    let i = fetched w st in
    record {
      pc = st.pc;
      first = word_in w st.memory (st.pc / word_size w);
      second = word_in w st.memory (st.pc / word_size w + 1);
      instr = i;
      held = reg st i.dest;
      operand = operand st i;
      word = word_in w st.memory (operand st i / word_size w);
    }

-- how many words the step takes of the tape with this number, if that has any: one, if it reads that tape
abbrev pub taken_of : Before → ℕ → ℕ
taken_of before tape = if before.instr.op == READ && before.operand == tape then 1 else 0

-- how many words are left of the two tapes
abbrev pub left_of : State → Left
left_of st = record { primary = length st.primary; aux = length st.aux }
