-- One step in numbers: the state after it, its data line, and all that it does.
use Rattle.std.specs.Prelude.{ℕ, ◌+◌, ◌-◌, ◌*◌, ◌/◌, ◌%◌, ◌^◌, Bool, not, ◌&&◌, ◌||◌, ◌==◌, nat_lt, if◌then◌else◌, List, [], ◌∷◌, slice_index, slice_set}
use Rattle.tv_core.specs.Lines.{Line}
use Rattle.tv_core.specs.declared.limits.TheConstants.{NULL_CELL}
use Rattle.tv_isa.specs.Instruction.{decode}
use Rattle.tv_isa.specs.Opcodes.{among, chosen, store_ops, memory_ops, writer_ops}
use Rattle.tv_isa.specs.declared.instr.Instr.{Instr}
use Rattle.tv_isa.specs.declared.opcode.TheConstants.{CMOV, STORE_B, STORE_W, READ, ANSWER}
use Rattle.tv_mem.specs.Bytes.{byte_of}
use Rattle.tv_step.specs.Rows.{word_size}
use Rattle.tv_step.specs.Trace.{looked_at, tape_cell}
use Rattle.tv_numbers.specs.Tables.{results, flags, pcs}
use Rattle.tv_numbers.specs.Views.{View}

-- ---- operands, and what a step asks for
module _ (v : View) (i : Instr) where
  -- the word in the source register
  abbrev pub source_word : ℕ
  source_word = slice_index v.regs i.source

  -- the word in the destination register
  abbrev pub dest_word : ℕ
  dest_word = slice_index v.regs i.dest

  -- the operand: the second word, or the register that it names
  abbrev pub operand_word : ℕ
  operand_word = if i.imm then i.a else slice_index v.regs (i.a % 16)

  -- the other word that the operations take: what is stored, or else the one in the source register
  abbrev pub other_word : ℕ
  other_word = if among store_ops i.op then dest_word else source_word

  -- the step loads or stores
  abbrev pub touches : Bool
  touches = among memory_ops i.op

  -- it reads the auxiliary tape, whose end was not found before
  abbrev pub asks : Bool
  asks = (i.op == READ && operand_word == 1) && v.ended == 0

  -- it takes the next of the primary tape's n words
  abbrev pub takes_primary : ℕ → Bool
  takes_primary n = (i.op == READ && operand_word == 0) && nat_lt v.taken n

-- a word, with b as its byte number j in place of the one that stands there
abbrev pub with_byte_in : ℕ → ℕ → ℕ → ℕ
with_byte_in word j b = word + b * 256 ^ j - byte_of word j * 256 ^ j

-- ---- the step from a view by an instruction, where the width is w and the primary tape has n words, with the data
-- word o, and whether it takes that of the auxiliary tape
module _ (w n : ℕ) (v : View) (i : Instr) (o : ℕ) (takes : Bool) where
  -- a read finds a word
  abbrev pub found : Bool
  found = takes_primary v i n || takes

  -- the word that goes into the destination register, if it is written
  abbrev pub result_in : ℕ
  result_in = chosen (results w (other_word v i) (operand_word v i) o found) i.op

  -- the destination register is written
  abbrev pub writes : Bool
  writes = if i.op == CMOV then v.flag == 1 else among writer_ops i.op

  -- the view after the step; where it asks for an auxiliary word and takes none, the ended bit is set
  abbrev pub stepped : View
  stepped = record {
    pc = chosen (pcs w v.pc (operand_word v i) v.flag) i.op;
    regs = if writes then slice_set v.regs i.dest result_in else v.regs;
    flag = chosen (flags w (other_word v i) (operand_word v i) found v.flag) i.op;
    taken = if takes_primary v i n then v.taken + 1 else v.taken;
    ended = if asks v i && not takes then 1 else v.ended;
  }

-- the word in the cell of its data line, which is 0 in the null cell
abbrev pub old_in : ℕ → View → Instr → ℕ → ℕ
old_in n v i o = if touches v i || takes_primary v i n then o else 0

-- the data line: the word of memory of a load or store, the cell of a primary word that is taken, or else the null cell;
-- only a store changes it
abbrev pub data_line : ℕ → ℕ → View → Instr → ℕ → ℕ → Line
data_line w n v i o time = record {
  cell = if takes_primary v i n then tape_cell v.taken else if touches v i then operand_word v i / word_size w else NULL_CELL;
  time = time;
  old = old_in n v i o;
  new = if i.op == STORE_W then other_word v i else if i.op == STORE_B then with_byte_in o (operand_word v i % word_size w) (other_word v i % 256)
      else old_in n v i o;
}

-- ---- all that a step does
-- the views before and after it, its three lines, whether it takes an auxiliary word, and the data word, and whether
-- it answers, and its operand, which is then the answer
pub record Transition : Type 0 where
  pub now : View
  pub after : View
  pub first : Line
  pub second : Line
  pub data_line : Line
  pub takes : Bool
  pub word : ℕ
  pub answers : Bool
  pub value : ℕ

-- the three lines of a step, in order
abbrev pub lines_in : Transition → List Line
lines_in b = b.first ∷ b.second ∷ b.data_line ∷ []

-- the words by which a step goes: the two of its instruction, its data word, and whether it takes that of the auxiliary
-- tape
pub record StepWords : Type 0 where
  pub head : ℕ
  pub tail : ℕ
  pub word : ℕ
  pub takes : Bool

-- these words as one
abbrev pub step_words : ℕ → ℕ → ℕ → Bool → StepWords
step_words head tail o takes = record { head = head; tail = tail; word = o; takes = takes }

-- the step from a view by these words, whose first line has this time
abbrev pub transition_of : ℕ → ℕ → ℕ → View → StepWords → Transition
transition_of w n time v by = record {
  now = v;
  after = stepped w n v (decode w by.head by.tail) by.word by.takes;
  first = looked_at (v.pc / word_size w) time by.head;
  second = looked_at (v.pc / word_size w + 1) (time + 1) by.tail;
  data_line = data_line w n v (decode w by.head by.tail) by.word (time + 2);
  takes = by.takes;
  word = by.word;
  answers = (decode w by.head by.tail).op == ANSWER;
  value = operand_word v (decode w by.head by.tail);
}
