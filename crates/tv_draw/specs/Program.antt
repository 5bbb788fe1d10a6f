-- A program and its tapes, drawn from a seed by the words of a SplitMix64 generator.
use Rattle.std.specs.Prelude.{ℕ, ◌+◌, ◌*◌, ◌/◌, ◌%◌, ◌^◌, ◌==◌, ◌||◌, Bool, true, nat_lt, if◌then◌else◌, List, ◌++◌, length, ◌≡◌}
use Rattle.rand_xoshiro.specs.SplitMix64.{mix_u64}
use Rattle.tv_core.specs.Below.{each_below, joined_below}
use Rattle.tv_isa.specs.Instruction.{encode}
use Rattle.tv_isa.specs.Table.{shape_of}
use Rattle.tv_isa.specs.declared.instr.Instr.{Instr}
use Rattle.tv_isa.specs.declared.opcode.TheConstants.{STORE_B, STORE_W, READ, ANSWER}
use Rattle.tv_isa.specs.declared.operation.Shape.{Shape}
use Rattle.tv_isa.specs.declared.operation.Shape.TheVariants.{DestSourceA, DestA, SourceA, OnlyA, ADest, Unused}
use Rattle.tv_step.specs.Machine.{start, end_of}
use Rattle.tv_step.specs.Range.{AreWords}
use Rattle.tv_step.specs.declared.end.End.TheVariants.{Answer}

-- the state of the generator after i words, and word i, counted from 0
abbrev pub generator_state : ℕ → ℕ → ℕ
generator_state seed i = (seed + i * 0x9e3779b97f4a7c15) % 2 ^ 64

abbrev pub word_at : ℕ → ℕ → ℕ
word_at seed i = (mix_u64 (generator_state seed i)).0

-- ---- the instruction of a word g
-- any opcode but a jump, an answer, and those that aren't used
abbrev pub op_in : ℕ → ℕ
op_in g = if nat_lt (g % 25) 20 then g % 25 else g % 25 + 6

-- a store and a read have an operand of their own: an address after the program, and a tape from 0 to 2
abbrev pub is_store : ℕ → Bool
is_store op = op == STORE_B || op == STORE_W

abbrev pub imm_in : ℕ → Bool
imm_in g = is_store (op_in g) || (op_in g == READ || g / 2 ^ 8 % 2 == 1)

abbrev pub whole_a : ℕ → ℕ
whole_a g =
    if is_store (op_in g) then 65536 + g / 2 ^ 32 % 65536
    else if op_in g == READ then g / 2 ^ 32 % 3 else g / 2 ^ 32

-- the fields that a form names; the others are 0
abbrev pub dest_if : Shape → ℕ → ℕ
dest_if DestSourceA dest = dest
dest_if DestA dest = dest
dest_if SourceA dest = 0
dest_if OnlyA dest = 0
dest_if ADest dest = dest
dest_if Unused dest = 0

abbrev pub source_if : Shape → ℕ → ℕ
source_if DestSourceA source = source
source_if DestA source = 0
source_if SourceA source = source
source_if OnlyA source = 0
source_if ADest source = 0
source_if Unused source = 0

-- bit 8 says whether the operand is immediate, bits 12..9 are the destination, bits 16..13 the source, and the high
-- half is the second word, of which a register's number is the last four bits
abbrev pub instr_in : ℕ → Instr
instr_in g = record {
  op = op_in g;
  imm = imm_in g;
  dest = dest_if (shape_of (op_in g)) (g / 2 ^ 9 % 16);
  source = source_if (shape_of (op_in g)) (g / 2 ^ 13 % 16);
  a = if imm_in g then whole_a g else whole_a g % 16;
}

-- `answer 0`
abbrev pub last_instr : Instr
last_instr = record { op = ANSWER; imm = true; dest = 0; source = 0; a = 0 }

-- ---- what is drawn
-- n words of 32 bits, from word i on
abbrev pub words_drawn : ℕ → ℕ → ℕ → List ℕ
words_drawn seed i n = each_below n (λ j. word_at seed (i + j) % 2 ^ 32)

-- k instructions and `answer 0` after them; the two words after those of the instructions are the primary tape, and
-- eight more the auxiliary tape
abbrev pub image_drawn : ℕ → ℕ → List ℕ
image_drawn seed k = joined_below k (λ i. encode 32 (instr_in (word_at seed i))) ++ encode 32 last_instr

abbrev pub tape_drawn : ℕ → ℕ → List ℕ
tape_drawn seed k = words_drawn seed k 2

abbrev pub aux_drawn : ℕ → ℕ → List ℕ
aux_drawn seed k = words_drawn seed (k + 2) 8

-- What an image and tapes are of which k instructions were drawn: words of 32 bits, as many as they should be, and a run
-- that answers 0 at its step k + 1.
pub record IsDrawn (k : ℕ) (image tape aux : List ℕ) : Type 0 where
  pub image_words : AreWords 32 image
  pub image_count : length image ≡ k * 2 + 2
  pub tape_words : AreWords 32 tape
  pub tape_count : length tape ≡ 2
  pub aux_words : AreWords 32 aux
  pub aux_count : length aux ≡ 8
  pub answers : end_of 32 (k + 1) (start 32 image tape aux) ≡ Answer 0 (k + 1)
