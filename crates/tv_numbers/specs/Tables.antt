-- What the instructions make, as tables of numbers by the opcode: the result that goes into the destination register,
-- the flag, and the next program counter. In the tables x is the word that is stored or else the one in the source
-- register, a is the operand, o the data word, which stands in the cell that the step looks at or is taken of the
-- auxiliary tape, and `found` says whether a read found a word.
use Rattle.std.specs.Prelude.{ℕ, ◌+◌, ◌-◌, ◌%◌, ◌^◌, Bool, not, ◌==◌, if◌then◌else◌, List, [], ◌∷◌}
use Rattle.tv_isa.specs.Opcodes.{Entry, keeper_ops, straight_ops}
use Rattle.tv_isa.specs.declared.opcode.TheConstants.{AND, OR, XOR, NOT, ADD, SUB, MULL, UMULH, SMULH, UDIV, UMOD, SHL, SHR, CMPE, CMPA, CMPAE, CMPG, CMPGE}
use Rattle.tv_isa.specs.declared.opcode.TheConstants.{MOV, CMOV, JMP, CJMP, CNJMP, LOAD_B, LOAD_W, READ, ANSWER}
use Rattle.tv_mem.specs.Bytes.{byte_of}
use Rattle.tv_step.specs.Rows.{word_size, instruction_size}
use Rattle.tv_word.specs.Operations.{and_result, or_result, xor_result, not_result, bitwise_flag, add_result, add_flag, sub_result, sub_flag, mull_result}
use Rattle.tv_word.specs.Operations.{umulh_result, product_flag, smulh_result, smulh_flag}
use Rattle.tv_word.specs.Operations.{udiv_result, umod_result, division_flag, shl_result, shl_flag, shr_result, shr_flag, cmpe_flag, cmpa_flag, cmpae_flag}
use Rattle.tv_word.specs.Operations.{cmpg_flag, cmpge_flag}
use Rattle.tv_word.specs.Word.{flag_of}

-- what goes into the destination register, by the instructions that may write it
abbrev pub results : ℕ → ℕ → ℕ → ℕ → Bool → List (Entry ℕ)
results w x a o found =
    (record { ops = AND ∷ []; gives = and_result x a })
    ∷ (record { ops = OR ∷ []; gives = or_result x a })
    ∷ (record { ops = XOR ∷ []; gives = xor_result x a })
    ∷ (record { ops = NOT ∷ []; gives = not_result w a })
    ∷ (record { ops = ADD ∷ []; gives = add_result w x a })
    ∷ (record { ops = SUB ∷ []; gives = sub_result w x a })
    ∷ (record { ops = MULL ∷ []; gives = mull_result w x a })
    ∷ (record { ops = UMULH ∷ []; gives = umulh_result w x a })
    ∷ (record { ops = SMULH ∷ []; gives = smulh_result w x a })
    ∷ (record { ops = UDIV ∷ []; gives = udiv_result x a })
    ∷ (record { ops = UMOD ∷ []; gives = umod_result x a })
    ∷ (record { ops = SHL ∷ []; gives = shl_result w x a })
    ∷ (record { ops = SHR ∷ []; gives = shr_result w x a })
    ∷ (record { ops = MOV ∷ CMOV ∷ []; gives = a })
    ∷ (record { ops = LOAD_B ∷ []; gives = byte_of o (a % word_size w) })
    ∷ (record { ops = LOAD_W ∷ []; gives = o })
    ∷ (record { ops = READ ∷ []; gives = if found then o else 0 })
    ∷ []

-- the flag
abbrev pub flags : ℕ → ℕ → ℕ → Bool → ℕ → List (Entry ℕ)
flags w x a found flag =
    (record { ops = AND ∷ []; gives = flag_of (bitwise_flag (and_result x a)) })
    ∷ (record { ops = OR ∷ []; gives = flag_of (bitwise_flag (or_result x a)) })
    ∷ (record { ops = XOR ∷ []; gives = flag_of (bitwise_flag (xor_result x a)) })
    ∷ (record { ops = NOT ∷ []; gives = flag_of (bitwise_flag (not_result w a)) })
    ∷ (record { ops = ADD ∷ []; gives = flag_of (add_flag w x a) })
    ∷ (record { ops = SUB ∷ []; gives = flag_of (sub_flag x a) })
    ∷ (record { ops = MULL ∷ UMULH ∷ []; gives = flag_of (product_flag w x a) })
    ∷ (record { ops = SMULH ∷ []; gives = flag_of (smulh_flag w x a) })
    ∷ (record { ops = UDIV ∷ UMOD ∷ []; gives = flag_of (division_flag a) })
    ∷ (record { ops = SHL ∷ []; gives = flag_of (shl_flag w x) })
    ∷ (record { ops = SHR ∷ []; gives = flag_of (shr_flag x) })
    ∷ (record { ops = CMPE ∷ []; gives = flag_of (cmpe_flag x a) })
    ∷ (record { ops = CMPA ∷ []; gives = flag_of (cmpa_flag x a) })
    ∷ (record { ops = CMPAE ∷ []; gives = flag_of (cmpae_flag x a) })
    ∷ (record { ops = CMPG ∷ []; gives = flag_of (cmpg_flag w x a) })
    ∷ (record { ops = CMPGE ∷ []; gives = flag_of (cmpge_flag w x a) })
    ∷ (record { ops = READ ∷ []; gives = flag_of (not found) })
    ∷ (record { ops = keeper_ops; gives = flag })
    ∷ []

-- the address of the next instruction in memory, and of the one to which a jump goes
abbrev pub next_pc : ℕ → ℕ → ℕ
next_pc w pc = (pc + instruction_size w) % 2 ^ w

abbrev pub target : ℕ → ℕ → ℕ
target w a = a - a % instruction_size w

-- the next program counter; an answer stays where it is
abbrev pub pcs : ℕ → ℕ → ℕ → ℕ → List (Entry ℕ)
pcs w pc a flag =
    (record { ops = JMP ∷ []; gives = target w a })
    ∷ (record { ops = CJMP ∷ []; gives = if flag == 1 then target w a else next_pc w pc })
    ∷ (record { ops = CNJMP ∷ []; gives = if flag == 1 then next_pc w pc else target w a })
    ∷ (record { ops = ANSWER ∷ []; gives = pc })
    ∷ (record { ops = straight_ops; gives = next_pc w pc })
    ∷ []
