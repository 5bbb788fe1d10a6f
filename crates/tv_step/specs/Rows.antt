-- The 29 instructions, a row each: what comes of a step of word size w in a state st, on the instruction's operands.
use Rattle.std.specs.Prelude.{ℕ, ◌+◌, ◌-◌, ◌/◌, ◌%◌, ◌^◌, Bool, true, false, ◌==◌, if◌then◌else◌, List, [], ◌∷◌, slice_set}
use Rattle.tv_mem.specs.Bytes.{Bytes, with_byte, with_word, word_in}
use Rattle.tv_word.specs.Operations.{and_result, or_result, xor_result, not_result, bitwise_flag, add_result, add_flag, sub_result, sub_flag, mull_result}
use Rattle.tv_word.specs.Operations.{umulh_result, product_flag, smulh_result, smulh_flag}
use Rattle.tv_word.specs.Operations.{udiv_result, umod_result, division_flag, shl_result, shl_flag, shr_result, shr_flag, cmpe_flag, cmpa_flag, cmpae_flag}
use Rattle.tv_word.specs.Operations.{cmpg_flag, cmpge_flag}
use Rattle.tv_step.specs.State.{State, Next}
use Rattle.tv_step.specs.declared.op.Op.{Op}
use Rattle.tv_step.specs.declared.op.Op.TheVariants.{And, Or, Xor, Not, Add, Sub, Mull, Umulh, Smulh, Udiv, Umod, Shl, Shr, Cmpe, Cmpa, Cmpae, Cmpg, Cmpge}
use Rattle.tv_step.specs.declared.op.Op.TheVariants.{Mov, Cmov, Jmp, Cjmp, Cnjmp, StoreB, LoadB, StoreW, LoadW, Read, Answer, Unused}

-- how many bytes a word has, and an instruction, which is two words
abbrev pub word_size : ℕ → ℕ
word_size w = w / 8

abbrev pub instruction_size : ℕ → ℕ
instruction_size w = w / 4

-- the address of the next instruction in memory
abbrev pub following : ℕ → State → ℕ
following w st = (st.pc + instruction_size w) % 2 ^ w

-- register i gets v, and the flag is f
abbrev pub gives : ℕ → State → ℕ → ℕ → Bool → Next
gives w st i v f = Next.Gone (record st { pc = following w st; regs = slice_set st.regs i v; flag = f })

-- register i gets v, and the flag is set exactly where that is 0
abbrev pub logic : ℕ → State → ℕ → ℕ → Next
logic w st i v = gives w st i v (bitwise_flag v)

-- register i gets v, and the flag stays
abbrev pub moves : ℕ → State → ℕ → ℕ → Next
moves w st i v = gives w st i v st.flag

-- the flag is f
abbrev pub tests : ℕ → State → Bool → Next
tests w st f = Next.Gone (record st { pc = following w st; flag = f })

-- nothing but that the next instruction comes
abbrev pub goes_on : ℕ → State → Next
goes_on w st = tests w st st.flag

-- the instruction at a comes, rounded down to a place of an instruction
abbrev pub jumps : ℕ → State → ℕ → Next
jumps w st a = Next.Gone (record st { pc = a - a % instruction_size w })

-- memory is now m
abbrev pub stores : ℕ → State → Bytes → Next
stores w st m = Next.Gone (record st { pc = following w st; memory = m })

-- register i gets the first word that is left of a tape, of which `rest` is the state without it; where none is left,
-- it gets 0 and the flag is set
abbrev pub takes : ℕ → State → ℕ → List ℕ → (List ℕ → State) → Next
takes w st i [] rest = gives w st i 0 true
takes w st i (v ∷ left) rest = gives w (rest left) i v false

-- a read of the tape number a: 0 is the primary tape, 1 the auxiliary, and any other has no words
abbrev pub reads : ℕ → State → ℕ → ℕ → Next
reads w st i a =
    if a == 0 then takes w st i st.primary (λ left. record st { primary = left })
    else if a == 1 then takes w st i st.aux (λ left. record st { aux = left })
    else takes w st i [] (λ _. st)

-- what an instruction works on: the number of its destination register, the words held in that and in its source register,
-- and its operand
pub record Operands : Type 0 where
  pub dest : ℕ
  pub held : ℕ
  pub source : ℕ
  pub operand : ℕ

-- what comes of an instruction
abbrev pub row : ℕ → Op → State → Operands → Next
row w And st on = logic w st on.dest (and_result on.source on.operand)
row w Or st on = logic w st on.dest (or_result on.source on.operand)
row w Xor st on = logic w st on.dest (xor_result on.source on.operand)
row w Not st on = logic w st on.dest (not_result w on.operand)
row w Add st on = gives w st on.dest (add_result w on.source on.operand) (add_flag w on.source on.operand)
row w Sub st on = gives w st on.dest (sub_result w on.source on.operand) (sub_flag on.source on.operand)
row w Mull st on = gives w st on.dest (mull_result w on.source on.operand) (product_flag w on.source on.operand)
row w Umulh st on = gives w st on.dest (umulh_result w on.source on.operand) (product_flag w on.source on.operand)
row w Smulh st on = gives w st on.dest (smulh_result w on.source on.operand) (smulh_flag w on.source on.operand)
row w Udiv st on = gives w st on.dest (udiv_result on.source on.operand) (division_flag on.operand)
row w Umod st on = gives w st on.dest (umod_result on.source on.operand) (division_flag on.operand)
row w Shl st on = gives w st on.dest (shl_result w on.source on.operand) (shl_flag w on.source)
row w Shr st on = gives w st on.dest (shr_result w on.source on.operand) (shr_flag on.source)
row w Cmpe st on = tests w st (cmpe_flag on.source on.operand)
row w Cmpa st on = tests w st (cmpa_flag on.source on.operand)
row w Cmpae st on = tests w st (cmpae_flag on.source on.operand)
row w Cmpg st on = tests w st (cmpg_flag w on.source on.operand)
row w Cmpge st on = tests w st (cmpge_flag w on.source on.operand)
row w Mov st on = moves w st on.dest on.operand
row w Cmov st on = if st.flag then moves w st on.dest on.operand else goes_on w st
row w Jmp st on = jumps w st on.operand
row w Cjmp st on = if st.flag then jumps w st on.operand else goes_on w st
row w Cnjmp st on = if st.flag then goes_on w st else jumps w st on.operand
row w StoreB st on = stores w st (with_byte st.memory on.operand (on.held % 256))
row w LoadB st on = moves w st on.dest (st.memory on.operand)
row w StoreW st on = stores w st (with_word w st.memory (on.operand / word_size w) on.held)
row w LoadW st on = moves w st on.dest (word_in w st.memory (on.operand / word_size w))
row w Read st on = reads w st on.dest on.operand
row w Answer st on = Next.Answered on.operand
row w (Unused op) st on = Next.Undefined op
