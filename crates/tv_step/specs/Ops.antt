-- The instructions by their opcodes.
use Rattle.std.specs.Prelude.{ℕ, ◌==◌, if◌then◌else◌, List, [], ◌∷◌}
use Rattle.tv_isa.specs.declared.opcode.TheConstants.{AND, OR, XOR, NOT, ADD, SUB, MULL, UMULH, SMULH, UDIV, UMOD, SHL, SHR, CMPE, CMPA, CMPAE, CMPG, CMPGE}
use Rattle.tv_isa.specs.declared.opcode.TheConstants.{MOV, CMOV, JMP, CJMP, CNJMP, STORE_B, LOAD_B, STORE_W, LOAD_W, READ, ANSWER}
use Rattle.tv_step.specs.declared.op.Op.{Op}
use Rattle.tv_step.specs.declared.op.Op.TheVariants.{And, Or, Xor, Not, Add, Sub, Mull, Umulh, Smulh, Udiv, Umod, Shl, Shr, Cmpe, Cmpa, Cmpae, Cmpg, Cmpge}
use Rattle.tv_step.specs.declared.op.Op.TheVariants.{Mov, Cmov, Jmp, Cjmp, Cnjmp, StoreB, LoadB, StoreW, LoadW, Read, Answer, Unused}

-- each instruction's opcode
abbrev pub ops : List (ℕ × Op)
ops =
    (AND, And) ∷ (OR, Or) ∷ (XOR, Xor) ∷ (NOT, Not) ∷ (ADD, Add) ∷ (SUB, Sub) ∷ (MULL, Mull) ∷ (UMULH, Umulh)
    ∷ (SMULH, Smulh) ∷ (UDIV, Udiv) ∷ (UMOD, Umod) ∷ (SHL, Shl) ∷ (SHR, Shr) ∷ (CMPE, Cmpe) ∷ (CMPA, Cmpa)
    ∷ (CMPAE, Cmpae) ∷ (CMPG, Cmpg) ∷ (CMPGE, Cmpge) ∷ (MOV, Mov) ∷ (CMOV, Cmov) ∷ (JMP, Jmp) ∷ (CJMP, Cjmp)
    ∷ (CNJMP, Cnjmp) ∷ (STORE_B, StoreB) ∷ (LOAD_B, LoadB) ∷ (STORE_W, StoreW) ∷ (LOAD_W, LoadW) ∷ (READ, Read)
    ∷ (ANSWER, Answer) ∷ []

-- the one with an opcode among these
abbrev pub op_among : List (ℕ × Op) → ℕ → Op
op_among [] op = Unused op
op_among (entry ∷ others) op = if entry.0 == op then entry.1 else op_among others op

-- the instruction with an opcode
abbrev pub op_of : ℕ → Op
op_of op = op_among ops op
