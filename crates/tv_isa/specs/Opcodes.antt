-- The opcodes: which are used, which of them do what, their order, and tables by opcode: for some opcodes what stands for them.
use Rattle.std.specs.Prelude.{ℕ, ◌+◌, ◌-◌, ◌==◌, nat_lt, Bool, true, false, if◌then◌else◌, List, [], ◌∷◌, length}
use Rattle.tv_isa.specs.declared.opcode.TheConstants.{AND, OR, XOR, NOT, ADD, SUB, MULL, UMULH, SMULH, UDIV, UMOD, SHL, SHR, CMPE, CMPA, CMPAE, CMPG, CMPGE}
use Rattle.tv_isa.specs.declared.opcode.TheConstants.{MOV, CMOV, JMP, CJMP, CNJMP, STORE_B, LOAD_B, STORE_W, LOAD_W, READ, ANSWER, UNUSED, USED}

-- whether an opcode is among these
abbrev pub among : List ℕ → ℕ → Bool
among [] op = false
among (k ∷ ks) op = if k == op then true else among ks op

-- some opcodes, and what stands for each of them
pub record Entry (A : Type 0) : Type 0 where
  pub ops : List ℕ
  pub gives : A

-- the number that stands for an opcode in the first entry that has it, and 0 where none has
abbrev pub chosen : List (Entry ℕ) → ℕ → ℕ
chosen [] op = 0
chosen (e ∷ es) op = if among e.ops op then e.gives else chosen es op

-- ---- the used ones
-- whether an instruction has this opcode
abbrev pub is_used : ℕ → Bool
is_used op = among USED op

-- those that no instruction has
abbrev pub unused_ops : List ℕ
unused_ops = UNUSED

-- how many are used
abbrev pub opcodes : ℕ
opcodes = length USED

-- the place of a used opcode among them, in rising order; the unused ones stand right below store.b
abbrev pub place_of : ℕ → ℕ
place_of k = if nat_lt k STORE_B then k else k - length UNUSED

-- and the opcode at a place
abbrev pub opcode_at : ℕ → ℕ
opcode_at j = if nat_lt j (STORE_B - length UNUSED) then j else j + length UNUSED

-- ---- what they do
-- store.b and store.w
abbrev pub store_ops : List ℕ
store_ops = STORE_B ∷ STORE_W ∷ []

-- all loads and stores
abbrev pub memory_ops : List ℕ
memory_ops = STORE_B ∷ LOAD_B ∷ STORE_W ∷ LOAD_W ∷ []

-- those that write their destination register whatever the flag is; cmov does where it is set
abbrev pub writer_ops : List ℕ
writer_ops = AND ∷ OR ∷ XOR ∷ NOT ∷ ADD ∷ SUB ∷ MULL ∷ UMULH ∷ SMULH ∷ UDIV ∷ UMOD ∷ SHL ∷ SHR ∷ MOV ∷ LOAD_B ∷ LOAD_W ∷ READ ∷ []

-- those that leave the flag as it is
abbrev pub keeper_ops : List ℕ
keeper_ops = MOV ∷ CMOV ∷ JMP ∷ CJMP ∷ CNJMP ∷ STORE_B ∷ LOAD_B ∷ STORE_W ∷ LOAD_W ∷ ANSWER ∷ []

-- those that go on to the next instruction in memory: all but the jumps and answer
abbrev pub straight_ops : List ℕ
straight_ops = AND ∷ OR ∷ XOR ∷ NOT ∷ ADD ∷ SUB ∷ MULL ∷ UMULH ∷ SMULH ∷ UDIV ∷ UMOD ∷ SHL ∷ SHR ∷ CMPE ∷ CMPA ∷ CMPAE ∷ CMPG ∷ CMPGE ∷ MOV ∷ CMOV ∷ STORE_B
    ∷ LOAD_B ∷ STORE_W ∷ LOAD_W ∷ READ ∷ []
