-- The number whose test for 0 is a step's flag, by the opcode.
use Rattle.std.specs.Prelude.{ℕ, ◌+◌, ◌-◌, ◌*◌, ◌/◌, ◌%◌, ◌^◌, List, [], ◌∷◌}
use Rattle.std.specs.Int.{bit_at}
use Rattle.tv_core.specs.declared.field.TheConstants.{P}
use Rattle.tv_isa.specs.Opcodes.{Entry}
use Rattle.tv_isa.specs.declared.opcode.TheConstants.{AND, OR, XOR, NOT, ADD, SUB, MULL, UMULH, SMULH, UDIV, UMOD, SHL, SHR, CMPE, CMPA, CMPAE, CMPG, CMPGE}

-- the opcodes whose flag says whether the result is 0, and those where it says whether the high half is
abbrev pub zero_ops : List ℕ
zero_ops = AND ∷ OR ∷ XOR ∷ NOT ∷ CMPE ∷ []

abbrev pub carry_ops : List ℕ
carry_ops = ADD ∷ SUB ∷ MULL ∷ UMULH ∷ CMPA ∷ CMPAE ∷ CMPG ∷ CMPGE ∷ []

-- how many bits select a place in a word: the shifts' operand is below w where the bits above them are 0
abbrev pub place_bits : ℕ → ℕ
place_bits w = w / 16 + 3

-- the opcodes with a test, by its sign
abbrev pub plus_ops : List ℕ
plus_ops = AND ∷ OR ∷ XOR ∷ NOT ∷ SUB ∷ UDIV ∷ UMOD ∷ SHL ∷ SHR ∷ CMPE ∷ []

abbrev pub minus_ops : List ℕ
minus_ops = ADD ∷ MULL ∷ UMULH ∷ SMULH ∷ CMPA ∷ CMPAE ∷ CMPG ∷ CMPGE ∷ []

-- the number that is tested, by the opcode, from the operand a, the halves and the result
abbrev pub tested_numbers : ℕ → ℕ → ℕ → ℕ → ℕ → List (Entry ℕ)
tested_numbers w a low high result =
    (record { ops = zero_ops; gives = result })
    ∷ (record { ops = carry_ops; gives = high })
    ∷ (record { ops = SMULH ∷ []; gives = (high + (P - (2 ^ w - 1) * bit_at low (w - 1))) % P })
    ∷ (record { ops = SHL ∷ SHR ∷ []; gives = a / 2 ^ place_bits w })
    ∷ []
