-- What the double row of a step holds: for each operation the two halves of one number, of which result and flag are made.
use Rattle.std.specs.Prelude.{◌≡◌, ℕ, ◌+◌, ◌/◌, ◌%◌, ◌^◌, ◌<◌, Bool, true, false, if◌then◌else◌, List, [], ◌∷◌}
use Rattle.tv_isa.specs.Opcodes.{Entry, among, chosen}
use Rattle.tv_isa.specs.declared.opcode.TheConstants.{AND, OR, XOR, ADD, SUB, MULL, UMULH, SMULH, UDIV, UMOD, SHL, SHR, CMPE, CMPA, CMPAE, CMPG, CMPGE}
use Rattle.tv_word.specs.Operations.{and_result, xor_result, add_result, sub_result, mull_result, umulh_result, product_twos, smulh_result, udiv_result}
use Rattle.tv_word.specs.Operations.{umod_result, shl_result, shr_result, cmpa_flag, cmpae_flag, cmpg_flag, cmpge_flag}
use Rattle.tv_word.specs.Word.{flag_of}

-- whether some entry has an opcode
abbrev pub covers : {A : Type 0} → List (Entry A) → ℕ → Bool
covers [] k = false
covers (e ∷ es) k = if among e.ops k then true else covers es k

-- the low half by the operation, for the other word x and the operand a
abbrev pub low_halves : ℕ → ℕ → ℕ → List (Entry ℕ)
low_halves w x a =
    (record { ops = AND ∷ OR ∷ XOR ∷ []; gives = and_result x a })
    ∷ (record { ops = ADD ∷ []; gives = add_result w x a })
    ∷ (record { ops = SUB ∷ CMPE ∷ []; gives = sub_result w x a })
    ∷ (record { ops = MULL ∷ []; gives = mull_result w x a })
    ∷ (record { ops = SMULH ∷ []; gives = product_twos w x a % 2 ^ w })
    ∷ (record { ops = UMOD ∷ []; gives = umod_result x a })
    ∷ (record { ops = SHL ∷ []; gives = shl_result w x a })
    ∷ []

-- the high half
abbrev pub high_halves : ℕ → ℕ → ℕ → List (Entry ℕ)
high_halves w x a =
    (record { ops = AND ∷ OR ∷ XOR ∷ []; gives = xor_result x a })
    ∷ (record { ops = ADD ∷ []; gives = (x + a) / 2 ^ w })
    ∷ (record { ops = SUB ∷ CMPE ∷ CMPAE ∷ []; gives = flag_of (cmpae_flag x a) })
    ∷ (record { ops = CMPA ∷ []; gives = flag_of (cmpa_flag x a) })
    ∷ (record { ops = CMPGE ∷ []; gives = flag_of (cmpge_flag w x a) })
    ∷ (record { ops = CMPG ∷ []; gives = flag_of (cmpg_flag w x a) })
    ∷ (record { ops = MULL ∷ UMULH ∷ []; gives = umulh_result w x a })
    ∷ (record { ops = SMULH ∷ []; gives = smulh_result w x a })
    ∷ (record { ops = UDIV ∷ []; gives = udiv_result x a })
    ∷ (record { ops = SHR ∷ []; gives = shr_result w x a })
    ∷ []

-- low and high are the halves of the operation's number; at other opcodes they may be anything
pub record AreHalves (w x a k low high : ℕ) : Type 0 where
  pub low_word : low < 2 ^ w
  pub high_word : high < 2 ^ w
  pub low_half : covers (low_halves w x a) k ≡ true → low ≡ chosen (low_halves w x a) k
  pub high_half : covers (high_halves w x a) k ≡ true → high ≡ chosen (high_halves w x a) k
