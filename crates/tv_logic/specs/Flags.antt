-- The zero flags of the bitwise operations.
use Rattle.std.specs.Prelude.{ℕ, List, [], ◌∷◌, ◌++◌}
use Rattle.tv_bits.specs.Times.{times_of}
use Rattle.tv_bits.specs.Zero.{zero_flag, zero_of, zero_values}
use Rattle.tv_core.specs.Circuits.{Circuit, pure, ◌>>=◌}
use Rattle.tv_core.specs.Combinations.{wire}
use Rattle.tv_logic.specs.declared.answers.LogicFlags.{LogicFlags}
use Rattle.tv_logic.specs.declared.answers.LogicWords.{LogicWords}

-- x or y is 0 exactly where x and y and x xor y are
unfoldable pub logic_flags_of : LogicWords → Circuit LogicFlags
logic_flags_of words = do
  and_zero ← zero_of (wire words.and_word)
  xor_zero ← zero_of (wire words.xor_word)
  not_zero ← zero_of (wire words.not_word)
  or_zero ← times_of (wire and_zero) (wire xor_zero)
  pure (record { and_zero = and_zero; or_zero = or_zero; xor_zero = xor_zero; not_zero = not_zero })

-- the values of the wires that are made, from the words' numbers
abbrev pub flag_values : ℕ → ℕ → ℕ → ℕ → List ℕ
flag_values ands ors xors nots = zero_values ands ++ (zero_values xors ++ (zero_values nots ++ zero_flag ors ∷ []))
