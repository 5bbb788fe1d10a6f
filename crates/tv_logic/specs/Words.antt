-- The words of the bitwise operations: all but the and are linear in the inputs and it.
use Rattle.std.specs.Prelude.{ℕ, ◌-◌, ◌^◌, bit_and, bit_or, bit_xor, List, [], ◌∷◌, ◌++◌}
use Rattle.tv_bits.specs.Bits.{bits_combination}
use Rattle.tv_bits.specs.Pairs.{negative}
use Rattle.tv_bits.specs.Times.{kept_of}
use Rattle.tv_bits.specs.declared.bit_wires.Bits.{Bits}
use Rattle.tv_core.specs.Circuits.{Circuit, pure, ◌>>=◌}
use Rattle.tv_core.specs.Combinations.{constant, scaled, less}
use Rattle.tv_core.specs.Constraints.{Combination}
use Rattle.tv_logic.specs.Ands.{and_of, and_values}
use Rattle.tv_logic.specs.declared.answers.LogicWords.{LogicWords}
use Rattle.tv_word.specs.Operations.{not_result}

-- the sum of two words, less k times a wire
abbrev pub sum_less : ℕ → Bits → Bits → ℕ → ℕ → Combination
sum_less w x y k at = bits_combination x.first w ++ scaled 1 (bits_combination y.first w) ++ (negative k, at) ∷ []

-- the greatest word less another
abbrev pub complement : ℕ → Bits → Combination
complement w y = less (constant (2 ^ w - 1)) (bits_combination y.first w)

-- x or y is x + y less their and, x xor y is x + y less twice their and
unfoldable pub logic_words_of : ℕ → Bits → Bits → Circuit LogicWords
logic_words_of w x y = do
  and_word ← and_of w x y
  or_word ← kept_of (sum_less w x y 1 and_word)
  xor_word ← kept_of (sum_less w x y 2 and_word)
  not_word ← kept_of (complement w y)
  pure (record { and_word = and_word; or_word = or_word; xor_word = xor_word; not_word = not_word })

-- the values of the wires that are made
abbrev pub word_values : ℕ → ℕ → ℕ → List ℕ
word_values w x y = and_values w (bit_and x y) ++ bit_or x y ∷ bit_xor x y ∷ not_result w y ∷ []
