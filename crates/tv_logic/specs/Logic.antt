-- The bitwise operations of two words, with their zero flags.
use Rattle.std.specs.Prelude.{◌≡◌, ℕ, ◌+◌, ◌/◌, ◌<◌, ◌^◌, bit_and, bit_or, bit_xor, List, ◌++◌, slice_index}
use Rattle.tv_bits.specs.Bits.{HasBits}
use Rattle.tv_bits.specs.Zero.{zero_flag}
use Rattle.tv_bits.specs.declared.bit_wires.Bits.{Bits}
use Rattle.tv_core.specs.Circuits.{Circuit, pure, ◌>>=◌}
use Rattle.tv_core.specs.Laws.{Assigns, Meets, HasFrom, Fills, InField}
use Rattle.tv_logic.specs.Flags.{logic_flags_of, flag_values}
use Rattle.tv_logic.specs.Words.{logic_words_of, word_values}
use Rattle.tv_logic.specs.declared.answers.Logic.{Logic}
use Rattle.tv_logic.specs.declared.answers.LogicFlags.{LogicFlags}
use Rattle.tv_logic.specs.declared.answers.LogicWords.{LogicWords}
use Rattle.tv_word.specs.Operations.{not_result}
use Rattle.tv_word.specs.Widths.{IsWidth}

-- words and their flags together
abbrev pub together : LogicWords → LogicFlags → Logic
together words flags = record {
  and_word = words.and_word;
  or_word = words.or_word;
  xor_word = words.xor_word;
  not_word = words.not_word;
  and_zero = flags.and_zero;
  or_zero = flags.or_zero;
  xor_zero = flags.xor_zero;
  not_zero = flags.not_zero;
}

-- the words of the four operations, and then their zero flags
unfoldable pub logic_of : ℕ → Bits → Bits → Circuit Logic
logic_of w x y = do
  words ← logic_words_of w x y
  flags ← logic_flags_of words
  pure (together words flags)

-- how many wires are made: half a word and 10
abbrev pub logic_made : ℕ → ℕ
logic_made w = w / 2 + 10

-- what is returned, computed from the number of the first of these wires: the word of ands is the first, the other
-- pairs of bits and the other words follow, and then each flag but or's with its hint, and or's
abbrev pub logic_wires : ℕ → ℕ → Logic
logic_wires w first = record {
  and_word = first;
  or_word = first + w / 2;
  xor_word = first + (w / 2 + 1);
  not_word = first + (w / 2 + 2);
  and_zero = first + (w / 2 + 3);
  or_zero = first + (w / 2 + 9);
  xor_zero = first + (w / 2 + 5);
  not_zero = first + (w / 2 + 7);
}

-- the values of the wires that are made
abbrev pub logic_values : ℕ → ℕ → ℕ → List ℕ
logic_values w x y = word_values w x y ++ flag_values (bit_and x y) (bit_or x y) (bit_xor x y) (not_result w y)

-- the wires hold the words of the operations on x and y, and whether each is 0; `not` is of y
pub record IsLogic (w : ℕ) (z : List ℕ) (answer : Logic) (x y : ℕ) : Type 0 where
  pub and_word : slice_index z answer.and_word ≡ bit_and x y
  pub or_word : slice_index z answer.or_word ≡ bit_or x y
  pub xor_word : slice_index z answer.xor_word ≡ bit_xor x y
  pub not_word : slice_index z answer.not_word ≡ not_result w y
  pub and_zero : slice_index z answer.and_zero ≡ zero_flag (bit_and x y)
  pub or_zero : slice_index z answer.or_zero ≡ zero_flag (bit_or x y)
  pub xor_zero : slice_index z answer.xor_zero ≡ zero_flag (bit_xor x y)
  pub not_zero : slice_index z answer.not_zero ≡ zero_flag (not_result w y)

-- in an assignment that meets what was put the answer is the operations' words and flags
abbrev pub LogicIsSound : Type 0
LogicIsSound = (w : ℕ) → IsWidth w → (z : List ℕ) (next : ℕ) (x y : Bits) (a b : ℕ) → Assigns z → HasBits z x.first w a → HasBits z y.first w b
    → Meets z (logic_of w x y next).list → IsLogic w z (logic_of w x y next).answer a b

-- an assignment that has these values at the wires that were made satisfies the constraints
abbrev pub LogicIsComplete : Type 0
LogicIsComplete = (w : ℕ) → IsWidth w → (z : List ℕ) (next : ℕ) (x y : Bits) (a b : ℕ) → Assigns z → HasBits z x.first w a → HasBits z y.first w b
    → HasFrom z next (logic_values w a b) → Meets z (logic_of w x y next).list

-- what the circuit returns and where it ends; it has one value for each wire that it makes, and those of words are in
-- the field
pub record LogicSizes : Type 0 where
  pub answer : (w : ℕ) → IsWidth w → (x y : Bits) (next : ℕ) → (logic_of w x y next).answer ≡ logic_wires w next
  pub end : (w : ℕ) → IsWidth w → (x y : Bits) (next : ℕ) → (logic_of w x y next).next ≡ next + logic_made w
  pub fills : (w : ℕ) → IsWidth w → (x y : Bits) (a b : ℕ) → Fills (logic_of w x y) (logic_values w a b)
  pub in_field : (w : ℕ) → IsWidth w → (a b : ℕ) → a < 2 ^ w → b < 2 ^ w → InField (logic_values w a b)
