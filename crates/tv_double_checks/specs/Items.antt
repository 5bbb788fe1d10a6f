-- The words of a double cell and the item of a double line, in combinations and in numbers.
use Rattle.std.specs.Prelude.{◌≡◌, ℕ, ◌+◌, ◌*◌, ◌^◌, ◌<◌, ◌≤◌, List, [], ◌++◌, length, slice_index}
use Rattle.tv_core.specs.Combinations.{wire, constant, scaled, top}
use Rattle.tv_core.specs.Constraints.{value}
use Rattle.tv_core.specs.Laws.{Assigns}
use Rattle.tv_core.specs.Lines.{pair_value}
use Rattle.tv_core.specs.Normal.{normal}
use Rattle.tv_core.specs.declared.lines.Pair.{Pair}
use Rattle.tv_core.specs.declared.lines.PairNum.{PairNum}
use Rattle.tv_double_checks.specs.declared.double_lines.DoubleLine.{DoubleLine as Numbers}
use Rattle.tv_double_checks.specs.declared.double_lines.WordPair.{WordPair}
use Rattle.tv_double_checks.specs.declared.items.CellWords.{CellWords}
use Rattle.tv_doubles.specs.Doubles.{Words, DoubleLine}
use Rattle.tv_doubles.specs.Within.{IsBase, DoubleInRange, sum_of, item_first, item_second}

-- ---- the inputs
-- the combinations have at most 32 terms each, over wires below a number
pub record AreWordsMade (wires : ℕ) (words : CellWords) : Type 0 where
  pub cell : top words.cell ≤ wires
  pub sum : top words.sum ≤ wires
  pub second : top words.second ≤ wires
  pub cell_short : length words.cell ≤ 32
  pub sum_short : length words.sum ≤ 32
  pub second_short : length words.second ≤ 32

pub record IsItemMade (wires : ℕ) (item : Pair) : Type 0 where
  pub first : top item.first ≤ wires
  pub second : top item.second ≤ wires
  pub first_short : length item.first ≤ 32
  pub second_short : length item.second ≤ 32

-- ---- numbers
-- the words and the double line of numbers
abbrev pub pair_of : WordPair → Words
pair_of words = record { first = words.first; second = words.second }

abbrev pub line_of : Numbers → DoubleLine
line_of line = record { cell = line.cell; old = pair_of line.old; new = pair_of line.new }

-- the item of a double line at a place
abbrev pub packed : ℕ → DoubleLine → ℕ → PairNum
packed b line i = record { first = item_first b line; second = item_second b line i }

-- by which a double cell stands above a sum of two words
abbrev pub unit : ℕ → ℕ
unit b = 2 * b

-- ---- combinations
-- the words of a double cell that are known, and a word of the tape, on a wire, with 0 as second word
abbrev pub known_words : ℕ → WordPair → ℕ → CellWords
known_words d words i = record { cell = constant d; sum = constant (words.first + words.second); second = constant words.second; place = i }

abbrev pub tape_words : ℕ → ℕ → ℕ → CellWords
tape_words d w i = record { cell = constant d; sum = wire w; second = []; place = i }

-- the item of a line that finds the words, which is normal whatever the combinations are
abbrev pub item_of : ℕ → CellWords → Pair
item_of b words = record {
  first = normal (scaled (unit b) words.cell ++ words.sum);
  second = normal (scaled b (constant words.place) ++ words.second);
}

-- in an assignment the combinations hold the number of a double cell, the sum of a pair of words, and its second word
pub record HasWords (z : List ℕ) (words : CellWords) (d : ℕ) (pair : Words) : Type 0 where
  pub cell : value words.cell z ≡ d
  pub sum : value words.sum z ≡ sum_of pair
  pub second : value words.second z ≡ pair.second

-- ---- the laws
pub record ItemsAreRight : Type 0 where
  -- the values of an item are its numbers
  pub item : (z : List ℕ) (b : ℕ) (words : CellWords) (l : DoubleLine) → IsBase b → Assigns z → HasWords z words l.cell l.old → DoubleInRange b l
      → words.place < 2 ^ 20 → pair_value z (item_of b words) ≡ packed b l words.place
  -- those of words that are known, and of a tape word
  pub known : (z : List ℕ) (d : ℕ) (words : WordPair) (i : ℕ) → Assigns z → d < 2 ^ 32 → words.first < 2 ^ 32 → words.second < 2 ^ 32
      → HasWords z (known_words d words i) d (pair_of words)
  pub tape : (z : List ℕ) (d w i : ℕ) → Assigns z → d < 2 ^ 32 → HasWords z (tape_words d w i) d (record { first = slice_index z w; second = 0 })
