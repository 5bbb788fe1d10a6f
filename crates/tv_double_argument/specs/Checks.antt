-- Double lines in time order, in combinations and in numbers, and how each is checked at its own place.
use Rattle.std.specs.Prelude.{ℕ, ◌+◌, ◌<◌, ◌≤◌, List, []}
use Rattle.tv_core.specs.Circuits.{Circuit}
use Rattle.tv_core.specs.declared.lines.Pair.{Pair}
use Rattle.tv_double_argument.specs.declared.kinds.Kind.{Kind}
use Rattle.tv_double_argument.specs.declared.kinds.Kind.TheVariants.{Within, Image, Tape, Guard}
use Rattle.tv_double_checks.specs.Guard.{guard_of, guard_terms, guard_values}
use Rattle.tv_double_checks.specs.Image.{image_pair_of, image_pair_terms, image_pair_values}
use Rattle.tv_double_checks.specs.Tape.{tape_word_of, tape_word_terms}
use Rattle.tv_double_checks.specs.Within.{within_of, within_terms, within_values}
use Rattle.tv_double_checks.specs.declared.items.CellWords.{CellWords}
use Rattle.tv_doubles.specs.Doubles.{DoubleLine}
use Rattle.tv_doubles.specs.Whole.{Kind as Plain}
use Rattle.tv_doubles.specs.Whole.Kind.{Step, Image as ImagePair, Tape as TapeWord, Guard as Guarding}

-- how many lines there are, what each finds and what it leaves in its double cell, and how it is checked
pub record Lines : Type 0 where
  pub count : ℕ
  pub old : ℕ → CellWords
  pub new : ℕ → CellWords
  pub kind : ℕ → Kind

-- the same in numbers
pub record Numbers : Type 0 where
  pub count : ℕ
  pub line : ℕ → DoubleLine
  pub kind : ℕ → Kind

-- ---- kinds
-- a kind without its reach, and how many bits the reach has
abbrev pub plain : Kind → Plain
plain (Within m) = Step
plain (Image m) = ImagePair
plain Tape = TapeWord
plain (Guard m) = Guarding

abbrev pub reach_bits : Kind → ℕ
reach_bits (Within m) = m
reach_bits (Image m) = m
reach_bits Tape = 0
reach_bits (Guard m) = m

-- the kinds of the first n lines have at most 30 bits of reach
abbrev pub AreShort : (ℕ → Kind) → ℕ → Type 0
AreShort kind n = (i : ℕ) → i < n → reach_bits (kind i) ≤ 30

-- ---- the check of a line against an item
abbrev pub check_of : ℕ → Kind → CellWords → Pair → Circuit (Unit {0})
check_of b (Within m) own item = within_of b m own item
check_of b (Image m) own item = image_pair_of b m own item
check_of b Tape own item = tape_word_of b own item
check_of b (Guard m) own item = guard_of b m own item

-- the values of the wires that it makes, for line l at place i and its successor k at place j
abbrev pub check_values : ℕ → Kind → DoubleLine → ℕ → DoubleLine → ℕ → List ℕ
check_values b (Within m) l i k j = within_values b m l i k j
check_values b (Image m) l i k j = image_pair_values m l i k j
check_values b Tape l i k j = []
check_values b (Guard m) l i k j = guard_values m l k

-- how many wires it makes, how many constraints it puts, and how many terms these have where an item is two wires after
-- those of the line
abbrev pub check_made : Kind → ℕ
check_made (Within m) = m + 1
check_made (Image m) = m
check_made Tape = 0
check_made (Guard m) = m

abbrev pub check_added : Kind → ℕ
check_added (Within m) = m + 3
check_added (Image m) = m + 2
check_added Tape = 1
check_added (Guard m) = m + 1

abbrev pub check_terms : ℕ → Kind → CellWords → ℕ
check_terms b (Within m) own = within_terms b m own
check_terms b (Image m) own = image_pair_terms b m own
check_terms b Tape own = tape_word_terms b own
check_terms b (Guard m) own = guard_terms b m own
