-- The single lines of double lines: each access of a word of a double cell is a line of its own.
use Rattle.std.specs.Prelude.{◌≡◌, ℕ, zero, suc, ◌<◌, Bool, true, false, List, [], ◌∷◌, ◌++◌}
use Rattle.tv_core.specs.Lines.{Line, Honest, memory_after}
use Rattle.tv_doubles.specs.Doubles.{Words, DoubleLine, HonestDoubles, before}

-- ---- a double line's single lines
-- which words of the double cell it accesses: both, as an image pair and an instruction; the first, as a tape word, null
-- and the last image word of an odd number; the first or the second, as a load or a store; none, as a guard
pub data Shown : Type 0 where
  Both : Shown
  One : Bool → Shown
  None : Shown

-- the first word, or the second
abbrev pub word_of : Words → Bool → ℕ
word_of words false = words.first
word_of words true = words.second

-- the numbers of the single cells, and the times
abbrev pub single : (ℕ → Bool → ℕ) → (ℕ → Bool → ℕ) → DoubleLine → ℕ → Bool → Line
single number time line i side =
    record { cell = number line.cell side; time = time i side; old = word_of line.old side; new = word_of line.new side }

abbrev pub singles_of : (ℕ → Bool → ℕ) → (ℕ → Bool → ℕ) → Shown → DoubleLine → ℕ → List Line
singles_of number time Both line i = single number time line i false ∷ single number time line i true ∷ []
singles_of number time (One side) line i = single number time line i side ∷ []
singles_of number time None line i = []

-- the single lines of n double lines, in time order
abbrev pub singles_below : (ℕ → Bool → ℕ) → (ℕ → Bool → ℕ) → (ℕ → Shown) → (ℕ → DoubleLine) → ℕ → List Line
singles_below number time shown line zero = []
singles_below number time shown line (suc n) = singles_below number time shown line n ++ singles_of number time (shown n) (line n) n

-- ---- the premises
-- a word that isn't shown stays, and one that is has a number
abbrev pub Shows : (ℕ → Bool → Bool) → Shown → DoubleLine → Type 0
Shows used Both line = (used line.cell false ≡ true) × (used line.cell true ≡ true)
Shows used (One false) line = (used line.cell false ≡ true) × (line.new.second ≡ line.old.second)
Shows used (One true) line = (used line.cell true ≡ true) × (line.new.first ≡ line.old.first)
Shows used None line = (line.new.first ≡ line.old.first) × (line.new.second ≡ line.old.second)

-- the numbers of different words are different
abbrev pub TellsApart : (ℕ → Bool → Bool) → (ℕ → Bool → ℕ) → Type 0
TellsApart used number = (d e : ℕ) (s t : Bool) → used d s ≡ true → used e t ≡ true → number d s ≡ number e t → (d ≡ e) × (s ≡ t)

-- ---- the laws
-- the single lines of honest double lines are honest; and after them each single cell has its word of the double cell
pub record SinglesAreHonest : Type 0 where
  pub honest : (used : ℕ → Bool → Bool) (number time : ℕ → Bool → ℕ) (shown : ℕ → Shown) (line : ℕ → DoubleLine) (n : ℕ)
      → TellsApart used number → ((i : ℕ) → i < n → Shows used (shown i) (line i)) → HonestDoubles n line
      → Honest (singles_below number time shown line n)
  pub leaves : (used : ℕ → Bool → Bool) (number time : ℕ → Bool → ℕ) (shown : ℕ → Shown) (line : ℕ → DoubleLine) (n : ℕ)
      → TellsApart used number → ((i : ℕ) → i < n → Shows used (shown i) (line i)) → HonestDoubles n line
      → (d : ℕ) (s : Bool) → used d s ≡ true → memory_after (singles_below number time shown line n) (number d s) ≡ word_of (before line n d) s
