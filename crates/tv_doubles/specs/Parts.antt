-- The parts of the argument's double lines: the numbers of their single cells, the two pairs of a step's data line, and honest
-- double lines from honest single ones.
use Rattle.std.specs.Prelude.{◌≡◌, ◌⊎◌, ℕ, ◌+◌, ◌-◌, ◌*◌, ◌%◌, ◌^◌, ◌<◌, ◌≤◌, nat_lt, nat_le, if◌then◌else◌, Bool, true, false}
use Rattle.tv_core.specs.declared.field.TheConstants.{P}
use Rattle.tv_doubles.specs.Doubles.{Words, DoubleLine, HonestDoubles}
use Rattle.tv_core.specs.Lines.{memory_after, Honest}
use Rattle.tv_doubles.specs.Singles.{Shown, word_of, single, singles_below, Shows, TellsApart}
use Rattle.tv_doubles.specs.Singles.Shown.{Both, One, None}
use Rattle.tv_doubles.specs.Successors.{IsGreatest}
use Rattle.tv_doubles.specs.Within.{sum_of}

-- ---- the numbers of single cells
-- 0 for the first word, 1 for the second
abbrev pub side_number : Bool → ℕ
side_number false = 0
side_number true = 1

-- of memory's double cells both words are used; of a tape word and of null, which follow, the first
abbrev pub is_used : ℕ → ℕ → ℕ → Bool → Bool
is_used memory tape d false = nat_le d (memory + tape)
is_used memory tape d true = nat_lt d memory

-- memory's cells from 0, the tape's from 2 ^ 30, and null
abbrev pub cell_number : ℕ → ℕ → ℕ → Bool → ℕ
cell_number memory tape d s =
    if nat_lt d memory then 2 * d + side_number s else if nat_lt d (memory + tape) then 2 ^ 30 + (d - memory) else 2 ^ 30 + 2 ^ 29

-- ---- a data line
-- a word at its side, and the other one
abbrev pub pair_at : Bool → ℕ → ℕ → Words
pair_at false word other = record { first = word; second = other }
pair_at true word other = record { first = other; second = word }

abbrev pub data_double : ℕ → Bool → ℕ → ℕ → ℕ → DoubleLine
data_double d side old new other = record { cell = d; old = pair_at side old other; new = pair_at side new other }

-- ---- honest double lines
-- what isn't shown of a line's old pair: the word that memory has; 0 where there is no such cell
abbrev pub IsLeft : (ℕ → Bool → Bool) → (ℕ → Bool → ℕ) → (ℕ → ℕ) → DoubleLine → Bool → Type 0
IsLeft used number memory line side = word_of line.old side ≡ (if used line.cell side then memory (number line.cell side) else 0)

abbrev pub KnowsOthers : (ℕ → Bool → Bool) → (ℕ → Bool → ℕ) → Shown → (ℕ → ℕ) → DoubleLine → Type 0
KnowsOthers used number Both memory line = Unit {0}
KnowsOthers used number (One false) memory line = IsLeft used number memory line true
KnowsOthers used number (One true) memory line = IsLeft used number memory line false
KnowsOthers used number None memory line = IsLeft used number memory line false × IsLeft used number memory line true

-- ---- double cells in use
abbrev pub IsGuard : (image memory m d : ℕ) → Type 0
IsGuard image memory m d = (d % 2 ^ m ≡ 0) × (2 ^ m ≤ d) × (image ≤ d) × (d < memory)

-- image pairs, guards at the multiples of 2 ^ m from the image's end and from 2 ^ m on, and the tape's and null
abbrev pub IsInUse : (image memory tape m d : ℕ) → Type 0
IsInUse image memory tape m d = (d < image) ⊎ (IsGuard image memory m d ⊎ ((memory ≤ d) × (d ≤ memory + tape)))

-- ---- the laws
pub record PartsAreRight : Type 0 where
  pub apart : (memory tape : ℕ) → memory ≤ 2 ^ 29 → tape ≤ 2 ^ 17 → TellsApart (is_used memory tape) (cell_number memory tape)
  -- the wire x with [side] [other - word] = [x], for words and a side of 0 or 1, gives the pair word + x, other - x
  pub pairs : (side : Bool) (word other x : ℕ) → word < 2 ^ 32 → other < 2 ^ 32 → x < P → side_number side * ((other + (P - word)) % P) % P ≡ x
      → ((word + x) % P ≡ (pair_at side word other).first) × ((other + (P - x)) % P ≡ (pair_at side word other).second)
  pub sums : (side : Bool) (word other : ℕ) → sum_of (pair_at side word other) ≡ word + other
  -- a data double line shows its single data line, at its side
  pub shows : (used : ℕ → Bool → Bool) (d : ℕ) (side : Bool) (old new other : ℕ) → used d side ≡ true → Shows used (One side) (data_double d side old new other)
  pub single_is : (number time : ℕ → Bool → ℕ) (d : ℕ) (side : Bool) (old new other i : ℕ)
      → single number time (data_double d side old new other) i side ≡ record { cell = number d side; time = time i side; old = old; new = new }
  -- double lines are honest where their single lines are, and each word that isn't shown is what memory has
  pub doubles : (used : ℕ → Bool → Bool) (number time : ℕ → Bool → ℕ) (shown : ℕ → Shown) (line : ℕ → DoubleLine) (n : ℕ)
      → TellsApart used number → ((i : ℕ) → i < n → Shows used (shown i) (line i))
      → ((i : ℕ) → i < n → KnowsOthers used number (shown i) (memory_after (singles_below number time shown line i)) (line i))
      → Honest (singles_below number time shown line n) → HonestDoubles n line
  -- the last line has the greatest key where it has the greatest double cell
  pub greatest : (n : ℕ) (line : ℕ → DoubleLine) → n ≤ 2 ^ 20 → 0 < n → ((i : ℕ) → i < n → (line i).cell ≤ (line (n - 1)).cell) → IsGreatest n line (n - 1)
  -- from each double cell below null there is one in use at most 2 ^ m above; and from one of the image but its last, of the
  -- tape or the one before the tape, at most 1
  pub near : (image memory tape m d : ℕ) → image ≤ memory → d < memory + tape → (e : ℕ) × (d < e) × (e ≤ d + 2 ^ m) × IsInUse image memory tape m e
  pub next : (image memory tape m d : ℕ) → (d + 1 < image) ⊎ ((memory ≤ d + 1) × (d < memory + tape)) → IsInUse image memory tape m (d + 1)
