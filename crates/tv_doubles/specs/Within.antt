-- A double line checked against its successor in address order, of which the item is known.
use Rattle.std.specs.Prelude.{◌≡◌, ◌⊎◌, ℕ, ◌+◌, ◌-◌, ◌*◌, ◌%◌, ◌^◌, ◌<◌, ◌≤◌, ◌==◌, if◌then◌else◌}
use Rattle.tv_core.specs.declared.field.TheConstants.{P}
use Rattle.tv_doubles.specs.Doubles.{Words, DoubleLine, Succeeds, no_words}

-- words are below the base, 2 ^ 16 or 2 ^ 32
abbrev pub IsBase : ℕ → Type 0
IsBase b = (b ≡ 2 ^ 16) ⊎ (b ≡ 2 ^ 32)

-- a pair of words, and a line of words, in a double cell of memory, tape or null
pub record WordsInRange (b : ℕ) (words : Words) : Type 0 where
  pub first : words.first < b
  pub second : words.second < b

pub record DoubleInRange (b : ℕ) (line : DoubleLine) : Type 0 where
  pub cell : line.cell ≤ 2 ^ 29 + 2 ^ 17
  pub old : WordsInRange b line.old
  pub new : WordsInRange b line.new

abbrev pub sum_of : Words → ℕ
sum_of words = words.first + words.second

-- the item of a line at a place: its double cell above the sum of its old pair, and its place above the second old word
abbrev pub item_first : ℕ → DoubleLine → ℕ
item_first b line = 2 * b * line.cell + sum_of line.old

abbrev pub item_second : ℕ → DoubleLine → ℕ → ℕ
item_second b line i = b * i + line.old.second

-- the three constraints, over the reach r, the excess g, the item (u, v), and the own line l at place i
pub record MeetsWithin (b r g u v : ℕ) (l : DoubleLine) (i : ℕ) : Type 0 where
  pub excess : (u + (P - 2 * b * (1 + r + l.cell))) % P ≡ g
  pub cells : g * ((u + (P - (2 * b * l.cell + sum_of l.new))) % P) % P ≡ 0
  pub times : g * ((2 * v + g + (P - (2 * b * i + sum_of l.new + 2 * l.new.second))) % P) % P ≡ 0

-- how far the successor is, less 1: in double cells, or in the same one in places
abbrev pub reach_between : DoubleLine → ℕ → DoubleLine → ℕ → ℕ
reach_between l i m j = if l.cell == m.cell then j - i - 1 else m.cell - l.cell - 1

-- the excess: 0 where the double cells differ
abbrev pub excess_between : ℕ → DoubleLine → ℕ → DoubleLine → ℕ → ℕ
excess_between b l i m j = if l.cell == m.cell then (sum_of l.new + (P - 2 * b * (j - i))) % P else 0

-- ---- the other checks
-- an image pair: the item is of the next double cell, with (0, 0), or it is the successor in the same
pub record MeetsImage (b r u v : ℕ) (l : DoubleLine) (i : ℕ) : Type 0 where
  pub cells : (u + (P - 2 * b * (l.cell + 1))) % P * ((u + (P - (2 * b * l.cell + sum_of l.new))) % P) % P ≡ 0
  pub times : (u + (P - 2 * b * (l.cell + 1))) % P * ((v + (P - (b * (i + 1 + r) + l.new.second))) % P) % P ≡ 0

-- a tape word: the same without the time
abbrev pub MeetsTape : ℕ → ℕ → DoubleLine → Type 0
MeetsTape b u l = (u + (P - 2 * b * (l.cell + 1))) % P * ((u + (P - (2 * b * l.cell + l.new.first))) % P) % P ≡ 0

-- a guard: the item is of the same double cell or of one above, with (0, 0)
abbrev pub MeetsGuard : ℕ → ℕ → ℕ → DoubleLine → Type 0
MeetsGuard b r u l = (u + (P - 2 * b * l.cell)) % P * ((u + (P - 2 * b * (l.cell + 1 + r))) % P) % P ≡ 0

-- what a check without the time shows: m is in a double cell above and begins at (0, 0), or in the same one, with the new
-- pair of l
abbrev pub Joins : DoubleLine → DoubleLine → Type 0
Joins l m = ((l.cell < m.cell) × (m.old ≡ no_words)) ⊎ ((l.cell ≡ m.cell) × (m.old ≡ l.new))

-- how far the successor of an image pair is in time, less 1
abbrev pub time_between : DoubleLine → ℕ → DoubleLine → ℕ → ℕ
time_between l i m j = if l.cell == m.cell then j - i - 1 else 0

-- how far that of a guard is in double cells, less 1
abbrev pub cells_between : DoubleLine → DoubleLine → ℕ
cells_between l m = if l.cell == m.cell then 0 else m.cell - l.cell - 1

-- ---- the laws
-- r has at most 30 bits; the times have 20
pub record ChecksAreSound : Type 0 where
  pub within : (b r g : ℕ) (l m : DoubleLine) (i j : ℕ) → IsBase b → r < 2 ^ 30 → DoubleInRange b l → DoubleInRange b m → i < 2 ^ 20 → j < 2 ^ 20
      → MeetsWithin b r g (item_first b m) (item_second b m j) l i → Succeeds l i m j
  pub image : (b r : ℕ) (l m : DoubleLine) (i j : ℕ) → IsBase b → r < 2 ^ 30 → DoubleInRange b l → DoubleInRange b m → i < 2 ^ 20 → j < 2 ^ 20
      → MeetsImage b r (item_first b m) (item_second b m j) l i → Succeeds l i m j
  pub tape : (b : ℕ) (l m : DoubleLine) → IsBase b → DoubleInRange b l → DoubleInRange b m → l.new.second ≡ 0 → (l.cell ≡ m.cell → m.old.second ≡ 0)
      → MeetsTape b (item_first b m) l → Joins l m
  pub guard : (b r : ℕ) (l m : DoubleLine) → IsBase b → r < 2 ^ 30 → DoubleInRange b l → DoubleInRange b m → l.new ≡ no_words
      → MeetsGuard b r (item_first b m) l → Joins l m
  pub last : (b : ℕ) (m : DoubleLine) → IsBase b → DoubleInRange b m → item_first b m % P ≡ 0 → (m.cell ≡ 0) × (m.old ≡ no_words)
  -- with 31 bits it would be false: at the greatest reach the item of the same double cell with the old sum 2 ^ 32 - 1 gives the excess 0
  pub not_31_bits : (d : ℕ) → (2 ^ 33 * d + (2 ^ 32 - 1)) % P ≡ 2 ^ 33 * (1 + (2 ^ 31 - 1) + d) % P

pub record ChecksAreComplete : Type 0 where
  pub within : (b : ℕ) (l m : DoubleLine) (i j : ℕ) → IsBase b → DoubleInRange b l → DoubleInRange b m → i < 2 ^ 20 → j < 2 ^ 20 → Succeeds l i m j
      → MeetsWithin b (reach_between l i m j) (excess_between b l i m j) (item_first b m) (item_second b m j) l i
  pub image : (b : ℕ) (l m : DoubleLine) (i j : ℕ) → IsBase b → DoubleInRange b l → DoubleInRange b m → i < 2 ^ 20 → j < 2 ^ 20 → Succeeds l i m j
      → m.cell ≤ l.cell + 1 → MeetsImage b (time_between l i m j) (item_first b m) (item_second b m j) l i
  pub tape : (b : ℕ) (l m : DoubleLine) (i j : ℕ) → IsBase b → DoubleInRange b l → DoubleInRange b m → Succeeds l i m j → l.new.second ≡ 0
      → m.cell ≤ l.cell + 1 → MeetsTape b (item_first b m) l
  pub guard : (b : ℕ) (l m : DoubleLine) (i j : ℕ) → IsBase b → DoubleInRange b l → DoubleInRange b m → Succeeds l i m j → l.new ≡ no_words
      → MeetsGuard b (cells_between l m) (item_first b m) l
  pub last : (b : ℕ) (m : DoubleLine) → m.cell ≡ 0 → m.old ≡ no_words → item_first b m % P ≡ 0
