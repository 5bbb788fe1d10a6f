-- The memory argument over double lines: a check at each place but the last.
use Rattle.std.specs.Prelude.{◌≡◌, ◌≢◌, ℕ, ◌+◌, ◌-◌, ◌%◌, ◌^◌, ◌<◌, ◌≤◌, Bool}
use Rattle.tv_doubles.specs.Places.{PermutesPlaces}
use Rattle.tv_core.specs.declared.field.TheConstants.{P}
use Rattle.tv_doubles.specs.Doubles.{DoubleLine, HonestDoubles, no_words}
use Rattle.tv_core.specs.Lines.{Honest}
use Rattle.tv_doubles.specs.Singles.{Shown, singles_below, Shows, TellsApart}
use Rattle.tv_doubles.specs.Successors.{successor, IsGreatest}
use Rattle.tv_doubles.specs.Within.{IsBase, DoubleInRange, item_first, item_second, MeetsWithin, MeetsImage, MeetsTape, MeetsGuard}
use Rattle.tv_doubles.specs.Within.{reach_between, excess_between, time_between, cells_between}

-- how a place is checked: a step's line or the last image pair; another image pair; a tape word; a guard
pub data Kind : Type 0 where
  Step : Kind
  Image : Kind
  Tape : Kind
  Guard : Kind

-- the constraints at a place, over the reach r, the excess g, the item (u, v), and the own line at place i
abbrev pub MeetsKind : Kind → (b r g u v : ℕ) → DoubleLine → ℕ → Type 0
MeetsKind Step b r g u v l i = MeetsWithin b r g u v l i
MeetsKind Image b r g u v l i = MeetsImage b r u v l i
MeetsKind Tape b r g u v l i = MeetsTape b u l
MeetsKind Guard b r g u v l i = MeetsGuard b r u l

-- the line of a tape word and that of a guard are the first of their double cells; the lines of a tape word have 0 as second
-- word; a guard leaves (0, 0)
pub record IsFirst (line : ℕ → DoubleLine) (i : ℕ) : Type 0 where
  pub old : (line i).old ≡ no_words
  pub first : (k : ℕ) → k < i → (line k).cell ≢ (line i).cell

abbrev pub IsKind : Kind → ℕ → (ℕ → DoubleLine) → ℕ → Type 0
IsKind Step n line i = Unit {0}
IsKind Image n line i = Unit {0}
IsKind Tape n line i = IsFirst line i × ((line i).new.second ≡ 0) × ((q : ℕ) → q < n → (line q).cell ≡ (line i).cell → (line q).old.second ≡ 0)
IsKind Guard n line i = IsFirst line i × ((line i).new ≡ no_words)

-- n double lines in range, of the kinds that they are said to be
pub record AreLines (b n : ℕ) (line : ℕ → DoubleLine) (kind : ℕ → Kind) : Type 0 where
  pub base : IsBase b
  pub few : n ≤ 2 ^ 20
  pub some : 0 < n
  pub in_range : (i : ℕ) → i < n → DoubleInRange b (line i)
  pub kinds : (i : ℕ) → i < n → IsKind (kind i) n line i

-- the constraints are met: the network brings to place i the item of the line at p i; at the last place u = 0
pub record AllMeet (b n : ℕ) (line : ℕ → DoubleLine) (kind : ℕ → Kind) (p r g : ℕ → ℕ) : Type 0 where
  pub permutes : PermutesPlaces n p
  pub small : (i : ℕ) → i + 1 < n → r i < 2 ^ 30
  pub met : (i : ℕ) → i + 1 < n → MeetsKind (kind i) b (r i) (g i) (item_first b (line (p i))) (item_second b (line (p i)) (p i)) (line i) i
  pub last : item_first b (line (p (n - 1))) % P ≡ 0

-- ---- completeness
-- how far up from a double cell a line of the kind needs another line, where its reach has m bits
abbrev pub gap : Kind → ℕ → ℕ
gap Step m = 2 ^ m
gap Image m = 1
gap Tape m = 1
gap Guard m = 2 ^ m

-- kinds that check the time
abbrev pub IsTimed : Kind → Type 0
IsTimed Step = Unit {0}
IsTimed Image = Unit {0}
IsTimed Tape = ⊥
IsTimed Guard = ⊥

-- the reach of an image pair and of a step's line fits in time, as there are few lines after it; and from each double cell
-- but the last line's there is a line near above
pub record Reaches (n : ℕ) (line : ℕ → DoubleLine) (kind : ℕ → Kind) (m : ℕ → ℕ) : Type 0 where
  pub bits : (i : ℕ) → i + 1 < n → m i ≤ 30
  pub late : (i : ℕ) → i + 1 < n → IsTimed (kind i) → n ≤ i + 1 + 2 ^ m i
  pub near : (i : ℕ) → i + 1 < n → (line i).cell ≢ (line (n - 1)).cell
      → (q : ℕ) × (q < n) × ((line i).cell < (line q).cell) × ((line q).cell ≤ (line i).cell + gap (kind i) (m i))
  pub least : (q : ℕ) × (q < n) × ((line q).cell ≡ 0)

-- the values of the reaches and the excesses
abbrev pub reach_of : Kind → DoubleLine → ℕ → DoubleLine → ℕ → ℕ
reach_of Step l i m j = reach_between l i m j
reach_of Image l i m j = time_between l i m j
reach_of Tape l i m j = 0
reach_of Guard l i m j = cells_between l m

abbrev pub reach_at : ℕ → (ℕ → DoubleLine) → (ℕ → Kind) → ℕ → ℕ
reach_at n line kind i = reach_of (kind i) (line i) i (line (successor n line i)) (successor n line i)

abbrev pub excess_at : ℕ → ℕ → (ℕ → DoubleLine) → ℕ → ℕ
excess_at b n line i = excess_between b (line i) i (line (successor n line i)) (successor n line i)

-- ---- the laws
pub record ArgumentIsRight : Type 0 where
  -- where the constraints are met the double lines are honest, and so are their single lines
  pub sound : (b n : ℕ) (line : ℕ → DoubleLine) (kind : ℕ → Kind) (p r g : ℕ → ℕ) → AreLines b n line kind → AllMeet b n line kind p r g
      → HonestDoubles n line
  pub singles : (b n : ℕ) (line : ℕ → DoubleLine) (kind : ℕ → Kind) (p r g : ℕ → ℕ) → AreLines b n line kind → AllMeet b n line kind p r g
      → (used : ℕ → Bool → Bool) (number time : ℕ → Bool → ℕ) (shown : ℕ → Shown)
      → TellsApart used number → ((i : ℕ) → i < n → Shows used (shown i) (line i)) → Honest (singles_below number time shown line n)
  -- honest double lines, of which the last has the greatest key, meet them, by reaches that fit
  pub complete : (b n : ℕ) (line : ℕ → DoubleLine) (kind : ℕ → Kind) (m : ℕ → ℕ) → AreLines b n line kind → Reaches n line kind m
      → HonestDoubles n line → IsGreatest n line (n - 1)
      → AllMeet b n line kind (successor n line) (reach_at n line kind) (excess_at b n line)
  pub fits : (b n : ℕ) (line : ℕ → DoubleLine) (kind : ℕ → Kind) (m : ℕ → ℕ) → AreLines b n line kind → Reaches n line kind m
      → HonestDoubles n line → IsGreatest n line (n - 1)
      → (i : ℕ) → i + 1 < n → reach_at n line kind i < 2 ^ m i
