-- What a system needs of the memory argument: its constraints make double lines honest, and honest lines have values that
-- satisfy them.
use Rattle.std.specs.Prelude.{◌≡◌, ℕ, ◌-◌, ◌<◌, List, length}
use Rattle.tv_core.specs.Laws.{Assigns, HasFrom, InField, Meets}
use Rattle.tv_core.specs.Lines.{pair_value}
use Rattle.tv_core.specs.declared.lines.Pair.{Pair}
use Rattle.tv_double_argument.specs.Checks.{AreShort, Lines, Numbers, plain, reach_bits}
use Rattle.tv_double_argument.specs.Costs.{argument_made}
use Rattle.tv_double_argument.specs.Memory.{argument_of, checks_of}
use Rattle.tv_double_argument.specs.Order.{argument_values}
use Rattle.tv_double_checks.specs.Items.{HasWords, packed}
use Rattle.tv_doubles.specs.Doubles.{DoubleLine, HonestDoubles}
use Rattle.tv_doubles.specs.Places.{PermutesPlaces}
use Rattle.tv_doubles.specs.Successors.{IsGreatest}
use Rattle.tv_doubles.specs.Whole.{AreLines, Reaches}
use Rattle.tv_stages.specs.declared.nets.Net.{Net}

-- in an assignment the combinations hold these double lines, each at its place
pub record HasLines (z : List ℕ) (lines : Lines) (line : ℕ → DoubleLine) : Type 0 where
  pub old : (i : ℕ) → i < lines.count → HasWords z (lines.old i) (line i).cell (line i).old
  pub new : (i : ℕ) → i < lines.count → HasWords z (lines.new i) (line i).cell (line i).new
  pub old_place : (i : ℕ) → i < lines.count → (lines.old i).place ≡ i
  pub new_place : (i : ℕ) → i < lines.count → (lines.new i).place ≡ i

-- the items are those of the lines, in the order of a permutation
pub record ArePermuted (z : List ℕ) (b n : ℕ) (line : ℕ → DoubleLine) (item : ℕ → Pair) : Type 0 where
  pub from : ℕ → ℕ
  pub permutes : PermutesPlaces n from
  pub items : (i : ℕ) → i < n → pair_value z (item i) ≡ packed b (line (from i)) (from i)

-- ---- the laws
-- double lines that are of their kinds are honest in every assignment that satisfies the checks, whichever permutation the
-- items are in
abbrev pub ChecksMakeHonest : Type 0
ChecksMakeHonest = (z : List ℕ) (b : ℕ) (lines : Lines) (line : ℕ → DoubleLine) (item : ℕ → Pair) (next : ℕ)
    → AreLines b lines.count line (λ i. plain (lines.kind i)) → AreShort lines.kind lines.count → Assigns z → HasLines z lines line
    → ArePermuted z b lines.count line item → Meets z (checks_of b lines item next).list → HonestDoubles lines.count line

-- and in every one that satisfies the argument, whatever it has at the wires of the network
abbrev pub ArgumentIsSound : Type 0
ArgumentIsSound = (net : Net) (z : List ℕ) (b : ℕ) (lines : Lines) (line : ℕ → DoubleLine) (next : ℕ)
    → AreLines b lines.count line (λ i. plain (lines.kind i)) → AreShort lines.kind lines.count → Assigns z → HasLines z lines line
    → Meets z (argument_of net b lines next).list → HonestDoubles lines.count line

-- honest lines of their kinds, of which the last is the greatest and each is near its successor
pub record AreHonest (b : ℕ) (lines : Numbers) : Type 0 where
  pub are : AreLines b lines.count lines.line (λ i. plain (lines.kind i))
  pub short : AreShort lines.kind lines.count
  pub reaches : Reaches lines.count lines.line (λ i. plain (lines.kind i)) (λ i. reach_bits (lines.kind i))
  pub honest : HonestDoubles lines.count lines.line
  pub greatest : IsGreatest lines.count lines.line (lines.count - 1)

-- for such lines the argument's values: one for each wire that it makes, each below P; an assignment that has them satisfies
-- the constraints
pub record ArgumentIsComplete : Type 0 where
  pub many : (net : Net) (b : ℕ) (lines : Numbers) → length (argument_values net b lines) ≡ argument_made net lines.kind lines.count
  pub below : (net : Net) (b : ℕ) (lines : Numbers) → AreLines b lines.count lines.line (λ i. plain (lines.kind i))
      → InField (argument_values net b lines)
  pub met : (net : Net) (z : List ℕ) (b : ℕ) (lines : Lines) (line : ℕ → DoubleLine) (next : ℕ)
      → AreHonest b (record { count = lines.count; line = line; kind = lines.kind }) → Assigns z → HasLines z lines line
      → HasFrom z next (argument_values net b (record { count = lines.count; line = line; kind = lines.kind }))
      → Meets z (argument_of net b lines next).list
