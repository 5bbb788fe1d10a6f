-- Three registers read at once. The numbers are those of the other register, which is the destination at a store and
-- the source elsewhere, of the register that the second word names, and of the destination. A curve c0 + c1 i + c2 i²
-- goes through the three registers' words at their numbers; each register times nothing is on it there.
use Rattle.std.specs.Prelude.{◌≡◌, ℕ, ◌+◌, ◌-◌, ◌*◌, ◌%◌, ◌<◌, ◌≤◌, ◌==◌, if◌then◌else◌, List, [], ◌∷◌, ◌++◌, length, slice_index}
use Rattle.tv_bits.specs.Bit.{IsBit}
use Rattle.tv_bits.specs.Pairs.{negative}
use Rattle.tv_bits.specs.Ratio.{ratio, ratio_of}
use Rattle.tv_bits.specs.Select.{selected, pick_of}
use Rattle.tv_bits.specs.Times.{times_of, kept_of}
use Rattle.tv_core.specs.Below.{each_below}
use Rattle.tv_core.specs.Circuits.{Circuit, fresh, put, pure, ◌>>=◌}
use Rattle.tv_core.specs.Combinations.{wire, top}
use Rattle.tv_core.specs.Constraints.{Combination, value}
use Rattle.tv_core.specs.Laws.{Assigns, Meets, HasFrom, Fills, InField}
use Rattle.tv_core.specs.Loops.{sequence}
use Rattle.tv_core.specs.Meanings.{terms_in}
use Rattle.tv_core.specs.Normal.{IsNormal}
use Rattle.tv_core.specs.declared.field.TheConstants.{P}
use Rattle.tv_bits.specs.Wires.{words_at}
use Rattle.tv_regs.specs.declared.triple.Curve.{Curve}
use Rattle.tv_regs.specs.declared.triple.Names.{Names}
use Rattle.tv_regs.specs.declared.triple.Roots.{Roots}
use Rattle.tv_regs.specs.declared.triple.Triple.{Triple}

-- ---- the circuit
-- a new wire that is the product of b and the wire x, less the wire m: b times x is the wire less m
unfoldable pub pairs_of : ℕ → Combination → ℕ → Circuit ℕ
pairs_of dest x pair = do
  pairs ← fresh
  _ ← put (wire dest) x ((P - 1, pair) ∷ (1, pairs) ∷ [])
  pure pairs

-- the numbers at two wires and the third number, their sum, the sum of their products by two, and their product
unfoldable pub sums_of : ℕ → ℕ → Combination → Circuit Roots
sums_of dest other named = do
  sum ← kept_of ((named ++ wire dest) ++ wire other)
  pair ← times_of (wire other) named
  pairs ← pairs_of dest (named ++ wire other) pair
  product ← times_of (wire pair) (wire dest)
  pure (record { dest = dest; other = other; sum = sum; pairs = pairs; product = product })

-- the numbers of the destination and of the other register, and the sums
unfoldable pub roots_of : Combination → Combination → Combination → Combination → Circuit Roots
roots_of stores target source named = do
  dest ← kept_of target
  other ← pick_of stores (wire dest) source
  sums_of dest other named

-- i less the other's number, times i less the named one, times i less the destination's: i³ - i² sum + i pairs - product
abbrev pub cubic : Roots → ℕ → Combination
cubic roots i =
    if i == 0 then (P - 1, roots.product) ∷ []
    else (i * i * i, 0) ∷ (negative (i * i), roots.sum) ∷ (i, roots.pairs) ∷ (P - 1, roots.product) ∷ []

-- register i less the curve there, whose coefficients are three wires
abbrev pub departure : ℕ → ℕ → ℕ → Combination
departure reg curve i =
    if i == 0 then (1, reg) ∷ (P - 1, curve) ∷ []
    else (1, reg) ∷ (P - 1, curve) ∷ (negative i, curve + 1) ∷ (negative (i * i), curve + 2) ∷ []

-- a new wire that times the cubic is the departure
unfoldable pub passes_of : Roots → ℕ → ℕ → ℕ → Circuit (Unit {0})
passes_of roots curve reg i = do
  _ ← ratio_of (cubic roots i) (departure reg curve i)
  pure tt

abbrev pub passes_turn : Roots → ℕ → List ℕ → ℕ → Circuit (Unit {0})
passes_turn roots curve regs i = passes_of roots curve (slice_index regs i) i

-- a curve through the registers at the roots: the first of three new wires
unfoldable pub curve_of : Roots → List ℕ → Circuit ℕ
curve_of roots regs = do
  curve ← fresh
  _ ← fresh
  _ ← fresh
  _ ← sequence 16 (passes_turn roots curve regs)
  pure curve

-- a new wire that is the curve at a number: c0 + n (c1 + n c2)
unfoldable pub point_of : Combination → ℕ → Circuit ℕ
point_of n curve = do
  bend ← times_of n (wire (curve + 2))
  word ← fresh
  _ ← put n ((1, curve + 1) ∷ (1, bend) ∷ []) ((P - 1, curve) ∷ (1, word) ∷ [])
  pure word

-- the numbers of the destination and the other register, and the words of the three registers
unfoldable pub triple_of : Combination → Combination → Combination → Combination → List ℕ → Circuit Triple
triple_of stores target source named regs = do
  roots ← roots_of stores target source named
  curve ← curve_of roots regs
  other_word ← point_of (wire roots.other) curve
  named_word ← point_of named curve
  dest_word ← point_of (wire roots.dest) curve
  pure (record { dest = roots.dest; other = roots.other; other_word = other_word; named_word = named_word; dest_word = dest_word })

-- three numbers of registers, of four bits each, whose wires are below a number
pub record AreNames (wires : ℕ) (names : Names) : Type 0 where
  pub dest : names.dest.n ≡ 4
  pub source : names.source.n ≡ 4
  pub named : names.named.n ≡ 4
  pub dest_made : names.dest.first + 4 ≤ wires
  pub source_made : names.source.first + 4 ≤ wires
  pub named_made : names.named.first + 4 ≤ wires

-- the wires of the roots are below a number
pub record AreRoots (wires : ℕ) (roots : Roots) : Type 0 where
  pub dest : roots.dest < wires
  pub other : roots.other < wires
  pub sum : roots.sum < wires
  pub pairs : roots.pairs < wires
  pub product : roots.product < wires

-- what is returned, computed from the number of the first of these wires
abbrev pub triple_wires : ℕ → Triple
triple_wires first = record { dest = first; other = first + 1; other_word = first + 26; named_word = first + 28; dest_word = first + 30 }

-- ---- the values
-- a less b, modulo P
abbrev pub minus : ℕ → ℕ → ℕ
minus a b = (a + (P - b)) % P

-- Newton's divided differences through (o, s), (b, t) and (d, u): the curve is s + (i - o) (first + (i - b) second). Equal
-- numbers have equal words, and there the ratio is 0
abbrev pub first_divided : ℕ → ℕ → ℕ → ℕ → ℕ
first_divided o b s t = ratio (minus b o) (minus t s)

abbrev pub second_divided : ℕ → ℕ → ℕ → ℕ → ℕ → ℕ → ℕ
second_divided o b d s t u = ratio (minus d o * minus d b % P) (minus (minus u s) (minus d o * first_divided o b s t % P))

-- the curve with these divided differences, by its coefficients, and its value at i
abbrev pub curve_by : ℕ → ℕ → ℕ → ℕ → ℕ → Curve
curve_by o b s first second = record {
  level = (minus s (o * first % P) + o * b * second % P) % P;
  slope = minus first ((o + b) * second % P);
  bend = second;
}

abbrev pub curve_through : ℕ → ℕ → ℕ → List ℕ → Curve
curve_through o b d words =
    let s = slice_index words o in
    let t = slice_index words b in
    curve_by o b s (first_divided o b s t) (second_divided o b d s t (slice_index words d))

abbrev pub curve_at : Curve → ℕ → ℕ
curve_at curve i = ((curve.level + i * curve.slope % P) % P + i * i * curve.bend % P) % P

-- i less each of the three numbers, multiplied; and what times that is register i less the curve
abbrev pub root_product : ℕ → ℕ → ℕ → ℕ → ℕ
root_product o b d i = minus i o * minus i b % P * minus i d % P

abbrev pub passing : ℕ → ℕ → ℕ → List ℕ → ℕ → ℕ
passing o b d words i = ratio (root_product o b d i) (minus (slice_index words i) (curve_at (curve_through o b d words) i))

-- the values of the wires that are made, by the parts of the circuit: the numbers and their sums of products, the curve
-- and the sixteen ratios, and at each number the bend times it and the word
abbrev pub roots_values : ℕ → ℕ → ℕ → List ℕ
roots_values o b d = d ∷ o ∷ (o + b + d) ∷ (o * b) ∷ (o * b + d * (o + b)) ∷ (o * b * d) ∷ []

abbrev pub curve_values : Curve → List ℕ
curve_values curve = curve.level ∷ curve.slope ∷ curve.bend ∷ []

abbrev pub passing_values : ℕ → ℕ → ℕ → List ℕ → List ℕ
passing_values o b d words = each_below 16 (passing o b d words)

abbrev pub point_values : ℕ → ℕ → List ℕ → List ℕ
point_values n bend words = (n * bend % P) ∷ slice_index words n ∷ []

abbrev pub triple_values : ℕ → ℕ → ℕ → List ℕ → List ℕ
triple_values o b d words =
    let curve = curve_through o b d words in
    roots_values o b d
    ++ (curve_values curve
    ++ (passing_values o b d words ++ (point_values o curve.bend words ++ (point_values b curve.bend words ++ point_values d curve.bend words))))

-- ---- the laws
-- the wires hold the numbers and the words of the three registers
pub record AreRead (z : List ℕ) (triple : Triple) (o b d : ℕ) (words : List ℕ) : Type 0 where
  pub dest : slice_index z triple.dest ≡ d
  pub other : slice_index z triple.other ≡ o
  pub other_word : slice_index z triple.other_word ≡ slice_index words o
  pub named_word : slice_index z triple.named_word ≡ slice_index words b
  pub dest_word : slice_index z triple.dest_word ≡ slice_index words d

-- four combinations that are a bit and three numbers of registers
pub record AreNumbers (z : List ℕ) (stores target source named : Combination) : Type 0 where
  pub store : IsBit (value stores z)
  pub dest : value target z < 16
  pub other : value source z < 16
  pub third : value named z < 16

-- the other register's number: the destination's at a store, the source's elsewhere
abbrev pub other_number : List ℕ → Combination → Combination → Combination → ℕ
other_number z stores target source = selected (value stores z) (value target z) (value source z)

-- in an assignment that satisfies the constraints the wires hold the three registers
abbrev pub TripleIsSound : Type 0
TripleIsSound = (z : List ℕ) (next : ℕ) (stores target source named : Combination) (regs : List ℕ) → length regs ≡ 16 → Assigns z
    → AreNumbers z stores target source named → Meets z (triple_of stores target source named regs next).list
    → AreRead z (triple_of stores target source named regs next).answer (other_number z stores target source) (value named z) (value target z) (words_at z regs)

-- an assignment that has these values at the wires that were made satisfies the constraints
abbrev pub TripleIsComplete : Type 0
TripleIsComplete = (z : List ℕ) (next : ℕ) (stores target source named : Combination) (regs : List ℕ) → length regs ≡ 16 → Assigns z
    → AreNumbers z stores target source named
    → HasFrom z next (triple_values (other_number z stores target source) (value named z) (value target z) (words_at z regs))
    → Meets z (triple_of stores target source named regs next).list

-- which wires are returned, and that the values are one number of the field for each wire that is made
pub record TripleSizes : Type 0 where
  pub answer : (stores target source named : Combination) (regs : List ℕ) (next : ℕ)
      → (triple_of stores target source named regs next).answer ≡ triple_wires next
  pub end : (stores target source named : Combination) (regs : List ℕ) (next : ℕ) → (triple_of stores target source named regs next).next ≡ next + 31
  pub fills : (stores target source named : Combination) (regs : List ℕ) (o b d : ℕ) (words : List ℕ)
      → Fills (triple_of stores target source named regs) (triple_values o b d words)
  pub in_field : (o b d : ℕ) (words : List ℕ) → o < 16 → b < 16 → d < 16 → InField words → InField (triple_values o b d words)

-- how many constraints and terms are put; the wires of the source's number are below the destination's new one
pub record TripleCosts : Type 0 where
  pub constraints : (stores target source named : Combination) (regs : List ℕ) (next : ℕ) → length (triple_of stores target source named regs next).list ≡ 28
  pub terms : (stores target source named : Combination) (regs : List ℕ) (next : ℕ) → IsNormal source → top source ≤ next
      → terms_in (triple_of stores target source named regs next).list ≡ length stores + length target + 2 * length source + 5 * length named + 178
