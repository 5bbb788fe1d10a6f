-- The part of a row of bits that a row of masks lets through, as a number.
use Rattle.std.specs.Prelude.{ℕ, ◌+◌, ◌-◌, ◌*◌, ◌/◌, ◌^◌, ◌≤◌, List, ◌++◌}
use Rattle.std.specs.Int.{bit_at}
use Rattle.tv_bits.specs.Pairs.{two_ands_of}
use Rattle.tv_core.specs.Below.{each_below}
use Rattle.tv_core.specs.Circuits.{Circuit, here, fresh, pure, ◌>>=◌}
use Rattle.tv_core.specs.Combinations.{wire, less}
use Rattle.tv_core.specs.Constraints.{Combination}
use Rattle.tv_core.specs.Loops.{sequence}
use Rattle.tv_shift.specs.Thermometer.{mark, below, products_below}
use Rattle.tv_shift.specs.declared.masks.Part.{Part}
use Rattle.tv_shift.specs.declared.masks.Part.TheVariants.{Low, High}
use Rattle.tv_shift.specs.declared.masks.Places.{Places}

-- a new wire that is bit i of the part, plus 2^n times bit n + i
unfoldable pub masked_pair_of : (ℕ → Combination) → (ℕ → Combination) → ℕ → ℕ → Circuit (Unit {0})
masked_pair_of mask digit n i = do
  m ← fresh
  two_ands_of (mask i) (digit i) (mask (n + i)) (digit (n + i)) (2 ^ (n / 2)) (wire m)

-- the part of 2 n bits, as n wires, lowest first; the first is returned
unfoldable pub masked_of : (ℕ → Combination) → (ℕ → Combination) → ℕ → Circuit ℕ
masked_of mask digit n = do
  first ← here
  _ ← sequence n (masked_pair_of mask digit n)
  pure first

-- the values of the wires that are made for the word x
abbrev pub masked_value : (ℕ → ℕ) → ℕ → ℕ → ℕ → ℕ
masked_value mask x n i = mask i * bit_at x i + 2 ^ n * (mask (n + i) * bit_at x (n + i))

abbrev pub masked_values : (ℕ → ℕ) → ℕ → ℕ → List ℕ
masked_values mask x n = each_below n (masked_value mask x n)

-- half of a word of w bits, w being 16 or 32, has two to the power of this many bits
abbrev pub half_log : ℕ → ℕ
half_log w = w / 16 + 2

-- with the marks of a number s of half_log w bits: of the chosen half of a word its s low bits, of the other half its s
-- high bits
unfoldable pub mask_at : ℕ → Places → Part → ℕ → Combination
mask_at w p Low i = mark p.distance p.products (half_log w) i
mask_at w p High i = mark p.distance p.products (half_log w) (w / 2 - 1 - i)

abbrev pub mask_value : ℕ → ℕ → Part → ℕ → ℕ
mask_value w s Low i = below i s
mask_value w s High i = below (w / 2 - 1 - i) s

-- bit i of the chosen half, which is a wire, and of the other half: the sum of both halves' bits less that wire
unfoldable pub digit_at : ℕ → Places → Part → ℕ → Combination
digit_at w p Low i = wire (p.chosen + i)
digit_at w p High i = less (wire (p.word + i) ++ wire (p.word + (w / 2 + i))) (wire (p.chosen + i))

-- the wires of the places are below a number
pub record ArePlacesMade (w : ℕ) (p : Places) (wires : ℕ) : Type 0 where
  pub word : p.word + w ≤ wires
  pub distance : p.distance + w ≤ wires
  pub chosen : p.chosen + w / 2 ≤ wires
  pub products : p.products + products_below (half_log w) ≤ wires
