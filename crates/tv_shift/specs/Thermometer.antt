-- A thermometer: marks of which number j is 1 where j is below the number that bits represent, and else 0.
-- The marks of k + 1 bits, of which the highest is b, follow from the 2^k marks m of the other k: the first 2^k
-- are m + b - m b, where one of the two is 1, and the last 2^k are m b. So only the products m b need wires,
-- and the last mark, which is always 0, needs none.
use Rattle.std.specs.Prelude.{ℕ, zero, suc, ◌+◌, ◌-◌, ◌*◌, ◌%◌, ◌^◌, List, [], ◌∷◌, ◌++◌, nat_lt, if◌then◌else◌}
use Rattle.std.specs.Int.{bit_at}
use Rattle.tv_core.specs.Below.{each_below}
use Rattle.tv_core.specs.Circuits.{Circuit, here, pure, ◌>>=◌}
use Rattle.tv_core.specs.Combinations.{wire, constant, scaled}
use Rattle.tv_core.specs.Constraints.{Combination}
use Rattle.tv_core.specs.Loops.{sequence}
use Rattle.tv_core.specs.declared.field.TheConstants.{P}
use Rattle.tv_bits.specs.Times.{times_of}

-- 1 where j is below s, and else 0
abbrev pub below : ℕ → ℕ → ℕ
below j s = if nat_lt j s then 1 else 0

-- how many products there are for the bits below number k: 2^i - 1 for bit i
abbrev pub products_below : ℕ → ℕ
products_below k = 2 ^ k - 1 - k

-- c times the product of bit k and mark j of the bits below it, the products being wires from a first one on
unfoldable pub both : ℕ → ℕ → ℕ → ℕ → Combination
both products c k j = if nat_lt (j + 1) (2 ^ k) then (c, products + (products_below k + j)) ∷ [] else []

-- mark j of k bits from a first wire on
unfoldable pub mark : ℕ → ℕ → ℕ → ℕ → Combination
mark bits products zero j = []
mark bits products (suc k) j =
    if nat_lt j (2 ^ k)
    then (1, bits + k) ∷ (both products (P - 1) k j ++ mark bits products k j)
    else both products 1 k (j - 2 ^ k)

-- the product of bit k with mark j of the bits below it
unfoldable pub level_product_of : ℕ → ℕ → ℕ → ℕ → Circuit (Unit {0})
level_product_of bits products k j = do
  _ ← times_of (wire (bits + k)) (mark bits products k j)
  pure tt

-- the products of bit k with each of these marks but the last
unfoldable pub bit_level_of : ℕ → ℕ → ℕ → Circuit (Unit {0})
bit_level_of bits products k = sequence (2 ^ k - 1) (level_product_of bits products k)

-- the products for k bits; the first is returned
unfoldable pub thermometer_of : ℕ → ℕ → Circuit ℕ
thermometer_of k bits = do
  products ← here
  _ ← sequence k (bit_level_of bits products)
  pure products

-- the values of the wires that are made for the k lowest bits of y
abbrev pub level_value : ℕ → ℕ → ℕ → ℕ
level_value y k j = bit_at y k * below j (y % 2 ^ k)

abbrev pub level_values : ℕ → ℕ → List ℕ
level_values y k = each_below (2 ^ k - 1) (level_value y k)

unfoldable pub thermometer_values : ℕ → ℕ → List ℕ
thermometer_values zero y = []
thermometer_values (suc k) y = thermometer_values k y ++ level_values y k

-- 1 + 2^0 m_0 + .. + 2^(n - 1) m_(n - 1), which is 2^s where the marks are those of s, at most n
unfoldable pub power_of : (ℕ → Combination) → ℕ → Combination
power_of marks zero = constant 1
power_of marks (suc i) = power_of marks i ++ scaled (2 ^ i % P) (marks i)
