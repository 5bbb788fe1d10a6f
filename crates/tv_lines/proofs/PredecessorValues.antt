-- The values of the combinations.
use Rattle.tv_core.proofs.Common.{◌≡◌, ℕ, ◌+◌, ◌-◌, ◌*◌, ◌%◌, ◌^◌, ◌<◌, ◌≤◌, List, ◌++◌, ◌∙◌, ap, ap₂, arith, slice_index, value-append, value-wire, wire}
use Rattle.tv_core.proofs.Common.{constant, scaled, Combination, value, Assigns}
use Rattle.tv_bits.proofs.BitNumbers.{value-bits_below}
use Rattle.tv_bits.specs.Bits.{HasBits, bits_combination}
use Rattle.tv_bits.specs.declared.bit_wires.Bits.{Bits}
use Rattle.tv_core.proofs.CombinationLaws.{value-scaled, value-constant}
use Rattle.tv_core.proofs.NormalLaws.{value-normal}
use Rattle.tv_core.specs.declared.field.TheConstants.{P}
use Rattle.tv_core.specs.declared.lines.LineLc.{LineLc}
use Rattle.tv_core.specs.declared.lines.Pair.{Pair}
use Rattle.tv_lines.specs.Predecessor.{less_above, cell_excess, excess, cell_difference, time_difference}

pub value-less_above : (x y : Combination) (z : List ℕ) (a b : ℕ) → value x z ≡ a → value y z ≡ b → b < 2 ^ 31
    → value (less_above x y) z ≡ (a + (P - 2 ^ 32 * b)) % P
value-less_above x y z a b is_a is_b small =
    value-normal z (x ++ scaled (P - 2 ^ 32) y)
    ∙ value-append x (scaled (P - 2 ^ 32) y) z
    ∙ ap₂ (λ m n. (m + n) % P) is_a (value-scaled (P - 2 ^ 32) y z ∙ ap (λ n. (P - 2 ^ 32) * n % P) is_b)
    ∙ omega arith

gathered : (r q o c : ℕ) → r < 2 ^ 31 → q < 2 ^ 31 → o < 2 ^ 32 → c < 2 ^ 31
    → ((((2 ^ 32 + 2 ^ 32 * q) % P + (P - 1) * o % P) % P + (P - 2 ^ 32 * c)) % P + 2 ^ 32 * r % P) % P ≡ (2 ^ 32 * (r + 1 + q) + (P - (2 ^ 32 * c + o))) % P
gathered r q o c h i j k = omega arith

module _ (z : List ℕ) (line : LineLc) (item : Pair) (assigns : Assigns z) where
  pub value-excess : (reach : Bits) (n r q o c : ℕ) → reach.n ≡ n → n ≤ 31 → r < 2 ^ 31 → HasBits z reach.first n r
      → value item.first z ≡ 2 ^ 32 * q → value line.old z ≡ o → value line.cell z ≡ c → q < 2 ^ 31 → o < 2 ^ 32 → c < 2 ^ 31
      → value (excess reach line item) z ≡ (2 ^ 32 * (r + 1 + q) + (P - (2 ^ 32 * c + o))) % P
  value-excess reach n r q o c many short small s is_q is_o is_c small_q small_o small_c =
      let bits : Combination = scaled (2 ^ 32) (bits_combination reach.first reach.n) in
      let is_r : value bits z ≡ 2 ^ 32 * r % P =
      value-scaled (2 ^ 32) (bits_combination reach.first reach.n) z
      ∙ ap (λ k. 2 ^ 32 * k % P) (ap (λ k. value (bits_combination reach.first k) z) many ∙ value-bits_below s (omega arith)) in
      let one : value (constant (2 ^ 32) ++ item.first) z ≡ (2 ^ 32 + 2 ^ 32 * q) % P =
      value-append (constant (2 ^ 32)) item.first z ∙ ap₂ (λ m n. (m + n) % P) (value-constant assigns (2 ^ 32) ∙ omega arith) is_q in
      let two : value ((constant (2 ^ 32) ++ item.first) ++ scaled (P - 1) line.old) z ≡ ((2 ^ 32 + 2 ^ 32 * q) % P + (P - 1) * o % P) % P =
      value-append (constant (2 ^ 32) ++ item.first) (scaled (P - 1) line.old) z
      ∙ ap₂ (λ m n. (m + n) % P) one (value-scaled (P - 1) line.old z ∙ ap (λ k. (P - 1) * k % P) is_o) in
      value-append (cell_excess line item.first) bits z
      ∙ ap₂ (λ m n. (m + n) % P) (value-less_above ((constant (2 ^ 32) ++ item.first) ++ scaled (P - 1) line.old) line.cell z _ c two is_c small_c) is_r
      ∙ gathered r q o c small small_q small_o small_c

  pub value-cells : (q c : ℕ) → value item.first z ≡ 2 ^ 32 * q → value line.cell z ≡ c → c < 2 ^ 31
      → value (cell_difference line item) z ≡ (2 ^ 32 * q + (P - 2 ^ 32 * c)) % P
  value-cells q c is_q is_c small_c = value-less_above item.first line.cell z (2 ^ 32 * q) c is_q is_c small_c

  pub value-times : (e x v t : ℕ) → slice_index z e ≡ x → value item.second z ≡ v → value line.time z ≡ t → t < 2 ^ 31
      → value (time_difference e line item) z ≡ ((x + v) % P + (P - 2 ^ 32 * t)) % P
  value-times e x v t is_x is_v is_t small_t =
      value-append (less_above item.second line.time) (wire e) z
      ∙ ap₂ (λ m n. (m + n) % P) (value-less_above item.second line.time z v t is_v is_t small_t) (value-wire assigns e ∙ is_x)
      ∙ omega arith
