-- The memory argument has fewer than 2 ^ 44 terms.
use Rattle.tv_core.proofs.Common.{ℕ, ◌+◌, ◌-◌, ◌*◌, ◌^◌, ◌<◌, ◌≤◌, [], length, arith, length-append, constant, scaled, Combination}
use Rattle.std.proofs.Math.Nat.{mul-le-mul_right}
use Rattle.tv_bits.proofs.GateLaws.{length-scaled}
use Rattle.tv_core.proofs.NormalLaws.{length-normal}
use Rattle.tv_core.specs.declared.field.TheConstants.{P}
use Rattle.tv_double_argument.proofs.CheckCosts.{sum_few}
use Rattle.tv_double_argument.proofs.Made.{are_made}
use Rattle.tv_double_argument.specs.Checks.{AreShort, Lines, check_terms, reach_bits}
use Rattle.tv_double_argument.specs.Costs.{network_on}
use Rattle.tv_double_argument.specs.Memory.{AreFewTerms, AreMade, argument_terms, items_of}
use Rattle.tv_double_argument.specs.declared.kinds.Kind.{Kind}
use Rattle.tv_double_argument.specs.declared.kinds.Kind.TheVariants.{Within, Image, Tape, Guard}
use Rattle.tv_double_checks.specs.Differences.{cell_difference, cells_after, first_less, minus}
use Rattle.tv_double_checks.specs.Image.{places_after}
use Rattle.tv_double_checks.specs.Items.{unit}
use Rattle.tv_double_checks.specs.Within.{place_difference}
use Rattle.tv_double_checks.specs.declared.items.CellWords.{CellWords}
use Rattle.tv_network.proofs.NetworkLaws.{network_counted}
use Rattle.tv_stages.specs.declared.nets.Net.{Net}

minus_length : (k : ℕ) (x y : Combination) (m n : ℕ) → length x ≤ m → length y ≤ n → length (minus k x y) ≤ m + n
minus_length k x y m n hx hy = omega (arith, length-append x (scaled (P - k) y), length-scaled (P - k) y)

module _ (b : ℕ) (own : CellWords) (few : AreFewTerms own) where
  less : length (first_less b own []) ≤ 7
  less = minus_length (unit b) [] own.cell 0 7 (omega arith) few.cell

  after : length (cells_after b own []) ≤ 8
  after =
      let x : Combination = minus (unit b) (first_less b own []) (constant 1) in
      let l = minus_length (unit b) (first_less b own []) (constant 1) 7 1 less (omega arith) in
      omega (arith, l, length-normal x)

  cells : length (cell_difference b own []) ≤ 14
  cells =
      let x : Combination = minus 1 (first_less b own []) own.sum in
      let l = minus_length 1 (first_less b own []) own.sum 7 7 less few.sum in
      omega (arith, l, length-normal x)

  places_few : length (place_difference b own []) ≤ 15
  places_few =
      let one : Combination = minus (unit b) (scaled 2 []) (constant own.place) in
      let two : Combination = minus 1 one own.sum in
      let three : Combination = minus 2 two own.second in
      let l = minus_length (unit b) (scaled 2 []) (constant own.place) 0 1 (omega (arith, length-scaled 2 [])) (omega arith) in
      let m = minus_length 1 one own.sum 1 7 l few.sum in
      let n = minus_length 2 two own.second 8 7 m few.second in
      omega (arith, n, length-normal three)

  times_few : length (places_after b own []) ≤ 8
  times_few =
      let one : Combination = minus b [] (constant (own.place + 1)) in
      let two : Combination = minus 1 one own.second in
      let l = minus_length b [] (constant (own.place + 1)) 0 1 (omega arith) (omega arith) in
      let m = minus_length 1 one own.second 1 7 l few.second in
      omega (arith, m, length-normal two)

  pub check_few : (kind : Kind) → reach_bits kind ≤ 30 → check_terms b kind own ≤ 2 ^ 9
  check_few (Within m) h = omega (arith, after, cells, places_few)
  check_few (Image m) h = omega (arith, after, cells, times_few)
  check_few Tape h = omega (arith, after, cells)
  check_few (Guard m) h = omega (arith, after, cells)

pub terms_few : (net : Net) (b : ℕ) (lines : Lines) (next : ℕ) → lines.count ≤ 2 ^ 20 → AreShort lines.kind lines.count → AreMade next lines
    → argument_terms net b next lines < 2 ^ 44
terms_few net b lines next few short made =
    let network = network_counted.few (network_on net lines.count) (items_of b lines) next (omega arith) (are_made b next lines made) in
    let checked = sum_few (lines.count - 1) (2 ^ 9) (λ i. check_terms b (lines.kind i) (lines.new i))
    (λ i h. check_few b (lines.new i) (made.new i (omega arith)).few (lines.kind i) (short i (omega arith))) in
    let low : lines.count - 1 ≤ 2 ^ 20 = omega arith in
    let count : (lines.count - 1) * 2 ^ 9 ≤ 2 ^ 20 * 2 ^ 9 = mul-le-mul_right (2 ^ 9) low in
    omega (arith, network, checked, count)
