-- What the gadgets put is normal.
use Rattle.tv_core.proofs.Common.{◌≢◌, ℕ, zero, suc, ◌+◌, ◌-◌, ◌*◌, ◌%◌, ◌^◌, ◌<◌, ◌≤◌, [], ◌∷◌, sym, subst, arith, pow-le-pow_right, cases_eq, here, fresh}
use Rattle.tv_core.proofs.Common.{put, pure, ◌>>=◌, wire, constant, scaled, less, top, Combination, sequence, IsNormal, IsNormalFrom, AreNormal, width_short}
use Rattle.tv_core.proofs.Common.{IsWidth}
use Rattle.tv_core.proofs.BelowLaws.{below-power, weighted-zero, weighted-suc, top-weighted}
use Rattle.tv_core.proofs.CombinationLaws.{top-scaled}
use Rattle.tv_core.proofs.NormalCircuits.{normal_append, normal_negated, normal_both, normal_put, normal_turns}
use Rattle.tv_core.proofs.NormalLaws.{IsNormalFrom-lower, IsNormalFrom-normal}
use Rattle.tv_core.proofs.PrimeLaws.{p_zero_product}
use Rattle.tv_core.specs.Below.{weighted}
use Rattle.tv_core.specs.declared.field.TheConstants.{P}
use Rattle.tv_bits.proofs.SelectLaws.{select_sound, select_complete}
use Rattle.tv_bits.proofs.SizeLaws.{select_sizes}
use Rattle.tv_bits.proofs.DoubleRowLaws.{row_wires_answer}
use Rattle.tv_bits.specs.Bit.{bit_of}
use Rattle.tv_bits.specs.Bits.{bits_combination, new_bit, new_bits_of, bits_of}
use Rattle.tv_bits.specs.DoubleRow.{row_number, row_wires_of, above_edge, double_row_of}
use Rattle.tv_bits.specs.Gate.{gated_of}
use Rattle.tv_bits.specs.OneHot.{row_sum}
use Rattle.tv_bits.specs.Ratio.{ratio_of}
use Rattle.tv_bits.specs.Select.{pick_of, SelectIsNormal}
use Rattle.tv_bits.specs.Times.{times_of, kept_of}
use Rattle.tv_bits.specs.ZeroSign.{zero_sign_of}
use Rattle.tv_bits.specs.declared.double_rows.DoubleRow.{DoubleRow}
use Rattle.tv_bits.specs.Zero.{zero_cases_of}

-- ---- combinations
pub wire_normal : (least w : ℕ) → least ≤ w → IsNormalFrom least (wire w)
wire_normal least w h = (h, omega arith, omega arith, tt)

pub constant_normal : (c : ℕ) → 0 < c → c < P → IsNormal (constant c)
constant_normal c some small = (omega arith, some, small, tt)

-- x less y, the wires of y after those of x
pub less_normal : (least mid : ℕ) (x y : Combination) → IsNormalFrom least x → top x ≤ mid → least ≤ mid → IsNormalFrom mid y → IsNormalFrom least (less x y)
less_normal least mid x y n within below m = normal_append least mid x (scaled (P - 1) y) n within below (normal_negated mid y m)

-- a wire less an earlier one
pub rise_normal : (old new : ℕ) → old < new → IsNormal ((P - 1, old) ∷ (1, new) ∷ [])
rise_normal old new h = (omega arith, omega arith, omega arith, (omega arith, omega arith, omega arith, tt))

-- a multiple by a number that is not 0 modulo P
times_some : (k c : ℕ) → k % P ≢ 0 → 0 < c → c < P → 0 < k * c % P
times_some k c apart some small = search (arith, cases_eq, p_zero_product)

pub scaled_normal : (least k : ℕ) (x : Combination) → k % P ≢ 0 → IsNormalFrom least x → IsNormalFrom least (scaled k x)
scaled_normal least k [] apart n = tt
scaled_normal least k (t ∷ x) apart n =
    let small : k * t.0 % P < P = omega arith in
    (n.0, times_some k t.0 apart n.1 n.2, small, scaled_normal (t.1 + 1) k x apart n.3)

-- wires that follow each other, and the rows of bits and of ones
pub weighted_normal : (first n : ℕ) (c : ℕ → ℕ) → ((i : ℕ) → i < n → (0 < c i) × (c i < P)) → IsNormalFrom first (weighted first n c)
weighted_normal first zero c each = subst (IsNormalFrom first) (sym (weighted-zero first c)) tt
weighted_normal first (suc n) c each =
    let term = each n (omega arith) in
    let rest = weighted_normal first n c (λ i h. each i (omega arith)) in
    let last : IsNormalFrom (first + n) ((c n, first + n) ∷ []) = (omega arith, term.0, term.1, tt) in
    subst (IsNormalFrom first) (sym (weighted-suc first n c))
    (normal_append first (first + n) (weighted first n c) ((c n, first + n) ∷ []) rest (top-weighted first n c) (omega arith) last)

power_term : (i : ℕ) → i ≤ 62 → (0 < 2 ^ i % P) × (2 ^ i % P < P)
power_term i h = search (arith, pow-le-pow_right, below-power)

pub bits_normal : (first n : ℕ) → n ≤ 63 → IsNormalFrom first (bits_combination first n)
bits_normal first n short = weighted_normal first n (λ i. 2 ^ i % P) (λ i h. power_term i (omega arith))

-- the same from wire 0 on
pub bits_normal_plain : (first n : ℕ) → n ≤ 63 → IsNormal (bits_combination first n)
bits_normal_plain first n short = IsNormalFrom-lower 0 first (bits_combination first n) (omega arith) (bits_normal first n short)

pub scaled_bits_normal : (k first n : ℕ) → n ≤ 63 → k % P ≢ 0 → IsNormalFrom first (scaled k (bits_combination first n))
scaled_bits_normal k first n short apart = scaled_normal first k (bits_combination first n) apart (bits_normal first n short)

pub row_normal : (first count : ℕ) → IsNormalFrom first (row_sum first count)
row_normal first count = weighted_normal first count (λ _. 1) (λ i h. (omega arith, omega arith))

-- where the rows end
pub bits_top : (first n : ℕ) → top (bits_combination first n) ≤ first + n
bits_top first n = top-weighted first n (λ i. 2 ^ i % P)

pub scaled_bits_top : (k first n : ℕ) → top (scaled k (bits_combination first n)) ≤ first + n
scaled_bits_top k first n = omega (arith, top-scaled k (bits_combination first n), bits_top first n)

-- ---- circuits
pub bit_normal : (w next : ℕ) → AreNormal (bit_of w next).list
unfolding bit_of
bit_normal w next = search (arith, wire_normal, normal_put)

new_bit_normal : (at : ℕ) → AreNormal (new_bit at).list
unfolding new_bit fresh ◌>>=◌
new_bit_normal at = bit_normal at (at + 1)

pub new_bits_normal : (n next : ℕ) → AreNormal (new_bits_of n next).list
unfolding new_bits_of here pure ◌>>=◌
new_bits_normal n next = normal_both (sequence n (λ _. new_bit) next).list [] (normal_turns (λ _ _. new_bit) tt next n (λ i h. new_bit_normal _)) tt

pub bits_of_normal : (x : Combination) (n next : ℕ) → n ≤ 63 → IsNormal x → AreNormal (bits_of x n next).list
unfolding bits_of new_bits_of here put pure ◌>>=◌
bits_of_normal x n next short nx = search (arith, bits_normal_plain, normal_both, new_bits_normal, constant_normal)

pub times_normal : (x y : Combination) (next : ℕ) → IsNormal x → IsNormal y → AreNormal (times_of x y next).list
unfolding times_of fresh put pure ◌>>=◌
times_normal x y next nx ny = (record { a = nx; b = ny; c = wire_normal 0 next (omega arith) }, tt)

pub kept_normal : (x : Combination) (next : ℕ) → IsNormal x → AreNormal (kept_of x next).list
kept_normal x next nx = times_normal x (constant 1) next nx (constant_normal 1 (omega arith) (omega arith))

pub ratio_normal : (x y : Combination) (next : ℕ) → IsNormal x → IsNormal y → AreNormal (ratio_of x y next).list
unfolding ratio_of fresh put pure ◌>>=◌
ratio_normal x y next nx ny = (record { a = nx; b = wire_normal 0 next (omega arith); c = ny }, tt)

pub gated_normal : (gate x y : Combination) (next : ℕ) → IsNormal gate → IsNormal (less x y) → AreNormal (gated_of gate x y next).list
unfolding gated_of
gated_normal gate x y next ng nd = normal_put gate (less x y) [] next ng nd tt

-- the sign's wires are below f
pub zero_sign_normal : (y f : ℕ) (sign : Combination) (next : ℕ) → IsNormal sign → top sign ≤ f → AreNormal (zero_sign_of y f sign next).list
unfolding zero_sign_of zero_cases_of fresh put ◌>>=◌
zero_sign_normal y f sign next n below =
    let gate : IsNormal (wire y) = wire_normal 0 y (omega arith) in
    let flag : IsNormal (wire f) = wire_normal 0 f (omega arith) in
    let hint : IsNormal (wire next) = wire_normal 0 next (omega arith) in
    let difference : IsNormal (less sign (wire f)) = less_normal 0 f sign (wire f) n below (omega arith) (wire_normal f f (omega arith)) in
    (record { a = gate; b = hint; c = difference }, (record { a = gate; b = flag; c = tt }, tt))

-- a choice
pub select_normal : SelectIsNormal
unfolding pick_of fresh put pure ◌>>=◌
select_normal b x y next nb ny below = search (arith, top-scaled, wire_normal, normal_append, normal_negated, IsNormalFrom-normal)

-- ---- a row of twice a word's width
pub power_some : (w : ℕ) → IsWidth w → 0 < 2 ^ w % P
power_some w width = (power_term w (omega (arith, width_short w width))).0

pub row_number_normal : (least w : ℕ) → IsWidth w → (row : DoubleRow) → least ≤ row.low → row.low < row.high → IsNormalFrom least (row_number w row)
row_number_normal least w width row h above = search (arith, power_term, width_short)

edge_term : (w : ℕ) → IsWidth w → (0 < P - (2 ^ w - 1)) × (P - (2 ^ w - 1) < P)
edge_term w width = (grind arith, grind arith)

above_edge_normal : (w : ℕ) → IsWidth w → (signed : Combination) (high : ℕ) → IsNormalFrom 1 signed → top signed ≤ high → 0 < high
    → IsNormal (above_edge w signed high)
above_edge_normal w width signed high n below some =
    let edge = edge_term w width in
    let within : top (scaled (P - 1) signed) ≤ high = omega (arith, top-scaled (P - 1) signed, below) in
    let rest = normal_append 1 high (scaled (P - 1) signed) (wire high) (normal_negated 1 signed n) within some (wire_normal high high (omega arith)) in
    (omega arith, edge.0, edge.1, rest)

row_wires_normal : (w : ℕ) → IsWidth w → (next : ℕ) → AreNormal (row_wires_of w next).list
unfolding row_wires_of times_of new_bits_of here fresh put pure ◌>>=◌
row_wires_normal w width next = search (arith, width_short, kept_normal, bits_normal_plain, normal_both, new_bits_normal)

-- `signed` has no constant, and its wires are below the next one
pub double_row_normal : (w : ℕ) → IsWidth w → (signed : Combination) (next : ℕ) → IsNormalFrom 1 signed → top signed ≤ next
    → AreNormal (double_row_of w signed next).list
unfolding double_row_of pure ◌>>=◌
double_row_normal w width signed next n below =
    search (arith, row_wires_answer, above_edge_normal, wire_normal, ratio_normal, normal_both, row_wires_normal)

-- the laws of a choice
pub ruleset select_laws = (select_sound, select_complete, select_normal, select_sizes)
