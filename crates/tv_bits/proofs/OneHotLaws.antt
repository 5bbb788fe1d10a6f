-- The laws of a one-hot row, and what a sum over one is.
use Rattle.tv_core.proofs.Common.{◌⊎◌, ◌≡◌, ◌≢◌, ℕ, ◌+◌, ◌-◌, ◌*◌, ◌%◌, ◌^◌, ◌<◌, ◌≤◌, if◌then◌else◌, List, inl, inr, refl, sym, ◌∙◌, ap, ap₂, arith, mod-lt}
use Rattle.tv_core.proofs.Common.{mod-eq_of_lt, zero-mul, slice_index, pow-le-pow_right, cases_eq, nat_tests, value-less, value-below, value-wire, wire-below}
use Rattle.tv_core.proofs.Common.{Meets-split, Meets-join, here, fresh, put, pure, ◌>>=◌, wire, constant, less, Combination, value, Assigns, Meets, HasFrom}
use Rattle.tv_core.proofs.Common.{sequence}
use Rattle.std.proofs.Common.{eq-eqb, mul-one, mul-zero}
use Rattle.tv_core.proofs.BelowLaws.{sum_below-single, value-weighted, has_each}
use Rattle.tv_core.proofs.CombinationLaws.{value-constant}
use Rattle.tv_core.proofs.DifferenceLaws.{same_of_minus}
use Rattle.tv_core.proofs.LoopLaws.{turn_met, turns_met, turns-next}
use Rattle.tv_core.proofs.PrimeLaws.{p_zero_product_below}
use Rattle.tv_core.specs.Below.{weighted}
use Rattle.tv_core.specs.declared.field.TheConstants.{P}
use Rattle.tv_bits.proofs.BitNumbers.{HasBits-below, HasBits-small, value-bits}
use Rattle.tv_bits.specs.Bits.{bits_combination}
use Rattle.tv_bits.specs.OneHot.{IsOneHot, row_sum, one_at, onehot_values, mark_of, onehot_of, OneHotIsSound, OneHotIsComplete}
use Rattle.tv_bits.specs.declared.bit_wires.Bits.{Bits}

-- ---- sums over a row of which one wire alone is not 0
value-cold : (z : List ℕ) (first count v : ℕ) (c : ℕ → ℕ) → v < count → ((i : ℕ) → i < count → i ≢ v → slice_index z (first + i) ≡ 0)
    → value (weighted first count c) z ≡ c v * slice_index z (first + v) % P
value-cold z first count v c within cold =
    value-weighted first count c z
    ∙ ap (λ n. n % P) (sum_below-single count v (λ i. c i * slice_index z (first + i)) within
    (λ i h apart. ap (λ n. c i * n) (cold i h apart) ∙ mul-zero (c i)))

-- a weighted sum is the weight of the wire that is 1
pub value-onehot : (z : List ℕ) (first count v : ℕ) (c : ℕ → ℕ) → IsOneHot z first count v → value (weighted first count c) z ≡ c v % P
value-onehot z first count v c row =
    value-cold z first count v c row.within row.cold ∙ ap (λ n. c v * n % P) row.hot ∙ ap (λ n. n % P) (mul-one (c v))

-- ---- one mark
mark-next : (x : Combination) (i at : ℕ) → (mark_of x i at).next ≡ at + 1
unfolding mark_of fresh put ◌>>=◌
mark-next x i at = refl

turn-next : (x : Combination) (next n : ℕ) → (sequence n (mark_of x) next).next ≡ next + n
turn-next x next n = turns-next (λ i _. mark_of x i) tt next 1 n (λ i a at. mark-next x i at) ∙ ap (λ k. next + k) (mul-one n)

mark_value : (z : List ℕ) (x : Combination) (i at : ℕ) → Assigns z
    → value (wire at) z * value (less x (constant (i % P))) z % P ≡ slice_index z at * ((value x z + (P - i % P)) % P) % P
mark_value z x i at assigns =
    let number : value (constant (i % P)) z ≡ i % P = value-constant assigns (i % P) ∙ omega arith in
    ap₂ (λ m n. m * n % P) (value-wire assigns at) (value-less x (constant (i % P)) z ∙ ap (λ n. (value x z + (P - n)) % P) number)

pub mark_sound : (z : List ℕ) (x : Combination) (i at : ℕ) → Assigns z → i < P → i ≢ value x z → Meets z (mark_of x i at).list → slice_index z at ≡ 0
unfolding mark_of fresh put ◌>>=◌
mark_sound z x i at assigns small apart meets =
    search (arith, mod-eq_of_lt, mark_value, p_zero_product_below, wire-below, mod-lt, same_of_minus, value-below)

zero_product : (e d : ℕ) → (e ≡ 0) ⊎ (d ≡ 0) → e * d % P ≡ 0
zero_product e d (inl none) = ap (λ n. n * d % P) none ∙ ap (λ n. n % P) (zero-mul d)
zero_product e d (inr none) = ap (λ n. e * n % P) none ∙ ap (λ n. n % P) (mul-zero e)

less_itself : (v i : ℕ) → v % P ≡ i % P → (v % P + (P - i % P)) % P ≡ 0
less_itself v i same = omega arith

pub mark_complete : (z : List ℕ) (x : Combination) (i at v : ℕ) → Assigns z → value x z ≡ v % P → (i ≢ v → slice_index z at ≡ 0) → Meets z (mark_of x i at).list
unfolding mark_of fresh put ◌>>=◌
mark_complete z x i at v assigns is cold = search (arith, mark_value, cases_eq, zero_product, less_itself)

-- ---- the row
pub onehot_next : (x : Bits) (next : ℕ) → (onehot_of x next).next ≡ next + 2 ^ x.n
unfolding onehot_of here put pure ◌>>=◌
onehot_next x next = turn-next (bits_combination x.first x.n) next (2 ^ x.n)

one_of : (e : ℕ) → e < P → 1 * e % P * (1 % P) % P ≡ 1 % P → e ≡ 1
one_of e small sum = omega arith

pub onehot_sound : OneHotIsSound
unfolding onehot_of here put pure ◌>>=◌
onehot_sound z next x v short assigns s meets =
    let number = bits_combination x.first x.n in
    let count = 2 ^ x.n in
    let power : count ≤ 2 ^ 63 = pow-le-pow_right (omega arith) short in
    let within : v < count = HasBits-below s in
    let is : value number z ≡ v = value-bits s ∙ mod-eq_of_lt (HasBits-small s short) in
    let both = Meets-split z (sequence count (mark_of number) next).list _ meets in
    let cold : (i : ℕ) → i < count → i ≢ v → slice_index z (next + i) ≡ 0 =
    λ i h apart. rw turn-next at (mark_sound z number i (sequence i (mark_of number) next).next assigns (omega arith) (λ same. apart (same ∙ is))
    (turn_met z (λ i _. mark_of number i) tt next count i h both.0)) in
    let sum = ap₂ (λ a b. a * b % P) (sym (value-cold z next count v (λ _. 1) within cold)) (sym (value-constant assigns 1)) ∙ both.1.0
    ∙ value-constant assigns 1 in
    record { within = within; hot = one_of (slice_index z (next + v)) (wire-below assigns (next + v)) sum; cold = cold }

-- the values make a one-hot row
pub one_at-same : (v : ℕ) → one_at v v ≡ 1
one_at-same v = ap (λ b. if b then 1 else 0) (eq-eqb v v refl)

pub one_at-other : (v i : ℕ) → i ≢ v → one_at v i ≡ 0
one_at-other v i apart = grind (arith, nat_tests)

pub IsOneHot-from_values : (z : List ℕ) (first n v : ℕ) → v < 2 ^ n → HasFrom z first (onehot_values v n) → IsOneHot z first (2 ^ n) v
IsOneHot-from_values z first n v within has = search (arith, has_each, one_at-same, one_at-other)

pub onehot_complete : OneHotIsComplete
unfolding onehot_of here put pure ◌>>=◌
onehot_complete z next x v assigns s has =
    let number = bits_combination x.first x.n in
    let count = 2 ^ x.n in
    let row = IsOneHot-from_values z next x.n v (HasBits-below s) has in
    let marks = turns_met z (λ i _. mark_of number i) tt next count
    (λ i h. mark_complete z number i (sequence i (mark_of number) next).next v assigns (value-bits s) (λ apart. rw turn-next (row.cold i h apart))) in
    let one : value (row_sum next count) z ≡ 1 % P = value-onehot z next count v (λ _. 1) row in
    let sum = ap₂ (λ a b. a * b % P) one (value-constant assigns 1) ∙ sym (value-constant assigns 1) in
    Meets-join z (sequence count (mark_of number) next).list _ marks (sum, tt)
