-- The number of an operand's upper bits: its value, its terms, and that it is normal.
use Rattle.tv_core.proofs.Common.{◌≡◌, ◌≢◌, ℕ, zero, suc, ◌+◌, ◌-◌, ◌*◌, ◌/◌, ◌%◌, ◌^◌, ◌<◌, ◌≤◌, List, [], ◌∷◌, ◌++◌, length, inl, inr, refl, sym, ◌∙◌, ap}
use Rattle.tv_core.proofs.Common.{ap₂, subst, arith, append_assoc, length-map, value-wire, value-less, wire, scaled, less, top, Combination, value, Assigns}
use Rattle.tv_core.proofs.Common.{IsNormalFrom, width_short, IsWidth}
use Rattle.std.proofs.Common.{div-le_self, mul_comm, mul_assoc, mul_left_comm, mul-zero, add-mul, mul-add}
use Rattle.std.proofs.Math.Nat.{div-add-mod}
use Rattle.std.proofs.lemmas.Nat.{pow-add, mul-mod_first, mul-mod_second, div-mul-add}
use Rattle.tv_bits.proofs.NormalLaws.{wire_normal, bits_normal, bits_top, scaled_normal, less_normal}
use Rattle.tv_bits.proofs.BitNumbers.{value-bits_below, HasBits-low, HasBits-small}
use Rattle.tv_bits.specs.Bits.{HasBits, bits_combination}
use Rattle.tv_core.proofs.BelowLaws.{below-power, length-weighted}
use Rattle.tv_core.proofs.CombinationLaws.{value-scaled, top-scaled}
use Rattle.tv_core.proofs.PrimeLaws.{p_zero_product}
use Rattle.tv_core.specs.declared.field.TheConstants.{P}
use Rattle.tv_inputs.specs.Operand.{power_inverse, upper_of, IsOperand}
use Rattle.tv_inputs.specs.declared.records.OperandWires.{OperandWires}

-- ---- the inverse of a power of 2
power_splits : (k : ℕ) → k ≤ 32 → 2 ^ k * ((P - 1) / 2 ^ k) ≡ P - 1
power_splits k h =
    let rest : ℕ = 2 ^ (32 - k) * (2 ^ 32 - 1) in
    let power : 2 ^ k * 2 ^ (32 - k) ≡ 2 ^ 32 = sym (pow-add 2 k (32 - k)) ∙ ap (λ n. 2 ^ n) (let e : k + (32 - k) ≡ 32 = omega arith in e) in
    let product : 2 ^ k * rest ≡ P - 1 = sym (mul_assoc (2 ^ k) (2 ^ (32 - k)) (2 ^ 32 - 1)) ∙ ap (λ n. n * (2 ^ 32 - 1)) power in
    let back : P - 1 ≡ rest * 2 ^ k + 0 = omega (arith, product, mul_comm (2 ^ k) rest) in
    ap (λ n. 2 ^ k * n) (ap (λ n. n / 2 ^ k) back ∙ div-mul-add rest (2 ^ k) 0 (omega (arith, below-power k))) ∙ product

-- of a multiple of the power it leaves the quotient
undone : (k q : ℕ) → k ≤ 32 → q < P → power_inverse k * (2 ^ k * q) % P ≡ q
undone k q h small =
    let d : ℕ = (P - 1) / 2 ^ k in
    let within : d ≤ P = omega arith in
    let both : power_inverse k * (2 ^ k * q) + d * (2 ^ k * q) ≡ P * (2 ^ k * q) =
    sym (add-mul (P - d) d (2 ^ k * q)) ∙ ap (λ n. n * (2 ^ k * q)) (let e : P - d + d ≡ P = omega arith in e) in
    let part : d * (2 ^ k * q) ≡ (P - 1) * q =
    sym (mul_assoc d (2 ^ k) q) ∙ ap (λ n. n * q) (mul_comm d (2 ^ k) ∙ power_splits k h) in
    ends (power_inverse k * (2 ^ k * q)) (d * (2 ^ k * q)) (2 ^ k * q) q both part small
  where
    ends : (x y s q : ℕ) → x + y ≡ P * s → y ≡ (P - 1) * q → q < P → x % P ≡ q
    ends x y s q e f h = omega arith

-- ---- its value
low_less : (v n q : ℕ) → v < P → n * q + v % n ≡ v → (v + (P - v % n)) % P ≡ n * q
low_less v n q h e = omega arith

times_upper : (m k q : ℕ) → k ≤ 32 → q < P → m * power_inverse k % P * (2 ^ k * q) % P ≡ m * q % P
times_upper m k q h small =
    mul-mod_first (m * power_inverse k) (2 ^ k * q) P ∙ ap (λ n. n % P) (mul_assoc m (power_inverse k) (2 ^ k * q))
    ∙ sym (mul-mod_second m (power_inverse k * (2 ^ k * q)) P) ∙ ap (λ n. m * n % P) (undone k q h small)

pub upper_is : (w : ℕ) → IsWidth w → (z : List ℕ) (a : OperandWires) (v m k : ℕ) → Assigns z → IsOperand w z a v → k ≤ w
    → value (upper_of m a k) z ≡ m * (v / 2 ^ k) % P
upper_is w width z a v m k assigns is within =
    let short = width_short w width in
    let size : w ≡ k + (w - k) = omega arith in
    let low = bits_combination a.bits.first k in
    let decomposed = HasBits-low z a.bits.first k (w - k) v (subst (λ n. HasBits z a.bits.first n v) size is.bits) in
    let small : v < P = HasBits-small is.bits (omega arith) in
    let upper : v / 2 ^ k < P = omega (arith, div-le_self v (2 ^ k)) in
    value-scaled (m * power_inverse k % P) (less (wire a.word) low) z ∙ ap (λ n. m * power_inverse k % P * n % P)
    (value-less (wire a.word) low z ∙ ap₂ (λ x y. (x + (P - y)) % P) (value-wire assigns a.word ∙ is.word) (value-bits_below decomposed (omega arith))
    ∙ low_less v (2 ^ k) (v / 2 ^ k) small (div-add-mod v (2 ^ k))) ∙ times_upper m k (v / 2 ^ k) (omega arith) upper

-- once it is the number itself
pub upper_once : (w : ℕ) → IsWidth w → (z : List ℕ) (a : OperandWires) (v k : ℕ) → Assigns z → IsOperand w z a v → k ≤ w → value (upper_of 1 a k) z ≡ v / 2 ^ k
upper_once w width z a v k assigns is within =
    let short = width_short w width in
    let small : v < P = HasBits-small is.bits (omega arith) in
    let upper : v / 2 ^ k < P = omega (arith, div-le_self v (2 ^ k)) in
    upper_is w width z a v 1 k assigns is within ∙ omega arith

-- ---- its terms
negated_term : (c n : ℕ) → c ≤ P → c * ((P - 1) * n % P) % P ≡ (P - c) % P * n % P
negated_term c n h =
    let first : c * ((P - 1) * n) + c * n ≡ P * (c * n) =
    sym (mul-add c ((P - 1) * n) n) ∙ ap (λ k. c * k) (let e : (P - 1) * n + n ≡ P * n = omega arith in e) ∙ mul_left_comm c P n in
    let second : (P - c) * n + c * n ≡ P * n = sym (add-mul (P - c) c n) ∙ ap (λ k. k * n) (let e : P - c + c ≡ P = omega arith in e) in
    mul-mod_second c ((P - 1) * n) P ∙ same (c * ((P - 1) * n)) ((P - c) * n) (c * n) n first second ∙ sym (mul-mod_first (P - c) n P)
  where
    same : (x y s n : ℕ) → x + s ≡ P * s → y + s ≡ P * n → x % P ≡ y % P
    same x y s n e f = omega arith

scaled-negated : (c : ℕ) → c ≤ P → (x : Combination) → scaled c (scaled (P - 1) x) ≡ scaled ((P - c) % P) x
scaled-negated c h [] = refl
scaled-negated c h (t ∷ rest) = ap₂ (λ n l. (n, t.1) ∷ l) (negated_term c t.0 h) (scaled-negated c h rest)

-- appended to a combination: the wire, and the low bits negated
pub upper_terms : (x : Combination) (m : ℕ) (a : OperandWires) (k : ℕ)
    → (x ++ (m * power_inverse k % P, a.word) ∷ []) ++ scaled ((P - m * power_inverse k % P) % P) (bits_combination a.bits.first k) ≡ x ++ upper_of m a k
upper_terms x m a k =
    let c : ℕ = m * power_inverse k % P in
    append_assoc x ((c, a.word) ∷ []) (scaled ((P - c) % P) (bits_combination a.bits.first k))
    ∙ ap₂ (λ n l. x ++ (n, a.word) ∷ l) (let once : c ≡ c * 1 % P = omega arith in once)
    (sym (scaled-negated c (omega arith) (bits_combination a.bits.first k)))

pub length-upper : (m : ℕ) (a : OperandWires) (k : ℕ) → length (upper_of m a k) ≡ k + 1
length-upper m a k =
    let low = bits_combination a.bits.first k in
    let negated : length (scaled (P - 1) low) ≡ length low = length-map low _ in
    let all : length (scaled (m * power_inverse k % P) (scaled (P - 1) low)) ≡ length (scaled (P - 1) low) = length-map (scaled (P - 1) low) _ in
    omega (arith, all, negated, length-weighted a.bits.first k (λ i. 2 ^ i % P))

-- ---- it is normal
pub upper_top : (m : ℕ) (a : OperandWires) (k : ℕ) → a.word < a.bits.first → top (upper_of m a k) ≤ a.bits.first + k
upper_top m a k before =
    let low = bits_combination a.bits.first k in
    omega (arith, top-scaled (m * power_inverse k % P) (scaled (P - 1) low), top-scaled (P - 1) low, bits_top a.bits.first k)

pub upper_normal : (least m : ℕ) (a : OperandWires) (k : ℕ) → k ≤ 32 → m % P ≢ 0 → least ≤ a.word → a.word < a.bits.first → IsNormalFrom least (upper_of m a k)
upper_normal least m a k short apart above before =
    let splits = power_splits k short in
    let some : 0 < (P - 1) / 2 ^ k = positive (2 ^ k) ((P - 1) / 2 ^ k) splits in
    let below = div-le_self (P - 1) (2 ^ k) in
    let low = bits_combination a.bits.first k in
    scaled_normal least (m * power_inverse k % P) (less (wire a.word) low) (nonzero m (power_inverse k) apart (omega arith) (omega arith))
    (less_normal least a.bits.first (wire a.word) low (wire_normal least a.word above) (omega arith) (omega arith) (bits_normal a.bits.first k (omega arith)))
  where
    nonzero : (m n : ℕ) → m % P ≢ 0 → 0 < n → n < P → m * n % P % P ≢ 0
    nonzero m n apart some small none = elim (p_zero_product m n (let e : m * n % P ≡ 0 = omega arith in e)) [
      | inl first ↦ apart first
      | inr second ↦ absurd (omega arith)
    ]

    positive : (n d : ℕ) → n * d ≡ P - 1 → 0 < d
    positive n zero e = absurd (omega (arith, mul-zero n))
    positive n (suc d) e = omega arith
