-- Signed numbers as residues modulo P.
use Rattle.tv_core.proofs.Common.{◌⊎◌, ◌≡◌, ◌≢◌, ℕ, zero, suc, ◌+◌, ◌-◌, ◌*◌, ◌%◌, ◌^◌, ◌<◌, ◌≤◌, Bool, true, false, if◌then◌else◌, inl, inr, refl, sym, ◌∙◌}
use Rattle.tv_core.proofs.Common.{ap, ap₂, arith, mod-eq_of_lt, zero-mul, bit_at, cases_lt, lt-ltb, le-ltb, IsWidth}
use Rattle.std.proofs.Common.{ℤ, pos, negsuc, neg_ℤ, ◌*ℤ◌, ◌-ℤ◌, w64, FitsSigned, to_z, of_z, mul-zero, mul_comm}
use Rattle.std.specs.Int.{cast_unsigned}
use Rattle.std.proofs.Math.IntN.{pos-*ℤ-pos, pos-*ℤ-negsuc, negsuc-*ℤ-pos, negsuc-*ℤ-negsuc}
use Rattle.std.proofs.lemmas.Int.{ints, to_z-of_z}
use Rattle.std.proofs.lemmas.Nat.{mul-le}
use Rattle.tv_core.proofs.Residues.{mul-mod_same, mul-mod_zero}
use Rattle.tv_core.specs.declared.field.TheConstants.{P}
use Rattle.tv_bits.proofs.NonzeroLaws.{nonzero_flag-zero, nonzero_flag-other}
use Rattle.tv_bits.specs.Nonzero.{nonzero_flag}
use Rattle.tv_row_products.specs.RowSignedProduct.{excess_in}
use Rattle.tv_word.specs.Operations.{signed_product, product_twos}
use Rattle.tv_word.specs.Twos.{twos, fits}
use Rattle.tv_word.specs.Word.{signed}

-- ---- a number and its negation, in two's complement
signed-low : (w a : ℕ) → a < 2 ^ (w - 1) → signed w a ≡ pos a
signed-low w a h = ap (λ t. if t then pos a else pos a -ℤ pos (2 ^ w)) (lt-ltb a (2 ^ (w - 1)) h)

below_zero : (a n : ℕ) → a ≤ n → pos a -ℤ pos n ≡ neg_ℤ (pos (n - a))
below_zero a n h = omega (arith, ints)

signed-high : (w a : ℕ) → 2 ^ (w - 1) ≤ a → a < 2 ^ w → signed w a ≡ neg_ℤ (pos (2 ^ w - a))
signed-high w a h k = ap (λ t. if t then pos a else pos a -ℤ pos (2 ^ w)) (le-ltb a (2 ^ (w - 1)) h) ∙ below_zero a (2 ^ w) (omega arith)

twos-neg : (w : ℕ) → IsWidth w → (m : ℕ) → m ≤ 2 ^ (2 * w) → twos (2 * w) (neg_ℤ (pos m)) ≡ (2 ^ (2 * w) - m) % 2 ^ (2 * w)
twos-neg w width zero h = grind arith
twos-neg w width (suc m) h = grind arith

fits-neg : (w : ℕ) → IsWidth w → (m : ℕ) → m ≤ 2 ^ (w - 1) → fits w (neg_ℤ (pos m)) ≡ true
fits-neg w width zero h = lt-ltb 0 (2 ^ (w - 1)) (grind arith)
fits-neg w width (suc m) h = lt-ltb m (2 ^ (w - 1)) (omega arith)

fits_not-neg : (w m : ℕ) → 2 ^ (w - 1) < m → fits w (neg_ℤ (pos m)) ≡ false
fits_not-neg w zero h = absurd (omega arith)
fits_not-neg w (suc m) h = le-ltb m (2 ^ (w - 1)) (omega arith)

-- ---- products of signs
pos-neg : (m n : ℕ) → pos m *ℤ neg_ℤ (pos n) ≡ neg_ℤ (pos (m * n))
pos-neg m zero = pos-*ℤ-pos m 0 ∙ ap pos (mul-zero m) ∙ ap (λ k. neg_ℤ (pos k)) (sym (mul-zero m))
pos-neg m (suc n) = pos-*ℤ-negsuc m n

neg-pos : (m n : ℕ) → neg_ℤ (pos m) *ℤ pos n ≡ neg_ℤ (pos (m * n))
neg-pos zero n = pos-*ℤ-pos 0 n ∙ ap pos (zero-mul n) ∙ ap (λ k. neg_ℤ (pos k)) (sym (zero-mul n))
neg-pos (suc m) n = negsuc-*ℤ-pos m n

neg-neg : (m n : ℕ) → neg_ℤ (pos m) *ℤ neg_ℤ (pos n) ≡ pos (m * n)
neg-neg zero n = pos-neg 0 n ∙ ap (λ k. neg_ℤ (pos k)) (zero-mul n) ∙ ap pos (sym (zero-mul n))
neg-neg (suc m) zero = neg-pos (suc m) 0 ∙ ap (λ k. neg_ℤ (pos k)) (mul-zero (suc m)) ∙ ap pos (sym (mul-zero (suc m)))
neg-neg (suc m) (suc n) = negsuc-*ℤ-negsuc m n

-- ---- what stands for a signed number modulo P: the number itself, or what adds up to 0 with its absolute value
pub record Stands (v : ℕ) (s : ℤ) (most : ℕ) : Type 0 where
  pub size : ℕ
  pub small : size ≤ most
  pub is : ((s ≡ pos size) × (v % P ≡ size % P)) ⊎ ((s ≡ neg_ℤ (pos size)) × ((v + size) % P ≡ 0))

-- products with a negation
opposite : (v m k : ℕ) → (v + m) % P ≡ 0 → (v * k + m * k) % P ≡ 0
opposite v m k e = let whole : v * k + m * k ≡ (v + m) * k = omega arith in ap (λ n. n % P) whole ∙ mul-mod_zero (v + m) k P e

pub Stands-product : (v w : ℕ) (s t : ℤ) (m n : ℕ) → Stands v s m → Stands w t n → Stands (v * w) (s *ℤ t) (m * n)
Stands-product v w s t m n p q = record {
  size = p.size * q.size;
  small = mul-le p.size q.size m n p.small q.small;
  is = elim p.is [
    | inl x ↦ elim q.is [
      | inl y ↦ inl (ap₂ (λ a b. a *ℤ b) x.0 y.0 ∙ pos-*ℤ-pos p.size q.size, mul-mod_same v p.size w q.size P x.1 y.1)
      | inr y ↦ inr (ap₂ (λ a b. a *ℤ b) x.0 y.0 ∙ pos-neg p.size q.size, one_sided v p.size w q.size x.1 y.1)
    ]
    | inr x ↦ elim q.is [
      | inl y ↦ inr (ap₂ (λ a b. a *ℤ b) x.0 y.0 ∙ neg-pos p.size q.size, other_sided v p.size w q.size x.1 y.1)
      | inr y ↦ inl (ap₂ (λ a b. a *ℤ b) x.0 y.0 ∙ neg-neg p.size q.size, two_sided v p.size w q.size x.1 y.1)
    ]
  ];
}
  where
    one_sided : (v a w b : ℕ) → v % P ≡ a % P → (w + b) % P ≡ 0 → (v * w + a * b) % P ≡ 0
    one_sided v a w b e f =
        let same = mul-mod_same v a w w P e refl in
        let rest = opposite w b a f in
        omega (arith, mul_comm a w, mul_comm a b)

    other_sided : (v a w b : ℕ) → (v + a) % P ≡ 0 → w % P ≡ b % P → (v * w + a * b) % P ≡ 0
    other_sided v a w b e f =
        let same = mul-mod_same a a w b P refl f in
        let rest = opposite v a w e in
        omega arith

    two_sided : (v a w b : ℕ) → (v + a) % P ≡ 0 → (w + b) % P ≡ 0 → v * w % P ≡ a * b % P
    two_sided v a w b e f =
        let left = opposite v a w e in
        let right = opposite w b a f in
        omega (arith, mul_comm a w, mul_comm a b)

-- ---- what bits represent in two's complement, modulo P: of n bits the highest counts negatively
abbrev pub signed_value : ℕ → ℕ → ℕ
signed_value n v = (v % 2 ^ (n - 1) + (P - 2 ^ (n - 1) % P) % P * bit_at v (n - 1)) % P

pub Stands-signed : (w : ℕ) → IsWidth w → (a : ℕ) → a < 2 ^ w → Stands (signed_value w a) (signed w a) (2 ^ (w - 1))
Stands-signed w width a h = elim (cases_lt a (2 ^ (w - 1))) [
  | inl low ↦ record { size = a; small = omega arith; is = inl (signed-low w a low, grind arith) }
  | inr high ↦ record { size = 2 ^ w - a; small = grind arith; is = inr (signed-high w a high h, grind arith) }
]

-- the most that the absolute value of a product of two words is
abbrev pub most_product : ℕ → ℕ
most_product w = 2 ^ (w - 1) * 2 ^ (w - 1)

product_short : (w : ℕ) → IsWidth w → (m : ℕ) → m ≤ most_product w → m ≤ 2 ^ (2 * w)
product_short w width m h = grind arith

exact_pos : (w : ℕ) → IsWidth w → (v m n : ℕ) → m ≤ most_product w → n < 2 ^ (2 * w) → v % P ≡ m % P → v % P ≡ signed_value (2 * w) n → n ≡ m % 2 ^ (2 * w)
exact_pos w width v m n small long e f = grind arith

exact_neg : (w : ℕ) → IsWidth w → (v m n : ℕ) → m ≤ most_product w → n < 2 ^ (2 * w) → (v + m) % P ≡ 0 → v % P ≡ signed_value (2 * w) n
    → n ≡ (2 ^ (2 * w) - m) % 2 ^ (2 * w)
exact_neg w width v m n small long e f = grind arith

-- 2 w bits that are a small signed number modulo P are it in two's complement, and the other way round
pub Stands-exact : (w : ℕ) → IsWidth w → (v n : ℕ) (s : ℤ) → Stands v s (most_product w) → n < 2 ^ (2 * w) → v % P ≡ signed_value (2 * w) n → n ≡ twos (2 * w) s
Stands-exact w width v n s p long e = search (arith, exact_pos, exact_neg, twos-neg, product_short)

meets_pos : (w : ℕ) → IsWidth w → (v m n : ℕ) → m ≤ most_product w → n ≡ m % 2 ^ (2 * w) → v % P ≡ m % P → v % P ≡ signed_value (2 * w) n
meets_pos w width v m n small e f = grind arith

meets_neg : (w : ℕ) → IsWidth w → (v m n : ℕ) → m ≤ most_product w → n ≡ (2 ^ (2 * w) - m) % 2 ^ (2 * w) → (v + m) % P ≡ 0 → v % P ≡ signed_value (2 * w) n
meets_neg w width v m n small e f = grind arith

pub Stands-meets : (w : ℕ) → IsWidth w → (v n : ℕ) (s : ℤ) → Stands v s (most_product w) → n ≡ twos (2 * w) s → v % P ≡ signed_value (2 * w) n
Stands-meets w width v n s p e = search (arith, meets_pos, meets_neg, twos-neg, product_short)

pub twos-below : (w : ℕ) → IsWidth w → (s : ℤ) → twos (2 * w) s < 2 ^ (2 * w)
twos-below w width (pos n) = grind arith
twos-below w width (negsuc n) = grind arith

-- ---- the code's product: a signed number of 64 bits, without its sign
cast_neg : (w : ℕ) → IsWidth w → (m : ℕ) → m ≤ most_product w → cast_unsigned w64 (neg_ℤ (pos m)) % 2 ^ (2 * w) ≡ twos (2 * w) (neg_ℤ (pos m))
cast_neg w width zero h = refl
cast_neg w width (suc m) h = grind arith

cast_twos : (w : ℕ) → IsWidth w → (v : ℕ) (s : ℤ) → Stands v s (most_product w) → cast_unsigned w64 s % 2 ^ (2 * w) ≡ twos (2 * w) s
cast_twos w width v s p = search (arith, w64, cast_neg)

product_cast : (w : ℕ) → IsWidth w → (a b : ℕ) → a < 2 ^ w → b < 2 ^ w → cast_unsigned w64 (signed w a *ℤ signed w b) % 2 ^ (2 * w) ≡ product_twos w a b
product_cast w width a b h k =
    cast_twos w width _ (signed w a *ℤ signed w b)
    (Stands-product (signed_value w a) (signed_value w b) (signed w a) (signed w b) (2 ^ (w - 1)) (2 ^ (w - 1)) (Stands-signed w width a h)
    (Stands-signed w width b k))

-- of words of 16 bits its lowest 32, and of words of 32 bits all 64
module _ (w a b n : ℕ) (p : ℤ) (width : IsWidth w) (h : a < 2 ^ w) (k : b < 2 ^ w) (fits : FitsSigned w64 p) (is_p : p ≡ signed_product w a b)
    (is_n : n ≡ cast_unsigned w64 (to_z w64 (of_z w64 p))) where
  cast : n ≡ cast_unsigned w64 (signed_product w a b)
  cast = is_n ∙ ap (cast_unsigned w64) (to_z-of_z w64 p fits ∙ is_p)

  pub product_low : w ≡ 16 → n % 2 ^ 32 ≡ product_twos w a b
  product_low half = ap₂ (λ n w. n % 2 ^ (2 * w)) cast (sym half) ∙ product_cast w width a b h k

  pub product_all : (w ≡ 16 → ⊥) → n < 2 ^ 64 → n ≡ product_twos w a b
  product_all whole small = let long : 64 ≡ 2 * w = omega arith in
      sym (mod-eq_of_lt small) ∙ ap₂ (λ n m. n % 2 ^ m) cast long ∙ product_cast w width a b h k

-- ---- whether it fits a word
excess_pos : (w : ℕ) → IsWidth w → (m n : ℕ) → m ≤ most_product w → n ≡ m % 2 ^ (2 * w) → (m < 2 ^ (w - 1) → excess_in w n ≡ 0)
    × (2 ^ (w - 1) ≤ m → excess_in w n ≢ 0)
excess_pos w width m n small e = (λ h. grind arith, λ h none. grind arith)

excess_neg : (w : ℕ) → IsWidth w → (m n : ℕ) → m ≤ most_product w → n ≡ (2 ^ (2 * w) - m) % 2 ^ (2 * w) → (m ≤ 2 ^ (w - 1) → excess_in w n ≡ 0)
    × (2 ^ (w - 1) < m → excess_in w n ≢ 0)
excess_neg w width m n small e = (λ h. grind arith, λ h none. grind arith)

as_flag : (w : ℕ) (s : ℤ) (t : Bool) (d : ℕ) → fits w s ≡ t → nonzero_flag d ≡ (if t then 0 else 1) → nonzero_flag d ≡ (if fits w s then 0 else 1)
as_flag w s t d e f = f ∙ ap (λ b. if b then 0 else 1) (sym e)

pub over_flag : (w : ℕ) → IsWidth w → (v n : ℕ) (s : ℤ) → Stands v s (most_product w) → n ≡ twos (2 * w) s
    → nonzero_flag (excess_in w n) ≡ (if fits w s then 0 else 1)
over_flag w width v n s p e = elim p.is [
  | inl x ↦
      let both = excess_pos w width p.size n p.small (e ∙ ap (twos (2 * w)) x.0) in
      elim (cases_lt p.size (2 ^ (w - 1))) [
        | inl low ↦ as_flag w s true (excess_in w n) (ap (fits w) x.0 ∙ lt-ltb p.size (2 ^ (w - 1)) low) (nonzero_flag-zero (excess_in w n) (both.0 low))
        | inr high ↦ as_flag w s false (excess_in w n) (ap (fits w) x.0 ∙ le-ltb p.size (2 ^ (w - 1)) high) (nonzero_flag-other (excess_in w n) (both.1 high))
      ]
  | inr x ↦
      let both = excess_neg w width p.size n p.small (e ∙ ap (twos (2 * w)) x.0 ∙ twos-neg w width p.size (product_short w width p.size p.small)) in
      elim (cases_lt (2 ^ (w - 1)) p.size) [
        | inl high ↦ as_flag w s false (excess_in w n) (ap (fits w) x.0 ∙ fits_not-neg w p.size high) (nonzero_flag-other (excess_in w n) (both.1 high))
        | inr low ↦ as_flag w s true (excess_in w n) (ap (fits w) x.0 ∙ fits-neg w width p.size low) (nonzero_flag-zero (excess_in w n) (both.0 low))
      ]
]
