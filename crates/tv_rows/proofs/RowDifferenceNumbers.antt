-- The numbers of a difference in a row.
use Rattle.tv_core.proofs.Common.{◌≡◌, ◌⊎◌, ℕ, ◌+◌, ◌-◌, ◌*◌, ◌%◌, ◌^◌, ◌<◌, ◌≤◌, if◌then◌else◌, Bool, true, false, not, inl, inr, refl, sym, ◌∙◌, ap, arith}
use Rattle.tv_core.proofs.Common.{zero-mul, bit_at, cases_eq, nat_tests, IsWidth}
use Rattle.std.proofs.Common.{int_lt, int_le, ℤ, one-mul}
use Rattle.std.specs.Prelude.{nat_lt}
use Rattle.std.proofs.lemmas.Int.{ints}
use Rattle.tv_bits.proofs.RowNumbers.{row_below}
use Rattle.tv_bits.specs.DoubleRow.{IsRow, whole}
use Rattle.tv_core.specs.declared.field.TheConstants.{P}
use Rattle.tv_rows.specs.RowDifference.{is_above, difference_low, difference_high, RowDifferenceEqual}
use Rattle.tv_word.proofs.FlagLaws.{flag_small}
use Rattle.tv_word.proofs.SignedLaws.{int_lt_cases}
use Rattle.tv_word.specs.Word.{signed}

-- ---- the order of signed words is that of words with their top bits crossed over
less_is : (w : ℕ) → IsWidth w → (x y : ℕ) → x < 2 ^ w → y < 2 ^ w
    → int_lt (signed w x) (signed w y) ≡ nat_lt (x + 2 ^ w * bit_at y (w - 1)) (y + 2 ^ w * bit_at x (w - 1))
less_is w width x y h k = grind (arith, ints, nat_tests, int_lt_cases)

le_is : (p q : ℤ) → int_le p q ≡ not (int_lt q p)
le_is p q = grind (arith, ints)

flipped : (t u : Bool) → u ≡ not t → ◌≡◌ {A = ℕ} (if t then 0 else 1) (if u then 1 else 0)
flipped true u e = rw e refl
flipped false u e = rw e refl

not_not : (t : Bool) → t ≡ not (not t)
not_not true = refl
not_not false = refl

-- the four orders: whether p = b + strict + 2 ^ w * k is at most q = a + 2 ^ w * l, k and l being the crossed bits or 0
order_plain : (w a b strict : ℕ) → strict < 2 → (if nat_lt (a + 2 ^ w * 0) (b + strict + 2 ^ w * 0) then 0 else 1) ≡ difference_high w 0 strict a b
order_plain w a b strict h = search (arith, cases_eq, nat_tests)

order_signed : (w : ℕ) → IsWidth w → (a b strict : ℕ) → a < 2 ^ w → b < 2 ^ w → strict < 2
    → (if nat_lt (a + 2 ^ w * bit_at b (w - 1)) (b + strict + 2 ^ w * bit_at a (w - 1)) then 0 else 1) ≡ difference_high w 1 strict a b
order_signed w width a b strict h k l = elim (cases_eq strict 0) [
  | inl none ↦
      let p : b + strict + 2 ^ w * bit_at a (w - 1) ≡ b + 2 ^ w * bit_at a (w - 1) = omega arith in
      let less = ap (nat_lt (a + 2 ^ w * bit_at b (w - 1))) p ∙ sym (less_is w width a b h k) in
      ap (λ t. if t then 0 else 1) less ∙ flipped (int_lt (signed w a) (signed w b)) (int_le (signed w b) (signed w a)) (le_is (signed w b) (signed w a))
      ∙ ap (λ n. difference_high w 1 n a b) (sym none)
  | inr some ↦
      let one : strict ≡ 1 = omega arith in
      let less = not_suc (a + 2 ^ w * bit_at b (w - 1)) (b + 2 ^ w * bit_at a (w - 1)) (b + strict + 2 ^ w * bit_at a (w - 1)) (omega arith)
      ∙ ap not (sym (less_is w width b a k h)) in
      ap (λ t. if t then 0 else 1) less
      ∙ flipped (not (int_lt (signed w b) (signed w a))) (int_lt (signed w b) (signed w a)) (not_not (int_lt (signed w b) (signed w a)))
      ∙ ap (λ n. difference_high w 1 n a b) (sym one)
]
  where
    not_suc : (q p r : ℕ) → r ≡ p + 1 → nat_lt q r ≡ not (nat_lt p q)
    not_suc q p r e = grind (arith, nat_tests)

-- ---- the halves from the whole numbers, and back: n + p = q + 2 ^ w
bounds_plain : (w a b strict : ℕ) → a < 2 ^ w → b < 2 ^ w → strict < 2
    → (a + 2 ^ w * 0 < b + strict + 2 ^ w * 0 + 2 ^ w) × (b + strict + 2 ^ w * 0 ≤ a + 2 ^ w * 0 + 2 ^ w)
bounds_plain w a b strict h k l = (omega arith, omega arith)

bounds_signed : (w : ℕ) → IsWidth w → (a b strict : ℕ) → a < 2 ^ w → b < 2 ^ w → strict < 2
    → (a + 2 ^ w * bit_at b (w - 1) < b + strict + 2 ^ w * bit_at a (w - 1) + 2 ^ w) ×
    (b + strict + 2 ^ w * bit_at a (w - 1) ≤ a + 2 ^ w * bit_at b (w - 1) + 2 ^ w)
bounds_signed w width a b strict h k l = (grind arith, grind arith)

low_is : (w : ℕ) → IsWidth w → (low high a b strict k l : ℕ) → low < 2 ^ w → a < 2 ^ w → b < 2 ^ w → strict < 2 → k < 2 → l < 2
    → low + 2 ^ w * high + (b + strict + 2 ^ w * k) ≡ a + 2 ^ w * l + 2 ^ w → low ≡ difference_low w strict a b
low_is w width low high a b strict k l small a_word b_word h i j e = grind arith

high_is : (w : ℕ) → IsWidth w → (low high p q : ℕ) → low < 2 ^ w → q < p + 2 ^ w → p ≤ q + 2 ^ w → low + 2 ^ w * high + p ≡ q + 2 ^ w
    → high ≡ (if nat_lt q p then 0 else 1)
high_is w width low high p q h less most e = grind (arith, nat_tests)

whole_is : (w : ℕ) → IsWidth w → (low high a b strict k l : ℕ) → a < 2 ^ w → b < 2 ^ w → strict < 2 → k < 2 → l < 2
    → a + 2 ^ w * l < b + strict + 2 ^ w * k + 2 ^ w → b + strict + 2 ^ w * k ≤ a + 2 ^ w * l + 2 ^ w
    → low ≡ difference_low w strict a b → high ≡ (if nat_lt (a + 2 ^ w * l) (b + strict + 2 ^ w * k) then 0 else 1)
    → low + 2 ^ w * high + (b + strict + 2 ^ w * k) ≡ a + 2 ^ w * l + 2 ^ w
whole_is w width low high a b strict k l a_word b_word h i j less most e f = grind (arith, nat_tests)

-- ---- the whole numbers from the residues, and back; c is the difference of the signs, or 0
residue_plain : (w : ℕ) → IsWidth w → (n a b strict c : ℕ) → a < 2 ^ w → b < 2 ^ w → strict < 2 → n < P → c ≡ 0
    → (2 ^ w + a + (P - 1) * strict) % P ≡ (b + n + 2 ^ w * c) % P → n + (b + strict + 2 ^ w * 0) ≡ a + 2 ^ w * 0 + 2 ^ w
residue_plain w width n a b strict c h k l small none e = let e' = rw none at e in grind arith

residue_signed : (w : ℕ) → IsWidth w → (n a b strict c : ℕ) → a < 2 ^ w → b < 2 ^ w → strict < 2 → n < P → c ≡ (bit_at a (w - 1) + (P - bit_at b (w - 1))) % P
    → (2 ^ w + a + (P - 1) * strict) % P ≡ (b + n + 2 ^ w * c) % P → n + (b + strict + 2 ^ w * bit_at a (w - 1)) ≡ a + 2 ^ w * bit_at b (w - 1) + 2 ^ w
residue_signed w width n a b strict c h k l small is e = grind arith

back_plain : (w : ℕ) → IsWidth w → (n a b strict c : ℕ) → a < 2 ^ w → b < 2 ^ w → strict < 2 → c ≡ 0 → n + (b + strict + 2 ^ w * 0) ≡ a + 2 ^ w * 0 + 2 ^ w
    → (2 ^ w + a + (P - 1) * strict) % P ≡ (b + n + 2 ^ w * c) % P
back_plain w width n a b strict c h k l none e = rw none (grind arith)

back_signed : (w : ℕ) → IsWidth w → (n a b strict c : ℕ) → a < 2 ^ w → b < 2 ^ w → strict < 2 → c ≡ (bit_at a (w - 1) + (P - bit_at b (w - 1))) % P
    → n + (b + strict + 2 ^ w * bit_at a (w - 1)) ≡ a + 2 ^ w * bit_at b (w - 1) + 2 ^ w → (2 ^ w + a + (P - 1) * strict) % P ≡ (b + n + 2 ^ w * c) % P
back_signed w width n a b strict c h k l is e = grind arith

-- the difference of the signs, as the constraint has it
signs_in : (by_sign d : ℕ) → d < P → by_sign < 2 → ((by_sign ≡ 0) × (by_sign * d % P ≡ 0)) ⊎ ((by_sign ≡ 1) × (by_sign * d % P ≡ d))
signs_in by_sign d small h = search (arith, cases_eq, zero-mul, one-mul)

pub bit_small : (v i : ℕ) → bit_at v i < 2
bit_small v i = omega arith

module _ (w : ℕ) (width : IsWidth w) (low high a b strict by_sign c : ℕ) (h : a < 2 ^ w) (k : b < 2 ^ w) (l : strict < 2) (bit : by_sign < 2)
    (is : c ≡ by_sign * ((bit_at a (w - 1) + (P - bit_at b (w - 1))) % P) % P) where
  signs : ((by_sign ≡ 0) × (by_sign * ((bit_at a (w - 1) + (P - bit_at b (w - 1))) % P) % P ≡ 0))
      ⊎ ((by_sign ≡ 1) × (by_sign * ((bit_at a (w - 1) + (P - bit_at b (w - 1))) % P) % P ≡ (bit_at a (w - 1) + (P - bit_at b (w - 1))) % P))
  signs = signs_in by_sign ((bit_at a (w - 1) + (P - bit_at b (w - 1))) % P) (omega arith) bit

  pub difference_sound : IsRow w low high → (2 ^ w + a + (P - 1) * strict) % P ≡ (b + whole w low high + 2 ^ w * c) % P
      → (low ≡ difference_low w strict a b) × (high ≡ difference_high w by_sign strict a b)
  difference_sound r e =
      let below = row_below w width low high r in
      elim signs [
        | inl plain ↦
            let sum = residue_plain w width (whole w low high) a b strict c h k l below (is ∙ plain.1) e in
            let bounds = bounds_plain w a b strict h k l in (
              low_is w width low high a b strict 0 0 r.low_word h k l (omega arith) (omega arith) sum,
              high_is w width low high (b + strict + 2 ^ w * 0) (a + 2 ^ w * 0) r.low_word bounds.0 bounds.1 sum ∙ order_plain w a b strict l
                  ∙ ap (λ n. difference_high w n strict a b) (sym plain.0),
            )
        | inr turned ↦
            let sum = residue_signed w width (whole w low high) a b strict c h k l below (is ∙ turned.1) e in
            let bounds = bounds_signed w width a b strict h k l in (
              low_is w width low high a b strict (bit_at a (w - 1)) (bit_at b (w - 1)) r.low_word h k l (bit_small a (w - 1)) (bit_small b (w - 1)) sum,
              high_is w width low high (b + strict + 2 ^ w * bit_at a (w - 1)) (a + 2 ^ w * bit_at b (w - 1)) r.low_word bounds.0 bounds.1 sum
                  ∙ order_signed w width a b strict h k l ∙ ap (λ n. difference_high w n strict a b) (sym turned.0),
            )
      ]

  pub difference_met : low ≡ difference_low w strict a b → high ≡ difference_high w by_sign strict a b
      → (2 ^ w + a + (P - 1) * strict) % P ≡ (b + whole w low high + 2 ^ w * c) % P
  difference_met e f =
      grind (arith, nat_tests, signs, bounds_plain, order_plain, back_plain, whole_is, bounds_signed, order_signed, back_signed, bit_small)

-- the honest halves are a row
row_of_flag : (w : ℕ) → IsWidth w → (low high : ℕ) → low < 2 ^ w → high < 2 → IsRow w low high
row_of_flag w width low high h k = record { low_word = h; high_word = grind arith; edge = λ full. grind arith }

pub difference_row : (w : ℕ) → IsWidth w → (by_sign strict a b : ℕ) → IsRow w (difference_low w strict a b) (difference_high w by_sign strict a b)
difference_row w width by_sign strict a b = row_of_flag w width (difference_low w strict a b) (difference_high w by_sign strict a b) (grind arith)
    (flag_small (is_above w by_sign strict a b))

-- and where words are the same
pub difference_equal : RowDifferenceEqual
difference_equal w width a b h k = grind (arith, nat_tests)
