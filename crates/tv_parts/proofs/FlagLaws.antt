-- The numbers of the flag after a step.
use Rattle.tv_core.proofs.Common.{◌≡◌, ◌≢◌, ℕ, ◌+◌, ◌-◌, ◌*◌, ◌/◌, ◌%◌, ◌^◌, ◌<◌, ◌≤◌, ◌==◌, nat_lt, not, Bool, true, false, if◌then◌else◌, List, [], ◌∷◌, inl}
use Rattle.tv_core.proofs.Common.{inr, refl, sym, ◌∙◌, ap, ap₂, subst, arith, bit_at, cases_eq, cases_lt, ne_eqb, nat_tests, for_widths, IsWidth, flag_of}
use Rattle.std.proofs.Common.{nat_le, int_lt, int_le, ◌||◌, eq-eqb, bit_and, bit_or, bit_xor, true≢false, ◌*ℤ◌}
use Rattle.std.proofs.lemmas.Bool.{le-leb, lt-leb}
use Rattle.tv_bits.proofs.BitLaws.{bit_cases}
use Rattle.tv_bits.specs.Bit.{IsBit}
use Rattle.tv_bits.specs.Nonzero.{nonzero_flag}
use Rattle.tv_core.specs.declared.field.TheConstants.{P}
use Rattle.tv_isa.specs.Opcodes.{among, chosen, unused_ops, keeper_ops}
use Rattle.tv_row_products.proofs.SignedNumbers.{Stands-product, Stands-signed, signed_value, over_flag}
use Rattle.tv_row_products.specs.RowSignedProduct.{excess_in}
use Rattle.tv_numbers.proofs.Cases.{for_opcode}
use Rattle.tv_numbers.specs.Tables.{flags, results}
use Rattle.tv_word.proofs.FlagLaws.{flag_small}
use Rattle.tv_word.specs.Twos.{twos, fits}
use Rattle.tv_word.specs.Word.{has_bit, signed}
use Rattle.tv_parts.specs.Flag.{sign_at}
use Rattle.tv_inputs.specs.TestNumbers.{zero_ops, tested_numbers}
use Rattle.tv_inputs.specs.Rows.{covers, AreHalves}

-- ---- tests
minus_of : (y f : ℕ) → f ≡ (if y == 0 then P - 1 else 0) → (1 + f) % P ≡ nonzero_flag y
minus_of y f e = ap (λ n. (1 + n) % P) e ∙ by_test (y == 0)
  where
    by_test : (b : Bool) → (1 + (if b then P - 1 else 0)) % P ≡ (if b then 0 else 1)
    by_test true = refl
    by_test false = refl

nonzero_of : (b : Bool) → nonzero_flag (flag_of b) ≡ flag_of b
nonzero_of true = refl
nonzero_of false = refl

over_is : (w : ℕ) → IsWidth w → (p : ℕ) → nonzero_flag (p / 2 ^ w) ≡ flag_of (nat_le (2 ^ w) p)
over_is w width p = elim (cases_lt p (2 ^ w)) [
  | inl below ↦ ap (λ b. if b then 0 else 1) (eq-eqb (p / 2 ^ w) 0 (high_zero w width p below)) ∙ sym (ap flag_of (lt-leb (2 ^ w) p below))
  | inr past ↦ ap (λ b. if b then 0 else 1) (ne_eqb (p / 2 ^ w) 0 (high_some w width p past)) ∙ sym (ap flag_of (le-leb (2 ^ w) p past))
]
  where
    high_zero : (w : ℕ) → IsWidth w → (p : ℕ) → p < 2 ^ w → p / 2 ^ w ≡ 0
    high_zero w width = for_widths (λ w. (p : ℕ) → p < 2 ^ w → p / 2 ^ w ≡ 0) (λ p h. omega arith) (λ p h. omega arith) w width

    high_some : (w : ℕ) → IsWidth w → (p : ℕ) → 2 ^ w ≤ p → p / 2 ^ w ≢ 0
    high_some w width = for_widths (λ w. (p : ℕ) → 2 ^ w ≤ p → p / 2 ^ w ≢ 0) (λ p h e. absurd (omega arith)) (λ p h e. absurd (omega arith)) w width

borrow_is : (x a : ℕ) → (if flag_of (nat_le a x) == 0 then 1 else 0) ≡ flag_of (nat_lt x a)
borrow_is x a = grind (arith, nat_tests)

equal_is : (w : ℕ) → IsWidth w → (x a : ℕ) → x < 2 ^ w → a < 2 ^ w → (if (x + (2 ^ w - a)) % 2 ^ w == 0 then 1 else 0) ≡ flag_of (x == a)
equal_is w width x a h k = elim (cases_eq x a) [
  | inl same ↦ ap (λ b. if b then 1 else 0) (eq-eqb ((x + (2 ^ w - a)) % 2 ^ w) 0 (none w width x a h k same)) ∙ sym (ap flag_of (eq-eqb x a same))
  | inr apart ↦ ap (λ b. if b then 1 else 0) (ne_eqb ((x + (2 ^ w - a)) % 2 ^ w) 0 (λ e. apart (back w width x a h k e))) ∙ sym (ap flag_of (ne_eqb x a apart))
]
  where
    none : (w : ℕ) → IsWidth w → (x a : ℕ) → x < 2 ^ w → a < 2 ^ w → x ≡ a → (x + (2 ^ w - a)) % 2 ^ w ≡ 0
    none w width = for_widths (λ w. (x a : ℕ) → x < 2 ^ w → a < 2 ^ w → x ≡ a → (x + (2 ^ w - a)) % 2 ^ w ≡ 0) (λ x a h k e. omega arith)
        (λ x a h k e. omega arith) w width

    back : (w : ℕ) → IsWidth w → (x a : ℕ) → x < 2 ^ w → a < 2 ^ w → (x + (2 ^ w - a)) % 2 ^ w ≡ 0 → x ≡ a
    back w width = for_widths (λ w. (x a : ℕ) → x < 2 ^ w → a < 2 ^ w → (x + (2 ^ w - a)) % 2 ^ w ≡ 0 → x ≡ a) (λ x a h k e. omega arith)
        (λ x a h k e. omega arith) w width

bit_is : (x i : ℕ) → bit_at x i ≡ flag_of (has_bit i x)
bit_is x i = by_parity (bit_at x i) (omega arith)
  where
    by_parity : (n : ℕ) → n < 2 → n ≡ flag_of (n == 1)
    by_parity n small = elim (bit_cases n small) [ inl none ↦ rw none refl | inr one ↦ rw one refl ]

pub bit_small : (x i : ℕ) → bit_at x i < 2
bit_small x i = omega arith

-- the number that smulh tests, of the product's halves
excess_is : (w : ℕ) → IsWidth w → (n : ℕ) → (n / 2 ^ w + (P - (2 ^ w - 1) * bit_at (n % 2 ^ w) (w - 1))) % P ≡ excess_in w n
excess_is w width n = ap (λ b. (n / 2 ^ w + (P - (2 ^ w - 1) * b)) % P) (same_bit w width n) ∙ elim (bit_cases (bit_at n (w - 1)) (bit_small n (w - 1))) [
  | inl none ↦ rw none (at_zero (n / 2 ^ w) (2 ^ w - 1) (P - (2 ^ w - 1)))
  | inr one ↦ rw one (at_one (n / 2 ^ w) (2 ^ w - 1) (P - (2 ^ w - 1)) refl)
]
  where
    same_bit : (w : ℕ) → IsWidth w → (n : ℕ) → bit_at (n % 2 ^ w) (w - 1) ≡ bit_at n (w - 1)
    same_bit w width = for_widths (λ w. (n : ℕ) → bit_at (n % 2 ^ w) (w - 1) ≡ bit_at n (w - 1)) (λ n. omega arith) (λ n. omega arith) w width

    at_zero : (h m k : ℕ) → (h + (P - m * 0)) % P ≡ (h + k * 0) % P
    at_zero h m k = omega arith

    at_one : (h m k : ℕ) → k ≡ P - m → (h + (P - m * 1)) % P ≡ (h + k * 1) % P
    at_one h m k e = rw e (let d : (h + (P - m * 1)) % P ≡ (h + (P - m) * 1) % P = ap (λ j. (h + j) % P) (omega arith) in d)

not_fits : (b : Bool) → (if b then 0 else 1) ≡ flag_of (not b)
not_fits true = refl
not_fits false = refl

-- ---- the sum
abbrev pub raised_ops : List ℕ
raised_ops = 4 ∷ 6 ∷ 7 ∷ 8 ∷ 14 ∷ 15 ∷ 16 ∷ 17 ∷ 30 ∷ []

abbrev pub flag_sum : ℕ → ℕ → ℕ → ℕ → ℕ → ℕ → ℕ → ℕ
flag_sum k f p t left right flag = (flag_of (among raised_ops k) + f + (P - p) + (P - t) + left + right + flag_of (among keeper_ops k) * flag) % P

straight : (f p t b flag : ℕ) → f ≡ b → b < 2 → p ≡ 0 → t ≡ 0 → (0 + f + (P - p) + (P - t) + 0 + 0 + 0 * flag) % P ≡ b
straight f p t b flag e h q r = rw (e, q, r) (omega arith)

raised : (f p t b flag : ℕ) → (1 + f) % P ≡ b → p ≡ 0 → t ≡ 0 → (1 + f + (P - p) + (P - t) + 0 + 0 + 0 * flag) % P ≡ b
raised f p t b flag e q r = rw (q, r) (omega arith)

kept_by : (f p t flag : ℕ) → f ≡ 0 → flag < 2 → p ≡ 0 → t ≡ 0 → (0 + f + (P - p) + (P - t) + 0 + 0 + 1 * flag) % P ≡ flag
kept_by f p t flag e h q r = rw (e, q, r) (omega arith)

lefts : (f p t b flag : ℕ) → f < 2 → b < 2 → p ≡ 0 → t ≡ 0 → (0 + f + (P - p) + (P - t) + (b + (P - f)) % P + 0 + 0 * flag) % P ≡ b
lefts f p t b flag e h q r = rw (q, r) (omega arith)

rights : (f p t b flag : ℕ) → f < 2 → b < 2 → p ≡ 0 → t ≡ 0 → (0 + f + (P - p) + (P - t) + 0 + (b + (P - f)) % P + 0 * flag) % P ≡ b
rights f p t b flag e h q r = rw (q, r) (omega arith)

same_choice : (b : Bool) (n : ℕ) → (if b then n else n) ≡ n
same_choice true n = refl
same_choice false n = refl

module _ (w : ℕ) (width : IsWidth w) (x a low high result y f flag : ℕ) (p t : Bool) (x_word : x < 2 ^ w) (a_word : a < 2 ^ w) (bit : IsBit flag) where
  -- what is known at an opcode
  pub record FlagCase (k : ℕ) : Type 0 where
    pub reads : (k == 30) ≡ false → (p ≡ false) × (t ≡ false)
    pub apart : p ≡ true → t ≡ false
    pub test : f ≡ (if y == 0 then sign_at k else 0)
    pub tested : covers (tested_numbers w a low high result) k ≡ true → y ≡ chosen (tested_numbers w a low high result) k
    pub divides : among (9 ∷ 10 ∷ []) k ≡ true → f ≡ flag_of (a == 0)
    pub result_is : among zero_ops k ≡ true → result ≡ (if k == 13 then low else chosen (results w x a low (p || t)) k)
    pub halves : AreHalves w x a k low high

  abbrev pub FlagNumber : ℕ → Type 0
  FlagNumber k = FlagCase k
      → flag_sum k f (flag_of p) (flag_of t) (if k == 11 then (bit_at x (w - 1) + (P - f)) % P else 0) (if k == 12 then (bit_at x 0 + (P - f)) % P else 0) flag
      ≡ chosen (flags w x a (p || t) flag) k

  no_p : (k : ℕ) → FlagCase k → (k == 30) ≡ false → flag_of p ≡ 0
  no_p k c e = ap flag_of (c.reads e).0

  no_t : (k : ℕ) → FlagCase k → (k == 30) ≡ false → flag_of t ≡ 0
  no_t k c e = ap flag_of (c.reads e).1

  at_and : FlagNumber 0
  at_and c = straight f (flag_of p) (flag_of t) (flag_of (bit_and x a == 0)) flag
      (c.test ∙ ap (λ n. if n == 0 then 1 else 0) (c.tested refl ∙ c.result_is refl)) (flag_small _) (no_p 0 c refl) (no_t 0 c refl)

  at_or : FlagNumber 1
  at_or c = straight f (flag_of p) (flag_of t) (flag_of (bit_or x a == 0)) flag (c.test ∙ ap (λ n. if n == 0 then 1 else 0) (c.tested refl ∙ c.result_is refl))
      (flag_small _) (no_p 1 c refl) (no_t 1 c refl)

  at_xor : FlagNumber 2
  at_xor c = straight f (flag_of p) (flag_of t) (flag_of (bit_xor x a == 0)) flag
      (c.test ∙ ap (λ n. if n == 0 then 1 else 0) (c.tested refl ∙ c.result_is refl)) (flag_small _) (no_p 2 c refl) (no_t 2 c refl)

  at_not : FlagNumber 3
  at_not c = straight f (flag_of p) (flag_of t) (flag_of (2 ^ w - 1 - a == 0)) flag
      (c.test ∙ ap (λ n. if n == 0 then 1 else 0) (c.tested refl ∙ c.result_is refl)) (flag_small _) (no_p 3 c refl) (no_t 3 c refl)

  at_add : FlagNumber 4
  at_add c = raised f (flag_of p) (flag_of t) _ flag (minus_of y f c.test ∙ ap nonzero_flag (c.tested refl ∙ c.halves.high_half refl) ∙ over_is w width (x + a))
      (no_p 4 c refl) (no_t 4 c refl)

  at_sub : FlagNumber 5
  at_sub c = straight f (flag_of p) (flag_of t) (flag_of (nat_lt x a)) flag
      (c.test ∙ ap (λ n. if n == 0 then 1 else 0) (c.tested refl ∙ c.halves.high_half refl) ∙ borrow_is x a) (flag_small _) (no_p 5 c refl) (no_t 5 c refl)

  at_mull : FlagNumber 6
  at_mull c = raised f (flag_of p) (flag_of t) _ flag
      (minus_of y f c.test ∙ ap nonzero_flag (c.tested refl ∙ c.halves.high_half refl) ∙ over_is w width (x * a)) (no_p 6 c refl) (no_t 6 c refl)

  at_umulh : FlagNumber 7
  at_umulh c = raised f (flag_of p) (flag_of t) _ flag
      (minus_of y f c.test ∙ ap nonzero_flag (c.tested refl ∙ c.halves.high_half refl) ∙ over_is w width (x * a)) (no_p 7 c refl) (no_t 7 c refl)

  at_smulh : FlagNumber 8
  at_smulh c =
      let s = signed w x *ℤ signed w a in
      let n = twos (2 * w) s in
      let halves = ap₂ (λ h l. (h + (P - (2 ^ w - 1) * bit_at l (w - 1))) % P) (c.halves.high_half refl) (c.halves.low_half refl) in
      raised f (flag_of p) (flag_of t) _ flag
      (minus_of y f c.test ∙ ap nonzero_flag (c.tested refl ∙ halves ∙ excess_is w width n) ∙ over_flag w width (signed_value w x * signed_value w a) n s
      (Stands-product (signed_value w x) (signed_value w a) (signed w x) (signed w a) (2 ^ (w - 1)) (2 ^ (w - 1)) (Stands-signed w width x x_word)
      (Stands-signed w width a a_word)) refl ∙ not_fits (fits w s)) (no_p 8 c refl) (no_t 8 c refl)

  at_udiv : FlagNumber 9
  at_udiv c = straight f (flag_of p) (flag_of t) (flag_of (a == 0)) flag (c.divides refl) (flag_small _) (no_p 9 c refl) (no_t 9 c refl)

  at_umod : FlagNumber 10
  at_umod c = straight f (flag_of p) (flag_of t) (flag_of (a == 0)) flag (c.divides refl) (flag_small _) (no_p 10 c refl) (no_t 10 c refl)

  f_small : (k : ℕ) → FlagCase k → sign_at k ≡ 1 → f < 2
  f_small k c e = subst (λ n. n < 2) (sym (c.test ∙ ap (λ n. if y == 0 then n else 0) e)) (flag_small (y == 0))

  at_shl : FlagNumber 11
  at_shl c = lefts f (flag_of p) (flag_of t) (bit_at x (w - 1)) flag (f_small 11 c refl) (bit_small x (w - 1)) (no_p 11 c refl) (no_t 11 c refl)
      ∙ bit_is x (w - 1)

  at_shr : FlagNumber 12
  at_shr c = rights f (flag_of p) (flag_of t) (bit_at x 0) flag (f_small 12 c refl) (bit_small x 0) (no_p 12 c refl) (no_t 12 c refl) ∙ bit_is x 0

  at_cmpe : FlagNumber 13
  at_cmpe c = straight f (flag_of p) (flag_of t) (flag_of (x == a)) flag
      (c.test ∙ ap (λ n. if n == 0 then 1 else 0) (c.tested refl ∙ c.result_is refl ∙ c.halves.low_half refl) ∙ equal_is w width x a x_word a_word)
      (flag_small _) (no_p 13 c refl) (no_t 13 c refl)

  at_cmpa : FlagNumber 14
  at_cmpa c = raised f (flag_of p) (flag_of t) _ flag
      (minus_of y f c.test ∙ ap nonzero_flag (c.tested refl ∙ c.halves.high_half refl) ∙ nonzero_of (nat_lt a x)) (no_p 14 c refl) (no_t 14 c refl)

  at_cmpae : FlagNumber 15
  at_cmpae c = raised f (flag_of p) (flag_of t) _ flag
      (minus_of y f c.test ∙ ap nonzero_flag (c.tested refl ∙ c.halves.high_half refl) ∙ nonzero_of (nat_le a x)) (no_p 15 c refl) (no_t 15 c refl)

  at_cmpg : FlagNumber 16
  at_cmpg c = raised f (flag_of p) (flag_of t) _ flag
      (minus_of y f c.test ∙ ap nonzero_flag (c.tested refl ∙ c.halves.high_half refl) ∙ nonzero_of (int_lt (signed w a) (signed w x))) (no_p 16 c refl)
      (no_t 16 c refl)

  at_cmpge : FlagNumber 17
  at_cmpge c = raised f (flag_of p) (flag_of t) _ flag
      (minus_of y f c.test ∙ ap nonzero_flag (c.tested refl ∙ c.halves.high_half refl) ∙ nonzero_of (int_le (signed w a) (signed w x))) (no_p 17 c refl)
      (no_t 17 c refl)

  at_read : FlagNumber 30
  at_read c = ap (λ n. (1 + n + (P - flag_of p) + (P - flag_of t) + 0 + 0 + 0 * flag) % P) (c.test ∙ same_choice (y == 0) 0) ∙ found_by p t c.apart
    where
      found_by : (p t : Bool) → (p ≡ true → t ≡ false) → (1 + 0 + (P - flag_of p) + (P - flag_of t) + 0 + 0 + 0 * flag) % P ≡ flag_of (not (p || t))
      found_by true true apart = absurd (true≢false (apart refl))
      found_by true false apart = omega arith
      found_by false true apart = omega arith
      found_by false false apart = omega arith

  -- an opcode that keeps the flag
  kept : (k : ℕ) → sign_at k ≡ 0 → (k == 30) ≡ false → FlagCase k → (0 + f + (P - flag_of p) + (P - flag_of t) + 0 + 0 + 1 * flag) % P ≡ flag
  kept k sign other c = kept_by f (flag_of p) (flag_of t) flag (c.test ∙ ap (λ n. if y == 0 then n else 0) sign ∙ same_choice (y == 0) 0) bit (no_p k c other)
      (no_t k c other)

  pub flag_number : (k : ℕ) → k < 32 → among unused_ops k ≡ false → FlagNumber k
  flag_number =
      for_opcode FlagNumber
      (at_and, (at_or, (at_xor, (at_not, (at_add, (at_sub, (at_mull, (at_umulh, (at_smulh, (at_udiv, (at_umod, (at_shl, (at_shr, tt)))))))))))))
      (at_cmpe, (at_cmpa, (at_cmpae, (at_cmpg, (at_cmpge, tt)))))
      (kept 18 refl refl, (kept 19 refl refl, (kept 20 refl refl, (kept 21 refl refl, (kept 22 refl refl, tt)))))
      (kept 26 refl refl, (kept 27 refl refl, (kept 28 refl refl, (kept 29 refl refl, (at_read, (kept 31 refl refl, tt))))))
