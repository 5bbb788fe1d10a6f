-- The numbers of a step's result.
use Rattle.tv_core.proofs.Common.{◌≡◌, ℕ, ◌+◌, ◌-◌, ◌*◌, ◌/◌, ◌%◌, ◌^◌, ◌<◌, ◌==◌, Bool, true, false, if◌then◌else◌, [], ◌∷◌, drop, refl, sym, ◌∙◌, ap, ap₂}
use Rattle.tv_core.proofs.Common.{subst, arith, bit_at, for_widths, IsWidth}
use Rattle.std.proofs.Common.{bit_and, bit_or, bit_xor}
use Rattle.std.specs.Int.Bits.{or_add_and, xor_add_and}
use Rattle.tv_core.specs.declared.field.TheConstants.{P}
use Rattle.tv_isa.specs.Opcodes.{among, chosen, writer_ops}
use Rattle.tv_mem.specs.Bytes.{byte_of}
use Rattle.tv_numbers.proofs.Cases.{EachOf, each_of}
use Rattle.tv_numbers.specs.Tables.{results}
use Rattle.tv_step.specs.Rows.{word_size}
use Rattle.tv_inputs.proofs.FieldNumbers.{small_word, byte_small, either}
use Rattle.tv_inputs.specs.TestNumbers.{zero_ops, carry_ops, place_bits}
use Rattle.tv_inputs.specs.Results.{result_number, tested_number}
use Rattle.tv_inputs.specs.Rows.{covers, low_halves, high_halves, AreHalves}

two_words : (w : ℕ) → IsWidth w → (u v : ℕ) → u < 2 ^ w → v < 2 ^ w → (u + v + 0 + 0) % P ≡ u + v
two_words w width = for_widths (λ w. (u v : ℕ) → u < 2 ^ w → v < 2 ^ w → (u + v + 0 + 0) % P ≡ u + v) (λ u v h k. omega arith) (λ u v h k. omega arith) w width

complement : (w : ℕ) → IsWidth w → (a : ℕ) → a < 2 ^ w → (0 + 0 + (P - a) % P + (2 ^ w - 1)) % P ≡ 2 ^ w - 1 - a
complement w width = for_widths (λ w. (a : ℕ) → a < 2 ^ w → (0 + 0 + (P - a) % P + (2 ^ w - 1)) % P ≡ 2 ^ w - 1 - a) (λ a h. omega arith)
    (λ a h. omega arith) w width

or_sum : (a b : ℕ) → bit_or a b ≡ bit_and a b + bit_xor a b
or_sum a b = omega (arith, or_add_and a b, xor_add_and a b)

one_low : (u : ℕ) → u < P → (u + 0 + 0 + 0) % P ≡ u
one_low u h = omega arith

one_high : (u : ℕ) → u < P → (0 + u + 0 + 0) % P ≡ u
one_high u h = omega arith

one_moved : (u : ℕ) → u < P → (0 + 0 + u + 0) % P ≡ u
one_moved u h = omega arith

one_byte : (u : ℕ) → u < P → (0 + 0 + 0 + u) % P ≡ u
one_byte u h = omega arith

module _ (w : ℕ) (width : IsWidth w) (x a low high : ℕ) (found : Bool) (a_word : a < 2 ^ w) where
  -- what is known at an opcode
  pub record ResultCase (k : ℕ) : Type 0 where
    pub reads : (k == 30) ≡ false → found ≡ false
    pub halves : AreHalves w x a k low high

  abbrev pub ResultNumber : ℕ → Type 0
  ResultNumber k = ResultCase k → result_number w k a low high found ≡ chosen (results w x a low found) k

  -- without a word that is found, only the halves that the opcode names count
  none : (k : ℕ) → (k == 30) ≡ false → ResultCase k → (h m c : ℕ) → ((if found then low else 0) + h + m + c) % P ≡ (0 + h + m + c) % P
  none k other c h m n = ap (λ b. ((if b then low else 0) + h + m + n) % P) (c.reads other)

  low_small : (k : ℕ) → ResultCase k → low < P
  low_small k c = small_word w width low c.halves.low_word

  at_low : (k : ℕ) → covers (low_halves w x a) k ≡ true → ResultCase k → (low + 0 + 0 + 0) % P ≡ chosen (low_halves w x a) k
  at_low k e c = one_low low (low_small k c) ∙ c.halves.low_half e

  at_high : (k : ℕ) → (k == 30) ≡ false → covers (high_halves w x a) k ≡ true → ResultCase k
      → ((if found then low else 0) + high + 0 + 0) % P ≡ chosen (high_halves w x a) k
  at_high k other e c = none k other c high 0 0 ∙ one_high high (small_word w width high c.halves.high_word) ∙ c.halves.high_half e

  at_moved : (k : ℕ) → (k == 30) ≡ false → ResultCase k → ((if found then low else 0) + 0 + a + 0) % P ≡ a
  at_moved k other c = none k other c 0 a 0 ∙ one_moved a (small_word w width a a_word)

  at_or : ResultNumber 1
  at_or c = two_words w width low high c.halves.low_word c.halves.high_word ∙ ap₂ (λ m n. m + n) (c.halves.low_half refl) (c.halves.high_half refl)
      ∙ sym (or_sum x a)

  at_not : ResultNumber 3
  at_not c = none 3 refl c 0 ((P - a) % P) (2 ^ w - 1) ∙ complement w width a a_word

  at_load_b : ResultNumber 27
  at_load_b c = none 27 refl c 0 0 (byte_of low (a % word_size w)) ∙ one_byte (byte_of low (a % word_size w)) (byte_small low (a % word_size w))

  at_load_w : ResultNumber 29
  at_load_w c = one_low low (low_small 29 c)

  at_read : ResultNumber 30
  at_read c = one_low (if found then low else 0) (either found low 0 (low_small 30 c) (omega arith))

  pub result_is : (k : ℕ) → among (19 ∷ writer_ops) k ≡ true → ResultNumber k
  result_is =
      let others : EachOf ResultNumber (drop 13 writer_ops) = (at_moved 18 refl, (at_load_b, (at_load_w, (at_read, tt)))) in
      let shifts : EachOf ResultNumber (drop 9 writer_ops) =
      (at_high 9 refl refl, (at_low 10 refl, (at_low 11 refl, (at_high 12 refl refl, others)))) in
      let products : EachOf ResultNumber (drop 4 writer_ops) =
      (at_low 4 refl, (at_low 5 refl, (at_low 6 refl, (at_high 7 refl refl, (at_high 8 refl refl, shifts))))) in
      each_of ResultNumber (19 ∷ writer_ops) (at_moved 19 refl, (at_low 0 refl, (at_or, (at_high 2 refl refl, (at_not, products)))))

  -- at cmpe it is the low half
  pub compared_is : (k : ℕ) → k ≡ 13 → ResultCase k → result_number w k a low high found ≡ low
  compared_is k e = subst (λ j. ResultCase j → result_number w j a low high found ≡ low) (sym e) (λ c. one_low low (low_small 13 c))

-- ---- the number that is tested
abbrev pub Tested : ℕ → ℕ → ℕ → ℕ → ℕ → ℕ → Type 0
Tested w a low high result k =
    (among zero_ops k ≡ true → tested_number w k a low high result ≡ result) × (among carry_ops k ≡ true → tested_number w k a low high result ≡ high)
    × (among (8 ∷ []) k ≡ true → tested_number w k a low high result ≡ (high + (P - (2 ^ w - 1) * bit_at low (w - 1))) % P)
    × (among (11 ∷ 12 ∷ []) k ≡ true → tested_number w k a low high result ≡ a / 2 ^ place_bits w)

pub tested_is : (w a low high result k : ℕ) → Tested w a low high result k
tested_is w a low high result k = (
  each_of (λ j. tested_number w j a low high result ≡ result) zero_ops (refl, (refl, (refl, (refl, (refl, tt))))) k,
  each_of (λ j. tested_number w j a low high result ≡ high) carry_ops (refl, (refl, (refl, (refl, (refl, (refl, (refl, (refl, tt)))))))) k,
  each_of (λ j. tested_number w j a low high result ≡ (high + (P - (2 ^ w - 1) * bit_at low (w - 1))) % P) (8 ∷ []) (refl, tt) k,
  each_of (λ j. tested_number w j a low high result ≡ a / 2 ^ place_bits w) (11 ∷ 12 ∷ []) (refl, (refl, tt)) k,
)
