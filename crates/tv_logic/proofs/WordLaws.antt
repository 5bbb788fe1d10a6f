-- The laws of the words that are linear in the inputs and the word of ands.
use Rattle.tv_core.proofs.Common.{◌≡◌, ℕ, ◌+◌, ◌-◌, ◌*◌, ◌/◌, ◌%◌, ◌^◌, ◌<◌, ◌≤◌, List, [], ◌∷◌, length, sym, subst, ◌∙◌, ap, ap₂, arith, slice_index}
use Rattle.tv_core.proofs.Common.{length-each_below, value-append, value-less, Meets-split, Meets-join, HasFrom-split, pure, ◌>>=◌, constant, value, Assigns}
use Rattle.tv_core.proofs.Common.{Meets, HasFrom, width_short, IsWidth}
use Rattle.std.proofs.Common.{bit_and, bit_or, bit_xor}
use Rattle.std.specs.Int.Bits.{or_add_and, xor_add_and}
use Rattle.tv_bits.proofs.TimesLaws.{kept_answer, kept_next, kept_sound, kept_complete}
use Rattle.tv_bits.proofs.BitNumbers.{HasBits-below, value-bits_below}
use Rattle.tv_bits.specs.Bits.{HasBits, bits_combination}
use Rattle.tv_bits.specs.Pairs.{negative}
use Rattle.tv_bits.specs.Times.{kept_of}
use Rattle.tv_bits.specs.declared.bit_wires.Bits.{Bits}
use Rattle.tv_core.proofs.CombinationLaws.{value-scaled, value-constant}
use Rattle.tv_core.specs.declared.field.TheConstants.{P}
use Rattle.tv_logic.proofs.AndLaws.{and_answer, and_next, and_sound, and_complete}
use Rattle.tv_logic.specs.Ands.{pair_in, pair_values, and_of}
use Rattle.tv_logic.specs.Words.{sum_less, complement, logic_words_of, word_values}
use Rattle.tv_logic.specs.declared.answers.LogicWords.{LogicWords}
use Rattle.tv_word.proofs.WidthLaws.{word_small}
use Rattle.tv_word.specs.Operations.{not_result}

-- ---- the values
or_number : (a b ands ors : ℕ) → a < 2 ^ 32 → b < 2 ^ 32 → ors + ands ≡ a + b → ((a + 1 * b % P) % P + (P - 1) * ands % P) % P ≡ ors
or_number a b ands ors h k is = omega arith

xor_number : (a b ands xors : ℕ) → a < 2 ^ 32 → b < 2 ^ 32 → xors + ands * 2 ≡ a + b → ((a + 1 * b % P) % P + (P - 2) * ands % P) % P ≡ xors
xor_number a b ands xors h k is = omega arith

not_number : (w : ℕ) → IsWidth w → (b : ℕ) → b < 2 ^ w → ((2 ^ w - 1) % P + (P - b)) % P ≡ not_result w b
not_number w width b h = grind arith

module _ (w : ℕ) (width : IsWidth w) (z : List ℕ) (assigns : Assigns z) (x y : Bits) (a b : ℕ) (p : HasBits z x.first w a) (q : HasBits z y.first w b) where
  short : w ≤ 63
  short = let most = width_short w width in omega arith

  value-sum_less : (k at : ℕ) → value (sum_less w x y k at) z ≡ ((a + 1 * b % P) % P + negative k * slice_index z at % P) % P
  value-sum_less k at = search (arith, value-append, value-bits_below, short, value-scaled)

  value-or : (at : ℕ) → slice_index z at ≡ bit_and a b → value (sum_less w x y 1 at) z ≡ bit_or a b
  value-or at is =
      value-sum_less 1 at ∙ ap (λ k. ((a + 1 * b % P) % P + (P - 1) * k % P) % P) is
      ∙ or_number a b (bit_and a b) (bit_or a b) (word_small w width a (HasBits-below p)) (word_small w width b (HasBits-below q)) (or_add_and a b)

  value-xor : (at : ℕ) → slice_index z at ≡ bit_and a b → value (sum_less w x y 2 at) z ≡ bit_xor a b
  value-xor at is =
      value-sum_less 2 at ∙ ap (λ k. ((a + 1 * b % P) % P + (P - 2) * k % P) % P) is
      ∙ xor_number a b (bit_and a b) (bit_xor a b) (word_small w width a (HasBits-below p)) (word_small w width b (HasBits-below q)) (xor_add_and a b)

  value-not : value (complement w y) z ≡ not_result w b
  value-not =
      value-less (constant (2 ^ w - 1)) (bits_combination y.first w) z
      ∙ ap₂ (λ m n. (m + (P - n)) % P) (value-constant assigns (2 ^ w - 1)) (value-bits_below q short)
      ∙ not_number w width b (HasBits-below q)

-- wires that hold the words of the operations
pub record HoldWords (w : ℕ) (z : List ℕ) (words : LogicWords) (a b : ℕ) : Type 0 where
  pub ands : slice_index z words.and_word ≡ bit_and a b
  pub ors : slice_index z words.or_word ≡ bit_or a b
  pub xors : slice_index z words.xor_word ≡ bit_xor a b
  pub nots : slice_index z words.not_word ≡ not_result w b

-- where the or and the xor begin, and the complement
module _ (w : ℕ) (width : IsWidth w) (x y : Bits) (next : ℕ) where
  abbrev or_from : ℕ
  or_from = (and_of w x y next).next

  abbrev xor_from : ℕ
  xor_from = (kept_of (sum_less w x y 1 (and_of w x y next).answer) or_from).next

  abbrev not_from : ℕ
  not_from = (kept_of (sum_less w x y 2 (and_of w x y next).answer) xor_from).next

  xor_from_is : xor_from ≡ next + w / 2 + 1
  xor_from_is = kept_next (sum_less w x y 1 (and_of w x y next).answer) or_from ∙ ap (λ n. n + 1) (and_next w width x y next)

  not_from_is : not_from ≡ next + w / 2 + 1 + 1
  not_from_is = kept_next (sum_less w x y 2 (and_of w x y next).answer) xor_from ∙ ap (λ n. n + 1) xor_from_is

  pub words_next : (logic_words_of w x y next).next ≡ next + (w / 2 + 3)
  unfolding logic_words_of pure ◌>>=◌
  words_next = kept_next (complement w y) not_from ∙ omega (arith, not_from_is)

  words_same : (a b c d e f g h : ℕ) → a ≡ e → b ≡ f → c ≡ g → d ≡ h
      → ◌≡◌ {A = LogicWords} (record { and_word = a; or_word = b; xor_word = c; not_word = d })
      (record { and_word = e; or_word = f; xor_word = g; not_word = h })
  words_same a b c d e f g h p q r s = cc

  pub words_answer : (logic_words_of w x y next).answer
      ≡ record { and_word = next; or_word = next + w / 2; xor_word = next + (w / 2 + 1); not_word = next + (w / 2 + 2) }
  unfolding logic_words_of pure ◌>>=◌
  words_answer = search (arith, words_same, and_answer, kept_answer, and_next, xor_from_is, not_from_is)

pub words_sound : (w : ℕ) → IsWidth w → (z : List ℕ) (next : ℕ) (x y : Bits) (a b : ℕ) → Assigns z → HasBits z x.first w a → HasBits z y.first w b
    → Meets z (logic_words_of w x y next).list
    → HoldWords w z (logic_words_of w x y next).answer a b
unfolding logic_words_of pure ◌>>=◌
words_sound w width z next x y a b assigns p q meets =
    let at = (and_of w x y next).answer in
    let ands_met = Meets-split z (and_of w x y next).list _ meets in
    let ors_met = Meets-split z (kept_of (sum_less w x y 1 at) (or_from w width x y next)).list _ ands_met.1 in
    let xors_met = Meets-split z (kept_of (sum_less w x y 2 at) (xor_from w width x y next)).list _ ors_met.1 in
    let nots_met = Meets-split z (kept_of (complement w y) (not_from w width x y next)).list [] xors_met.1 in
    let ands : slice_index z at ≡ bit_and a b = and_sound w width z next x y a b assigns p q ands_met.0 in
    record {
      ands = ands;
      ors = kept_sound z (or_from w width x y next) (sum_less w x y 1 at) assigns ors_met.0 ∙ value-or w width z assigns x y a b p q at ands;
      xors = kept_sound z (xor_from w width x y next) (sum_less w x y 2 at) assigns xors_met.0 ∙ value-xor w width z assigns x y a b p q at ands;
      nots = kept_sound z (not_from w width x y next) (complement w y) assigns nots_met.0 ∙ value-not w width z assigns x y a b p q;
    }

pub words_complete : (w : ℕ) → IsWidth w → (z : List ℕ) (next : ℕ) (x y : Bits) (a b : ℕ) → Assigns z → HasBits z x.first w a → HasBits z y.first w b
    → HasFrom z next (word_values w a b)
    → Meets z (logic_words_of w x y next).list
unfolding logic_words_of pure ◌>>=◌
words_complete w width z next x y a b assigns p q has =
    let v = bit_and a b in
    let at = (and_of w x y next).answer in
    let split = HasFrom-split z (next + 1) (pair_values w v) (bit_or a b ∷ bit_xor a b ∷ not_result w b ∷ []) has.1 in
    let place : next + 1 + length (pair_values w v) ≡ next + w / 2 = omega (arith, length-each_below (w / 2 - 1) (λ i. pair_in w v (i + 1))) in
    let rest = subst (λ k. HasFrom z k (bit_or a b ∷ bit_xor a b ∷ not_result w b ∷ [])) place split.1 in
    let ands : slice_index z at ≡ v = ap (λ k. slice_index z k) (and_answer w x y next) ∙ has.0 in
    let ors = ap (λ k. slice_index z k) (and_next w width x y next) ∙ rest.0 ∙ sym (value-or w width z assigns x y a b p q at ands) in
    let xors = ap (λ k. slice_index z k) (xor_from_is w width x y next) ∙ rest.1.0 ∙ sym (value-xor w width z assigns x y a b p q at ands) in
    let nots = ap (λ k. slice_index z k) (not_from_is w width x y next) ∙ rest.1.1.0 ∙ sym (value-not w width z assigns x y a b p q) in
    Meets-join z (and_of w x y next).list _ (and_complete w width z next x y a b assigns p q (has.0, split.0))
    (Meets-join z (kept_of (sum_less w x y 1 at) (or_from w width x y next)).list _
    (kept_complete z (or_from w width x y next) (sum_less w x y 1 at) assigns (ors, tt))
    (Meets-join z (kept_of (sum_less w x y 2 at) (xor_from w width x y next)).list _
    (kept_complete z (xor_from w width x y next) (sum_less w x y 2 at) assigns (xors, tt))
    (Meets-join z (kept_of (complement w y) (not_from w width x y next)).list []
    (kept_complete z (not_from w width x y next) (complement w y) assigns (nots, tt)) tt)))
