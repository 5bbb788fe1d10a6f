-- The laws of the bitwise operations.
use Rattle.tv_core.proofs.Common.{◌≡◌, ℕ, ◌+◌, ◌-◌, ◌/◌, ◌^◌, ◌<◌, ◌∷◌, [], ◌++◌, length, subst, ◌∙◌, ap₂, arith, length-each_below, Meets-split, Meets-join}
use Rattle.tv_core.proofs.Common.{HasFrom-split, pure, ◌>>=◌, HasFrom, InField, InField-none, InField-cons, IsWidth}
use Rattle.std.proofs.Common.{bit_and, bit_or, bit_xor, length-append}
use Rattle.std.specs.Int.Bits.{or_add_and, xor_add_and}
use Rattle.tv_bits.proofs.SizeLaws.{zero_in_field, zero_flag-below}
use Rattle.tv_bits.specs.declared.bit_wires.Bits.{Bits}
use Rattle.tv_core.specs.Laws.{Fills}
use Rattle.tv_core.specs.declared.field.TheConstants.{P}
use Rattle.tv_rows.proofs.DigitNumbers.{or_sum}
use Rattle.tv_logic.proofs.FlagLaws.{flags_sound, flags_complete, flags_answer, flags_next, flags_same}
use Rattle.tv_core.proofs.FieldLaws.{InField-append, InField-each_below}
use Rattle.tv_logic.proofs.PairSums.{pair_in-small, and-below}
use Rattle.tv_logic.proofs.WordLaws.{words_sound, words_complete, words_answer, words_next}
use Rattle.tv_logic.specs.Ands.{pair_in, pair_values}
use Rattle.tv_logic.specs.Flags.{logic_flags_of, flag_values}
use Rattle.tv_logic.specs.Logic.{together, logic_of, logic_made, logic_wires, LogicIsSound, logic_values, LogicIsComplete, LogicSizes}
use Rattle.tv_logic.specs.Words.{logic_words_of, word_values}
use Rattle.tv_logic.specs.declared.answers.LogicWords.{LogicWords}
use Rattle.tv_word.specs.Operations.{not_result}
use Rattle.tv_word.proofs.WidthLaws.{word_small}

words_size : (w : ℕ) → IsWidth w → (a b : ℕ) → length (word_values w a b) ≡ w / 2 + 3
words_size w width a b = search (arith, bit_and, length-append, bit_or, bit_xor, length-each_below)

pub logic_sound : LogicIsSound
unfolding logic_of pure ◌>>=◌
logic_sound w width z next x y a b assigns p q meets =
    let both = Meets-split z (logic_words_of w x y next).list _ meets in
    let words = words_sound w width z next x y a b assigns p q both.0 in
    let made = (logic_words_of w x y next).answer in
    let at = (logic_words_of w x y next).next in
    let last = Meets-split z (logic_flags_of made at).list [] both.1 in
    let flags = flags_sound z at made (bit_and a b) (bit_or a b) (bit_xor a b) (not_result w b) assigns words.ands words.xors words.nots (or_sum a b) last.0 in
    record {
      and_word = words.ands;
      or_word = words.ors;
      xor_word = words.xors;
      not_word = words.nots;
      and_zero = flags.of_and;
      or_zero = flags.of_or;
      xor_zero = flags.of_xor;
      not_zero = flags.of_not;
    }

pub logic_complete : LogicIsComplete
unfolding logic_of pure ◌>>=◌
logic_complete w width z next x y a b assigns p q has =
    let flag_list = flag_values (bit_and a b) (bit_or a b) (bit_xor a b) (not_result w b) in
    let split = HasFrom-split z next (word_values w a b) flag_list has in
    let words_met = words_complete w width z next x y a b assigns p q split.0 in
    let words = words_sound w width z next x y a b assigns p q words_met in
    let made = (logic_words_of w x y next).answer in
    let at = (logic_words_of w x y next).next in
    let size : length (word_values w a b) ≡ w / 2 + 3 = words_size w width a b in
    let place : next + length (word_values w a b) ≡ at = omega (arith, words_next w width x y next, size) in
    let flags_met = flags_complete z at made (bit_and a b) (bit_or a b) (bit_xor a b) (not_result w b) assigns words.ands words.xors words.nots (or_sum a b)
    (subst (λ k. HasFrom z k flag_list) place split.1) in
    Meets-join z (logic_words_of w x y next).list _ words_met (Meets-join z (logic_flags_of made at).list [] flags_met tt)

-- what the circuit answers, and where it ends
logic_next : (w : ℕ) → IsWidth w → (x y : Bits) (next : ℕ) → (logic_of w x y next).next ≡ next + logic_made w
unfolding logic_of pure ◌>>=◌
logic_next w width x y next = flags_next (logic_words_of w x y next).answer (logic_words_of w x y next).next ∙ omega (arith, words_next w width x y next)

flags_at : (w : ℕ) (words : LogicWords) (at next : ℕ) → at ≡ next + (w / 2 + 3)
    → (logic_flags_of words at).answer ≡ record {
      and_zero = next + (w / 2 + 3);
      or_zero = next + (w / 2 + 9);
      xor_zero = next + (w / 2 + 5);
      not_zero = next + (w / 2 + 7);
    }
flags_at w words at next is = search (arith, flags_answer, flags_same)

logic_answer : (w : ℕ) → IsWidth w → (x y : Bits) (next : ℕ) → (logic_of w x y next).answer ≡ logic_wires w next
unfolding logic_of pure ◌>>=◌
logic_answer w width x y next =
    ap₂ together (words_answer w width x y next)
    (flags_at w (logic_words_of w x y next).answer (logic_words_of w x y next).next next (words_next w width x y next))

-- as many values as wires
logic_fills : (w : ℕ) → IsWidth w → (x y : Bits) (a b : ℕ) → Fills (logic_of w x y) (logic_values w a b)
logic_fills w width x y a b next = search (arith, bit_and, bit_or, bit_xor, logic_next, length-append, words_size)

-- ---- the values are below the prime
or-below : (w : ℕ) → IsWidth w → (a b : ℕ) → a < 2 ^ w → b < 2 ^ w → bit_or a b < P
or-below w width a b h k = let sum = or_add_and a b in grind arith

xor-below : (w : ℕ) → IsWidth w → (a b : ℕ) → a < 2 ^ w → b < 2 ^ w → bit_xor a b < P
xor-below w width a b h k = let sum = xor_add_and a b in grind arith

turned-below : (w : ℕ) → IsWidth w → (b : ℕ) → not_result w b < P
turned-below w width b = grind arith

pairs-below : (w : ℕ) → IsWidth w → (v : ℕ) → InField (pair_values w v)
pairs-below w width v = InField-each_below (λ i. pair_in w v (i + 1)) (λ i. pair_in-small w width v (i + 1)) (w / 2 - 1)

words-below : (w : ℕ) → IsWidth w → (a b : ℕ) → a < 2 ^ w → b < 2 ^ w → InField (word_values w a b)
words-below w width a b h k =
    let v = bit_and a b in
    let small : v < P = (let word = word_small w width v (and-below w a b h) in omega arith) in
    let nots = InField-cons (not_result w b) [] (turned-below w width b) InField-none in
    let xors = InField-cons (bit_xor a b) (not_result w b ∷ []) (xor-below w width a b h k) nots in
    let ors = InField-cons (bit_or a b) (bit_xor a b ∷ not_result w b ∷ []) (or-below w width a b h k) xors in
    InField-cons v (pair_values w v ++ bit_or a b ∷ bit_xor a b ∷ not_result w b ∷ []) small
    (InField-append (pair_values w v) (bit_or a b ∷ bit_xor a b ∷ not_result w b ∷ []) (pairs-below w width v) ors)

flags-below : (ands ors xors nots : ℕ) → InField (flag_values ands ors xors nots)
flags-below ands ors xors nots = search (arith, InField-append, zero_in_field, InField-cons, zero_flag-below, InField-none)

logic_in_field : (w : ℕ) → IsWidth w → (a b : ℕ) → a < 2 ^ w → b < 2 ^ w → InField (logic_values w a b)
logic_in_field w width a b h k = search (arith, InField-append, words-below, flags-below)

pub logic_sizes : LogicSizes
logic_sizes = record { answer = logic_answer; end = logic_next; fills = logic_fills; in_field = logic_in_field }
