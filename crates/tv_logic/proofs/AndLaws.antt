-- The laws of the word of ands.
use Rattle.tv_core.proofs.Common.{◌≡◌, ℕ, ◌+◌, ◌-◌, ◌*◌, ◌/◌, ◌%◌, ◌^◌, ◌<◌, List, [], refl, sym, ◌∙◌, ap, ap₂, arith, bit_at, slice_index, value-append}
use Rattle.tv_core.proofs.Common.{value-wire, wire-below, Meets-split, Meets-join, here, fresh, put, pure, ◌>>=◌, wire, scaled, Combination, value, Assigns}
use Rattle.tv_core.proofs.Common.{Meets, HasFrom, sequence, IsWidth}
use Rattle.std.proofs.Common.{bit_and, mul-one}
use Rattle.std.proofs.lemmas.Nat.{mul-mod_first}
use Rattle.std.proofs.lemmas.Nat.Bits.{bit_at-lt}
use Rattle.tv_bits.proofs.PairLaws.{two_ands_sound, two_ands_complete}
use Rattle.tv_bits.proofs.BitNumbers.{HasBits-below, HasBits-bit_at}
use Rattle.tv_bits.specs.Bit.{IsBit}
use Rattle.tv_bits.specs.Bits.{HasBits, binary_value, bits_combination}
use Rattle.tv_bits.specs.Pairs.{two_ands, two_ands_of}
use Rattle.tv_bits.specs.declared.bit_wires.Bits.{Bits}
use Rattle.tv_core.proofs.BelowLaws.{sum_below-same, sum_below-mod_same, value-weighted, has_each}
use Rattle.tv_core.proofs.CombinationLaws.{value-scaled}
use Rattle.tv_core.proofs.LoopLaws.{turn_met, turns_met, turns-next}
use Rattle.tv_core.specs.Below.{sum_below}
use Rattle.tv_core.specs.declared.field.TheConstants.{P}
use Rattle.tv_logic.proofs.PairSums.{word-pairs, pair-ands, and-below}
use Rattle.tv_logic.specs.Ands.{pair_in, and_pair_of, new_and_pair_of, lowest_pair, and_of, and_values}
use Rattle.tv_word.proofs.WidthLaws.{word_small}

-- ---- where the circuits end, and what they answer
pair_next : (w : ℕ) (x y : Bits) (i : ℕ) (m : Combination) (next : ℕ) → (and_pair_of w x y i m next).next ≡ next
unfolding and_pair_of two_ands_of put
pair_next w x y i m next = refl

new_pair_next : (w : ℕ) (x y : Bits) (i next : ℕ) → (new_and_pair_of w x y i next).next ≡ next + 1
unfolding new_and_pair_of fresh ◌>>=◌
new_pair_next w x y i next = pair_next w x y (i + 1) (wire next) (next + 1)

turn-next : (w : ℕ) (x y : Bits) (next n : ℕ) → (sequence n (new_and_pair_of w x y) next).next ≡ next + n
turn-next w x y next n = turns-next (λ i _. new_and_pair_of w x y i) tt next 1 n (λ i a at. new_pair_next w x y i at) ∙ ap (λ k. next + k) (mul-one n)

pub and_answer : (w : ℕ) (x y : Bits) (next : ℕ) → (and_of w x y next).answer ≡ next
unfolding and_of fresh here pure ◌>>=◌
and_answer w x y next = refl

pub and_next : (w : ℕ) → IsWidth w → (x y : Bits) (next : ℕ) → (and_of w x y next).next ≡ next + w / 2
unfolding and_of fresh here pure ◌>>=◌
and_next w width x y next = search (arith, pair_next, turn-next)

-- ---- the value of the combination for the lowest pair
value-row : (z : List ℕ) (first n : ℕ) → value (bits_combination first n) z ≡ binary_value z first n % P
value-row z first n = search (arith, value-weighted, sum_below-mod_same, mul-mod_first)

module _ (w : ℕ) (width : IsWidth w) (z : List ℕ) (assigns : Assigns z) (x y : Bits) (a b : ℕ) (p : HasBits z x.first w a) (q : HasBits z y.first w b) where
  value-lowest : (word first : ℕ) → ((i : ℕ) → i < w / 2 - 1 → slice_index z (first + i) ≡ pair_in w (bit_and a b) (i + 1))
      → value (lowest_pair w word first) z ≡ (slice_index z word + (P - 2) * (sum_below (w / 2 - 1) (λ i. 2 ^ i * pair_in w (bit_and a b) (i + 1)) % P) % P) % P
  value-lowest word first each =
      let row : binary_value z first (w / 2 - 1) ≡ sum_below (w / 2 - 1) (λ i. 2 ^ i * pair_in w (bit_and a b) (i + 1)) =
      sum_below-same (w / 2 - 1) (λ i. 2 ^ i * slice_index z (first + i)) (λ i. 2 ^ i * pair_in w (bit_and a b) (i + 1))
      (λ i h. ap (λ k. 2 ^ i * k) (each i h)) in
      value-append (wire word) (scaled (P - 2) (bits_combination first (w / 2 - 1))) z
      ∙ ap₂ (λ m n. (m + n) % P) (value-wire assigns word)
      (value-scaled (P - 2) (bits_combination first (w / 2 - 1)) z ∙ ap (λ k. (P - 2) * k % P) (value-row z first (w / 2 - 1) ∙ ap (λ k. k % P) row))

  -- ---- a pair
  x_bit : (i : ℕ) → i < w → value (wire (x.first + i)) z ≡ bit_at a i
  x_bit i h = value-wire assigns (x.first + i) ∙ HasBits-bit_at p i h

  y_bit : (i : ℕ) → i < w → value (wire (y.first + i)) z ≡ bit_at b i
  y_bit i h = value-wire assigns (y.first + i) ∙ HasBits-bit_at q i h

  pair_number : (i : ℕ) → i < w / 2
      → two_ands (value (wire (x.first + i)) z) (value (wire (y.first + i)) z) (value (wire (x.first + (w / 2 + i))) z) (value (wire (y.first + (w / 2 + i))) z)
      (2 ^ (w / 4)) ≡ pair_in w (bit_and a b) i
  pair_number i h = search (arith, x_bit, y_bit, pair-ands)

  bit_of_x : (i : ℕ) → i < w → IsBit (value (wire (x.first + i)) z)
  bit_of_x i h = omega (arith, x_bit i h, bit_at-lt a i)

  bit_of_y : (i : ℕ) → i < w → IsBit (value (wire (y.first + i)) z)
  bit_of_y i h = omega (arith, y_bit i h, bit_at-lt b i)

  pair_sound : (next i : ℕ) (m : Combination) → i < w / 2 → Meets z (and_pair_of w x y i m next).list → value m z ≡ pair_in w (bit_and a b) i
  unfolding and_pair_of
  pair_sound next i m h meets =
      two_ands_sound z next _ _ _ _ (2 ^ (w / 4)) m assigns (bit_of_x i (omega arith)) (bit_of_y i (omega arith)) (bit_of_x (w / 2 + i) (omega arith))
      (bit_of_y (w / 2 + i) (omega arith)) meets ∙ pair_number i h

  pair_complete : (next i : ℕ) (m : Combination) → i < w / 2 → value m z ≡ pair_in w (bit_and a b) i → Meets z (and_pair_of w x y i m next).list
  unfolding and_pair_of
  pair_complete next i m h is =
      two_ands_complete z next _ _ _ _ (2 ^ (w / 4)) m assigns (bit_of_x i (omega arith)) (bit_of_y i (omega arith)) (bit_of_x (w / 2 + i) (omega arith))
      (bit_of_y (w / 2 + i) (omega arith)) (is ∙ sym (pair_number i h))

  new_pair_sound : (at i : ℕ) → i < w / 2 - 1 → Meets z (new_and_pair_of w x y i at).list → slice_index z at ≡ pair_in w (bit_and a b) (i + 1)
  unfolding new_and_pair_of fresh ◌>>=◌
  new_pair_sound at i h meets = sym (value-wire assigns at) ∙ pair_sound (at + 1) (i + 1) (wire at) (omega arith) meets

  new_pair_complete : (at i : ℕ) → i < w / 2 - 1 → slice_index z at ≡ pair_in w (bit_and a b) (i + 1) → Meets z (new_and_pair_of w x y i at).list
  unfolding new_and_pair_of fresh ◌>>=◌
  new_pair_complete at i h is = pair_complete (at + 1) (i + 1) (wire at) (omega arith) (value-wire assigns at ∙ is)

  -- what the turns put
  turn_pairs : (next : ℕ) → Meets z (sequence (w / 2 - 1) (new_and_pair_of w x y) next).list → (i : ℕ) → i < w / 2 - 1
      → slice_index z (next + i) ≡ pair_in w (bit_and a b) (i + 1)
  turn_pairs next meets i h = rw (turn-next w x y next i) at (new_pair_sound _ i h (turn_met z (λ i _. new_and_pair_of w x y i) tt next (w / 2 - 1) i h meets))

  turns_pairs : (next : ℕ) → ((i : ℕ) → i < w / 2 - 1 → slice_index z (next + i) ≡ pair_in w (bit_and a b) (i + 1))
      → Meets z (sequence (w / 2 - 1) (new_and_pair_of w x y) next).list
  turns_pairs next each = turns_met z (λ i _. new_and_pair_of w x y i) tt next (w / 2 - 1)
      (λ i h. new_pair_complete _ i h (rw (turn-next w x y next i) (each i h)))

-- the lowest pair's constraint, as numbers: the word, the sum of the other pairs, and the and
word_of : (word rest low v : ℕ) → word < P → v < 2 ^ 32 → v ≡ low + 2 * rest → (word + (P - 2) * (rest % P) % P) % P ≡ low → word ≡ v
word_of word rest low v small h is e = omega arith

low_of : (rest low v : ℕ) → v < 2 ^ 32 → v ≡ low + 2 * rest → (v + (P - 2) * (rest % P) % P) % P ≡ low
low_of rest low v h is = omega arith

pub and_sound : (w : ℕ) → IsWidth w → (z : List ℕ) (next : ℕ) (x y : Bits) (a b : ℕ) → Assigns z → HasBits z x.first w a → HasBits z y.first w b
    → Meets z (and_of w x y next).list
    → slice_index z (and_of w x y next).answer ≡ bit_and a b
unfolding and_of fresh here pure ◌>>=◌
and_sound w width z next x y a b assigns p q meets =
    let both = Meets-split z (sequence (w / 2 - 1) (new_and_pair_of w x y) (next + 1)).list _ meets in
    let last = Meets-split z (and_pair_of w x y 0 (lowest_pair w next (next + 1)) (sequence (w / 2 - 1) (new_and_pair_of w x y)
    (next + 1)).next).list [] both.1 in
    let each = turn_pairs w width z assigns x y a b p q (next + 1) both.0 in
    let v = bit_and a b in
    let small = and-below w a b (HasBits-below p) in
    word_of (slice_index z next) (sum_below (w / 2 - 1) (λ i. 2 ^ i * pair_in w v (i + 1))) (pair_in w v 0) v (wire-below assigns next)
    (word_small w width v small) (word-pairs w width v small)
    (sym (value-lowest w width z assigns x y a b p q next (next + 1) each)
    ∙ pair_sound w width z assigns x y a b p q _ 0 (lowest_pair w next (next + 1)) (omega arith) last.0)

pub and_complete : (w : ℕ) → IsWidth w → (z : List ℕ) (next : ℕ) (x y : Bits) (a b : ℕ) → Assigns z → HasBits z x.first w a → HasBits z y.first w b
    → HasFrom z next (and_values w (bit_and a b))
    → Meets z (and_of w x y next).list
unfolding and_of fresh here pure ◌>>=◌
and_complete w width z next x y a b assigns p q has =
    let v = bit_and a b in
    let small = and-below w a b (HasBits-below p) in
    let each = has_each z (next + 1) (w / 2 - 1) (λ i. pair_in w v (i + 1)) has.1 in
    let rest = sum_below (w / 2 - 1) (λ i. 2 ^ i * pair_in w v (i + 1)) in
    let low = value-lowest w width z assigns x y a b p q next (next + 1) each ∙ ap (λ k. (k + (P - 2) * (rest % P) % P) % P) has.0
    ∙ low_of rest (pair_in w v 0) v (word_small w width v small) (word-pairs w width v small) in
    Meets-join z (sequence (w / 2 - 1) (new_and_pair_of w x y) (next + 1)).list _ (turns_pairs w width z assigns x y a b p q (next + 1) each)
    (Meets-join z (and_pair_of w x y 0 (lowest_pair w next (next + 1)) (sequence (w / 2 - 1) (new_and_pair_of w x y) (next + 1)).next).list []
    (pair_complete w width z assigns x y a b p q _ 0 (lowest_pair w next (next + 1)) (omega arith) low) tt)
