-- The laws of a difference.
use Rattle.tv_core.proofs.Common.{◌≡◌, ℕ, ◌+◌, ◌-◌, ◌*◌, ◌/◌, ◌%◌, ◌^◌, ◌<◌, List, [], ◌∷◌, ap, ap₂, sym, ◌∙◌, arith, slice_index, nat_tests, value-append}
use Rattle.tv_core.proofs.Common.{value-less, Meets-split, Meets-join, put, pure, ◌>>=◌, constant, value, Assigns, width_short, IsWidth}
use Rattle.tv_bits.proofs.SizeLaws.{length-bits, bits_in_field}
use Rattle.tv_bits.proofs.BitNumbers.{HasBits-below, HasBits-low, HasBits-high, HasBits-one, HasBits-from_values, value-bits_below}
use Rattle.tv_bits.proofs.BitsLaws.{new_bits_sound, new_bits_complete, new_bits_answer, new_bits_next}
use Rattle.tv_bits.specs.Bits.{HasBits, binary_value, bits_combination, new_bits_of}
use Rattle.tv_bits.specs.declared.bit_wires.Bits.{Bits}
use Rattle.tv_core.proofs.CombinationLaws.{value-constant}
use Rattle.tv_core.specs.declared.field.TheConstants.{P}
use Rattle.tv_limb.proofs.SplitLaws.{HasPartBits-from_HasBits}
use Rattle.tv_limb.specs.Difference.{borrow, less_borrow, difference_of_words, sub_of, SubIsSound, SubIsComplete, SubSizes}
use Rattle.tv_limb.specs.Split.{split_at}
use Rattle.tv_word.specs.Operations.{sub_result}

-- what the circuit answers, and where it ends
pub sub_answer : (w : ℕ) (x y : Bits) (next : ℕ) → (sub_of w x y next).answer ≡ split_at w (record { first = next; n = w + 1 })
unfolding sub_of put pure ◌>>=◌
sub_answer w x y next = ap (split_at w) (new_bits_answer (w + 1) next)

pub sub_next : (w : ℕ) (x y : Bits) (next : ℕ) → (sub_of w x y next).next ≡ next + (w + 1)
unfolding sub_of put pure ◌>>=◌
sub_next w x y next = new_bits_next (w + 1) next

-- the constraint, as numbers: the low part, the borrow's wire, and the two words
sound_by : (w : ℕ) → IsWidth w → (x y low b : ℕ) → x < 2 ^ w → y < 2 ^ w → low < 2 ^ w → b < 2 → (low + (P - 2 ^ w % P) % P * b % P) % P ≡ (x + (P - y)) % P
    → (low ≡ sub_result w x y) × (b ≡ borrow x y)
sound_by w width x y low b hx hy hl hb e = (grind (arith, nat_tests), grind (arith, nat_tests))

complete_by : (w : ℕ) → IsWidth w → (x y : ℕ) → x < 2 ^ w → y < 2 ^ w → (sub_result w x y + (P - 2 ^ w % P) % P * borrow x y % P) % P ≡ (x + (P - y)) % P
complete_by w width x y hx hy = grind (arith, nat_tests)

-- the two sides, as numbers
module _ (w : ℕ) (width : IsWidth w) (z : List ℕ) (assigns : Assigns z) (x y : Bits) (a b : ℕ) (p : HasBits z x.first w a) (q : HasBits z y.first w b) where
  right : value (difference_of_words w x y) z ≡ (a + (P - b)) % P
  right = let short = width_short w width in value-less (bits_combination x.first w) (bits_combination y.first w) z
      ∙ ap₂ (λ m n. (m + (P - n)) % P) (value-bits_below p (omega arith)) (value-bits_below q (omega arith))

  left : (first n v : ℕ) → HasBits z first (w + 1) v
      → value (less_borrow w (split_at w (record { first = first; n = n }))) z * value (constant 1) z % P
      ≡ (v % 2 ^ w + (P - 2 ^ w % P) % P * (v / 2 ^ w) % P) % P
  left first n v s =
      let short = width_short w width in
      let bits = bits_combination first w in
      let c = (P - 2 ^ w % P) % P in
      let wire : slice_index z (first + w) ≡ v / 2 ^ w = HasBits-one z (first + w) (v / 2 ^ w) (HasBits-high z first w 1 v s) in
      let last : value ((c, first + w) ∷ []) z ≡ c * (v / 2 ^ w) % P = omega (arith, ap (λ k. c * k) wire) in
      let sum : value (less_borrow w (split_at w (record { first = first; n = n }))) z ≡ (v % 2 ^ w + c * (v / 2 ^ w) % P) % P
      = value-append bits ((c, first + w) ∷ []) z ∙ ap₂ (λ m n. (m + n) % P) (value-bits_below (HasBits-low z first w 1 v s) (omega arith)) last in
      ap₂ (λ m n. m * n % P) sum (value-constant assigns 1) ∙ once (v % 2 ^ w + c * (v / 2 ^ w) % P)
    where
      once : (n : ℕ) → n % P * (1 % P) % P ≡ n % P
      once n = omega arith

pub sub_sound : SubIsSound
unfolding sub_of put pure ◌>>=◌
sub_sound w width z next x y a b assigns p q meets =
    let made = (new_bits_of (w + 1) next).answer in
    let short = width_short w width in
    let both = Meets-split z (new_bits_of (w + 1) next).list _ meets in
    let s = new_bits_sound z next (w + 1) assigns both.0 in
    let v = binary_value z made.first (w + 1) in
    let parts = HasPartBits-from_HasBits w 1 z made.first made.n v s in
    let numbers = sound_by w width a b (v % 2 ^ w) (v / 2 ^ w) (HasBits-below p) (HasBits-below q) (HasBits-below parts.low) (HasBits-below parts.high)
    (sym (left w width z assigns x y a b p q made.first made.n v s) ∙ both.1.0 ∙ right w width z assigns x y a b p q) in
    rw (numbers.0, numbers.1) at parts

pub sub_complete : SubIsComplete
unfolding sub_of put pure ◌>>=◌
sub_complete w width z next x y a b assigns p q has =
    let v = sub_result w a b + 2 ^ w * borrow a b in
    let small : v < 2 ^ (w + 1) = grind (arith, nat_tests) in
    let low : v % 2 ^ w ≡ sub_result w a b = grind (arith, nat_tests) in
    let above : v / 2 ^ w ≡ borrow a b = grind (arith, nat_tests) in
    let s = HasBits-from_values z next (w + 1) v small has in
    let sum = left w width z assigns x y a b p q next (w + 1) v s
    ∙ ap₂ (λ m n. (m + (P - 2 ^ w % P) % P * n % P) % P) low above
    ∙ complete_by w width a b (HasBits-below p) (HasBits-below q)
    ∙ sym (right w width z assigns x y a b p q) in
    Meets-join z (new_bits_of (w + 1) next).list _ (new_bits_complete z next (w + 1) v assigns has) (rw new_bits_answer (sum, tt))

pub sub_sizes : SubSizes
sub_sizes = record {
  answer = sub_answer;
  end = sub_next;
  fills = λ w x y a b next. omega (arith, sub_next w x y next, length-bits (sub_result w a b + 2 ^ w * borrow a b) (w + 1));
  in_field = λ w a b. bits_in_field (sub_result w a b + 2 ^ w * borrow a b) (w + 1);
}
