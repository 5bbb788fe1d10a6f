-- The laws of a sum.
use Rattle.tv_core.proofs.Common.{◌≡◌, ℕ, ◌+◌, ◌*◌, ◌/◌, ◌%◌, ◌^◌, ◌-◌, ◌<◌, List, ap, ap₂, sym, subst, ◌∙◌, arith, nat_tests, value-append, scaled, value}
use Rattle.tv_core.proofs.Common.{HasFrom, width_short, IsWidth}
use Rattle.tv_bits.proofs.SizeLaws.{length-bits, bits_in_field}
use Rattle.tv_bits.proofs.BitNumbers.{HasBits-below, value-bits_below}
use Rattle.tv_bits.specs.Bits.{HasBits, bits_combination, bits_values}
use Rattle.tv_bits.specs.declared.bit_wires.Bits.{Bits}
use Rattle.tv_core.proofs.CombinationLaws.{value-scaled}
use Rattle.tv_core.specs.declared.field.TheConstants.{P}
use Rattle.tv_limb.proofs.SplitLaws.{split_sound, split_complete, split_answer, split_next}
use Rattle.tv_limb.specs.Split.{split_at}
use Rattle.tv_limb.specs.Sum.{sum_of_words, add_of, AddIsSound, AddIsComplete, AddSizes}
use Rattle.tv_rows.specs.RowSum.{carry}

-- what the circuit answers, and where it ends
pub add_answer : (w : ℕ) (x y : Bits) (next : ℕ) → (add_of w x y next).answer ≡ split_at w (record { first = next; n = w + 1 })
unfolding add_of
add_answer w x y next = split_answer w (sum_of_words w x y) (w + 1) next

pub add_next : (w : ℕ) (x y : Bits) (next : ℕ) → (add_of w x y next).next ≡ next + (w + 1)
unfolding add_of
add_next w x y next = split_next w (sum_of_words w x y) (w + 1) next

-- the numbers
whole_sum : (w : ℕ) → IsWidth w → (a b : ℕ) → a < 2 ^ w → b < 2 ^ w → (a + 1 * b % P) % P ≡ a + b
whole_sum w width a b h k = grind arith

small_sum : (w : ℕ) → IsWidth w → (a b : ℕ) → a < 2 ^ w → b < 2 ^ w → a + b < 2 ^ (w + 1)
small_sum w width a b h k = grind arith

carried : (w : ℕ) → IsWidth w → (a b : ℕ) → a < 2 ^ w → b < 2 ^ w → (a + b) / 2 ^ w ≡ carry w a b
carried w width a b h k = grind (arith, nat_tests)

value-sum : (w : ℕ) → IsWidth w → (z : List ℕ) (x y : Bits) (a b : ℕ) → HasBits z x.first w a → HasBits z y.first w b → value (sum_of_words w x y) z ≡ a + b
value-sum w width z x y a b p q =
    let left = bits_combination x.first w in
    let right = bits_combination y.first w in
    let short = width_short w width in
    value-append left (scaled 1 right) z
    ∙ ap₂ (λ m n. (m + n) % P) (value-bits_below p (omega arith)) (value-scaled 1 right z ∙ ap (λ n. 1 * n % P) (value-bits_below q (omega arith)))
    ∙ whole_sum w width a b (HasBits-below p) (HasBits-below q)

pub add_sound : AddIsSound
unfolding add_of
add_sound w width z next x y a b assigns p q meets =
    let short = width_short w width in
    let s = split_sound w z next (sum_of_words w x y) (w + 1) (omega arith) (omega arith) assigns meets in
    let one : w + 1 - w ≡ 1 = omega arith in
    rw (value-sum w width z x y a b p q, carried w width a b (HasBits-below p) (HasBits-below q), one) at s

pub add_complete : AddIsComplete
unfolding add_of
add_complete w width z next x y a b assigns p q has =
    let same = value-sum w width z x y a b p q in
    let small : value (sum_of_words w x y) z < 2 ^ (w + 1) = omega (arith, same, small_sum w width a b (HasBits-below p) (HasBits-below q)) in
    split_complete w z next (sum_of_words w x y) (w + 1) small assigns (subst (λ v. HasFrom z next (bits_values v (w + 1))) (sym same) has)

pub add_sizes : AddSizes
add_sizes = record {
  answer = add_answer;
  end = add_next;
  fills = λ w x y a b next. omega (arith, add_next w x y next, length-bits (a + b) (w + 1));
  in_field = λ w a b. bits_in_field (a + b) (w + 1);
}
