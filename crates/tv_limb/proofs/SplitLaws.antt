-- The laws of a number in two parts.
use Rattle.tv_core.proofs.Common.{◌≡◌, ℕ, ◌+◌, ◌-◌, ◌/◌, ◌%◌, ◌^◌, List, [], ap, subst, arith, Meets-split, Meets-join, pure, ◌>>=◌, Combination, value}
use Rattle.tv_bits.proofs.SizeLaws.{length-bits, bits_in_field}
use Rattle.tv_bits.proofs.BitNumbers.{HasBits-low, HasBits-high}
use Rattle.tv_bits.proofs.BitsLaws.{bits_sound, bits_complete, bits_answer, bits_next}
use Rattle.tv_bits.specs.Bits.{HasBits, bits_of}
use Rattle.tv_limb.specs.Split.{HasPartBits, split_at, split_of, SplitIsSound, SplitIsComplete, SplitSizes}

-- what the circuit answers, and where it ends
pub split_answer : (w : ℕ) (x : Combination) (n next : ℕ) → (split_of w x n next).answer ≡ split_at w (record { first = next; n = n })
unfolding split_of pure ◌>>=◌
split_answer w x n next = ap (split_at w) (bits_answer x n next)

pub split_next : (w : ℕ) (x : Combination) (n next : ℕ) → (split_of w x n next).next ≡ next + n
unfolding split_of pure ◌>>=◌
split_next w x n next = bits_next x n next

-- what wires represent in two parts
pub HasPartBits-from_HasBits : (w m : ℕ) (z : List ℕ) (first n v : ℕ) → HasBits z first (w + m) v
    → HasPartBits w m z (split_at w (record { first = first; n = n })) (v % 2 ^ w) (v / 2 ^ w)
HasPartBits-from_HasBits w m z first n v s = record { low = HasBits-low z first w m v s; high = HasBits-high z first w m v s }

pub split_sound : SplitIsSound
unfolding split_of pure ◌>>=◌
split_sound w z next x n long short assigns meets =
    let made = (bits_of x n next).answer in
    let s = bits_sound z next x n short assigns (Meets-split z (bits_of x n next).list [] meets).0 in
    let same : n ≡ w + (n - w) = omega arith in
    HasPartBits-from_HasBits w (n - w) z made.first made.n (value x z) (subst (λ k. HasBits z made.first k (value x z)) same s)

pub split_complete : SplitIsComplete
unfolding split_of pure ◌>>=◌
split_complete w z next x n small assigns has =
    Meets-join z (bits_of x n next).list [] (bits_complete z next x n small assigns has) tt

pub split_sizes : SplitSizes
split_sizes = record {
  answer = split_answer;
  end = split_next;
  fills = λ w x n v next. omega (arith, split_next w x n next, length-bits v n);
  in_field = bits_in_field;
}

pub ruleset split_laws = (split_sound, split_complete, split_sizes)
