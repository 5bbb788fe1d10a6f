-- How many wires the gadgets of bits make, which they answer, and that their values are as many, and of the field.
use Rattle.tv_core.proofs.Common.{◌≡◌, ℕ, ◌+◌, ◌<◌, ◌^◌, [], ◌∷◌, length, refl, sym, ◌∙◌, ap, arith, bit_at, nat_tests, length-each_below, InField-none}
use Rattle.tv_core.proofs.Common.{InField-cons, here, fresh, put, pure, ◌>>=◌, InField}
use Rattle.std.proofs.Common.{add-zero}
use Rattle.std.proofs.lemmas.Nat.Bits.{bit_at-lt}
use Rattle.tv_core.proofs.FieldLaws.{InField-each_below}
use Rattle.tv_core.proofs.InverseLaws.{inverse_of-below}
use Rattle.tv_core.specs.Inverse.{inverse_of}
use Rattle.tv_core.specs.declared.field.TheConstants.{P}
use Rattle.tv_bits.proofs.BitLaws.{bit_sound, bit_complete}
use Rattle.tv_bits.proofs.OneHotLaws.{onehot_next}
use Rattle.tv_bits.proofs.PairLaws.{two_ands_sound, two_ands_complete}
use Rattle.tv_bits.proofs.SelectLaws.{select_answer, select_next, pick_sound, pick_complete}
use Rattle.tv_bits.proofs.BitsLaws.{new_bits_answer, new_bits_next, bits_answer, bits_next, new_bits_sound, new_bits_complete, bits_sound, bits_complete}
use Rattle.tv_bits.proofs.ZeroLaws.{zero_answer, zero_next, zero_sound, zero_complete}
use Rattle.tv_bits.specs.Bit.{bit_of, BitSizes}
use Rattle.tv_bits.specs.Bits.{bits_values, NewBitsSizes, BitsSizes}
use Rattle.tv_bits.specs.OneHot.{one_at, onehot_values, onehot_of, OneHotSizes}
use Rattle.tv_bits.specs.Pairs.{two_ands_of, TwoAndsSizes}
use Rattle.tv_bits.specs.Select.{selected, pick_of, select_values, PickSizes, SelectSizes}
use Rattle.tv_bits.specs.Zero.{zero_flag, zero_values, ZeroSizes}

pub length-bits : (v n : ℕ) → length (bits_values v n) ≡ n
length-bits v n = length-each_below n (bit_at v)

pub bits_in_field : (v n : ℕ) → InField (bits_values v n)
bits_in_field v n = InField-each_below (bit_at v) (λ i. let bit = bit_at-lt v i in omega arith) n

pub bit_sizes : BitSizes
unfolding bit_of put
bit_sizes = record {
  end = λ w next. refl;
  fills = λ w next. sym (add-zero next);
  in_field = InField-none;
}

pub new_bits_sizes : NewBitsSizes
new_bits_sizes = record {
  answer = new_bits_answer;
  end = new_bits_next;
  fills = λ n v next. new_bits_next n next ∙ ap (λ k. next + k) (sym (length-bits v n));
  in_field = λ n v. bits_in_field v n;
}

pub bits_sizes : BitsSizes
bits_sizes = record {
  answer = bits_answer;
  end = bits_next;
  fills = λ x n v next. bits_next x n next ∙ ap (λ k. next + k) (sym (length-bits v n));
  in_field = λ n v. bits_in_field v n;
}

pub zero_flag-below : (v : ℕ) → zero_flag v < P
zero_flag-below v = grind (arith, nat_tests)

pub zero_in_field : (v : ℕ) → InField (zero_values v)
zero_in_field v = InField-cons (zero_flag v) (inverse_of v ∷ []) (zero_flag-below v) (InField-cons (inverse_of v) [] (inverse_of-below v) InField-none)

pub zero_sizes : ZeroSizes
zero_sizes = record {
  answer = zero_answer;
  end = zero_next;
  fills = λ x v next. zero_next x next;
  in_field = zero_in_field;
}

pub selected-below : (c v w : ℕ) → v < P → w < P → selected c v w < P
selected-below c v w h k = grind (arith, nat_tests)

pub select_in_field : (c v w : ℕ) → v < P → w < P → InField (select_values c v w)
select_in_field c v w h k = InField-cons (selected c v w) [] (selected-below c v w h k) InField-none

pub pick_sizes : PickSizes
unfolding pick_of fresh put pure ◌>>=◌
pick_sizes = record {
  answer = λ b x y next. refl;
  end = λ b x y next. refl;
  fills = λ b x y c v w next. refl;
  in_field = select_in_field;
}

pub select_sizes : SelectSizes
select_sizes = record {
  answer = select_answer;
  end = select_next;
  fills = λ b x y c v w next. select_next b x y next;
  in_field = select_in_field;
}

one_at-below : (v i : ℕ) → one_at v i < P
one_at-below v i = grind (arith, nat_tests)

pub onehot_in_field : (v n : ℕ) → InField (onehot_values v n)
onehot_in_field v n = InField-each_below (one_at v) (one_at-below v) (2 ^ n)

pub onehot_sizes : OneHotSizes
unfolding onehot_of here put pure ◌>>=◌
onehot_sizes = record {
  answer = λ x next. refl;
  end = onehot_next;
  fills = λ x v next. onehot_next x next ∙ ap (λ k. next + k) (sym (length-each_below (2 ^ x.n) (one_at v)));
  in_field = onehot_in_field;
}

pub two_ands_sizes : TwoAndsSizes
unfolding two_ands_of put
two_ands_sizes = record {
  end = λ x_a y_a x_b y_b γ m next. refl;
  fills = λ x_a y_a x_b y_b γ m next. sym (add-zero next);
  in_field = InField-none;
}

pub ruleset bit_laws = (bit_sound, bit_complete, bit_sizes)

pub ruleset new_bits_laws = (new_bits_sound, new_bits_complete, new_bits_sizes)

pub ruleset bits_laws = (bits_sound, bits_complete, bits_sizes)

pub ruleset two_ands_laws = (two_ands_sound, two_ands_complete, two_ands_sizes)

pub ruleset pick_laws = (pick_sound, pick_complete, pick_sizes)

pub ruleset zero_laws = (zero_sound, zero_complete, zero_sizes)
