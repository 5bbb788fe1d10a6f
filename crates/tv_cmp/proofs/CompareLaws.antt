-- The laws of the comparison.
use Rattle.tv_core.proofs.Common.{◌≡◌, ℕ, ◌+◌, ◌-◌, ◌*◌, ◌/◌, ◌%◌, ◌^◌, ◌<◌, ◌≤◌, List, [], ◌∷◌, ◌++◌, ◌==◌, Bool, true, false, if◌then◌else◌, nat_lt, length}
use Rattle.tv_core.proofs.Common.{refl, sym, subst, ◌∙◌, ap, ap₂, arith, bit_at, slice_index, width_short, IsWidth, length-each_below, value-less, value-wire}
use Rattle.tv_core.proofs.Common.{wire-below, InField-none, InField-cons, Meets-split, Meets-join, HasFrom-split, here, fresh, put, pure, ◌>>=◌, wire, less}
use Rattle.tv_core.proofs.Common.{value, Assigns, Meets, HasFrom, InField}
use Rattle.std.proofs.Common.{int_lt}
use Rattle.std.proofs.Common.{length-append}
use Rattle.tv_bits.proofs.BitLaws.{bit_sound, bit_complete}
use Rattle.tv_bits.proofs.PrefixLaws.{prefix_difference_sound, prefix_difference_complete, prefix_difference_next, length-products, products_in_field}
use Rattle.tv_bits.proofs.SizeLaws.{length-bits, bits_in_field}
use Rattle.tv_bits.proofs.BitNumbers.{HasBits-below, HasBits-bit_at, HasBits-from_values, value-bits_below, value-plus_one}
use Rattle.tv_bits.proofs.BitsLaws.{new_bits_sound, new_bits_complete, new_bits_next}
use Rattle.tv_bits.proofs.TimesLaws.{kept_sound, kept_complete}
use Rattle.tv_bits.specs.Bit.{bit_of}
use Rattle.tv_bits.specs.Bits.{HasBits, binary_value, bits_combination, bits_values, new_bits_of}
use Rattle.tv_bits.specs.Order.{IsPrefixDifference}
use Rattle.tv_bits.specs.Prefixes.{prefix_less_in, prefix_difference_of, prefix_difference_values}
use Rattle.tv_bits.specs.Times.{times_of}
use Rattle.tv_bits.specs.declared.bit_wires.Bits.{Bits}
use Rattle.tv_cmp.proofs.Decisions.{sign_in, decided, settled}
use Rattle.tv_cmp.proofs.Flags.{greater_is, greater_flag-bit}
use Rattle.tv_cmp.specs.Compare.{above_flag, greater_flag, equal_flag, word_bits, sign, but_for_signs, order_flags_of, signed_size_of, compare_of}
use Rattle.tv_cmp.specs.Compare.{size, signed_size, compare_values, CompareIsSound, CompareIsComplete, CompareSizes}
use Rattle.tv_word.specs.Word.{signed}
use Rattle.tv_core.proofs.FieldLaws.{InField-append}
use Rattle.tv_core.specs.declared.field.TheConstants.{P}

module _ (z : List ℕ) (assigns : Assigns z) where
  -- ---- the combinations
  value-sign : (e a : ℕ) → value (sign e a) z ≡ sign_in (slice_index z e) (slice_index z a)
  value-sign e a = omega (arith, assigns.one)

  value-but_for_signs : (a x y : ℕ) → value (but_for_signs a x y) z ≡ (slice_index z a + slice_index z y + (P - slice_index z x)) % P
  value-but_for_signs a x y = let small = wire-below assigns x in omega arith

  -- ---- the flags
  module _ (w : ℕ) (short : w ≤ 32) (e a : ℕ) (x y : Bits) (at u v : ℕ) (s : HasBits z x.first w u) (r : HasBits z y.first w v) where
    apart_value : value (wire e) z * value (less (bits_combination x.first w) (bits_combination y.first w)) z % P ≡ slice_index z e * ((u + (P - v)) % P) % P
    apart_value = search (arith, value-wire, value-less, value-bits_below)

    one_value : value (wire a) z * value (wire e) z % P ≡ slice_index z a * slice_index z e % P
    one_value = ap₂ (λ m n. m * n % P) (value-wire assigns a) (value-wire assigns e)

    order_flags_sound : Meets z (order_flags_of w e a x y at).list
        → (slice_index z a < 2) × (slice_index z e * ((u + (P - v)) % P) % P ≡ 0) × (slice_index z a * slice_index z e % P ≡ 0)
    unfolding order_flags_of put ◌>>=◌
    order_flags_sound meets =
        let both = Meets-split z (bit_of a at).list _ meets in
        (bit_sound z at a assigns both.0, sym apart_value ∙ both.1.0, sym one_value ∙ both.1.1.0)

    order_flags_complete : slice_index z a < 2 → slice_index z e * ((u + (P - v)) % P) % P ≡ 0 → slice_index z a * slice_index z e % P ≡ 0
        → Meets z (order_flags_of w e a x y at).list
    unfolding order_flags_of put ◌>>=◌
    order_flags_complete bit apart one =
        Meets-join z (bit_of a at).list _ (bit_complete z at a assigns bit) (apart_value ∙ apart, (one_value ∙ one, tt))

  -- ---- the size with its sign
  signed_size_sound : (c e a at : ℕ) → c ≤ 62 → Meets z (signed_size_of c e a at).list
      → (d : ℕ) × (0 < d) × (d ≤ 2 ^ c) × (sign_in (slice_index z e) (slice_index z a) * d % P ≡ slice_index z (signed_size_of c e a at).answer)
  unfolding signed_size_of times_of new_bits_of here fresh put pure ◌>>=◌
  signed_size_sound c e a at short meets =
      let both = Meets-split z (new_bits_of c at).list _ meets in
      let s = new_bits_sound z at c assigns both.0 in
      let number = value-plus_one s assigns short in
      let product = ap₂ (λ m n. m * n % P) (sym (value-sign e a)) (sym number) ∙ both.1.0 ∙ value-wire assigns _ in
      (binary_value z at c + 1, omega arith, omega (arith, HasBits-below s), product)

  signed_size_complete : (c e a at n : ℕ) → c ≤ 62 → n < 2 ^ c → HasFrom z at (bits_values n c)
      → sign_in (slice_index z e) (slice_index z a) * (n + 1) % P ≡ slice_index z (at + c) → Meets z (signed_size_of c e a at).list
  unfolding signed_size_of times_of new_bits_of here fresh put pure ◌>>=◌
  signed_size_complete c e a at n short small has product =
      let number = value-plus_one (HasBits-from_values z at c n small has) assigns short in
      let place = new_bits_next c at in
      Meets-join z (new_bits_of c at).list _ (new_bits_complete z at c n assigns has)
      (ap₂ (λ m n. m * n % P) (value-sign e a) number ∙ product ∙ ap (λ k. slice_index z k) (sym place) ∙ sym (value-wire assigns _), tt)

signed_size_next : (c e a at : ℕ) → (signed_size_of c e a at).next ≡ at + c + 1
unfolding signed_size_of times_of fresh put pure ◌>>=◌
signed_size_next c e a at = ap (λ n. n + 1) (new_bits_next c at)

signed_size_answer : (c e a at : ℕ) → (signed_size_of c e a at).answer ≡ at + c
unfolding signed_size_of times_of fresh put pure ◌>>=◌
signed_size_answer c e a at = new_bits_next c at

order_flags_next : (w e a : ℕ) (x y : Bits) (at : ℕ) → (order_flags_of w e a x y at).next ≡ at
unfolding order_flags_of bit_of put ◌>>=◌
order_flags_next w e a x y at = refl

-- ---- what the circuit answers, and where it ends
pub compare_answer : (w : ℕ) (x y : Bits) (next : ℕ) → (compare_of w x y next).answer ≡ record { equal = next; above = next + 1; greater = next + (w / 4 + 5) }
unfolding compare_of times_of fresh put pure ◌>>=◌
compare_answer w x y next =
    ap (λ g. record { equal = next; above = next + 1; greater = g }) (last w x y next)
  where
    last : (w : ℕ) (x y : Bits) (next : ℕ) → (prefix_difference_of (word_bits w x) (word_bits w y)
        (wire (signed_size_of (w / 4) next (next + 1) (order_flags_of w next (next + 1) x y (next + 1 + 1)).next).answer) (w / 4) 4
        (signed_size_of (w / 4) next (next + 1) (order_flags_of w next (next + 1) x y (next + 1 + 1)).next).next).next ≡ next + (w / 4 + 5)
    last w x y next = prefix_difference_next (word_bits w x) (word_bits w y)
        (wire (signed_size_of (w / 4) next (next + 1) (order_flags_of w next (next + 1) x y (next + 1 + 1)).next).answer) (w / 4) 4 _
        ∙ omega (
          arith,
          signed_size_next (w / 4) next (next + 1) (order_flags_of w next (next + 1) x y (next + 1 + 1)).next,
          order_flags_next w next (next + 1) x y (next + 1 + 1),
        )

pub compare_next : (w : ℕ) (x y : Bits) (next : ℕ) → (compare_of w x y next).next ≡ next + (w / 4 + 6)
unfolding compare_of times_of fresh put pure ◌>>=◌
compare_next w x y next = search (arith, prefix_difference_next, signed_size_next, order_flags_next)

-- ---- the laws
-- whether the first is greater, from whether it is above and the sign bits
sign_bits : (w : ℕ) → IsWidth w → (g a x y u v : ℕ) → u < 2 ^ w → v < 2 ^ w → a ≡ above_flag u v → x ≡ bit_at u (w - 1) → y ≡ bit_at v (w - 1) → g < P
    → g ≡ (a + y + (P - x)) % P → g ≡ greater_flag w u v
sign_bits w width g a x y u v h k is_a is_x is_y small e = let both = greater_is w width u v h k in let bit = greater_flag-bit w u v in grind arith

but_for_bits : (w : ℕ) → IsWidth w → (a x y u v : ℕ) → u < 2 ^ w → v < 2 ^ w → a ≡ above_flag u v → x ≡ bit_at u (w - 1) → y ≡ bit_at v (w - 1)
    → greater_flag w u v ≡ (a + y + (P - x)) % P
but_for_bits w width a x y u v h k is_a is_x is_y = let both = greater_is w width u v h k in let bit = greater_flag-bit w u v in grind arith

pub compare_sound : CompareIsSound
unfolding compare_of times_of fresh put pure ◌>>=◌
compare_sound w width z next x y u v assigns s r meets =
    let short = width_short w width in
    let e = next in
    let a = next + 1 in
    let flags = order_flags_of w e a x y (next + 1 + 1) in
    let made = signed_size_of (w / 4) e a flags.next in
    let prefix = prefix_difference_of (word_bits w x) (word_bits w y) (wire made.answer) (w / 4) 4 made.next in
    let first = Meets-split z flags.list _ meets in
    let second = Meets-split z made.list _ first.1 in
    let third = Meets-split z prefix.list _ second.1 in
    let held = order_flags_sound z assigns w short e a x y (next + 1 + 1) u v s r first.0 in
    let sized = signed_size_sound z assigns (w / 4) e a flags.next (omega arith) second.0 in
    let difference = prefix_difference_sound z made.next (word_bits w x) (word_bits w y) (wire made.answer) (w / 4) 4 u v (omega arith) (omega arith)
    (omega arith) (omega arith) (omega arith) assigns
    s r third.0 in
    let decision = decided w width u v (slice_index z e) (slice_index z a) sized.0 (slice_index z made.answer) (HasBits-below s) (HasBits-below r)
    (wire-below assigns e) sized.1 sized.2 (record {
      bit = held.0;
      apart = held.1;
      one = held.2;
      signed = sized.3;
      prefix = subst (λ n. IsPrefixDifference (w / 4) 4 u v n) (value-wire assigns made.answer) difference;
    }) in
    let signs = kept_sound z prefix.next (but_for_signs a (x.first + (w - 1)) (y.first + (w - 1))) assigns third.1
    ∙ value-but_for_signs z assigns a (x.first + (w - 1)) (y.first + (w - 1)) in
    record {
      equal = decision.0;
      above = decision.1;
      greater = sign_bits w width _ _ _ _ u v (HasBits-below s) (HasBits-below r) decision.1 (HasBits-bit_at s (w - 1) (grind arith))
          (HasBits-bit_at r (w - 1) (grind arith)) (wire-below assigns prefix.next) signs;
    }

pub compare_complete : CompareIsComplete
unfolding compare_of times_of fresh put pure ◌>>=◌
compare_complete w width z next x y u v assigns s r has =
    let short = width_short w width in
    let e = next in
    let a = next + 1 in
    let at = next + 1 + 1 in
    let flags = order_flags_of w e a x y at in
    let made = signed_size_of (w / 4) e a flags.next in
    let prefix = prefix_difference_of (word_bits w x) (word_bits w y) (wire made.answer) (w / 4) 4 made.next in
    let held = settled w width u v (HasBits-below s) (HasBits-below r) in
    let sizes = HasFrom-split z at (bits_values (size w u v - 1) (w / 4)) _ has.1.1 in
    let rest = rw length-each_below at sizes.1 in
    let products = HasFrom-split z (at + w / 4 + 1) (prefix_difference_values u v (signed_size w u v) (w / 4) 4) _ rest.1 in
    let last = rw length-each_below at products.1 in
    let flags_end = order_flags_next w e a x y at in
    let made_end : made.next ≡ at + w / 4 + 1 = signed_size_next (w / 4) e a flags.next ∙ ap (λ n. n + w / 4 + 1) flags_end in
    let made_at : made.answer ≡ at + w / 4 = signed_size_answer (w / 4) e a flags.next ∙ ap (λ n. n + w / 4) flags_end in
    let prefix_end : prefix.next ≡ at + w / 4 + 1 + 2 = prefix_difference_next (word_bits w x) (word_bits w y) (wire made.answer) (w / 4) 4 made.next
    ∙ ap (λ n. n + 2) made_end in
    let difference : value (wire made.answer) z ≡ signed_size w u v = value-wire assigns made.answer ∙ ap (λ k. slice_index z k) made_at ∙ rest.0 in
    let flags_met = order_flags_complete z assigns w short e a x y at u v s r
    (omega (arith, has.1.0, held.1.bit)) (ap (λ n. n * ((u + (P - v)) % P) % P) has.0 ∙ held.1.apart) (ap₂ (λ m n. m * n % P) has.1.0 has.0 ∙ held.1.one) in
    let made_met = signed_size_complete z assigns (w / 4) e a flags.next (size w u v - 1) (omega arith) held.0
    (subst (λ n. HasFrom z n (bits_values (size w u v - 1) (w / 4))) (sym flags_end) sizes.0)
    (ap₂ (λ m n. sign_in m n * (size w u v - 1 + 1) % P) has.0 has.1.0 ∙ held.1.signed ∙ sym rest.0 ∙ ap (λ n. slice_index z (n + w / 4)) (sym flags_end)) in
    let prefix_met = prefix_difference_complete z made.next (word_bits w x) (word_bits w y) (wire made.answer) (w / 4) 4 u v (omega arith) (omega arith)
    (omega arith) (omega arith) (omega arith) assigns
    s r (subst (λ n. IsPrefixDifference (w / 4) 4 u v n) (sym difference) held.1.prefix)
    (subst (λ n. HasFrom z n (prefix_difference_values u v (value (wire made.answer) z) (w / 4) 4)) (sym made_end)
    (subst (λ n. HasFrom z (at + w / 4 + 1) (prefix_difference_values u v n (w / 4) 4)) (sym difference) products.0)) in
    let greater : slice_index z prefix.next ≡ greater_flag w u v = ap (λ n. slice_index z n) prefix_end ∙ last.0 in
    let signs = but_for_bits w width (slice_index z a) (slice_index z (x.first + (w - 1))) (slice_index z (y.first + (w - 1))) u v (HasBits-below s)
    (HasBits-below r) has.1.0 (HasBits-bit_at s (w - 1) (grind arith)) (HasBits-bit_at r (w - 1) (grind arith)) in
    let greater_met = kept_complete z prefix.next (but_for_signs a (x.first + (w - 1)) (y.first + (w - 1))) assigns
    (greater ∙ signs ∙ sym (value-but_for_signs z assigns a (x.first + (w - 1)) (y.first + (w - 1))), tt) in
    Meets-join z flags.list _ flags_met (Meets-join z made.list _ made_met (Meets-join z prefix.list _ prefix_met greater_met))

-- ---- how many values there are, and that they are numbers of the field
length-compare : (w u v : ℕ) → length (compare_values w u v) ≡ w / 4 + 6
length-compare w u v =
    let products = prefix_difference_values u v (signed_size w u v) (w / 4) 4 in
    omega (
      arith,
      length-append (bits_values (size w u v - 1) (w / 4)) (signed_size w u v ∷ (products ++ greater_flag w u v ∷ [])),
      length-append products (greater_flag w u v ∷ []),
      length-bits (size w u v - 1) (w / 4),
      length-products (λ j. prefix_less_in u v (signed_size w u v) (w / 4 * j)) 4,
    )

small_flag : (t : Bool) → (if t then 1 else 0) < P
small_flag true = omega arith
small_flag false = omega arith

compare_in_field : (w u v : ℕ) → InField (compare_values w u v)
compare_in_field w u v =
    let bits = bits_values (size w u v - 1) (w / 4) in
    let products = prefix_difference_values u v (signed_size w u v) (w / 4) 4 in
    let last = greater_flag w u v ∷ [] in
    let rest = signed_size w u v ∷ (products ++ last) in
    let last_in = InField-cons (greater_flag w u v) [] (small_flag (int_lt (signed w v) (signed w u))) InField-none in
    let products_in = products_in_field (λ j. prefix_less_in u v (signed_size w u v) (w / 4 * j)) 4 in
    let rest_in = InField-cons (signed_size w u v) (products ++ last) (omega arith) (InField-append products last products_in last_in) in
    let all_in = InField-append bits rest (bits_in_field (size w u v - 1) (w / 4)) rest_in in
    InField-cons (equal_flag u v) (above_flag u v ∷ (bits ++ rest)) (small_flag (u == v))
    (InField-cons (above_flag u v) (bits ++ rest) (small_flag (nat_lt v u)) all_in)

pub compare_sizes : CompareSizes
compare_sizes = record {
  answer = compare_answer;
  end = compare_next;
  fills = λ w x y u v next. omega (arith, compare_next w x y next, length-compare w u v);
  in_field = compare_in_field;
}
