-- The laws of a division in a row.
use Rattle.tv_core.proofs.Common.{◌≡◌, ℕ, ◌+◌, ◌-◌, ◌*◌, ◌%◌, ◌^◌, ◌<◌, List, [], ◌∷◌, ◌++◌, refl, sym, ◌∙◌, ap, ap₂, arith, zero-mul, mod-eq_of_lt}
use Rattle.tv_core.proofs.Common.{slice_index, value-below, value-append, value-cons, value-wire, wire-below, InField-none, InField-cons, fresh, put, pure}
use Rattle.tv_core.proofs.Common.{◌>>=◌, wire, Combination, value, Assigns, Meets, HasFrom, width_short, IsWidth}
use Rattle.std.proofs.Common.{one-mul}
use Rattle.tv_bits.proofs.GateLaws.{gated_sound, gated_complete}
use Rattle.tv_bits.proofs.BitNumbers.{HasBits-below, value-bits_below}
use Rattle.tv_bits.proofs.TimesLaws.{times_sound, times_complete, residue_below}
use Rattle.tv_bits.specs.Bit.{IsBit}
use Rattle.tv_bits.specs.Bits.{HasBits}
use Rattle.tv_bits.specs.DoubleRow.{IsRow}
use Rattle.tv_bits.specs.Gate.{gated_of}
use Rattle.tv_bits.specs.Times.{times_of}
use Rattle.tv_bits.specs.Zero.{zero_flag}
use Rattle.tv_bits.specs.declared.bit_wires.Bits.{Bits}
use Rattle.tv_bits.specs.declared.double_rows.DoubleRow.{DoubleRow}
use Rattle.tv_core.proofs.BelowLaws.{length-weighted}
use Rattle.tv_core.proofs.CombinationLaws.{value-empty}
use Rattle.tv_core.proofs.FieldLaws.{word-below}
use Rattle.tv_core.proofs.NormalLaws.{residue_first}
use Rattle.tv_core.specs.declared.field.TheConstants.{P}
use Rattle.tv_row_products.proofs.RowDivisionNumbers.{Divides, Divides-sound, division_row, below_word, division_met}
use Rattle.tv_row_products.specs.RowDivision.{dividing, IsRowDivision, below_divisor, room_below, bits_less, row_division_of, row_division_values}
use Rattle.tv_row_products.specs.RowDivision.{RowDivisionIsSound, RowDivisionIsComplete, RowDivisionSizes, RowDivisionCosts}

-- ---- the combinations
module _ (z : List ℕ) (assigns : Assigns z) where
  value-two : (i j : ℕ) → value (wire i ++ wire j) z ≡ (slice_index z i + slice_index z j) % P
  value-two i j = value-append (wire i) (wire j) z ∙ ap₂ (λ m n. (m + n) % P) (value-wire assigns i) (value-wire assigns j)

  value-three : (i j k : ℕ) → value (wire i ++ (wire j ++ wire k)) z ≡ (slice_index z i + slice_index z j + slice_index z k) % P
  value-three i j k = value-append (wire i) (wire j ++ wire k) z ∙ ap₂ (λ m n. (m + n) % P) (value-wire assigns i) (value-two j k) ∙ omega arith

  value-room : (w x y by_zero : ℕ) (row : DoubleRow) → value (room_below w x y by_zero row) z ≡ (P - 1 + (P - 1) * slice_index z x + slice_index z y +
      (P - 1) * slice_index z row.low + 2 ^ w * slice_index z by_zero) % P
  value-room w x y by_zero row =
      let f = slice_index z by_zero in
      let last : value ((P - 1, row.low) ∷ []) z ≡ (P - 1) * slice_index z row.low % P
      = value-cons (P - 1) row.low [] z ∙ ap (λ n. ((P - 1) * slice_index z row.low + n) % P) (value-empty z) ∙ once ((P - 1) * slice_index z row.low) in
      let bit = value-cons (2 ^ w % P) by_zero ((P - 1, row.low) ∷ []) z ∙ ap (λ n. (2 ^ w % P * f + n) % P) last
      ∙ both (2 ^ w) f ((P - 1) * slice_index z row.low) in
      let second = value-cons 1 y ((2 ^ w % P, by_zero) ∷ (P - 1, row.low) ∷ []) z ∙ ap (λ n. (1 * slice_index z y + n) % P) bit in
      let first = value-cons (P - 1) x ((1, y) ∷ (2 ^ w % P, by_zero) ∷ (P - 1, row.low) ∷ []) z ∙ ap (λ n. ((P - 1) * slice_index z x + n) % P) second in
      value-cons (P - 1) 0 ((P - 1, x) ∷ (1, y) ∷ (2 ^ w % P, by_zero) ∷ (P - 1, row.low) ∷ []) z ∙ ap₂ (λ m n. ((P - 1) * m + n) % P) assigns.one first
      ∙ flat ((P - 1) * slice_index z x) (slice_index z y) ((P - 1) * slice_index z row.low) (2 ^ w * f)
    where
      once : (n : ℕ) → (n + 0) % P ≡ n % P
      once n = omega arith

      flat_last : (m l : ℕ) → (m + l % P) % P ≡ (m + l) % P
      flat_last m l = omega arith

      both : (k f l : ℕ) → (k % P * f + l % P) % P ≡ (k * f + l) % P
      both k f l = residue_first k f (l % P) ∙ flat_last (k * f) l

      flat : (x y l f : ℕ) → ((P - 1) * 1 + (x + (1 * y + (f + l) % P) % P) % P) % P ≡ (P - 1 + x + y + l + f) % P
      flat x y l f = omega arith

  value-bits_less : (w : ℕ) → IsWidth w → (x : ℕ) (bits : Bits) (v : ℕ) → HasBits z bits.first w v
      → value (bits_less w x bits) z ≡ ((P - 1) * slice_index z x + v) % P
  value-bits_less w width x bits v s = search (arith, width_short, value-cons, value-bits_below)

-- the tie of the bits, as numbers: x, y, the low half, the bit's part, and the bits' number
tie_on : (a b l f v : ℕ) → (P - 1 + (P - 1) * a + b + (P - 1) * l + f) % P ≡ ((P - 1) * a + v) % P → (b + f) % P ≡ (1 + l + v) % P
tie_on a b l f v e = omega arith

tie_back : (a b l f v : ℕ) → (b + f) % P ≡ (1 + l + v) % P → (P - 1 + (P - 1) * a + b + (P - 1) * l + f) % P ≡ ((P - 1) * a + v) % P
tie_back a b l f v e = omega arith

tie_off : (a v : ℕ) → a < P → v < P → 0 ≡ ((P - 1) * a + v) % P → a ≡ v
tie_off a v h k e = omega arith

tie_same : (a v : ℕ) → a ≡ v → 0 ≡ ((P - 1) * a + v) % P
tie_same a v e = omega arith

kept_times : (w : ℕ) (z : List ℕ) (next : ℕ) (gate : Combination) (x y by_zero : ℕ) (bits : Bits) (row : DoubleRow) → Assigns z
    → Meets z (row_division_of w gate (dividing x y by_zero) bits row next).list → slice_index z next ≡ slice_index z by_zero * slice_index z x % P
unfolding row_division_of times_of fresh put pure ◌>>=◌
kept_times w z next gate x y by_zero bits row assigns meets =
    times_sound z next (wire by_zero) (wire x) assigns (meets.0, tt) ∙ ap₂ (λ m n. m * n % P) (value-wire assigns by_zero) (value-wire assigns x)

module _ (w : ℕ) (width : IsWidth w) (z : List ℕ) (next : ℕ) (gate : Combination) (x y by_zero : ℕ) (bits : Bits) (row : DoubleRow) (assigns : Assigns z) where
  sums : Combination
  sums = wire row.low ++ (wire next ++ wire (next + 1))

  product_is : Meets z (row_division_of w gate (dividing x y by_zero) bits row next).list
      → slice_index z (next + 1) ≡ slice_index z row.high * ((slice_index z y + slice_index z by_zero) % P) % P
  unfolding row_division_of times_of fresh put pure ◌>>=◌
  product_is meets = search (arith, times_sound, value-wire, value-two)

  parts_are : value gate z ≡ 1 → Meets z (row_division_of w gate (dividing x y by_zero) bits row next).list
      → slice_index z x ≡ (slice_index z row.low + slice_index z next + slice_index z (next + 1)) % P
  unfolding row_division_of times_of gated_of fresh put pure ◌>>=◌ sums
  parts_are one meets = sym (value-wire assigns x) ∙ gated_sound z (next + 2) gate (wire x) sums one (meets.1.1.0, tt)
      ∙ value-three z assigns row.low next (next + 1)

  tie_is : Meets z (row_division_of w gate (dividing x y by_zero) bits row next).list
      → value gate z * value (room_below w x y by_zero row) z % P ≡ value (bits_less w x bits) z
  unfolding row_division_of times_of gated_of fresh put pure ◌>>=◌
  tie_is meets = meets.1.1.1.0

  on_by : (v : ℕ) → value gate z ≡ 1 → IsBit (slice_index z by_zero) → slice_index z x < 2 ^ w → slice_index z y < 2 ^ w
      → IsRow w (slice_index z row.low) (slice_index z row.high)
      → HasBits z bits.first w v → Meets z (row_division_of w gate (dividing x y by_zero) bits row next).list
      → IsRowDivision z row by_zero (slice_index z x) (slice_index z y)
  on_by v one bit a_word b_word r s meets =
      let a = slice_index z x in
      let tie = sym (value-room z assigns w x y by_zero row) ∙ sym (once_times gate (room_below w x y by_zero row) one) ∙ tie_is meets
      ∙ value-bits_less z assigns w width x bits v s in
      let divided = Divides-sound w width a (slice_index z y) (slice_index z row.low) (slice_index z row.high) (slice_index z by_zero) (slice_index z next)
      (slice_index z (next + 1)) v a_word b_word (HasBits-below s) bit r (record {
        keeps = sym (kept_times w z next gate x y by_zero bits row assigns meets);
        multiplies = sym (product_is meets);
        parts = mod-eq_of_lt (wire-below assigns x) ∙ parts_are one meets;
        below = tie_on a (slice_index z y) (slice_index z row.low) (2 ^ w * slice_index z by_zero) v tie;
      }) in
      record { rem = divided.rem; quot = divided.quot; zero = divided.zero }
    where
      once_times : (g c : Combination) → value g z ≡ 1 → value g z * value c z % P ≡ value c z
      once_times g c one = ap (λ n. n * value c z % P) one ∙ ap (λ n. n % P) (one-mul (value c z)) ∙ mod-eq_of_lt (value-below c z)

  off_by : (v : ℕ) → value gate z ≡ 0 → HasBits z bits.first w v → Meets z (row_division_of w gate (dividing x y by_zero) bits row next).list
      → slice_index z x ≡ v
  off_by v none s meets =
      let nothing : value gate z * value (room_below w x y by_zero row) z % P ≡ 0 =
      ap (λ n. n * value (room_below w x y by_zero row) z % P) none ∙ ap (λ n. n % P) (zero-mul (value (room_below w x y by_zero row) z)) in
      tie_off (slice_index z x) v (wire-below assigns x) (word-below w width v (HasBits-below s)) (sym nothing ∙ tie_is meets
      ∙ value-bits_less z assigns w width x bits v s)

  -- ---- the other way round
  products_met : HasFrom z next (row_division_values (slice_index z by_zero) (slice_index z x) (slice_index z row.high) (slice_index z y))
      → Meets z (times_of (wire by_zero) (wire x) next).list × Meets z (times_of (wire row.high) (wire y ++ wire by_zero) (next + 1)).list
  products_met has = search (arith, times_complete, value-wire, value-two)

  met_by : HasFrom z next (row_division_values (slice_index z by_zero) (slice_index z x) (slice_index z row.high) (slice_index z y))
      → Meets z (gated_of gate (wire x) sums (next + 2)).list → value gate z * value (room_below w x y by_zero row) z % P ≡ value (bits_less w x bits) z
      → Meets z (row_division_of w gate (dividing x y by_zero) bits row next).list
  unfolding row_division_of times_of gated_of fresh put pure ◌>>=◌ sums
  met_by has parts tie = let products = products_met has in (products.0.0, (products.1.0, (parts.0, (tie, tt))))

  divides : slice_index z x < 2 ^ w → slice_index z y < 2 ^ w → IsRowDivision z row by_zero (slice_index z x) (slice_index z y)
      → HasFrom z next (row_division_values (slice_index z by_zero) (slice_index z x) (slice_index z row.high) (slice_index z y))
      → Divides w (slice_index z x) (slice_index z y) (slice_index z row.low) (slice_index z row.high) (slice_index z by_zero) (slice_index z next)
      (slice_index z (next + 1)) (below_divisor w (slice_index z x) (slice_index z y))
  divides a_word b_word is has =
      let a = slice_index z x in
      let b = slice_index z y in
      let d = division_met w width a b a_word b_word in
      let kept = has.0 ∙ ap (λ n. n * a % P) is.zero in
      let product = has.1.0 ∙ ap₂ (λ m n. m * ((b + n) % P) % P) is.quot is.zero in
      record {
        keeps = sym has.0;
        multiplies = sym has.1.0;
        parts = d.parts ∙ ap₂ (λ m n. (m + zero_flag b * a % P + n) % P) (sym is.rem) (sym product)
            ∙ ap (λ n. (slice_index z row.low + n + slice_index z (next + 1)) % P) (sym kept);
        below = ap (λ n. (b + 2 ^ w * n) % P) is.zero ∙ d.below ∙ ap (λ n. (1 + n + below_divisor w a b) % P) (sym is.rem);
      }

  on_met : value gate z ≡ 1 → slice_index z x < 2 ^ w → slice_index z y < 2 ^ w → IsRowDivision z row by_zero (slice_index z x) (slice_index z y)
      → HasBits z bits.first w (below_divisor w (slice_index z x) (slice_index z y))
      → HasFrom z next (row_division_values (slice_index z by_zero) (slice_index z x) (slice_index z row.high) (slice_index z y))
      → Meets z (row_division_of w gate (dividing x y by_zero) bits row next).list
  unfolding sums
  on_met one a_word b_word is s has =
      let a = slice_index z x in
      let b = slice_index z y in
      let d = divides a_word b_word is has in
      let parts = value-wire assigns x ∙ sym (mod-eq_of_lt (wire-below assigns x)) ∙ d.parts ∙ sym (value-three z assigns row.low next (next + 1)) in
      let tie = tie_back a b (slice_index z row.low) (2 ^ w * slice_index z by_zero) (below_divisor w a b) d.below in
      met_by has (gated_complete.same z (next + 2) gate (wire x) sums parts)
      (ap (λ n. n * value (room_below w x y by_zero row) z % P) one ∙ ap (λ n. n % P) (one-mul (value (room_below w x y by_zero row) z))
      ∙ mod-eq_of_lt (value-below (room_below w x y by_zero row) z)
      ∙ value-room z assigns w x y by_zero row ∙ tie ∙ sym (value-bits_less z assigns w width x bits (below_divisor w a b) s))

  off_met : value gate z ≡ 0 → HasBits z bits.first w (slice_index z x)
      → HasFrom z next (row_division_values (slice_index z by_zero) (slice_index z x) (slice_index z row.high) (slice_index z y))
      → Meets z (row_division_of w gate (dividing x y by_zero) bits row next).list
  off_met none s has =
      met_by has (gated_complete.off z (next + 2) gate (wire x) sums none)
      (ap (λ n. n * value (room_below w x y by_zero row) z % P) none ∙ ap (λ n. n % P) (zero-mul (value (room_below w x y by_zero row) z))
      ∙ tie_same (slice_index z x) (slice_index z x) refl ∙ sym (value-bits_less z assigns w width x bits (slice_index z x) s))

pub row_division_sound : RowDivisionIsSound
unfolding row_division_of times_of gated_of fresh put pure ◌>>=◌
row_division_sound = search (arith, kept_times, on_by, off_by)

pub row_division_complete : RowDivisionIsComplete
row_division_complete = search (arith, division_row, below_word, on_met, off_met)

pub row_division_sizes : RowDivisionSizes
unfolding row_division_of times_of gated_of fresh put pure ◌>>=◌
row_division_sizes = record {
  answer = λ w gate x y by_zero bits row next. refl;
  end = λ w gate x y by_zero bits row next. omega arith;
  fills = λ w gate x y by_zero bits row f a q b next. omega arith;
  in_field = λ f a q b. InField-cons (f * a % P) (q * ((b + f) % P) % P ∷ []) (residue_below (f * a))
      (InField-cons (q * ((b + f) % P) % P) [] (residue_below (q * ((b + f) % P))) InField-none);
}

pub row_division_cost_laws : RowDivisionCosts
unfolding row_division_of times_of gated_of fresh put pure ◌>>=◌
row_division_cost_laws = record {
  constraints = λ w gate x y by_zero bits row next. refl;
  terms = λ w gate x y by_zero bits row next. omega (arith, length-weighted bits.first w (λ i. 2 ^ i % P));
}

pub ruleset row_division_laws = (row_division_sound, row_division_complete, row_division_sizes, row_division_cost_laws)
