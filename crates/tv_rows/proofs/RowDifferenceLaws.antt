-- The laws of a difference in a row.
use Rattle.tv_core.proofs.Common.{◌≡◌, ℕ, ◌+◌, ◌-◌, ◌*◌, ◌%◌, ◌^◌, ◌<◌, List, [], ◌∷◌, ◌++◌, refl, sym, ◌∙◌, ap, ap₂, arith, slice_index, bit_at, length-append}
use Rattle.tv_core.proofs.Common.{value-append, value-cons, value-wire, fresh, put, pure, ◌>>=◌, wire, scaled, Combination, value, Assigns, Meets, HasFrom}
use Rattle.std.proofs.lemmas.Nat.{mul-mod_first}
use Rattle.tv_bits.proofs.DoubleRowLaws.{value-row_number}
use Rattle.tv_bits.proofs.GateLaws.{gated_sound, gated_complete, length-scaled, length-less}
use Rattle.tv_bits.proofs.TimesLaws.{times_sound, times_complete, times_sizes}
use Rattle.tv_bits.specs.DoubleRow.{whole, row_number}
use Rattle.tv_bits.specs.Gate.{gated_of}
use Rattle.tv_bits.specs.Times.{times_of}
use Rattle.tv_bits.specs.declared.double_rows.DoubleRow.{DoubleRow}
use Rattle.tv_bits.specs.declared.signed_words.SignedWord.{SignedWord}
use Rattle.tv_core.proofs.CombinationLaws.{value-scaled, value-empty}
use Rattle.tv_core.specs.declared.field.TheConstants.{P}
use Rattle.tv_rows.proofs.RowDifferenceNumbers.{difference_sound, difference_met, difference_row, bit_small}
use Rattle.tv_rows.specs.RowDifference.{sign_difference, minuend, subtrahend, row_difference_of, row_difference_values, RowDifferenceIsSound}
use Rattle.tv_rows.specs.RowDifference.{RowDifferenceIsComplete, RowDifferenceSizes, RowDifferenceCosts}

-- ---- the combinations
module _ (z : List ℕ) (assigns : Assigns z) where
  value-signs : (x y : SignedWord) (s t : ℕ) → s < 2 → t < 2 → slice_index z x.sign ≡ s → slice_index z y.sign ≡ t
      → value (sign_difference x y) z ≡ (s + (P - t)) % P
  value-signs x y s t h k e f =
      value-cons (P - 1) y.sign ((1, x.sign) ∷ []) z
      ∙ ap₂ (λ m n. ((P - 1) * m + n) % P) f (value-cons 1 x.sign [] z ∙ ap₂ (λ m n. (1 * m + n) % P) e (value-empty z))
      ∙ flat s t h k
    where
      flat : (s t : ℕ) → s < 2 → t < 2 → ((P - 1) * t + (1 * s + 0) % P) % P ≡ (s + (P - t)) % P
      flat s t h k = omega arith

  value-minuend : (w : ℕ) (strict : Combination) (x : ℕ) → value (minuend w strict x) z ≡ (2 ^ w + slice_index z x + (P - 1) * value strict z) % P
  value-minuend w strict x =
      let rest = value-append (scaled (P - 1) strict) (wire x) z ∙ ap₂ (λ m n. (m + n) % P) (value-scaled (P - 1) strict z) (value-wire assigns x) in
      value-cons (2 ^ w % P) 0 (scaled (P - 1) strict ++ wire x) z
      ∙ ap₂ (λ m n. (2 ^ w % P * m + n) % P) assigns.one rest
      ∙ flat (2 ^ w) (slice_index z x) ((P - 1) * value strict z)
    where
      flat : (b x p : ℕ) → (b % P * 1 + (p % P + x) % P) % P ≡ (b + x + p) % P
      flat b x p = omega arith

  value-subtrahend : (w y : ℕ) (row : DoubleRow) (signs : ℕ)
      → value (subtrahend w y row signs) z ≡ (slice_index z y + whole w (slice_index z row.low) (slice_index z row.high) + 2 ^ w * slice_index z signs) % P
  value-subtrahend w y row signs =
      let c = slice_index z signs in
      let last : value ((2 ^ w % P, signs) ∷ []) z ≡ 2 ^ w * c % P
      = value-cons (2 ^ w % P) signs [] z ∙ ap (λ n. (2 ^ w % P * c + n) % P) (value-empty z) ∙ once (2 ^ w % P * c) ∙ mul-mod_first (2 ^ w) c P in
      let rest = value-append (row_number w row) ((2 ^ w % P, signs) ∷ []) z ∙ ap₂ (λ m n. (m + n) % P) (value-row_number w z row assigns) last in
      value-append (wire y) (row_number w row ++ (2 ^ w % P, signs) ∷ []) z
      ∙ ap₂ (λ m n. (m + n) % P) (value-wire assigns y) rest
      ∙ flat (slice_index z y) (whole w (slice_index z row.low) (slice_index z row.high)) (2 ^ w * c)
    where
      once : (n : ℕ) → (n + 0) % P ≡ n % P
      once n = omega arith

      flat : (y n c : ℕ) → (y + (n % P + c % P) % P) % P ≡ (y + n + c) % P
      flat y n c = omega arith

pub row_difference_sound : RowDifferenceIsSound
unfolding row_difference_of times_of fresh put pure ◌>>=◌
row_difference_sound w width z next gate by_sign strict x y row a b assigns one sign_bit strict_bit p q r meets =
    let signs = times_sound z next by_sign (sign_difference x y) assigns (meets.0, tt)
    ∙ ap (λ n. value by_sign z * n % P) (value-signs z assigns x y (bit_at a (w - 1)) (bit_at b (w - 1)) (bit_small a (w - 1))
    (bit_small b (w - 1)) p.sign q.sign) in
    let same = gated_sound z (next + 1) gate (minuend w strict x.word) (subtrahend w y.word row next) one meets.1 in
    let left = value-minuend z assigns w strict x.word ∙ ap (λ n. (2 ^ w + n + (P - 1) * value strict z) % P) p.word in
    let right = value-subtrahend z assigns w y.word row next
    ∙ ap (λ n. (n + whole w (slice_index z row.low) (slice_index z row.high) + 2 ^ w * slice_index z next) % P) q.word in
    let halves = difference_sound w width (slice_index z row.low) (slice_index z row.high) a b (value strict z) (value by_sign z)
    (slice_index z next) p.small q.small strict_bit sign_bit signs r (sym left ∙ same ∙ right) in
    record { low = halves.0; high = halves.1 }

-- the constraint of the signs
signs_met : (w : ℕ) (z : List ℕ) (next : ℕ) (by_sign : Combination) (x y : SignedWord) (a b : ℕ) → Assigns z → slice_index z x.sign ≡ bit_at a (w - 1)
    → slice_index z y.sign ≡ bit_at b (w - 1)
    → HasFrom z next (row_difference_values w (value by_sign z) a b) → Meets z (times_of by_sign (sign_difference x y) next).list
signs_met w z next by_sign x y a b assigns e f has =
    times_complete z next by_sign (sign_difference x y) assigns (
      has.0 ∙ ap (λ n. value by_sign z * n % P) (sym (value-signs z assigns x y (bit_at a (w - 1)) (bit_at b (w - 1)) (bit_small a (w - 1))
          (bit_small b (w - 1)) e f)),
      tt,
    )

pub row_difference_complete : RowDifferenceIsComplete
unfolding row_difference_of times_of fresh put pure ◌>>=◌
row_difference_complete = record {
  row = difference_row;
  on = λ w width z next gate by_sign strict x y row a b assigns sign_bit strict_bit p q is has.
      let signs = signs_met w z next by_sign x y a b assigns p.sign q.sign has in
      let left = value-minuend z assigns w strict x.word ∙ ap (λ n. (2 ^ w + n + (P - 1) * value strict z) % P) p.word in
      let right = value-subtrahend z assigns w y.word row next
      ∙ ap (λ n. (n + whole w (slice_index z row.low) (slice_index z row.high) + 2 ^ w * slice_index z next) % P) q.word in
      let numbers = difference_met w width (slice_index z row.low) (slice_index z row.high) a b (value strict z) (value by_sign z)
      (slice_index z next) p.small q.small strict_bit sign_bit has.0 is.low is.high in
      (signs.0, gated_complete.same z (next + 1) gate (minuend w strict x.word) (subtrahend w y.word row next) (left ∙ numbers ∙ sym right));
  off = λ w z next gate by_sign strict x y row a b assigns none e f has. (
    (signs_met w z next by_sign x y a b assigns e f has).0,
    gated_complete.off z (next + 1) gate (minuend w strict x.word)
        (subtrahend w y.word row next) none,
  );
}

pub row_difference_sizes : RowDifferenceSizes
unfolding row_difference_of times_of gated_of fresh put pure ◌>>=◌
row_difference_sizes = record {
  end = λ w gate by_sign strict x y row next. refl;
  fills = λ w gate by_sign strict x y row v a b next. refl;
  in_field = λ w v a b. times_sizes.in_field v ((bit_at a (w - 1) + (P - bit_at b (w - 1))) % P);
}

pub row_difference_cost_laws : RowDifferenceCosts
unfolding row_difference_of times_of gated_of fresh put pure ◌>>=◌
row_difference_cost_laws = record {
  constraints = λ w gate by_sign strict x y row next. refl;
  terms = λ w gate by_sign strict x y row next.
      omega (
        arith,
        length-less (minuend w strict x.word) (subtrahend w y.word row next),
        length-append (scaled (P - 1) strict) (wire x.word),
        length-scaled (P - 1) strict,
      );
}
