-- The laws of one register written by its number.
use Rattle.tv_core.proofs.Common.{◌≡◌, ◌≢◌, ℕ, ◌+◌, ◌-◌, ◌*◌, ◌%◌, ◌<◌, ◌==◌, if◌then◌else◌, List, [], ◌∷◌, length, inl, inr, refl, sym, ◌∙◌, ap, ap₂, arith}
use Rattle.tv_core.proofs.Common.{range_with_len, slice_index, cases_eq, length-map, value-append, value-wire, value-cons, wire-below, Meets-split, Meets-join}
use Rattle.tv_core.proofs.Common.{each_below, here, fresh, put, pure, turns, ◌>>=◌, wire, scaled, value, Assigns, sequence}
use Rattle.std.proofs.Common.{mul-one, eq-zero-or-pos}
use Rattle.std.proofs.lemmas.List.{ext_get_or}
use Rattle.std.proofs.lemmas.List.FromFn.{get_or-map-range_with_len}
use Rattle.tv_bits.proofs.SelectLaws.{times_zero, sound_by, complete_by}
use Rattle.tv_bits.specs.OneHot.{row_sum}
use Rattle.tv_core.proofs.BelowLaws.{value-weighted}
use Rattle.tv_core.proofs.CombinationLaws.{value-scaled}
use Rattle.tv_core.proofs.DifferenceLaws.{same_of_minus}
use Rattle.tv_core.proofs.LoopLaws.{turn_met, turns_met, turns-next}
use Rattle.tv_core.proofs.PrimeLaws.{p_zero_product_below}
use Rattle.tv_core.specs.Below.{sum_below, weighted}
use Rattle.tv_core.specs.declared.field.TheConstants.{P}
use Rattle.tv_regs.proofs.Gates.{word_of}
use Rattle.tv_regs.proofs.TripleLaws.{value-rise, other_branch}
use Rattle.tv_regs.proofs.TripleNumbers.{minus_below, minus_itself}
use Rattle.tv_regs.proofs.WriteLaws.{sum_apart, value-regs_sum, length-written, written_other, written_here, has_at, written_in_field}
use Rattle.tv_bits.specs.Wires.{words_at}
use Rattle.tv_regs.specs.Triple.{minus}
use Rattle.tv_regs.specs.Update.{number_less, stays_of, stays_turn, sum_rise, update_of, UpdateIsSound, UpdateIsComplete, UpdateSizes, UpdateCosts}
use Rattle.tv_regs.specs.Writes.{regs_sum, written_regs}

-- ---- values
flat_less : (i n : ℕ) → i < 16 → n < 16 → ((P - i) * 1 + (1 * n + 0 % P) % P) % P ≡ minus n i
flat_less i n hi hn = omega arith

module _ (z : List ℕ) (assigns : Assigns z) (dest n : ℕ) (is : slice_index z dest ≡ n) (small : n < 16) where
  value-number_more : (i : ℕ) → i < 16 → value ((P - i, 0) ∷ (1, dest) ∷ []) z ≡ minus n i
  value-number_more i hi =
      value-cons (P - i) 0 ((1, dest) ∷ []) z
      ∙ ap₂ (λ a b. ((P - i) * a + b) % P) assigns.one (value-cons 1 dest [] z ∙ ap (λ k. (1 * k + 0 % P) % P) is) ∙ flat_less i n hi small

  value-number_less : (i : ℕ) → i < 16 → value (number_less dest i) z ≡ minus n i
  value-number_less i hi = elim (eq-zero-or-pos i) [
    | inl none ↦ ap (λ k. value (number_less dest k) z) none ∙ value-wire assigns dest ∙ is ∙ (let same : n ≡ minus n 0 = omega arith in same)
        ∙ ap (minus n) (sym none)
    | inr positive ↦ ap (λ x. value x z) (other_branch i (wire dest) ((P - i, 0) ∷ (1, dest) ∷ []) positive) ∙ value-number_more i hi
  ]

stays_turn-next : (dest : ℕ) (regs : List ℕ) (i at : ℕ) → (stays_turn dest regs i at).next ≡ at + 1
unfolding stays_of fresh put ◌>>=◌
stays_turn-next dest regs i at = refl

pub turn_at : (dest : ℕ) (regs : List ℕ) (at j : ℕ) → (sequence j (stays_turn dest regs) at).next ≡ at + j
turn_at dest regs at j = turns-next (λ i _. stays_turn dest regs i) tt at 1 j (λ i a k. stays_turn-next dest regs i k) ∙ ap (λ k. at + k) (mul-one j)

-- the sum rises by what one register rises
flat_sums : (s t new old : ℕ) → new < P → old < P → s + old ≡ t + new → ((P - 1) * (t % P) % P + s % P) % P ≡ minus new old
flat_sums s t new old hn ho e = omega arith

module _ (z : List ℕ) (assigns : Assigns z) (regs : List ℕ) (first i : ℕ) (within : i < 16) (others : (j : ℕ) → j < 16 → j ≢ i
    → slice_index z (first + j) ≡ slice_index z (slice_index regs j)) where
  value-sum_rise : value (sum_rise first regs) z ≡ minus (slice_index z (first + i)) (slice_index z (slice_index regs i))
  value-sum_rise =
      let f : ℕ → ℕ = λ j. 1 * slice_index z (first + j) in
      let g : ℕ → ℕ = λ j. 1 * slice_index z (slice_index regs j) in
      let sums = sum_apart 16 i f g within (λ j h apart. ap (λ n. 1 * n) (others j h apart)) in
      let balance : sum_below 16 f + slice_index z (slice_index regs i) ≡ sum_below 16 g + slice_index z (first + i) = omega arith in
      value-append (scaled (P - 1) (regs_sum regs)) (row_sum first 16) z
      ∙ ap₂ (λ a b. (a + b) % P) (value-scaled (P - 1) (regs_sum regs) z
      ∙ ap (λ n. (P - 1) * n % P) (value-regs_sum z regs)) (value-weighted first 16 (λ _. 1) z)
      ∙ flat_sums (sum_below 16 f) (sum_below 16 g) (slice_index z (first + i)) (slice_index z (slice_index regs i)) (wire-below assigns (first + i))
      (wire-below assigns (slice_index regs i)) balance

-- ---- the last constraint is a choice's
pub update_sound : UpdateIsSound
unfolding update_of stays_of here fresh put pure ◌>>=◌
update_sound z next on dest word result regs i assigns is meets =
    let split = Meets-split z (sequence 16 (stays_turn dest regs) next).list _ meets in
    let others : (j : ℕ) → j < 16 → j ≢ i → slice_index z (next + j) ≡ slice_index z (slice_index regs j) = λ j h apart.
    let reg = slice_index regs j in
    let new = (sequence j (stays_turn dest regs) next).next in
    let met = turn_met z (λ k _. stays_turn dest regs k) tt next 16 j h split.0 in
    let product = sym (ap₂ (λ a b. a * b % P) (value-number_less z assigns dest i is.number is.within j h) (value-rise z reg new assigns)) ∙ met.0 in
    ap (slice_index z) (sym (turn_at dest regs next j))
    ∙ elim (p_zero_product_below (minus i j) (minus (slice_index z new) (slice_index z reg)) (minus_below i j)
    (minus_below (slice_index z new) (slice_index z reg)) product) [
      | inl same ↦ absurd (apart (sym (same_of_minus i j (let w = is.within in omega arith) (omega arith) same)))
      | inr none ↦ same_of_minus (slice_index z new) (slice_index z reg) (wire-below assigns new) (wire-below assigns reg) none
    ] in
    let old = slice_index z (slice_index regs i) in
    let words = words_at z regs in
    let isOn = slice_index z on == 1 in
    let size = is.size in
    let inside : i < length regs = (let w = is.within in omega arith) in
    let same_old : slice_index z word ≡ old = is.old ∙ word_of z regs i inside in
    let sides = ap₂ (λ a b. a * b % P) (sym (value-wire assigns on)) (ap (minus (slice_index z result)) (sym same_old)
    ∙ sym (value-rise z word result assigns)) ∙ split.1.0 ∙ value-sum_rise z assigns regs next i is.within others in
    let here_new = sound_by (slice_index z on) (slice_index z result) old (slice_index z (next + i)) (wire-below assigns result)
    (wire-below assigns (slice_index regs i)) (wire-below assigns (next + i)) is.bit sides in
    let count : length words ≡ 16 = length-map regs (λ w. slice_index z w) ∙ is.size in
    let new_count : length (words_at z (range_with_len next 16)) ≡ 16 = refl in
    ext_get_or 0 (words_at z (range_with_len next 16)) (written_regs isOn (slice_index z result) i words) (new_count
    ∙ sym (length-written isOn (slice_index z result) i words ∙ count))
    (λ j h. get_or-map-range_with_len (λ w. slice_index z w) next 16 j (next + j) 0 (omega arith) refl ∙ elim (cases_eq j i) [
      | inl same ↦ ap (λ k. slice_index z (next + k)) same ∙ here_new ∙ ap (λ n. if isOn then slice_index z result else n) (sym (word_of z regs i inside))
          ∙ sym (written_here isOn (slice_index z result) i words (omega arith))
          ∙ ap (slice_index (written_regs isOn (slice_index z result) i words)) (sym same)
      | inr apart ↦ others j (omega arith) apart ∙ sym (word_of z regs j (omega arith)) ∙ sym (written_other isOn (slice_index z result) i j words apart)
    ])

times_none : (a b : ℕ) → b ≡ 0 → a * b % P ≡ 0
times_none a b none = rw none (omega arith)

pub update_complete : UpdateIsComplete
unfolding update_of stays_of here fresh put pure ◌>>=◌
update_complete z next on dest word result regs i assigns is has =
    let words = words_at z regs in
    let isOn = slice_index z on == 1 in
    let x = slice_index z result in
    let after = written_regs isOn x i words in
    let size = is.size in
    let inside : i < length regs = (let w = is.within in omega arith) in
    let count : length words ≡ 16 = length-map regs (λ w. slice_index z w) ∙ is.size in
    let after_count : length after ≡ 16 = length-written isOn x i words ∙ count in
    let news : (j : ℕ) → j < 16 → slice_index z (next + j) ≡ slice_index after j = λ j h. has_at z next after has j (omega arith) in
    let others : (j : ℕ) → j < 16 → j ≢ i → slice_index z (next + j) ≡ slice_index z (slice_index regs j) =
    λ j h apart. news j h ∙ written_other isOn x i j words apart ∙ word_of z regs j (omega arith) in
    let old = slice_index z (slice_index regs i) in
    let same_old : slice_index z word ≡ old = is.old ∙ word_of z regs i inside in
    let here_new : slice_index z (next + i) ≡ (if isOn then x else old) = news i is.within ∙ written_here isOn x i words (omega arith)
    ∙ ap (λ n. if isOn then x else n) (word_of z regs i inside) in
    let turns = turns_met z (λ k _. stays_turn dest regs k) tt next 16 (λ j h.
    let reg = slice_index regs j in
    let new = (sequence j (stays_turn dest regs) next).next in (
      ap₂ (λ a b. a * b % P) (value-number_less z assigns dest i is.number is.within j h) (value-rise z reg new assigns
          ∙ ap (λ k. minus (slice_index z k) (slice_index z reg)) (turn_at dest regs next j)) ∙ elim (cases_eq j i) [
            | inl same ↦ times_zero (minus i j) _ (minus_itself i j (let w = is.within in omega arith) (sym same))
            | inr apart ↦
                times_none (minus i j) _ (minus_itself (slice_index z (next + j)) (slice_index z reg) (wire-below assigns (next + j)) (others j h apart))
          ],
      tt,
    )) in
    let sides = complete_by (slice_index z on) x old (slice_index z (next + i)) (wire-below assigns (slice_index regs i)) is.bit here_new in
    Meets-join z (sequence 16 (stays_turn dest regs) next).list _ turns (
      ap₂ (λ a b. a * b % P) (value-wire assigns on) (value-rise z word result assigns ∙ ap (minus x) same_old) ∙ sides
          ∙ sym (value-sum_rise z assigns regs next i is.within others),
      tt,
    )

-- ---- where the circuit ends, what it answers, and what it costs
pub update_sizes : UpdateSizes
unfolding update_of here put pure ◌>>=◌
update_sizes = record {
  answer = λ on dest word result regs next. refl;
  end = λ on dest word result regs next. turn_at dest regs next 16;
  fills = λ on dest word result regs words size next. turn_at dest regs next 16 ∙ ap (λ k. next + k) (sym size);
  in_field = written_in_field;
}

pub update_costs : UpdateCosts
unfolding update_of stays_of turns here fresh put pure ◌>>=◌ each_below weighted
update_costs = record { constraints = λ on dest word result regs next. refl; terms = λ on dest word result regs next. refl }
