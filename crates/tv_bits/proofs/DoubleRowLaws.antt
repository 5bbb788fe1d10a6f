-- The laws of a row of twice a word's width.
use Rattle.tv_core.proofs.Common.{◌≡◌, ℕ, zero, suc, ◌+◌, ◌-◌, ◌*◌, ◌%◌, ◌^◌, ◌<◌, List, [], ◌∷◌, ◌++◌, length, refl, sym, subst, ◌∙◌, ap, ap₂, arith}
use Rattle.tv_core.proofs.Common.{slice_index, length-append, value-append, value-cons, value-wire, InField-cons, Meets-split, Meets-join, HasFrom-split, fresh}
use Rattle.tv_core.proofs.Common.{put, pure, here, turns, ◌>>=◌, wire, scaled, Combination, Constraint, value, Assigns, Meets, HasFrom, sequence, terms_in}
use Rattle.tv_core.proofs.Common.{width_short, IsWidth}
use Rattle.std.proofs.lemmas.Nat.{mul-mod_first}
use Rattle.tv_core.proofs.BelowLaws.{length-weighted}
use Rattle.tv_core.proofs.CombinationLaws.{value-scaled, value-empty}
use Rattle.tv_core.proofs.FieldLaws.{InField-append}
use Rattle.tv_core.specs.declared.field.TheConstants.{P}
use Rattle.tv_bits.proofs.GateLaws.{length-scaled, terms-append}
use Rattle.tv_bits.proofs.NewBitsLaws.{bits_are, bits_met}
use Rattle.tv_bits.proofs.RowNumbers.{row_sound, row_edge_met}
use Rattle.tv_bits.proofs.SizeLaws.{length-bits, bits_in_field}
use Rattle.tv_bits.proofs.BitNumbers.{HasBits-below, HasBits-low, HasBits-high, HasBits-join, HasBits-from_values, value-bits_below}
use Rattle.tv_bits.proofs.BitsLaws.{new_bits_next}
use Rattle.tv_bits.proofs.TimesLaws.{kept_sound, kept_complete, ratio_sound, ratio_complete, ratio_divides, ratio_sizes}
use Rattle.tv_bits.specs.Bit.{IsBit, bit_of}
use Rattle.tv_bits.specs.Bits.{HasBits, binary_value, bits_combination, bits_values, new_bit, new_bits_of}
use Rattle.tv_bits.specs.DoubleRow.{HasRowBits, whole, row_number, row_wires_of, above_edge, above_edge_in, double_row_of, double_row_values}
use Rattle.tv_bits.specs.DoubleRow.{DoubleRowIsSound, DoubleRowIsComplete, DoubleRowSizes, DoubleRowCosts}
use Rattle.tv_bits.specs.Ratio.{ratio, ratio_of, ratio_values}
use Rattle.tv_bits.specs.Times.{kept_of, times_of}
use Rattle.tv_bits.specs.declared.double_rows.DoubleRow.{DoubleRow}

-- what the circuits answer, and where they end
pub row_wires_answer : (w next : ℕ) → (row_wires_of w next).answer ≡ record { first = next; low = next + 2 * w; high = next + (2 * w + 1) }
unfolding row_wires_of times_of new_bits_of here fresh put pure ◌>>=◌
row_wires_answer w next = search (arith, new_bits_next)

pub row_wires_next : (w next : ℕ) → (row_wires_of w next).next ≡ next + (2 * w + 2)
unfolding row_wires_of times_of new_bits_of here fresh put pure ◌>>=◌
row_wires_next w next = omega (arith, new_bits_next (2 * w) next)

pub double_row_answer : (w : ℕ) (signed : Combination) (next : ℕ)
    → (double_row_of w signed next).answer ≡ record { first = next; low = next + 2 * w; high = next + (2 * w + 1) }
unfolding double_row_of ratio_of fresh put pure ◌>>=◌
double_row_answer w signed next = row_wires_answer w next

pub double_row_next : (w : ℕ) (signed : Combination) (next : ℕ) → (double_row_of w signed next).next ≡ next + (2 * w + 3)
unfolding double_row_of ratio_of fresh put pure ◌>>=◌
double_row_next w signed next = omega (arith, row_wires_next w next)

-- ---- soundness: the wires' words, and their edge
twice : (w : ℕ) → 2 * w ≡ w + w
twice w = omega arith

row_wires_sound : (w : ℕ) → IsWidth w → (z : List ℕ) (next : ℕ) → Assigns z → Meets z (row_wires_of w next).list → HasRowBits w z (row_wires_of w next).answer
unfolding row_wires_of times_of new_bits_of here fresh put pure ◌>>=◌
row_wires_sound w width z next assigns meets =
    let short = width_short w width in
    let made = new_bits_of (2 * w) next in
    let v = binary_value z next (2 * w) in
    let both = Meets-split z made.list _ meets in
    let s : HasBits z next (w + w) v = subst (λ n. HasBits z next n v) (twice w) (bits_are z (2 * w) next assigns both.0) in
    let low = HasBits-low z next w w v s in
    let high = HasBits-high z next w w v s in
    let low_is = kept_sound z made.next (bits_combination next w) assigns (both.1.0, tt) ∙ value-bits_below low (omega arith) in
    let high_is = kept_sound z (made.next + 1) (bits_combination (next + w) w) assigns (both.1.1.0, tt) ∙ value-bits_below high (omega arith) in
    record { low = subst (λ n. HasBits z next w n) (sym low_is) low; high = subst (λ n. HasBits z (next + w) w n) (sym high_is) high }

-- the combination of the edge
pub value-above_edge : (w : ℕ) → IsWidth w → (z : List ℕ) (signed : Combination) (high : ℕ) → Assigns z → IsBit (value signed z)
    → value (above_edge w signed high) z ≡ above_edge_in w (slice_index z high) (value signed z)
value-above_edge w width z signed high assigns bit =
    let rest = value-append (scaled (P - 1) signed) (wire high) z ∙ ap₂ (λ m n. (m + n) % P) (value-scaled (P - 1) signed z) (value-wire assigns high) in
    value-cons (P - (2 ^ w - 1)) 0 (scaled (P - 1) signed ++ wire high) z
    ∙ ap₂ (λ m n. ((P - (2 ^ w - 1)) * m + n) % P) assigns.one rest
    ∙ flat (value signed z) (slice_index z high) bit
  where
    flat : (s h : ℕ) → IsBit s → ((P - (2 ^ w - 1)) * 1 + ((P - 1) * s % P + h) % P) % P ≡ (h + (P - (2 ^ w - 1 + s))) % P
    flat s h bit = grind arith

pub double_row_sound : DoubleRowIsSound
unfolding double_row_of pure ◌>>=◌
double_row_sound = record {
  decomposes = λ w width z next signed assigns meets. row_wires_sound w width z next assigns (Meets-split z (row_wires_of w next).list _ meets).0;
  row = λ w width z next signed assigns plain meets.
      let row = (row_wires_of w next).answer in
      let both = Meets-split z (row_wires_of w next).list _ meets in
      let s = row_wires_sound w width z next assigns both.0 in
      let edge = ratio_sound z (row_wires_of w next).next (above_edge w signed row.high) (wire row.low) assigns (Meets-split z _ [] both.1).0 in
      let bit : IsBit (value signed z) = omega arith in
      let number = value-above_edge w width z signed row.high assigns bit ∙ ap (λ n. above_edge_in w (slice_index z row.high) n) plain in
      row_sound w width (slice_index z row.low) (slice_index z row.high) (slice_index z
      (ratio_of (above_edge w signed row.high) (wire row.low) (row_wires_of w next).next).answer) (HasBits-below s.low) (HasBits-below s.high)
      (ap (λ n. n * slice_index z (ratio_of (above_edge w signed row.high) (wire row.low) (row_wires_of w next).next).answer % P) (sym number) ∙ edge
      ∙ value-wire assigns row.low);
}

-- ---- completeness
module _ (w : ℕ) (width : IsWidth w) (z : List ℕ) (next : ℕ) (assigns : Assigns z) (low high v : ℕ) (l : low < 2 ^ w) (h : high < 2 ^ w)
    (has : HasFrom z next (double_row_values w low high v)) where
  low_has : HasFrom z next (bits_values low w) × HasFrom z (next + w) (bits_values high w ++ (low ∷ high ∷ ratio_values (above_edge_in w high v) low))
  low_has = rw length-bits at (HasFrom-split z next (bits_values low w) (bits_values high w ++ (low ∷ high ∷ ratio_values (above_edge_in w high v) low)) has)

  high_has : HasFrom z (next + w) (bits_values high w) × HasFrom z (next + w + w) (low ∷ high ∷ ratio_values (above_edge_in w high v) low)
  high_has = rw length-bits at (HasFrom-split z (next + w) (bits_values high w) (low ∷ high ∷ ratio_values (above_edge_in w high v) low) low_has.1)

  words_has : HasFrom z (next + 2 * w) (low ∷ high ∷ ratio_values (above_edge_in w high v) low)
  words_has = let same : next + w + w ≡ next + 2 * w = omega arith in rw same at high_has.1

  low_bits_are : HasBits z next w low
  low_bits_are = HasBits-from_values z next w low l low_has.0

  high_bits_are : HasBits z (next + w) w high
  high_bits_are = HasBits-from_values z (next + w) w high h high_has.0

  bits_met' : Meets z (new_bits_of (2 * w) next).list
  bits_met' = bits_met z (2 * w) next assigns (λ i h. (HasBits-join z next w w low high low_bits_are high_bits_are).bits i (omega arith))

  row_wires_met : Meets z (row_wires_of w next).list
  unfolding row_wires_of times_of new_bits_of here fresh put pure ◌>>=◌
  row_wires_met =
      search (arith, width_short, new_bits_next, words_has, value-bits_below, low_bits_are, high_bits_are, kept_complete, Meets-join, bits_met')

pub double_row_complete : DoubleRowIsComplete
unfolding double_row_of pure ◌>>=◌
double_row_complete w width z next signed low high assigns l h bit row has =
    let wires = row_wires_met w width z next assigns low high (value signed z) l h has in
    let words = words_has w width z next assigns low high (value signed z) l h has in
    let made = row_wires_of w next in
    let low_is : slice_index z made.answer.low ≡ low = ap (λ r. slice_index z r.low) (row_wires_answer w next) ∙ words.0 in
    let high_is : slice_index z made.answer.high ≡ high = ap (λ r. slice_index z r.high) (row_wires_answer w next)
    ∙ (let place : next + (2 * w + 1) ≡ next + 2 * w + 1 = omega arith in ap (slice_index z) place) ∙ words.1.0 in
    let edge = value-above_edge w width z signed made.answer.high assigns bit ∙ ap (λ n. above_edge_in w n (value signed z)) high_is in
    let divides = ratio_divides (above_edge_in w high (value signed z)) low (grind arith) (row_edge_met w width low high (value signed z) h bit row) in
    let hint : HasFrom z made.next (ratio (above_edge_in w high (value signed z)) low ∷ []) = (
      ap (slice_index z) (row_wires_next w next
          ∙ (let place : next + (2 * w + 2) ≡ next + 2 * w + 1 + 1 = omega arith in place)) ∙ words.1.1.0,
      tt,
    ) in
    let last = ratio_complete z made.next (above_edge w signed made.answer.high) (wire made.answer.low)
    (ratio (above_edge_in w high (value signed z)) low) assigns
    (ap (λ n. n * ratio (above_edge_in w high (value signed z)) low % P) edge ∙ divides ∙ sym (value-wire assigns made.answer.low ∙ low_is)) hint in
    Meets-join z made.list _ wires (Meets-join z _ [] last tt)

-- ---- sizes and costs
length-values : (w low high v : ℕ) → length (double_row_values w low high v) ≡ 2 * w + 3
length-values w low high v = search (arith, length-append, length-bits)

pub double_row_sizes : DoubleRowSizes
double_row_sizes = record {
  answer = double_row_answer;
  end = double_row_next;
  fills = λ w signed low high v next. double_row_next w signed next ∙ ap (λ n. next + n) (sym (length-values w low high v));
  in_field = λ w low high v l h.
      let ratio = ratio_values (above_edge_in w high v) low in
      InField-append (bits_values low w) (bits_values high w ++ (low ∷ high ∷ ratio)) (bits_in_field low w)
      (InField-append (bits_values high w) (low ∷ high ∷ ratio) (bits_in_field high w)
      (InField-cons low (high ∷ ratio) l (InField-cons high ratio h (ratio_sizes.in_field (above_edge_in w high v) low))));
}

-- new bits have a constraint each, of three terms
turns_constraints : (n next : ℕ) → length (sequence n (λ _. new_bit) next).list ≡ n
unfolding turns new_bit bit_of fresh put pure ◌>>=◌
turns_constraints zero next = refl
turns_constraints (suc n) next = omega (
  arith,
  length-append (sequence n (λ _. new_bit) next).list (new_bit (sequence n (λ _. new_bit) next).next).list,
  turns_constraints n next,
)

pub new_bits_constraints : (n next : ℕ) → length (new_bits_of n next).list ≡ n
unfolding new_bits_of here pure ◌>>=◌
new_bits_constraints n next = omega (arith, length-append (sequence n (λ _. new_bit) next).list [], turns_constraints n next)

turns_terms : (n next : ℕ) → terms_in (sequence n (λ _. new_bit) next).list ≡ 3 * n
unfolding turns new_bit bit_of fresh put pure ◌>>=◌
turns_terms zero next = refl
turns_terms (suc n) next = omega (
  arith,
  terms-append (sequence n (λ _. new_bit) next).list (new_bit (sequence n
      (λ _. new_bit) next).next).list,
  turns_terms n next,
)

pub new_bits_terms : (n next : ℕ) → terms_in (new_bits_of n next).list ≡ 3 * n
unfolding new_bits_of here pure ◌>>=◌
new_bits_terms n next = omega (arith, terms-append (sequence n (λ _. new_bit) next).list [], turns_terms n next)

module _ (w : ℕ) (signed : Combination) (next : ℕ) where
  words_list : List Constraint
  unfolding new_bits_of here fresh put pure ◌>>=◌ times_of
  words_list =
      let made = new_bits_of (2 * w) next in
      (kept_of (bits_combination made.answer.first w) made.next).list ++ (kept_of (bits_combination (made.answer.first + w) w) (made.next + 1)).list

  edge_list : List Constraint
  edge_list = let row = row_wires_of w next in (ratio_of (above_edge w signed row.answer.high) (wire row.answer.low) row.next).list

  double_row_constraints : length (double_row_of w signed next).list ≡ 2 * w + 3
  unfolding double_row_of row_wires_of times_of ratio_of fresh put pure ◌>>=◌ words_list edge_list
  double_row_constraints = search (arith, length-append, edge_list, words_list, new_bits_constraints)

  double_row_terms : terms_in (double_row_of w signed next).list ≡ 8 * w + 8 + length signed
  unfolding double_row_of row_wires_of times_of ratio_of fresh put pure ◌>>=◌ words_list edge_list
  double_row_terms = search (arith, terms-append, edge_list, words_list, new_bits_terms, length-weighted, length-append, length-scaled)

pub double_row_cost_laws : DoubleRowCosts
double_row_cost_laws = record { constraints = double_row_constraints; terms = double_row_terms }

-- ---- the row's number, under an assignment
pub value-row_number : (w : ℕ) (z : List ℕ) (row : DoubleRow) → Assigns z
    → value (row_number w row) z ≡ whole w (slice_index z row.low) (slice_index z row.high) % P
value-row_number w z row assigns =
    value-cons 1 row.low ((2 ^ w % P, row.high) ∷ []) z
    ∙ ap (λ n. (1 * slice_index z row.low + n) % P) (value-cons (2 ^ w % P) row.high [] z
    ∙ ap (λ n. (2 ^ w % P * slice_index z row.high + n) % P) (value-empty z))
    ∙ flat (2 ^ w) (slice_index z row.low) (slice_index z row.high)
  where
    flat : (b l h : ℕ) → (1 * l + (b % P * h + 0) % P) % P ≡ (l + b * h) % P
    flat b l h = omega (arith, mul-mod_first b h P)

pub ruleset double_row_laws = (double_row_sound, double_row_complete, double_row_sizes, double_row_cost_laws)
