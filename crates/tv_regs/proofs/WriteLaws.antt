-- The laws of writing a register.
use Rattle.tv_core.proofs.Common.{◌≡◌, ◌≢◌, ℕ, zero, suc, ◌+◌, ◌-◌, ◌*◌, ◌%◌, ◌<◌, ◌≤◌, ◌==◌, Bool, true, false, if◌then◌else◌, List, [], ◌∷◌, ◌++◌, length}
use Rattle.tv_core.proofs.Common.{inl, inr, refl, sym, ◌∙◌, ap, ap₂, arith, mod-lt, range_with_len, slice_index, cases_eq, length-map, value-below, value-less}
use Rattle.tv_core.proofs.Common.{value-append, value-wire, wire-below, InField-cons, Meets-split, Meets-join, each_below, here, fresh, put, pure, ◌>>=◌, wire}
use Rattle.tv_core.proofs.Common.{less, top, Combination, value, Assigns, HasFrom, InField, sequence, normal}
use Rattle.std.proofs.Common.{mul-one, add-zero}
use Rattle.std.proofs.Math.ListN.{length-set}
use Rattle.std.proofs.lemmas.List.{ext_get_or, get_or-set_same, get_or-set_other}
use Rattle.std.proofs.lemmas.List.Elements.{All-set}
use Rattle.std.proofs.lemmas.List.FromFn.{get_or-map-range_with_len}
use Rattle.tv_bits.proofs.BitLaws.{bit_cases}
use Rattle.tv_bits.specs.Bit.{IsBit}
use Rattle.tv_bits.specs.OneHot.{row_sum}
use Rattle.tv_bits.specs.Select.{pick_of}
use Rattle.tv_core.proofs.BelowLaws.{sum_below-suc, sum_below-same, value-weighted, each_below-zero, each_below-suc}
use Rattle.tv_core.proofs.CombinationLaws.{top-append}
use Rattle.tv_core.proofs.DifferenceLaws.{same_of_minus, cancel_minus}
use Rattle.tv_core.proofs.LoopLaws.{turn_met, turns_met, turns-next}
use Rattle.tv_core.proofs.NormalLaws.{value-normal}
use Rattle.tv_core.proofs.Residues.{sum_by-map}
use Rattle.tv_core.specs.Below.{sum_below}
use Rattle.tv_core.specs.declared.field.TheConstants.{P}
use Rattle.tv_regs.proofs.Gates.{word_of, word_below, product_value, wires_top-at}
use Rattle.tv_regs.proofs.TripleLaws.{value-rise}
use Rattle.tv_bits.specs.Wires.{words_at, wires_top}
use Rattle.tv_regs.specs.Writes.{write_of, write_turn, tie_of, regs_sum, change, change_with, write_reg_of, written_regs, write_reg_values, WriteRegIsSound}
use Rattle.tv_regs.specs.Writes.{WriteRegIsComplete, WriteRegSizes}
use Rattle.tv_bits.proofs.SelectLaws.{times_one, times_zero}

-- ---- the sums of the registers before and after
-- sums that differ at one number
pub sum_apart : (n k : ℕ) (f g : ℕ → ℕ) → k < n → ((j : ℕ) → j < n → j ≢ k → f j ≡ g j) → sum_below n f + g k ≡ sum_below n g + f k
sum_apart zero k f g h same = absurd (omega arith)
sum_apart (suc n) k f g h same = elim (cases_eq k n) [
  | inl last ↦
      let others = sum_below-same n f g (λ j l. same j (omega arith) (omega arith)) in
      omega (arith, sum_below-suc n f, sum_below-suc n g, ap f last, ap g last)
  | inr apart ↦
      let before = sum_apart n k f g (omega arith) (λ j l. same j (omega arith)) in
      let last = same n (omega arith) (λ e. apart (sym e)) in
      omega (arith, sum_below-suc n f, sum_below-suc n g)
]

pub value-regs_sum : (z : List ℕ) (regs : List ℕ) → value (regs_sum regs) z ≡ sum_below 16 (λ j. 1 * slice_index z (slice_index regs j)) % P
unfolding each_below sum_below
value-regs_sum z regs = ap (λ k. k % P) (sum_by-map {Y = ℕ × ℕ} (λ t. t.0 * slice_index z t.1) (λ j. (1, slice_index regs j)) (range_with_len 0 16))

difference_of_sums : (s t n r : ℕ) → n < P → r < P → s + r ≡ t + n → (s % P + (P - t % P)) % P ≡ (n + (P - r)) % P
difference_of_sums s t n r h l e = omega arith

difference_with : (x v s t n r : ℕ) → x < P → v < P → n < P → r < P → s + r ≡ t + n
    → (((x + s % P) % P + (P - v)) % P + (P - t % P)) % P ≡ ((x + (P - v)) % P + (n + (P - r)) % P) % P
difference_with x v s t n r a b h l e = omega arith

write_turn-next : (v sel : ℕ) (regs : List ℕ) (i at : ℕ) → (write_turn v sel regs i at).next ≡ at + 1
unfolding write_of pick_of fresh put pure ◌>>=◌
write_turn-next v sel regs i at = refl

turn_at : (v sel : ℕ) (regs : List ℕ) (at j : ℕ) → (sequence j (write_turn v sel regs) at).next ≡ at + j
turn_at v sel regs at j = turns-next (λ i _. write_turn v sel regs i) tt at 1 j (λ i a k. write_turn-next v sel regs i k) ∙ ap (λ k. at + k) (mul-one j)

module _ (z : List ℕ) (assigns : Assigns z) (regs : List ℕ) (first i : ℕ) (within : i < 16)
    (others : (j : ℕ) → j < 16 → j ≢ i → slice_index z (first + j) ≡ slice_index z (slice_index regs j)) where
  abbrev new : ℕ
  new = slice_index z (first + i)

  abbrev old : ℕ
  old = slice_index z (slice_index regs i)

  abbrev sum_after : ℕ
  sum_after = sum_below 16 (λ j. 1 * slice_index z (first + j))

  abbrev sum_before : ℕ
  sum_before = sum_below 16 (λ j. 1 * slice_index z (slice_index regs j))

  balance : sum_after + old ≡ sum_before + new
  balance =
      let f : ℕ → ℕ = λ j. 1 * slice_index z (first + j) in
      let g : ℕ → ℕ = λ j. 1 * slice_index z (slice_index regs j) in
      let sums = sum_apart 16 i f g within (λ j h apart. ap (λ n. 1 * n) (others j h apart)) in
      omega arith

  value-change : value (change first regs) z ≡ (new + (P - old)) % P
  value-change =
      value-less (row_sum first 16) (regs_sum regs) z ∙ ap₂ (λ m n. (m + (P - n)) % P) (value-weighted first 16 (λ _. 1) z) (value-regs_sum z regs)
      ∙ difference_of_sums sum_after sum_before new old (wire-below assigns (first + i)) (wire-below assigns (slice_index regs i)) balance

  value-change_with : (x : Combination) (v : ℕ) → value (change_with x v first regs) z ≡ ((value x z + (P - slice_index z v)) % P + (new + (P - old)) % P) % P
  value-change_with x v =
      let sum = value-append x (row_sum first 16) z ∙ ap (λ n. (value x z + n) % P) (value-weighted first 16 (λ _. 1) z) in
      let with_hint = value-less (x ++ row_sum first 16) (wire v) z ∙ ap₂ (λ m n. (m + (P - n)) % P) sum (value-wire assigns v) in
      value-less (less (x ++ row_sum first 16) (wire v)) (regs_sum regs) z ∙ ap₂ (λ m n. (m + (P - n)) % P) with_hint (value-regs_sum z regs)
      ∙ difference_with (value x z) (slice_index z v) sum_after sum_before new old (value-below x z) (wire-below assigns v) (wire-below assigns (first + i))
      (wire-below assigns (slice_index regs i)) balance

-- ---- the last constraint, as numbers: x, the hint v, the new word and the old one
on_sound : (on x v new old : ℕ) → IsBit on → x < P → v < P → new < P → old < P → new ≡ v
    → on * (((x + (P - v)) % P + (new + (P - old)) % P) % P) % P ≡ (new + (P - old)) % P → new ≡ (if on == 1 then x else old)
on_sound on x v new old bit xs vs ns os same e = elim (bit_cases on bit) [
  | inl none ↦ let d : (new + (P - old)) % P ≡ 0 = sym e ∙ times_zero on _ none in same_of_minus new old ns os d
      ∙ sym (ap (λ n. if n == 1 then x else old) none)
  | inr one ↦
      let d : ((x + (P - v)) % P + (new + (P - old)) % P) % P ≡ (new + (P - old)) % P = sym (times_one on _ one (mod-lt _ (omega arith))) ∙ e in
      let same_x : new ≡ x = omega arith in same_x ∙ sym (ap (λ n. if n == 1 then x else old) one)
]

on_complete : (on x v new old : ℕ) → IsBit on → x < P → old < P → v ≡ new → new ≡ (if on == 1 then x else old)
    → on * (((x + (P - v)) % P + (new + (P - old)) % P) % P) % P ≡ (new + (P - old)) % P
on_complete on x v new old bit xs os same e = elim (bit_cases on bit) [
  | inl none ↦ let d : new ≡ old = e ∙ ap (λ n. if n == 1 then x else old) none in times_zero on _ none ∙ omega arith
  | inr one ↦ let d : new ≡ x = e ∙ ap (λ n. if n == 1 then x else old) one in times_one on _ one (mod-lt _ (omega arith)) ∙ omega arith
]

-- ---- the registers after a write
pub length-written : (on : Bool) (x i : ℕ) (words : List ℕ) → length (written_regs on x i words) ≡ length words
length-written true x i words = length-set words i x
length-written false x i words = refl

pub written_other : (on : Bool) (x i j : ℕ) (words : List ℕ) → j ≢ i → slice_index (written_regs on x i words) j ≡ slice_index words j
written_other true x i j words apart = get_or-set_other words i j x 0 apart
written_other false x i j words apart = refl

pub written_here : (on : Bool) (x i : ℕ) (words : List ℕ) → i < length words
    → slice_index (written_regs on x i words) i ≡ (if on then x else slice_index words i)
written_here true x i words h = get_or-set_same words i x 0 h
written_here false x i words h = refl

-- the choice's product
product_normal : (z : List ℕ) → Assigns z → (s w r : ℕ)
    → value (wire s) z * value (normal (less (wire w) (wire r))) z % P ≡ slice_index z s * ((slice_index z w + (P - slice_index z r)) % P) % P
product_normal z assigns s w r = ap (λ n. value (wire s) z * n % P) (value-normal z (less (wire w) (wire r))) ∙ product_value z assigns s w r

pub write_reg_sound : WriteRegIsSound
unfolding write_reg_of write_of pick_of tie_of here fresh put pure ◌>>=◌
write_reg_sound z next sel on x regs i size assigns row bit meets =
    let v = next in
    let first = next + 1 in
    let turns = sequence 16 (write_turn v sel regs) first in
    let split = Meets-split z turns.list _ meets in
    let turn : (j : ℕ) → j < 16 → slice_index z (sel + j) * ((slice_index z v + (P - slice_index z (slice_index regs j))) % P) % P
    ≡ (slice_index z (first + j) + (P - slice_index z (slice_index regs j))) % P =
    λ j h. let met = turn_met z (λ k _. write_turn v sel regs k) tt first 16 j h split.0 in
    sym (product_normal z assigns (sel + j) v (slice_index regs j)) ∙ met.0
    ∙ value-rise z (slice_index regs j) (sequence j (write_turn v sel regs) first).next assigns
    ∙ ap (λ k. (slice_index z k + (P - slice_index z (slice_index regs j))) % P) (turn_at v sel regs first j) in
    let others : (j : ℕ) → j < 16 → j ≢ i → slice_index z (first + j) ≡ slice_index z (slice_index regs j) =
    λ j h apart. same_of_minus (slice_index z (first + j)) (slice_index z (slice_index regs j)) (wire-below assigns (first + j))
    (wire-below assigns (slice_index regs j))
    (sym (turn j h) ∙ times_zero (slice_index z (sel + j)) _ (row.cold j h apart)) in
    let old = slice_index z (slice_index regs i) in
    let here_v : slice_index z (first + i) ≡ slice_index z v
    = cancel_minus (slice_index z (first + i)) (slice_index z v) old (wire-below assigns (first + i)) (wire-below assigns v)
    (wire-below assigns (slice_index regs i))
    (sym (turn i row.within) ∙ times_one (slice_index z (sel + i)) _ row.hot (mod-lt _ (omega arith))) in
    let gate = ap₂ (λ m n. m * n % P) (sym (value-wire assigns on)) (sym (value-change_with z assigns regs first i row.within others x v)) ∙ split.1.0
    ∙ value-change z assigns regs first i row.within others in
    let here_new = on_sound (slice_index z on) (value x z) (slice_index z v) (slice_index z (first + i)) old bit (value-below x z) (wire-below assigns v)
    (wire-below assigns (first + i)) (wire-below assigns (slice_index regs i)) here_v gate in
    let words = words_at z regs in
    let isOn = slice_index z on == 1 in
    let inside : i < length regs = (let w = row.within in omega arith) in
    let count : length words ≡ 16 = length-map regs (λ w. slice_index z w) ∙ size in
    let new_count : length (words_at z (range_with_len first 16)) ≡ 16 = refl in
    ext_get_or 0 (words_at z (range_with_len first 16)) (written_regs isOn (value x z) i words)
    (new_count ∙ sym (length-written isOn (value x z) i words ∙ count))
    (λ j h. get_or-map-range_with_len (λ w. slice_index z w) first 16 j (first + j) 0 (omega arith) refl ∙ elim (cases_eq j i) [
      | inl same ↦ ap (λ k. slice_index z (first + k)) same ∙ here_new ∙ ap (λ n. if isOn then value x z else n) (sym (word_of z regs i inside))
          ∙ sym (written_here isOn (value x z) i words (omega arith)) ∙ ap (slice_index (written_regs isOn (value x z) i words)) (sym same)
      | inr apart ↦ others j (omega arith) apart ∙ sym (word_of z regs j (omega arith)) ∙ sym (written_other isOn (value x z) i j words apart)
    ])

-- what an assignment has at one place of a list
pub has_at : (z : List ℕ) (first : ℕ) (xs : List ℕ) → HasFrom z first xs → (j : ℕ) → j < length xs → slice_index z (first + j) ≡ slice_index xs j
has_at z first [] has j h = absurd (omega arith)
has_at z first (x ∷ xs) has zero h = ap (λ k. slice_index z k) (add-zero first) ∙ has.0
has_at z first (x ∷ xs) has (suc j) h =
    let place : first + suc j ≡ first + 1 + j = omega arith in
    ap (λ k. slice_index z k) place ∙ has_at z (first + 1) xs has.1 j (omega arith)

pub write_reg_complete : WriteRegIsComplete
unfolding write_reg_of write_of pick_of tie_of here fresh put pure ◌>>=◌
write_reg_complete z next sel on x regs i size assigns row bit has =
    let v = next in
    let first = next + 1 in
    let words = words_at z regs in
    let isOn = slice_index z on == 1 in
    let after = written_regs isOn (value x z) i words in
    let inside : i < length regs = (let w = row.within in omega arith) in
    let count : length words ≡ 16 = length-map regs (λ w. slice_index z w) ∙ size in
    let after_count : length after ≡ 16 = length-written isOn (value x z) i words ∙ count in
    let news : (j : ℕ) → j < 16 → slice_index z (first + j) ≡ slice_index after j = λ j h. has_at z first after has.1 j (omega arith) in
    let others : (j : ℕ) → j < 16 → j ≢ i → slice_index z (first + j) ≡ slice_index z (slice_index regs j) =
    λ j h apart. news j h ∙ written_other isOn (value x z) i j words apart ∙ word_of z regs j (omega arith) in
    let old = slice_index z (slice_index regs i) in
    let same_v : slice_index z v ≡ slice_index z (first + i) = has.0 ∙ sym (news i row.within) in
    let here_new : slice_index z (first + i) ≡ (if isOn then value x z else old) =
    news i row.within ∙ written_here isOn (value x z) i words (omega arith) ∙ ap (λ n. if isOn then value x z else n) (word_of z regs i inside) in
    let turns = turns_met z (λ k _. write_turn v sel regs k) tt first 16 (λ j h. (
      product_normal z assigns (sel + j) v (slice_index regs j) ∙ elim (cases_eq j i) [
        | inl same ↦ times_one (slice_index z (sel + j)) _ (ap (λ k. slice_index z (sel + k)) same ∙ row.hot) (mod-lt _ (omega arith))
            ∙ ap (λ n. (n + (P - slice_index z (slice_index regs j))) % P) (same_v ∙ ap (λ k. slice_index z (first + k)) (sym same))
        | inr apart ↦ times_zero (slice_index z (sel + j)) _ (row.cold j h apart)
            ∙ sym (none (slice_index z (first + j)) (slice_index z (slice_index regs j)) (wire-below assigns (slice_index regs j)) (others j h apart))
      ] ∙ ap (λ k. (slice_index z k + (P - slice_index z (slice_index regs j))) % P) (sym (turn_at v sel regs first j))
          ∙ sym (value-rise z (slice_index regs j) (sequence j (write_turn v sel regs) first).next assigns),
      tt,
    )) in
    let gate = on_complete (slice_index z on) (value x z) (slice_index z v) (slice_index z (first + i)) old bit (value-below x z)
    (wire-below assigns (slice_index regs i)) same_v here_new in
    Meets-join z (sequence 16 (write_turn v sel regs) first).list _ turns (
      ap₂ (λ m n. m * n % P) (value-wire assigns on) (value-change_with z assigns regs first i row.within others x v) ∙ gate
          ∙ sym (value-change z assigns regs first i row.within others),
      tt,
    )
  where
    none : (a b : ℕ) → b < P → a ≡ b → (a + (P - b)) % P ≡ 0
    none a b h e = omega arith

-- ---- where the circuit ends, and what it answers
pub written_in_field : (b : Bool) (v i : ℕ) (words : List ℕ) → v < P → InField words → InField (written_regs b v i words)
written_in_field true v i words small others = All-set (λ k. k < P) words i v small others
written_in_field false v i words small others = others

pub write_reg_in_field : (b : Bool) (v i : ℕ) (words : List ℕ) → v < P → InField words → InField (write_reg_values b v i words)
write_reg_in_field b v i words small others =
    let after = written_in_field b v i words small others in
    InField-cons (slice_index (written_regs b v i words) i) (written_regs b v i words) (word_below (written_regs b v i words) i after) after

pub write_reg_sizes : WriteRegSizes
unfolding write_reg_of tie_of here fresh put pure ◌>>=◌
write_reg_sizes = record {
  answer = λ sel on x regs next. refl;
  end = λ sel on x regs next. omega (arith, turn_at next sel regs (next + 1) 16);
  fills = λ sel on x regs b v i words size next. omega (arith, turn_at next sel regs (next + 1) 16, length-written b v i words);
  in_field = write_reg_in_field;
}

-- ---- the sum of the first registers, as the code makes it
pub sum_of-suc : (regs : List ℕ) (n : ℕ)
    → each_below {A = ℕ × ℕ} (suc n) (λ i. (1, slice_index regs i)) ≡ each_below {A = ℕ × ℕ} n (λ i. (1, slice_index regs i)) ++ (1, slice_index regs n) ∷ []
sum_of-suc regs n = each_below-suc {A = ℕ × ℕ} n (λ i. (1, slice_index regs i))

pub top-sum_of : (regs : List ℕ) (n : ℕ) → n ≤ length regs → top (each_below {A = ℕ × ℕ} n (λ i. (1, slice_index regs i))) ≤ wires_top regs
top-sum_of regs zero h = omega (arith, ap top (each_below-zero {A = ℕ × ℕ} (λ i. (1, slice_index regs i))))
top-sum_of regs (suc n) h =
    omega (
      arith,
      ap top (sum_of-suc regs n),
      top-append (each_below {A = ℕ × ℕ} n (λ i. (1, slice_index regs i))) ((1, slice_index regs n) ∷ []),
      top-sum_of regs n (omega arith),
      wires_top-at regs n 0 (omega arith),
    )
