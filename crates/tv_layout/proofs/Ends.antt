-- What an assignment has at the tape's wires, at those of the first state and at the tie, where it meets them; and what
-- it meets of them, where it has that.
use Rattle.tv_core.proofs.Common.{◌≡◌, ℕ, zero, suc, ◌+◌, ◌*◌, ◌%◌, ◌<◌, ◌^◌, List, [], ◌∷◌, length, sym, ap, ap₂, ◌∙◌, arith, subst, slice_index, wire-below}
use Rattle.tv_core.proofs.Common.{value-wire, Meets-split, Meets-join, fresh, here, put, pure, turns, ◌>>=◌, wire, constant, value, Assigns, Meets, HasFrom}
use Rattle.tv_core.proofs.Common.{sequence, IsWidth}
use Rattle.std.proofs.Common.{add-zero}
use Rattle.std.proofs.lemmas.List.Elements.{All-nil, All-cons}
use Rattle.tv_bits.proofs.BitNumbers.{HasBits-below}
use Rattle.tv_bits.proofs.BitsLaws.{bits_sound, bits_complete}
use Rattle.tv_bits.specs.Bits.{bits_of, bits_values}
use Rattle.tv_core.proofs.CombinationLaws.{value-constant}
use Rattle.tv_core.proofs.LoopLaws.{turn_met, turns_met}
use Rattle.tv_core.proofs.MeetsLaws.{whole}
use Rattle.tv_core.specs.declared.field.TheConstants.{P}
use Rattle.tv_step.proofs.RangeLaws.{word_at}
use Rattle.tv_step.specs.Range.{AreWords}
use Rattle.tv_layout.proofs.FirstState.{HoldsZeros}
use Rattle.tv_layout.proofs.Positions.{words_turn, zeros_turn}
use Rattle.tv_layout.specs.Layout.{word_of, words_of, zero_wire_of, zero_wires_of, tie_of}
use Rattle.tv_layout.specs.declared.places.TheConstants.{STATE_WIRES}
use Rattle.tv_block.specs.declared.records.Reached.{Reached}

-- what is at a place of a list that z has
pub at_place : (z x : List ℕ) (k : ℕ) → HasFrom z k x → (i : ℕ) → i < length x → slice_index z (k + i) ≡ slice_index x i
at_place z [] k has i h = absurd (omega arith)
at_place z (v ∷ vs) k has zero h = ap (λ n. slice_index z n) (add-zero k) ∙ has.0
at_place z (v ∷ vs) k has (suc i) h = let same : k + suc i ≡ k + 1 + i = omega arith in ap (λ n. slice_index z n) same
    ∙ at_place z vs (k + 1) has.1 i (omega arith)

module _ (w : ℕ) (width : IsWidth w) (z : List ℕ) (assigns : Assigns z) where
  -- ---- the tape's words
  word_there : (first i next : ℕ) → Meets z (word_of w first i next).list → slice_index z (first + i) < 2 ^ w
  unfolding pure ◌>>=◌
  word_there first i next meets =
      let bits = (Meets-split z (bits_of (wire (first + i)) w next).list [] meets).0 in
      let small = HasBits-below (bits_sound z next (wire (first + i)) w (omega arith) assigns bits) in
      subst (λ v. v < 2 ^ w) (value-wire assigns (first + i)) small

  pub words_there : (first n next : ℕ) → Meets z (words_of w first n next).list → (i : ℕ) → i < n → slice_index z (first + i) < 2 ^ w
  unfolding words_of
  words_there first n next meets i h = word_there first i _ (turn_met z (λ i _. word_of w first i) tt next n i h meets)

  pub are_words : (first : ℕ) (x : List ℕ) → HasFrom z first x → ((i : ℕ) → i < length x → slice_index z (first + i) < 2 ^ w) → AreWords w x
  are_words first [] has each = All-nil (λ v. v < 2 ^ w)
  are_words first (v ∷ vs) has each =
      let here : slice_index z first < 2 ^ w = subst (λ k. slice_index z k < 2 ^ w) (add-zero first) (each 0 (omega arith)) in
      All-cons (λ v. v < 2 ^ w) v vs (subst (λ u. u < 2 ^ w) has.0 here)
      (are_words (first + 1) vs has.1 (λ i h. let same : first + 1 + i ≡ first + suc i = omega arith in
      subst (λ k. slice_index z k < 2 ^ w) (sym same) (each (suc i) (omega arith))))

  pub words_met : (first n next : ℕ) (x : List ℕ) → length x ≡ n → AreWords w x → HasFrom z first x
      → ((i : ℕ) → i < n → HasFrom z (next + i * w) (bits_values (slice_index x i) w)) → Meets z (words_of w first n next).list
  unfolding words_of pure
  words_met first n next x long words tape bits = turns_met z (λ i _. word_of w first i) tt next n (λ i h.
      let is : value (wire (first + i)) z ≡ slice_index x i = value-wire assigns (first + i) ∙ at_place z x first tape i (omega arith) in
      whole z (bits_of (wire (first + i)) w) (λ _. pure tt) _
      (bits_complete z _ (wire (first + i)) w (subst (λ v. v < 2 ^ w) (sym is) (word_at w width x i words)) assigns
      (subst (λ v. HasFrom z (turns i (λ i _. word_of w first i) tt next).next (bits_values v w)) (sym is)
      (subst (λ at. HasFrom z at (bits_values (slice_index x i) w)) (sym (words_turn w first i next)) (bits i h)))) tt)

  -- ---- the wires that are 0
  zero_wire_there : (next : ℕ) → Meets z (zero_wire_of next).list → slice_index z next ≡ 0
  unfolding zero_wire_of fresh put ◌>>=◌
  zero_wire_there next meets =
      let e : value (wire next) z * value (constant 1) z % P ≡ 0 = meets.0 in
      let f : slice_index z next * (1 % P) % P ≡ 0 = rw (value-wire assigns next, value-constant assigns 1) at e in
      let small = wire-below assigns next in
      omega arith

  zero_wire_met : (next : ℕ) → slice_index z next ≡ 0 → Meets z (zero_wire_of next).list
  unfolding zero_wire_of fresh put ◌>>=◌
  zero_wire_met next e = (ap (λ v. v * value (constant 1) z % P) (value-wire assigns next ∙ e) ∙ omega arith, tt)

  pub zero_wires_there : (next : ℕ) → Meets z (zero_wires_of next).list → HoldsZeros z next
  unfolding zero_wires_of here pure ◌>>=◌
  zero_wires_there next meets i h =
      let all = (Meets-split z (sequence STATE_WIRES (λ _. zero_wire_of) next).list [] meets).0 in
      subst (λ at. slice_index z at ≡ 0) (zeros_turn next i) (zero_wire_there _ (turn_met z (λ _ _. zero_wire_of) tt next STATE_WIRES i h all))

  pub zero_wires_met : (next : ℕ) → HoldsZeros z next → Meets z (zero_wires_of next).list
  unfolding zero_wires_of here pure ◌>>=◌
  zero_wires_met next held =
      let all = turns_met z (λ _ _. zero_wire_of) tt next STATE_WIRES
      (λ i h. subst (λ at. Meets z (zero_wire_of at).list) (sym (zeros_turn next i)) (zero_wire_met (next + i) (held i h))) in
      Meets-join z (sequence STATE_WIRES (λ _. zero_wire_of) next).list [] all tt

  -- ---- the last step's answer
  tied : (a v u : ℕ) → a < P → v < P → u < P → a * (1 % P) % P ≡ 1 % P → v * (1 % P) % P ≡ u → (a ≡ 1) × (v ≡ u)
  tied a v u h k l e f = (omega arith, omega arith)

  pub tie_there : (last : Reached) (next : ℕ) → Meets z (tie_of last next).list → (slice_index z last.answers ≡ 1)
      × (slice_index z last.value ≡ slice_index z 1)
  unfolding tie_of put ◌>>=◌
  tie_there last next meets =
      let e : value (wire last.answers) z * value (constant 1) z % P ≡ value (constant 1) z = meets.0 in
      let f : value (wire last.value) z * value (constant 1) z % P ≡ value (wire 1) z = meets.1.0 in
      tied (slice_index z last.answers) (slice_index z last.value) (slice_index z 1) (wire-below assigns last.answers) (wire-below assigns last.value)
      (wire-below assigns 1)
      (rw (value-wire assigns last.answers, value-constant assigns 1) at e)
      (rw (value-wire assigns last.value, value-constant assigns 1, value-wire assigns 1) at f)

  pub tie_met : (last : Reached) (next v : ℕ) → slice_index z last.answers ≡ 1 → slice_index z last.value ≡ v → slice_index z 1 ≡ v → v < P
      → Meets z (tie_of last next).list
  unfolding tie_of put ◌>>=◌
  tie_met last next v a e out small = (
    ap₂ (λ u w. u * w % P) (value-wire assigns last.answers ∙ a) (value-constant assigns 1) ∙ sym (value-constant assigns 1),
    (ap₂ (λ u w. u * w % P) (value-wire assigns last.value ∙ e) (value-constant assigns 1) ∙ omega arith ∙ sym (value-wire assigns 1 ∙ out), tt),
  )
