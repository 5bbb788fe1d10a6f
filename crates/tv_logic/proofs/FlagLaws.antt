-- The laws of the zero flags.
use Rattle.tv_core.proofs.Common.{◌≡◌, ℕ, ◌+◌, ◌*◌, ◌%◌, List, [], ◌∷◌, ◌++◌, sym, subst, ◌∙◌, ap, ap₂, arith, slice_index, cases_eq, value-wire, Meets-split}
use Rattle.tv_core.proofs.Common.{Meets-join, HasFrom-split, pure, ◌>>=◌, wire, Assigns, Meets, HasFrom}
use Rattle.tv_bits.proofs.TimesLaws.{times_answer, times_next}
use Rattle.tv_bits.proofs.WireProducts.{wires_sound, wires_complete}
use Rattle.tv_bits.proofs.ZeroLaws.{zero_flag-zero, zero_flag-other, zero_sound, zero_complete, zero_answer, zero_next}
use Rattle.tv_bits.specs.Times.{times_of}
use Rattle.tv_bits.specs.Zero.{zero_flag, zero_of, zero_values}
use Rattle.tv_core.specs.declared.field.TheConstants.{P}
use Rattle.tv_logic.specs.Flags.{logic_flags_of, flag_values}
use Rattle.tv_logic.specs.declared.answers.LogicFlags.{LogicFlags}
use Rattle.tv_logic.specs.declared.answers.LogicWords.{LogicWords}

-- a sum is 0 exactly where both numbers are
pub flag-sum : (m n sum : ℕ) → sum ≡ m + n → zero_flag m * zero_flag n % P ≡ zero_flag sum
flag-sum m n sum is = search (arith, cases_eq, zero_flag-zero, zero_flag-other)

-- ---- a wire's flag
flag_sound : (z : List ℕ) (next w v : ℕ) → Assigns z → slice_index z w ≡ v → Meets z (zero_of (wire w) next).list
    → slice_index z (zero_of (wire w) next).answer ≡ zero_flag v
flag_sound z next w v assigns is meets = zero_sound z next (wire w) assigns meets ∙ ap zero_flag (value-wire assigns w ∙ is)

flag_complete : (z : List ℕ) (next w v : ℕ) → Assigns z → slice_index z w ≡ v → HasFrom z next (zero_values v) → Meets z (zero_of (wire w) next).list
flag_complete z next w v assigns is has = zero_complete z next (wire w) assigns
    (subst (λ k. HasFrom z next (zero_values k)) (sym (value-wire assigns w ∙ is)) has)

-- wires that hold the flags of numbers, the second being 0 where the first and the third are
pub record HoldFlags (z : List ℕ) (flags : LogicFlags) (ands ors xors nots : ℕ) : Type 0 where
  pub of_and : slice_index z flags.and_zero ≡ zero_flag ands
  pub of_or : slice_index z flags.or_zero ≡ zero_flag ors
  pub of_xor : slice_index z flags.xor_zero ≡ zero_flag xors
  pub of_not : slice_index z flags.not_zero ≡ zero_flag nots

-- where the flags begin
module _ (words : LogicWords) (next : ℕ) where
  abbrev xor_from : ℕ
  xor_from = (zero_of (wire words.and_word) next).next

  abbrev not_from : ℕ
  not_from = (zero_of (wire words.xor_word) xor_from).next

  abbrev or_from : ℕ
  or_from = (zero_of (wire words.not_word) not_from).next

  abbrev ands_wire : ℕ
  ands_wire = (zero_of (wire words.and_word) next).answer

  abbrev xors_wire : ℕ
  xors_wire = (zero_of (wire words.xor_word) xor_from).answer

  xor_from_is : xor_from ≡ next + 2
  xor_from_is = zero_next (wire words.and_word) next

  not_from_is : not_from ≡ next + 2 + 2
  not_from_is = zero_next (wire words.xor_word) xor_from ∙ ap (λ n. n + 2) xor_from_is

  or_from_is : or_from ≡ next + 2 + 2 + 2
  or_from_is = zero_next (wire words.not_word) not_from ∙ ap (λ n. n + 2) not_from_is

  pub flags_next : (logic_flags_of words next).next ≡ next + 7
  unfolding logic_flags_of pure ◌>>=◌
  flags_next = times_next (wire ands_wire) (wire xors_wire) or_from ∙ omega (arith, or_from_is)

  pub flags_same : (a b c d e f g h : ℕ) → a ≡ e → b ≡ f → c ≡ g → d ≡ h
      → ◌≡◌ {A = LogicFlags} (record { and_zero = a; or_zero = b; xor_zero = c; not_zero = d })
      (record { and_zero = e; or_zero = f; xor_zero = g; not_zero = h })
  flags_same a b c d e f g h p q r s = cc

  pub flags_answer : (logic_flags_of words next).answer ≡ record { and_zero = next; or_zero = next + 6; xor_zero = next + 2; not_zero = next + 4 }
  unfolding logic_flags_of pure ◌>>=◌
  flags_answer = search (arith, flags_same, zero_answer, times_answer, or_from_is, xor_from_is, not_from_is)

module _ (z : List ℕ) (next : ℕ) (words : LogicWords) (ands ors xors nots : ℕ) (assigns : Assigns z) (p : slice_index z words.and_word ≡ ands)
    (q : slice_index z words.xor_word ≡ xors) (r : slice_index z words.not_word ≡ nots) (sum : ors ≡ ands + xors) where
  pub flags_sound : Meets z (logic_flags_of words next).list → HoldFlags z (logic_flags_of words next).answer ands ors xors nots
  unfolding logic_flags_of pure ◌>>=◌
  flags_sound meets =
      let ands_met = Meets-split z (zero_of (wire words.and_word) next).list _ meets in
      let xors_met = Meets-split z (zero_of (wire words.xor_word) (xor_from words next)).list _ ands_met.1 in
      let nots_met = Meets-split z (zero_of (wire words.not_word) (not_from words next)).list _ xors_met.1 in
      let ors_met = Meets-split z (times_of (wire (ands_wire words next)) (wire (xors_wire words next)) (or_from words next)).list [] nots_met.1 in
      let of_and = flag_sound z next words.and_word ands assigns p ands_met.0 in
      let of_xor = flag_sound z (xor_from words next) words.xor_word xors assigns q xors_met.0 in
      record {
        of_and = of_and;
        of_or = wires_sound z (or_from words next) (ands_wire words next) (xors_wire words next) assigns ors_met.0 ∙ ap₂ (λ m n. m * n % P) of_and of_xor
            ∙ flag-sum ands xors ors sum;
        of_xor = of_xor;
        of_not = flag_sound z (not_from words next) words.not_word nots assigns r nots_met.0;
      }

  pub flags_complete : HasFrom z next (flag_values ands ors xors nots) → Meets z (logic_flags_of words next).list
  unfolding logic_flags_of pure ◌>>=◌
  flags_complete has =
      let one = HasFrom-split z next (zero_values ands) (zero_values xors ++ (zero_values nots ++ zero_flag ors ∷ [])) has in
      let two = HasFrom-split z (next + 2) (zero_values xors) (zero_values nots ++ zero_flag ors ∷ []) one.1 in
      let three = HasFrom-split z (next + 2 + 2) (zero_values nots) (zero_flag ors ∷ []) two.1 in
      let at : (m n : ℕ) → m ≡ n → (v : ℕ) → HasFrom z n (zero_values v)
      → HasFrom z m (zero_values v) = λ m n e v h. subst (λ k. HasFrom z k (zero_values v)) (sym e) h in
      let ands_met = flag_complete z next words.and_word ands assigns p one.0 in
      let xors_met = flag_complete z (xor_from words next) words.xor_word xors assigns q (at _ _ (xor_from_is words next) xors two.0) in
      let nots_met = flag_complete z (not_from words next) words.not_word nots assigns r (at _ _ (not_from_is words next) nots three.0) in
      let of_and = flag_sound z next words.and_word ands assigns p ands_met in
      let of_xor = flag_sound z (xor_from words next) words.xor_word xors assigns q xors_met in
      let of_or = ap (λ k. slice_index z k) (or_from_is words next) ∙ three.1.0 ∙ sym (ap₂ (λ m n. m * n % P) of_and of_xor ∙ flag-sum ands xors ors sum) in
      Meets-join z (zero_of (wire words.and_word) next).list _ ands_met
      (Meets-join z (zero_of (wire words.xor_word) (xor_from words next)).list _ xors_met
      (Meets-join z (zero_of (wire words.not_word) (not_from words next)).list _ nots_met
      (Meets-join z (times_of (wire (ands_wire words next)) (wire (xors_wire words next)) (or_from words next)).list []
      (wires_complete z (or_from words next) (ands_wire words next) (xors_wire words next) assigns of_or) tt)))
