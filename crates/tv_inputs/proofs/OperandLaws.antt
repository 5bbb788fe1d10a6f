-- The laws of the operand.
use Rattle.tv_core.proofs.Common.{◌≡◌, ℕ, ◌+◌, ◌-◌, ◌*◌, ◌%◌, ◌^◌, ◌<◌, Bool, true, false, if◌then◌else◌, List, [], ◌∷◌, length, refl, sym, ◌∙◌, ap, ap₂, subst}
use Rattle.tv_core.proofs.Common.{arith, value-wire, InField-cons, fresh, put, pure, ◌>>=◌, wire, constant, Combination, value, HasFrom, width_short, IsWidth}
use Rattle.tv_core.proofs.Common.{flag_of}
use Rattle.std.proofs.Common.{length-append}
use Rattle.tv_bits.proofs.DoubleRowLaws.{new_bits_constraints, new_bits_terms}
use Rattle.tv_bits.proofs.SizeLaws.{length-bits, bits_in_field}
use Rattle.tv_bits.proofs.BitsLaws.{bits_sound, bits_complete, bits_answer, new_bits_next, new_bits_answer}
use Rattle.tv_bits.specs.Bits.{HasBits, bits_combination, bits_values, new_bits_of, bits_of}
use Rattle.tv_bits.specs.declared.bit_wires.Bits.{Bits}
use Rattle.tv_core.proofs.BelowLaws.{length-weighted}
use Rattle.tv_core.specs.declared.field.TheConstants.{P}
use Rattle.tv_inputs.proofs.Settled.{Settles, sum_then, settles_to}
use Rattle.tv_inputs.proofs.FieldNumbers.{small_word}
use Rattle.tv_inputs.proofs.Sized.{Sized, sized_then, sized_pure, sized_as, sized_put}
use Rattle.tv_inputs.proofs.TapeGates.{value-two}
use Rattle.tv_inputs.specs.Accumulation.{closed_of}
use Rattle.tv_inputs.specs.Operand.{operand_of, HasOperand, OperandIsSound, OperandIsComplete, OperandSizes, OperandCosts, operand_values, IsOperand}
use Rattle.tv_inputs.specs.declared.records.OperandWires.{OperandWires}

word_below : (w : ℕ) (b : Bool) (m n : ℕ) → m < 2 ^ w → n < 2 ^ w → (if b then m else n) < 2 ^ w
word_below w true m n h k = h
word_below w false m n h k = k

picked : (b : Bool) (m n : ℕ) → m < P → n < P → (n + flag_of b * ((1 * m + (P - 1) * n) % P)) % P ≡ (if b then m else n)
picked true m n h k = omega arith
picked false m n h k = omega arith

module _ (w : ℕ) (width : IsWidth w) (z : List ℕ) (imm tail register : ℕ) (immediate : Bool) (second named : ℕ)
    (has : HasOperand w z (record { imm = imm; tail = tail; register = register }) immediate second named) where
  sum_is : (value (wire register) z + value (wire imm) z * value ((1, tail) ∷ (P - 1, register) ∷ []) z) % P ≡ (if immediate then second else named)
  sum_is =
      let parts = value-two z 1 (P - 1) tail register ∙ ap₂ (λ m n. (1 * m + (P - 1) * n) % P) has.whole has.held in
      ap₂ (λ m n. (m + n) % P) (value-wire has.assigns register ∙ has.held) (ap₂ (λ m n. m * n) (value-wire has.assigns imm ∙ has.bit) parts)
      ∙ picked immediate second named (small_word w width second has.second_word) (small_word w width named has.named_word)

  operand_settled : Settles z (operand_of w imm tail register) (operand_values w (if immediate then second else named))
      (λ a. IsOperand w z a (if immediate then second else named))
  unfolding operand_of
  operand_settled =
      let assigns = has.assigns in
      let most = width_short w width in
      let small = word_below w immediate second named has.second_word has.named_word in
      sum_then assigns _ (wire register) (wire imm) ((1, tail) ∷ (P - 1, register) ∷ []) sum_is (λ word is_word.
      let is = value-wire assigns word ∙ is_word in
      settles_to (bits_of (wire word) w) _ {S = λ b. HasBits z b.first w (if immediate then second else named)} (record {
        sound = λ next meets.
            subst (λ v. HasBits z (bits_of (wire word) w next).answer.first w v) is (bits_sound z next (wire word) w (omega arith) assigns meets);
        complete = λ next values. bits_complete z next (wire word) w (subst (λ v. v < 2 ^ w) (sym is) small) assigns
            (subst (λ v. HasFrom z next (bits_values v w)) (sym is) values);
      }) (λ bits are. record { word = is_word; bits = are }))

pub operand_sound : OperandIsSound
operand_sound w width z next imm tail register immediate second named has = (operand_settled w width z imm tail register immediate second named has).sound next

pub operand_complete : OperandIsComplete
operand_complete w width z next imm tail register immediate second named has =
    (operand_settled w width z imm tail register immediate second named has).complete next

-- ---- sizes and costs
with_bits : ℕ → Bits → OperandWires
with_bits word bits = record { word = word; bits = bits }

operand_answer : (w imm tail register next : ℕ) →
    (operand_of w imm tail register next).answer ≡ record { word = next; bits = record { first = next + 1; n = w } }
unfolding operand_of closed_of fresh put pure ◌>>=◌ with_bits
operand_answer w imm tail register next = ap (with_bits next) (bits_answer (wire next) w (next + 1))

pub accumulated_sized : (x f g : Combination) → Sized (closed_of x f g) 1 1 (length f + length g + (length x + 1))
unfolding closed_of fresh put pure ◌>>=◌
accumulated_sized x f g = record { end = λ next. refl; count = λ next. refl; size = λ next. omega (arith, length-append x (wire next)) }

new_bits_sized : (n : ℕ) → Sized (new_bits_of n) n n (3 * n)
new_bits_sized n = record { end = new_bits_next n; count = new_bits_constraints n; size = new_bits_terms n }

pub bits_sized : (x : Combination) (n : ℕ) → Sized (bits_of x n) n (n + 1) (4 * n + 1 + length x)
unfolding bits_of
bits_sized x n =
    sized_as (sized_then _ (new_bits_sized n) (λ next. sized_then _ (sized_as
    (sized_put (bits_combination (new_bits_of n next).answer.first (new_bits_of n next).answer.n) (constant 1) x) refl refl
    (ap (λ k. k + 1 + length x) (length-weighted (new_bits_of n next).answer.first (new_bits_of n next).answer.n (λ i. 2 ^ i % P)
    ∙ ap (λ (b : Bits). b.n) (new_bits_answer n next))))
    (λ at. sized_pure _)))
    (omega arith) (omega arith) (omega arith)

operand_sized : (w imm tail register : ℕ) → Sized (operand_of w imm tail register) (w + 1) (w + 2) (4 * w + 7)
unfolding operand_of
operand_sized w imm tail register =
    sized_as (sized_then _ (accumulated_sized _ (wire imm) ((1, tail) ∷ (P - 1, register) ∷ [])) (λ next. sized_then _ (bits_sized _ w) (λ at. sized_pure _)))
    (omega arith) (omega arith) (omega arith)

pub operand_sizes : OperandSizes
operand_sizes = record {
  answer = operand_answer;
  end = λ w imm tail register. (operand_sized w imm tail register).end;
  fills = λ w imm tail register a next. (operand_sized w imm tail register).end next ∙ ap (λ k. next + k) (omega (arith, length-bits a w));
  in_field = λ w a small. InField-cons a (bits_values a w) small (bits_in_field a w);
}

pub operand_cost_laws : OperandCosts
operand_cost_laws = record {
  constraints = λ w imm tail register. (operand_sized w imm tail register).count;
  terms = λ w imm tail register. (operand_sized w imm tail register).size;
}
