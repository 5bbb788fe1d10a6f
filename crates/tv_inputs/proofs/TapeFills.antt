-- Where an assignment has the tapes' values, and what the tapes cost.
use Rattle.tv_core.proofs.Common.{◌≡◌, ℕ, ◌+◌, ◌-◌, ◌*◌, ◌/◌, ◌%◌, ◌^◌, ◌<◌, ◌≤◌, ◌==◌, not, Bool, true, false, if◌then◌else◌, List, [], ◌∷◌, length, refl, ◌∙◌}
use Rattle.tv_core.proofs.Common.{ap, arith, slice_index, InField-cons, InField-none, fresh, put, pure, ◌>>=◌, Combination, InField, terms_in, IsWidth, flag_of}
use Rattle.std.proofs.Common.{◌&&◌}
use Rattle.tv_bits.proofs.TimesLaws.{residue_below}
use Rattle.tv_bits.specs.Times.{times_of}
use Rattle.tv_core.specs.Inverse.{inverse_of}
use Rattle.tv_core.specs.declared.field.TheConstants.{P}
use Rattle.tv_isa.specs.declared.instr.Instr.{Instr}
use Rattle.tv_numbers.specs.Numbers.{operand_word, asks, takes_primary, stepped}
use Rattle.tv_numbers.specs.Views.{View}
use Rattle.tv_inputs.proofs.FieldNumbers.{flag_in_field, either}
use Rattle.tv_inputs.proofs.TapeLaws.{tapes_settled}
use Rattle.tv_inputs.proofs.UpperLaws.{length-upper}
use Rattle.tv_inputs.specs.Tapes.{if_zero_of, primary_of, auxiliary_of, tapes_of, tapes_values, tapes_terms, TapesAreComplete, TapesSizes, TapesCosts}
use Rattle.tv_inputs.specs.declared.records.OperandWires.{OperandWires}
use Rattle.tv_inputs.specs.declared.records.StateWires.{StateWires}
use Rattle.tv_inputs.specs.declared.records.TapeWires.{TapeWires}
use Rattle.tv_bits.specs.Zero.{zero_cases_of}

pub flag_test : (b : Bool) → (flag_of b == 1) ≡ b
flag_test true = refl
flag_test false = refl

abbrev wires_from : ℕ → ℕ → ℕ → TapeWires
wires_from a b c = record { taken = a; takes = b; ended = c }

same_wires : (a b c d e f : ℕ) → a ≡ d → b ≡ e → c ≡ f → wires_from a b c ≡ wires_from d e f
same_wires a b c d e f p q r = ap (λ x. wires_from x b c) p ∙ ap (λ x. wires_from d x c) q ∙ ap (wires_from d e) r

tapes_answer : (w n : ℕ) (state : StateWires) (op : ℕ) (a : OperandWires) (next : ℕ)
    → (tapes_of w n state op a next).answer ≡ record { taken = next + 3; takes = next + 5; ended = next + 6 }
unfolding tapes_of if_zero_of zero_cases_of times_of primary_of auxiliary_of fresh put pure ◌>>=◌
tapes_answer w n state op a next = same_wires _ _ _ _ _ _ (omega arith) (omega arith) (omega arith)

-- where one is asked for, a word of the auxiliary tape may be taken
pub tapes_filled : TapesAreComplete
tapes_filled w width z next n state op a v i o takes has asked values =
    let place : next + 5 ≡ next + 1 + 1 + 1 + 1 + 1 = omega arith in
    let is : slice_index z (tapes_of w n state op a next).answer.takes ≡ flag_of takes =
    ap (λ (t : TapeWires). slice_index z t.takes) (tapes_answer w n state op a next) ∙ ap (slice_index z) place ∙ values.1.1.1.1.1.0 in
    ((tapes_settled w width z n state op a v i o takes has asked).complete next values, ap (λ t. t == 1) is ∙ flag_test takes)

tapes_next : (w n : ℕ) (state : StateWires) (op : ℕ) (a : OperandWires) (next : ℕ) → (tapes_of w n state op a next).next ≡ next + 7
unfolding tapes_of if_zero_of zero_cases_of times_of primary_of auxiliary_of fresh put pure ◌>>=◌
tapes_next w n state op a next = omega arith

tapes_in_field : (w n : ℕ) (v : View) (i : Instr) (o : ℕ) (takes : Bool) → n < 2 ^ 29 → v.taken ≤ n → v.ended < 2 → InField (tapes_values w n v i o takes)
tapes_in_field w n v i o takes short within bit =
    let k : Bool = i.op == 30 in
    let a : ℕ = operand_word v i in
    let v7 : List ℕ = (stepped w n v i o takes).ended ∷ [] in
    let v6 : List ℕ = flag_of takes ∷ v7 in
    let v5 : List ℕ = inverse_of (n - v.taken) * flag_of (k && (a == 0)) % P ∷ v6 in
    let v4 : List ℕ = (stepped w n v i o takes).taken ∷ v5 in
    let v3 : List ℕ = flag_of (k && (a == 1)) ∷ v4 in
    let v2 : List ℕ = inverse_of (a / 2) * flag_of k % P ∷ v3 in
    InField-cons (if a / 2 == 0 then flag_of k else 0) v2 (either (a / 2 == 0) (flag_of k) 0 (flag_in_field k) (omega arith))
    (InField-cons (inverse_of (a / 2) * flag_of k % P) v3 (residue_below (inverse_of (a / 2) * flag_of k))
    (InField-cons (flag_of (k && (a == 1))) v4 (flag_in_field (k && (a == 1)))
    (InField-cons (stepped w n v i o takes).taken v5 (either (takes_primary v i n) (v.taken + 1) v.taken (omega arith) (omega arith))
    (InField-cons (inverse_of (n - v.taken) * flag_of (k && (a == 0)) % P) v6 (residue_below (inverse_of (n - v.taken) * flag_of (k && (a == 0))))
    (InField-cons (flag_of takes) v7 (flag_in_field takes)
    (InField-cons (stepped w n v i o takes).ended [] (either (asks v i && not takes) 1 v.ended (omega arith) (omega arith)) InField-none))))))

pub tapes_sizes : TapesSizes
tapes_sizes = record {
  answer = tapes_answer;
  end = tapes_next;
  fills = λ w n state op a v i o takes next. tapes_next w n state op a next;
  in_field = tapes_in_field;
}

tapes_count : (w n : ℕ) (state : StateWires) (op : ℕ) (a : OperandWires) (next : ℕ) → length (tapes_of w n state op a next).list ≡ 7
unfolding tapes_of if_zero_of zero_cases_of times_of primary_of auxiliary_of fresh put pure ◌>>=◌
tapes_count w n state op a next = refl

-- what is left of the words has one term, or two
length-left : (b : Bool) (x y : Combination) → length x ≡ 1 → length y ≡ 2 → 2 * length (if b then x else y) + 27 ≡ (if b then 29 else 31)
length-left true x y one two = omega (arith, one)
length-left false x y one two = omega (arith, two)

terms_put : (w : ℕ) → IsWidth w → (n : ℕ) (state : StateWires) (op : ℕ) (a : OperandWires) (next : ℕ)
    → terms_in (tapes_of w n state op a next).list ≡ tapes_terms n
unfolding tapes_of if_zero_of zero_cases_of times_of primary_of auxiliary_of fresh put pure ◌>>=◌
terms_put w width n state op a next =
    let before = state.taken_of_primary in
    let left = length-left (n == 0) ((P - 1, before) ∷ []) ((n, 0) ∷ (P - 1, before) ∷ []) refl refl in
    omega (arith, length-upper 1 a 1, left)

pub tapes_costs : TapesCosts
tapes_costs = record { constraints = tapes_count; terms = terms_put }
