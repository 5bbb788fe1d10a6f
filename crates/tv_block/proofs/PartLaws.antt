-- What the parts of a step that are made of gadgets alone say: opcode, registers, test and registers written.
use Rattle.tv_core.proofs.Common.{◌≡◌, ℕ, ◌+◌, ◌-◌, ◌%◌, ◌<◌, ◌==◌, Bool, true, false, if◌then◌else◌, List, [], ◌∷◌, ◌++◌, length, inl, inr, refl, sym, ◌∙◌, ap}
use Rattle.tv_core.proofs.Common.{ap₂, subst, arith, slice_index, cases_eq, ne_eqb, eqb-true, nat_tests, value-append, Combination, value, Assigns, Meets}
use Rattle.tv_core.proofs.Common.{IsWidth, flag_of}
use Rattle.std.proofs.Common.{true≢false}
use Rattle.std.specs.List.{AllByRecursion, list_all}
use Rattle.std.proofs.lemmas.Bool.{and_parts}
use Rattle.tv_bits.specs.Bit.{IsBit}
use Rattle.tv_bits.specs.Number.{number_of}
use Rattle.tv_core.specs.declared.field.TheConstants.{P}
use Rattle.tv_decode.proofs.InstructionLaws.{opcode_wire}
use Rattle.tv_decode.specs.Instructions.{dest_bits, source_bits, register_bits, IsOpcodeRow, IsDecoded}
use Rattle.tv_decode.specs.declared.records.InstructionWires.{InstructionWires}
use Rattle.tv_isa.specs.Instruction.{decode}
use Rattle.tv_isa.specs.Opcodes.{among, is_used, unused_ops, store_ops}
use Rattle.tv_isa.specs.declared.instr.Instr.{Instr}
use Rattle.tv_isa.specs.declared.opcode.TheConstants.{USED}
use Rattle.tv_numbers.specs.Numbers.{other_word}
use Rattle.tv_numbers.specs.Views.{View}
use Rattle.tv_regs.proofs.TripleLaws.{triple_sound}
use Rattle.tv_bits.specs.Wires.{words_at}
use Rattle.tv_regs.specs.Triple.{AreNumbers}
use Rattle.tv_regs.specs.declared.triple.Triple.{Triple}
use Rattle.tv_word.proofs.FlagLaws.{flag_small}
use Rattle.tv_inputs.proofs.OpcodeLaws.{opcode_terms_sound, opcode_sum_sound}
use Rattle.tv_arithmetic.specs.Arithmetic.{shift_ops, division_ops}
use Rattle.tv_parts.specs.Flag.{sign_at}
use Rattle.tv_inputs.specs.OpcodeSums.{opcode_sum, opcode_terms, distinct, IsOpcode}
use Rattle.tv_inputs.specs.Results.{sign_of}
use Rattle.tv_inputs.specs.States.{state_in}
use Rattle.tv_inputs.specs.declared.records.StateWires.{StateWires}
use Rattle.tv_block.specs.Block.{registers_of}

-- ---- the opcode
pub used_again : (k : ℕ) → k < 32 → among unused_ops k ≡ false → is_used k ≡ true
used_again k h u = grind (arith, nat_tests)

not_unused : (k : ℕ) → is_used k ≡ true → among unused_ops k ≡ false
not_unused k u = grind (arith, nat_tests)

pub opcode_of_row : (z : List ℕ) (op k : ℕ) → k < 32 → IsOpcodeRow z op k → IsOpcode z op k
opcode_of_row z op k small is = record {
  within = small;
  used = not_unused k is.used;
  row = λ j h u. opcode_wire z op k j is (used_again j h u);
}

pub op_below : (w head tail : ℕ) → (decode w head tail).op < 32
op_below w head tail = omega arith

pub dest_below : (w head tail : ℕ) → (decode w head tail).dest < 16
dest_below w head tail = omega arith

pub source_below : (w head tail : ℕ) → (decode w head tail).source < 16
source_below w head tail = omega arith

-- what holds of each opcode of a list holds of one that is among them
pub among_each : (Q : ℕ → Type 0) (ks : List ℕ) → AllByRecursion Q ks → (k : ℕ) → among ks k ≡ true → Q k
among_each Q [] each k e = absurd (true≢false (sym e))
among_each Q (j ∷ ks) each k e = elim (cases_eq j k) [
  | inl same ↦ subst Q same each.0
  | inr apart ↦ among_each Q ks each.1 k (sym (ap (λ b. if b then true else among ks k) (ne_eqb j k apart)) ∙ e)
]

-- ---- registers
-- the wires are those of the other word, of the register that the second word names, and of the destination
pub record AreRegisters (z : List ℕ) (t : Triple) (v : View) (i : Instr) : Type 0 where
  pub other : slice_index z t.other_word ≡ other_word v i
  pub named : slice_index z t.named_word ≡ slice_index v.regs (i.a % 16)
  pub dest : slice_index z t.dest ≡ i.dest
  pub dest_word : slice_index z t.dest_word ≡ slice_index v.regs i.dest

pub word_by : (b : Bool) (g d s : ℕ) (words : List ℕ) → g ≡ flag_of b
    → slice_index words (if g == 1 then d else s) ≡ (if b then slice_index words d else slice_index words s)
word_by true g d s words e = rw e refl
word_by false g d s words e = rw e refl

-- the numbers that they are read by
pub are_numbers : {w : ℕ} {z : List ℕ} {i : InstructionWires} {head tail : ℕ} → IsDecoded z w i head tail → IsOpcode z i.op (decode w head tail).op
    → AreNumbers z (opcode_sum i.op store_ops) (number_of (dest_bits w i)) (number_of (source_bits w i)) (number_of (register_bits i))
are_numbers {w} {z} {i} {head} {tail} is row =
    let stores = among store_ops (decode w head tail).op in
    record {
      store = subst IsBit (sym (opcode_sum_sound z i.op (decode w head tail).op store_ops row refl)) (flag_small stores);
      dest = subst (λ n. n < 16) (sym is.dest) (dest_below w head tail);
      other = subst (λ n. n < 16) (sym is.source) (source_below w head tail);
      third = subst (λ n. n < 16) (sym is.register) (omega arith);
    }

pub registers_sound : (w : ℕ) → IsWidth w → (z : List ℕ) (next : ℕ) (state : StateWires) (i : InstructionWires) (head tail : ℕ)
    → length state.regs ≡ 16 → Assigns z → IsDecoded z w i head tail → Meets z (registers_of w state i next).list
    → AreRegisters z (registers_of w state i next).answer (state_in z state) (decode w head tail)
registers_sound w width z next state i head tail size assigns is meets =
    let ins : Instr = decode w head tail in
    let words = words_at z state.regs in
    let stores = opcode_sum i.op store_ops in
    let row = opcode_of_row z i.op ins.op (op_below w head tail) is.opcode in
    let store_is : value stores z ≡ flag_of (among store_ops ins.op) = opcode_sum_sound z i.op ins.op store_ops row refl in
    let target = number_of (dest_bits w i) in
    let source = number_of (source_bits w i) in
    let named = number_of (register_bits i) in
    let read = triple_sound z next stores target source named state.regs size assigns (are_numbers is row) meets in
    record {
      other =
          read.other_word ∙ word_by (among store_ops ins.op) (value stores z) (value target z) (value source z) words store_is
          ∙ ap₂ (λ d s. if among store_ops ins.op then slice_index words d else slice_index words s) is.dest is.source;
      named = read.named_word ∙ ap (slice_index words) is.register;
      dest = read.dest ∙ is.dest;
      dest_word = read.dest_word ∙ ap (slice_index words) is.dest;
    }

-- ---- the sign of the test
abbrev term_at : ℕ → List ℕ → ℕ → ℕ
term_at c ks k = if among ks k then c else 0

abbrev sign_sum : ℕ → ℕ
sign_sum k =
    (term_at 1 (0 ∷ 1 ∷ 2 ∷ 3 ∷ []) k + (term_at (P - 1) (4 ∷ []) k + (term_at 1 (5 ∷ []) k + (term_at (P - 1) (6 ∷ 7 ∷ 8 ∷ []) k
    + (term_at 1 (9 ∷ 10 ∷ 11 ∷ 12 ∷ 13 ∷ []) k + term_at (P - 1) (14 ∷ 15 ∷ 16 ∷ 17 ∷ []) k) % P) % P) % P) % P) % P

each_tested : (test : ℕ → Bool) (ks : List ℕ) → list_all test ks ≡ true → AllByRecursion (λ k. test k ≡ true) ks
each_tested test [] e = tt
each_tested test (k ∷ ks) e = let parts = and_parts (test k) (list_all test ks) e in (parts.0, each_tested test ks parts.1)

sign_number : (k : ℕ) → is_used k ≡ true → sign_sum k ≡ sign_at k
sign_number k used =
    let each = each_tested (λ k. sign_sum k == sign_at k) USED refl in
    eqb-true (sign_sum k) (sign_at k) (among_each (λ k. (sign_sum k == sign_at k) ≡ true) USED each k used)

pub sign_value : (z : List ℕ) (op k : ℕ) → IsOpcode z op k → value (sign_of op) z ≡ sign_at k
sign_value z op k row =
    let terms_are : (c : ℕ) (ks : List ℕ) → c < P → distinct ks ≡ true → value (opcode_terms c op ks) z ≡ term_at c ks k =
    λ c ks small apart. opcode_terms_sound z c op k ks small row apart in
    let fifth : Combination = opcode_terms (P - 1) op (14 ∷ 15 ∷ 16 ∷ 17 ∷ []) in
    let fourth : Combination = opcode_sum op (9 ∷ 10 ∷ 11 ∷ 12 ∷ 13 ∷ []) ++ fifth in
    let third : Combination = opcode_terms (P - 1) op (6 ∷ 7 ∷ 8 ∷ []) ++ fourth in
    let second : Combination = opcode_sum op (5 ∷ []) ++ third in
    let first : Combination = opcode_terms (P - 1) op (4 ∷ []) ++ second in
    value-append (opcode_sum op (0 ∷ 1 ∷ 2 ∷ 3 ∷ [])) first z
    ∙ ap₂ add (terms_are 1 (0 ∷ 1 ∷ 2 ∷ 3 ∷ []) (omega arith) refl) (value-append (opcode_terms (P - 1) op (4 ∷ [])) second z
    ∙ ap₂ add (terms_are (P - 1) (4 ∷ []) (omega arith) refl) (value-append (opcode_sum op (5 ∷ [])) third z
    ∙ ap₂ add (terms_are 1 (5 ∷ []) (omega arith) refl) (value-append (opcode_terms (P - 1) op (6 ∷ 7 ∷ 8 ∷ [])) fourth z
    ∙ ap₂ add (terms_are (P - 1) (6 ∷ 7 ∷ 8 ∷ []) (omega arith) refl) (value-append (opcode_sum op (9 ∷ 10 ∷ 11 ∷ 12 ∷ 13 ∷ [])) fifth z
    ∙ ap₂ add (terms_are 1 (9 ∷ 10 ∷ 11 ∷ 12 ∷ 13 ∷ []) (omega arith) refl)
    (terms_are (P - 1) (14 ∷ 15 ∷ 16 ∷ 17 ∷ []) (omega arith) refl)))))
    ∙ sign_number k (used_again k row.within row.used)
  where
    add : ℕ → ℕ → ℕ
    add a b = (a + b) % P

-- ---- the test at a shift and at a division
pub sign_shift : (k : ℕ) → among shift_ops k ≡ true → sign_at k ≡ 1
sign_shift = among_each (λ k. sign_at k ≡ 1) shift_ops (refl, (refl, tt))

pub sign_division : (k : ℕ) → among division_ops k ≡ true → sign_at k ≡ 1
sign_division = among_each (λ k. sign_at k ≡ 1) division_ops (refl, (refl, tt))
