-- The result of a step, and the number whose test for 0 is its flag.
use Rattle.std.specs.Prelude.{◌≡◌, ℕ, ◌+◌, ◌-◌, ◌/◌, ◌%◌, ◌^◌, ◌<◌, ◌≤◌, Bool, true, ◌==◌, ◌||◌, if◌then◌else◌, List, [], ◌∷◌, ◌++◌, length, slice_index}
use Rattle.std.specs.Int.{bit_at}
use Rattle.tv_bits.specs.Times.{times_of}
use Rattle.tv_core.specs.Circuits.{Circuit, fresh, put, pure, ◌>>=◌}
use Rattle.tv_core.specs.Combinations.{wire}
use Rattle.tv_core.specs.Constraints.{Combination}
use Rattle.tv_core.specs.Laws.{Assigns, Meets, HasFrom, Fills, InField}
use Rattle.tv_core.specs.Meanings.{terms_in}
use Rattle.tv_core.specs.declared.field.TheConstants.{P}
use Rattle.tv_isa.specs.Opcodes.{among, chosen, writer_ops, place_of}
use Rattle.tv_isa.specs.declared.instr.Instr.{Instr}
use Rattle.tv_isa.specs.declared.opcode.TheConstants.{AND, OR, XOR, NOT, ADD, SUB, MULL, UMULH, SMULH, UDIV, UMOD, SHL, SHR, CMPE, CMPA, CMPAE, CMPG, CMPGE}
use Rattle.tv_isa.specs.declared.opcode.TheConstants.{MOV, CMOV, LOAD_B, LOAD_W}
use Rattle.tv_mem.specs.Bytes.{byte_of}
use Rattle.tv_numbers.specs.Numbers.{operand_word, other_word, found, result_in}
use Rattle.tv_numbers.specs.Views.{View}
use Rattle.tv_step.specs.Rows.{word_size}
use Rattle.tv_word.specs.Widths.{IsWidth}
use Rattle.tv_inputs.specs.Accumulation.{accumulated_of}
use Rattle.tv_inputs.specs.Inputs.{TapedWires, StepInput, input_of}
use Rattle.tv_inputs.specs.OpcodeSums.{opcode_terms, opcode_sum, IsOpcode}
use Rattle.tv_inputs.specs.Operand.{upper_of, IsOperand}
use Rattle.tv_inputs.specs.Rows.{covers, AreHalves}
use Rattle.tv_inputs.specs.Tapes.{took, AreTapes}
use Rattle.tv_inputs.specs.TestNumbers.{zero_ops, carry_ops, place_bits, tested_numbers}
use Rattle.tv_inputs.specs.declared.records.OperandWires.{OperandWires}
use Rattle.tv_inputs.specs.declared.records.ResultWires.{ResultWires}
use Rattle.tv_inputs.specs.declared.records.Sources.{Sources}
use Rattle.tv_inputs.specs.declared.records.StateWires.{StateWires}
use Rattle.tv_inputs.specs.declared.records.TapeWires.{TapeWires}

-- ---- the result
-- the opcodes whose result is the row's low half or has it as a part, and those of the high half: or is and + xor
abbrev pub low_ops : List ℕ
low_ops = AND ∷ OR ∷ ADD ∷ SUB ∷ MULL ∷ UMOD ∷ SHL ∷ CMPE ∷ LOAD_W ∷ []

abbrev pub high_ops : List ℕ
high_ops = OR ∷ XOR ∷ UMULH ∷ SMULH ∷ UDIV ∷ SHR ∷ []

-- the parts of the result but the byte: 2 ^ w - 1 where the wire `not` is 1, and three wires
abbrev pub parts_in : ℕ → ℕ → ℕ → ℕ → ℕ → Combination
parts_in w not low high moved = (2 ^ w - 1, not) ∷ (1, low) ∷ (1, high) ∷ (1, moved) ∷ []

-- the result: the halves, the operand at mov and cmov, 2 ^ w - 1 less it at not, the byte at load.b, and the data word
-- at a read that finds one
unfoldable pub result_of : ℕ → StateWires → ℕ → OperandWires → Sources → TapeWires → Circuit ℕ
result_of w state op a from t = do
  low ← times_of ((P - 1, state.taken_of_primary) ∷ (opcode_sum op low_ops ++ (1, t.taken) ∷ (1, t.takes) ∷ [])) (wire from.low)
  high ← times_of (opcode_sum op high_ops) (wire from.high)
  moved ← times_of ((P - 1, op + place_of NOT) ∷ opcode_sum op (MOV ∷ CMOV ∷ [])) (wire a.word)
  accumulated_of (parts_in w (op + place_of NOT) low high moved) (opcode_sum op (LOAD_B ∷ [])) (wire from.byte)

-- ---- the number that is tested
-- 0 where y is the high half less 2 ^ w - 1 times the low half's top bit
abbrev pub signs_in : ℕ → ℕ → ℕ → ℕ → Combination
signs_in w top high y = (2 ^ w - 1, top) ∷ (P - 1, high) ∷ (1, y) ∷ []

-- the number y that is tested: the result, the high half, at smulh the high half less 2 ^ w - 1 times the low one's top
-- bit, and at the shifts the operand's bits from number log w on
unfoldable pub tested_of : ℕ → ℕ → OperandWires → Sources → ℕ → Circuit ℕ
tested_of w op a from result = do
  y ← fresh
  _ ← put (opcode_sum op zero_ops) ((P - 1, result) ∷ (1, y) ∷ []) []
  _ ← put (opcode_sum op carry_ops) ((P - 1, from.high) ∷ (1, y) ∷ []) []
  _ ← put (opcode_sum op (SMULH ∷ [])) (signs_in w from.top from.high y) []
  _ ← put (opcode_sum op (SHL ∷ SHR ∷ [])) (upper_of (P - 1) a (place_bits w) ++ wire y) []
  pure y

unfoldable pub results_of : ℕ → StateWires → ℕ → OperandWires → Sources → TapeWires → Circuit ResultWires
results_of w state op a from t = do
  word ← result_of w state op a from t
  tested ← tested_of w op a from word
  pure (record { word = word; tested = tested })

-- the sign of the flag's test, which is 1 at y ≡ 0 where the flag is then set, and -1 where it is then clear: the sum of
-- the opcodes' wires, with those of the second kind negative
abbrev pub sign_of : ℕ → Combination
sign_of op =
    opcode_sum op (AND ∷ OR ∷ XOR ∷ NOT ∷ []) ++ (opcode_terms (P - 1) op (ADD ∷ []) ++ (opcode_sum op (SUB ∷ [])
    ++ (opcode_terms (P - 1) op (MULL ∷ UMULH ∷ SMULH ∷ []) ++ (opcode_sum op (UDIV ∷ UMOD ∷ SHL ∷ SHR ∷ CMPE ∷ [])
    ++ opcode_terms (P - 1) op (CMPA ∷ CMPAE ∷ CMPG ∷ CMPGE ∷ [])))))

-- ---- in numbers
-- z has what the result is made from
pub record HasSources (w : ℕ) (z : List ℕ) (wires : TapedWires) (from : Sources) (step : StepInput) (high : ℕ) : Type 0 where
  pub assigns : Assigns z
  pub within : step.view.taken ≤ step.words
  pub short : step.words < 2 ^ 29
  pub before : slice_index z wires.state.taken_of_primary ≡ step.view.taken
  pub opcode : IsOpcode z wires.op step.instr.op
  pub operand : IsOperand w z wires.operand (operand_word step.view step.instr)
  pub low_wire : slice_index z from.low ≡ step.low
  pub high_wire : slice_index z from.high ≡ high
  pub top : slice_index z from.top ≡ bit_at step.low (w - 1)
  pub byte : slice_index z from.byte ≡ byte_of step.low (operand_word step.view step.instr % word_size w)
  pub other : other_word step.view step.instr < 2 ^ w
  pub halves : AreHalves w (other_word step.view step.instr) (operand_word step.view step.instr) step.instr.op step.low high
  pub tapes : AreTapes z wires.tapes step.words step.view step.instr

-- the wires are those of the result, which is the table's where it may be written, and the low half at cmpe, and of the
-- number that is tested, where there is one
pub record AreResults (w : ℕ) (z : List ℕ) (r : ResultWires) (step : StepInput) (high : ℕ) (takes : Bool) : Type 0 where
  pub word : among (CMOV ∷ writer_ops) step.instr.op ≡ true → slice_index z r.word ≡ result_in w step.words step.view step.instr step.low takes
  pub compared : step.instr.op ≡ CMPE → slice_index z r.word ≡ step.low
  pub tested : covers (tested_numbers w (operand_word step.view step.instr) step.low high (slice_index z r.word)) step.instr.op ≡ true
      → slice_index z r.tested ≡ chosen (tested_numbers w (operand_word step.view step.instr) step.low high (slice_index z r.word)) step.instr.op

-- an assignment that satisfies the constraints has them at the returned wires
abbrev pub ResultsAreSound : Type 0
ResultsAreSound = (w : ℕ) → IsWidth w → (z : List ℕ) (next n : ℕ) (state : StateWires) (op : ℕ) (a : OperandWires) (from : Sources) (t : TapeWires) (v : View)
    (i : Instr) (low high : ℕ)
    → HasSources w z (record { state = state; op = op; operand = a; tapes = t }) from (input_of n v i low) high
    → Meets z (results_of w state op a from t next).list
    → AreResults w z (results_of w state op a from t next).answer (input_of n v i low) high (took z t)

-- the values of the wires that are made: the parts of the result that are a half of the row or the operand, the result,
-- and the number that is tested, which is the operand at a division
abbrev pub low_part : ℕ → ℕ → Bool → ℕ
low_part k low found = if among low_ops k || found then low else 0

abbrev pub high_part : ℕ → ℕ → ℕ
high_part k high = if among high_ops k then high else 0

abbrev pub moved_part : ℕ → ℕ → ℕ
moved_part k a = if k == NOT then (P - a) % P else if among (MOV ∷ CMOV ∷ []) k then a else 0

abbrev pub result_number : ℕ → ℕ → ℕ → ℕ → ℕ → Bool → ℕ
result_number w k a low high found =
    (low_part k low found + high_part k high + moved_part k a + (if k == NOT then 2 ^ w - 1 else if k == LOAD_B then byte_of low (a % word_size w) else 0)) % P

abbrev pub tested_number : ℕ → ℕ → ℕ → ℕ → ℕ → ℕ → ℕ
tested_number w k a low high result = if among (UDIV ∷ UMOD ∷ []) k then a else chosen (tested_numbers w a low high result) k

abbrev pub results_values : ℕ → ℕ → ℕ → ℕ → ℕ → Bool → List ℕ
results_values w k a low high found =
    let result : ℕ = result_number w k a low high found in
    low_part k low found ∷ high_part k high ∷ moved_part k a ∷ result ∷ tested_number w k a low high result ∷ []

-- an assignment that has these values at the wires that are made meets the constraints
abbrev pub ResultsAreComplete : Type 0
ResultsAreComplete = (w : ℕ) → IsWidth w → (z : List ℕ) (next n : ℕ) (state : StateWires) (op : ℕ) (a : OperandWires) (from : Sources) (t : TapeWires)
    (v : View) (i : Instr) (low high : ℕ)
    → HasSources w z (record { state = state; op = op; operand = a; tapes = t }) from (input_of n v i low) high
    → HasFrom z next (results_values w i.op (operand_word v i) low high (found w n v i low (took z t)))
    → Meets z (results_of w state op a from t next).list

-- which wires are returned, and that the values are one number of the field for each wire that is made
pub record ResultsSizes : Type 0 where
  pub answer : (w : ℕ) (state : StateWires) (op : ℕ) (a : OperandWires) (from : Sources) (t : TapeWires) (next : ℕ)
      → (results_of w state op a from t next).answer ≡ record { word = next + 3; tested = next + 4 }
  pub end : (w : ℕ) (state : StateWires) (op : ℕ) (a : OperandWires) (from : Sources) (t : TapeWires) (next : ℕ)
      → (results_of w state op a from t next).next ≡ next + 5
  pub fills : (w : ℕ) (state : StateWires) (op : ℕ) (a : OperandWires) (from : Sources) (t : TapeWires) (k x low high : ℕ) (found : Bool)
      → Fills (results_of w state op a from t) (results_values w k x low high found)
  pub in_field : (w : ℕ) → IsWidth w → (k a low high : ℕ) (found : Bool) → a < 2 ^ w → low < 2 ^ w → high < 2 ^ w
      → InField (results_values w k a low high found)

-- eight constraints, of w / 16 + 62 terms
pub record ResultsCosts : Type 0 where
  pub constraints : (w : ℕ) (state : StateWires) (op : ℕ) (a : OperandWires) (from : Sources) (t : TapeWires) (next : ℕ)
      → length (results_of w state op a from t next).list ≡ 8
  pub terms : (w : ℕ) → IsWidth w → (state : StateWires) (op : ℕ) (a : OperandWires) (from : Sources) (t : TapeWires) (next : ℕ)
      → terms_in (results_of w state op a from t next).list ≡ w / 16 + 62
