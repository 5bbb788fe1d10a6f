-- The flag after a step.
use Rattle.std.specs.Prelude.{◌≡◌, ℕ, ◌+◌, ◌-◌, ◌%◌, ◌^◌, ◌<◌, ◌≤◌, Bool, true, ◌==◌, if◌then◌else◌, List, [], ◌∷◌, ◌++◌, length, slice_index}
use Rattle.std.specs.Int.{bit_at}
use Rattle.tv_bits.specs.Bit.{IsBit}
use Rattle.tv_bits.specs.Times.{times_of}
use Rattle.tv_bits.specs.declared.bit_wires.Bits.{Bits}
use Rattle.tv_core.specs.Circuits.{Circuit, ◌>>=◌}
use Rattle.tv_core.specs.Combinations.{wire}
use Rattle.tv_core.specs.Constraints.{Combination}
use Rattle.tv_core.specs.Laws.{Assigns, Meets, HasFrom, Fills, InField}
use Rattle.tv_core.specs.Meanings.{terms_in}
use Rattle.tv_core.specs.declared.field.TheConstants.{P}
use Rattle.tv_isa.specs.Opcodes.{among, chosen, keeper_ops}
use Rattle.tv_isa.specs.declared.instr.Instr.{Instr}
use Rattle.tv_isa.specs.declared.opcode.TheConstants.{ADD, MULL, UMULH, SMULH, UDIV, UMOD, SHL, SHR, CMPE, CMPA, CMPAE, CMPG, CMPGE, READ}
use Rattle.tv_numbers.specs.Numbers.{operand_word, other_word, found, result_in}
use Rattle.tv_numbers.specs.Tables.{flags}
use Rattle.tv_numbers.specs.Views.{View}
use Rattle.tv_word.specs.Widths.{IsWidth}
use Rattle.tv_inputs.specs.Accumulation.{accumulated_of}
use Rattle.tv_inputs.specs.Inputs.{FlagWires, StepInput, input_of, ResultNumbers}
use Rattle.tv_inputs.specs.OpcodeSums.{opcode_sum, IsOpcode}
use Rattle.tv_inputs.specs.TestNumbers.{plus_ops, minus_ops, zero_ops, tested_numbers}
use Rattle.tv_inputs.specs.Rows.{covers, AreHalves}
use Rattle.tv_inputs.specs.Tapes.{took, AreTapes}
use Rattle.tv_inputs.specs.declared.records.StateWires.{StateWires}
use Rattle.tv_inputs.specs.declared.records.TapeWires.{TapeWires}
use Rattle.tv_word.specs.Word.{flag_of}

-- the flag where it isn't kept, without the shifts' bits: the test f, 1 more where its sign is negative, and 1 less what
-- is taken of a tape at read
abbrev pub tested_in : ℕ → ℕ → ℕ → TapeWires → ℕ → ℕ → Combination
tested_in before op f t left right =
    (1, before) ∷ (opcode_sum op (ADD ∷ MULL ∷ UMULH ∷ SMULH ∷ CMPA ∷ CMPAE ∷ CMPG ∷ CMPGE ∷ READ ∷ []) ++ (1, f) ∷ (P - 1, t.taken) ∷ (P - 1, t.takes)
    ∷ (1, left) ∷ (1, right) ∷ [])

-- the top bit of x at the shift to the left, in place of f, and its lowest bit at that to the right; the flag stays at
-- the opcodes that keep it
unfoldable pub next_flag_of : ℕ → StateWires → ℕ → Bits → ℕ → TapeWires → Circuit ℕ
next_flag_of w state op x f t = do
  left ← times_of (opcode_sum op (SHL ∷ [])) ((P - 1, f) ∷ (1, x.first + (w - 1)) ∷ [])
  right ← times_of (opcode_sum op (SHR ∷ [])) ((P - 1, f) ∷ (1, x.first) ∷ [])
  accumulated_of (tested_in state.taken_of_primary op f t left right) (opcode_sum op keeper_ops) (wire state.flag)

-- the sign of an opcode's test
abbrev pub sign_at : ℕ → ℕ
sign_at k = if among plus_ops k then 1 else if among minus_ops k then P - 1 else 0

-- z has what the flag is made from: f is the sign where the number that is tested is 0, and else 0; at a division, where
-- nothing is said of that number, f says whether the operand is 0
pub record HasFlag (w : ℕ) (z : List ℕ) (wires : FlagWires) (step : StepInput) (high : ℕ) (made : ResultNumbers) : Type 0 where
  pub assigns : Assigns z
  pub short : step.words < 2 ^ 29
  pub within : step.view.taken ≤ step.words
  pub bit : IsBit step.view.flag
  pub before : slice_index z wires.state.taken_of_primary ≡ step.view.taken
  pub flag : slice_index z wires.state.flag ≡ step.view.flag
  pub opcode : IsOpcode z wires.op step.instr.op
  pub other : other_word step.view step.instr < 2 ^ w
  pub operand : operand_word step.view step.instr < 2 ^ w
  pub lowest : among (SHL ∷ SHR ∷ []) step.instr.op ≡ true → slice_index z wires.x.first ≡ bit_at (other_word step.view step.instr) 0
  pub top : among (SHL ∷ SHR ∷ []) step.instr.op ≡ true → slice_index z (wires.x.first + (w - 1)) ≡ bit_at (other_word step.view step.instr) (w - 1)
  pub test : slice_index z wires.f ≡ (if made.tested == 0 then sign_at step.instr.op else 0)
  pub tested : covers (tested_numbers w (operand_word step.view step.instr) step.low high made.word) step.instr.op ≡ true
      → made.tested ≡ chosen (tested_numbers w (operand_word step.view step.instr) step.low high made.word) step.instr.op
  pub result_word : among zero_ops step.instr.op ≡ true
      → made.word ≡ (if step.instr.op == CMPE then step.low else result_in w step.words step.view step.instr step.low (took z wires.tapes))
  pub divides : among (UDIV ∷ UMOD ∷ []) step.instr.op ≡ true → slice_index z wires.f ≡ flag_of (operand_word step.view step.instr == 0)
  pub halves : AreHalves w (other_word step.view step.instr) (operand_word step.view step.instr) step.instr.op step.low high
  pub tapes : AreTapes z wires.tapes step.words step.view step.instr

-- the table's flag
abbrev pub flag_in : ℕ → ℕ → View → Instr → ℕ → Bool → ℕ
flag_in w n v i o takes = chosen (flags w (other_word v i) (operand_word v i) (found w n v i o takes) v.flag) i.op

-- an assignment that satisfies the constraints has it at the returned wire
abbrev pub FlagIsSound : Type 0
FlagIsSound = (w : ℕ) → IsWidth w → (z : List ℕ) (next n : ℕ) (state : StateWires) (op : ℕ) (x : Bits) (f : ℕ) (t : TapeWires) (v : View) (i : Instr)
    (low high result y o : ℕ)
    → HasFlag w z (record { state = state; op = op; x = x; f = f; tapes = t }) (input_of n v i low) high (record { word = result; tested = y })
    → Meets z (next_flag_of w state op x f t next).list
    → slice_index z (next_flag_of w state op x f t next).answer ≡ flag_in w n v i o (took z t)

-- the values of the wires that are made: at a shift the bit less f, and the flag
abbrev pub flag_values : ℕ → StepInput → Bool → ℕ → List ℕ
flag_values w step takes f =
    (if step.instr.op == SHL then (bit_at (other_word step.view step.instr) (w - 1) + (P - f)) % P else 0)
    ∷ (if step.instr.op == SHR then (bit_at (other_word step.view step.instr) 0 + (P - f)) % P else 0)
    ∷ flag_in w step.words step.view step.instr step.low takes ∷ []

-- an assignment that has these values at the wires that are made meets the constraints
abbrev pub FlagIsComplete : Type 0
FlagIsComplete = (w : ℕ) → IsWidth w → (z : List ℕ) (next n : ℕ) (state : StateWires) (op : ℕ) (x : Bits) (f : ℕ) (t : TapeWires) (v : View) (i : Instr)
    (low high result y o : ℕ)
    → HasFlag w z (record { state = state; op = op; x = x; f = f; tapes = t }) (input_of n v i low) high (record { word = result; tested = y })
    → HasFrom z next (flag_values w (input_of n v i o) (took z t) (slice_index z f))
    → Meets z (next_flag_of w state op x f t next).list

-- which wire is returned, and that the values are one number of the field for each wire that is made
pub record FlagSizes : Type 0 where
  pub answer : (w : ℕ) (state : StateWires) (op : ℕ) (x : Bits) (f : ℕ) (t : TapeWires) (next : ℕ) → (next_flag_of w state op x f t next).answer ≡ next + 2
  pub end : (w : ℕ) (state : StateWires) (op : ℕ) (x : Bits) (f : ℕ) (t : TapeWires) (next : ℕ) → (next_flag_of w state op x f t next).next ≡ next + 3
  pub fills : (w : ℕ) (state : StateWires) (op : ℕ) (x : Bits) (f : ℕ) (t : TapeWires) (n : ℕ) (v : View) (i : Instr) (o : ℕ) (takes : Bool) (g : ℕ)
      → Fills (next_flag_of w state op x f t) (flag_values w (input_of n v i o) takes g)
  pub in_field : (w n : ℕ) (v : View) (i : Instr) (o : ℕ) (takes : Bool) (f : ℕ) → v.flag < 2 → InField (flag_values w (input_of n v i o) takes f)

-- three constraints of 35 terms
pub record FlagCosts : Type 0 where
  pub constraints : (w : ℕ) (state : StateWires) (op : ℕ) (x : Bits) (f : ℕ) (t : TapeWires) (next : ℕ) → length (next_flag_of w state op x f t next).list ≡ 3
  pub terms : (w : ℕ) (state : StateWires) (op : ℕ) (x : Bits) (f : ℕ) (t : TapeWires) (next : ℕ) → terms_in (next_flag_of w state op x f t next).list ≡ 35
