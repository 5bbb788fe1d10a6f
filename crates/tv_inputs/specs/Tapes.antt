-- What a step does to the tapes.
use Rattle.std.specs.Prelude.{◌≡◌, ℕ, ◌+◌, ◌-◌, ◌*◌, ◌/◌, ◌%◌, ◌^◌, ◌<◌, ◌≤◌, Bool, true, not, ◌&&◌, ◌==◌, if◌then◌else◌, List, [], ◌∷◌, length, slice_index}
use Rattle.tv_bits.specs.Bit.{IsBit}
use Rattle.tv_bits.specs.Times.{times_of}
use Rattle.tv_bits.specs.Zero.{zero_cases_of}
use Rattle.tv_core.specs.Circuits.{Circuit, fresh, put, pure, ◌>>=◌}
use Rattle.tv_core.specs.Combinations.{wire, less, one_less}
use Rattle.tv_core.specs.Constraints.{Combination}
use Rattle.tv_core.specs.Inverse.{inverse_of}
use Rattle.tv_core.specs.Laws.{Assigns, Meets, HasFrom, Fills, InField}
use Rattle.tv_core.specs.Meanings.{terms_in}
use Rattle.tv_core.specs.declared.field.TheConstants.{P}
use Rattle.tv_isa.specs.declared.instr.Instr.{Instr}
use Rattle.tv_isa.specs.declared.opcode.TheConstants.{READ}
use Rattle.tv_numbers.specs.Numbers.{operand_word, asks, takes_primary, stepped}
use Rattle.tv_numbers.specs.Views.{View}
use Rattle.tv_word.specs.Widths.{IsWidth}
use Rattle.tv_inputs.specs.Inputs.{StepWires}
use Rattle.tv_inputs.specs.OpcodeSums.{opcode_sum, IsOpcode}
use Rattle.tv_inputs.specs.Operand.{upper_of, IsOperand}
use Rattle.tv_inputs.specs.declared.records.OperandWires.{OperandWires}
use Rattle.tv_inputs.specs.declared.records.StateWires.{StateWires}
use Rattle.tv_inputs.specs.declared.records.TapeWires.{TapeWires}
use Rattle.tv_word.specs.Word.{flag_of}

-- a new wire that is g where x is 0, and 0 where it isn't
unfoldable pub if_zero_of : Combination → Combination → Circuit ℕ
if_zero_of g x = do
  w ← fresh
  _ ← zero_cases_of x (less g (wire w)) (wire w)
  pure w

-- how many of n words are left after `before` of them; the constant has no term where n is 0
abbrev pub left_in : ℕ → ℕ → Combination
left_in n before = if n == 0 then (P - 1, before) ∷ [] else (n, 0) ∷ (P - 1, before) ∷ []

-- a new wire that is `before`, and one more where the step reads tape 0 and a word is left: there `reads` is 1 and
-- `aux`, which says that it reads tape 1, is 0
unfoldable pub primary_of : ℕ → ℕ → ℕ → ℕ → Circuit ℕ
primary_of n before reads aux = do
  taken ← fresh
  _ ← zero_cases_of (left_in n before) ((P - 1, before) ∷ (1, taken) ∷ []) ((1, before) ∷ (1, reads) ∷ (P - 1, aux) ∷ (P - 1, taken) ∷ [])
  pure taken

-- two new wires: whether a word of tape 1 is taken, and the ended bit after the step. Where the step reads tape 1 and
-- the ended bit is clear, either a word is taken or the bit is set; and where a word is taken the bit stays
unfoldable pub auxiliary_of : ℕ → ℕ → ℕ → Circuit TapeWires
auxiliary_of taken aux before = do
  takes ← fresh
  ended ← fresh
  _ ← put (wire aux) (one_less before) ((P - 1, before) ∷ (1, takes) ∷ (1, ended) ∷ [])
  _ ← put (wire takes) ((P - 1, before) ∷ (1, ended) ∷ []) []
  pure (record { taken = taken; takes = takes; ended = ended })

-- the tapes by the row of the opcode and the operand a: the step reads a tape where its opcode is that of read and the
-- operand is 0 or 1, the number of the tape
unfoldable pub tapes_of : ℕ → ℕ → StateWires → ℕ → OperandWires → Circuit TapeWires
tapes_of w n state op a = do
  reads ← if_zero_of (opcode_sum op (READ ∷ [])) (upper_of 1 a 1)
  aux ← times_of (wire reads) (wire a.bits.first)
  taken ← primary_of n state.taken_of_primary reads aux
  auxiliary_of taken aux state.aux_ended

-- 1 where a word of tape 0 is taken, and else 0
abbrev pub primary_in : StateWires → TapeWires → Combination
primary_in state t = (P - 1, state.taken_of_primary) ∷ (1, t.taken) ∷ []

-- the values of the wires that are made, in order: whether the step reads a tape, and the hint of that; whether tape 1;
-- how many words of tape 0 are taken after it, and the hint; whether a word of tape 1 is taken; the ended bit
abbrev pub tapes_values : ℕ → ℕ → View → Instr → ℕ → Bool → List ℕ
tapes_values w n v i o takes =
    (if operand_word v i / 2 == 0 then flag_of (i.op == READ) else 0) ∷ inverse_of (operand_word v i / 2) * flag_of (i.op == READ) % P
    ∷ flag_of (i.op == READ && operand_word v i == 1)
    ∷ (stepped w n v i o takes).taken ∷ inverse_of (n - v.taken) * flag_of (i.op == READ && operand_word v i == 0) % P
    ∷ flag_of takes ∷ (stepped w n v i o takes).ended ∷ []

-- whether the step takes a word of tape 1
abbrev pub took : List ℕ → TapeWires → Bool
took z t = slice_index z t.takes == 1

-- the wires are those of what an instruction does to the tapes, the state before it being v; a word of tape 1 is
-- taken only where one is asked for
pub record AreTapes (z : List ℕ) (t : TapeWires) (n : ℕ) (v : View) (i : Instr) : Type 0 where
  pub taken : slice_index z t.taken ≡ (if takes_primary v i n then v.taken + 1 else v.taken)
  pub takes : slice_index z t.takes ≡ flag_of (took z t)
  pub asked : took z t ≡ true → asks v i ≡ true
  pub ended : slice_index z t.ended ≡ (if asks v i && not (took z t) then 1 else v.ended)

-- z has what the tapes are read from: the state's numbers, the opcode's row and the operand
pub record HasTapes (w : ℕ) (z : List ℕ) (wires : StepWires) (n : ℕ) (v : View) (i : Instr) : Type 0 where
  pub assigns : Assigns z
  pub short : n < 2 ^ 29
  pub within : v.taken ≤ n
  pub bit : IsBit v.ended
  pub before : slice_index z wires.state.taken_of_primary ≡ v.taken
  pub ended : slice_index z wires.state.aux_ended ≡ v.ended
  pub opcode : IsOpcode z wires.op i.op
  pub operand : IsOperand w z wires.operand (operand_word v i)

-- an assignment that satisfies the constraints has them at the returned wires
abbrev pub TapesAreSound : Type 0
TapesAreSound = (w : ℕ) → IsWidth w → (z : List ℕ) (next n : ℕ) (state : StateWires) (op : ℕ) (a : OperandWires) (v : View) (i : Instr)
    → HasTapes w z (record { state = state; op = op; operand = a }) n v i → Meets z (tapes_of w n state op a next).list
    → AreTapes z (tapes_of w n state op a next).answer n v i

-- an assignment that has these values at the wires that are made meets the constraints, and whether a word of tape 1
-- is taken, where one is asked for, is free
abbrev pub TapesAreComplete : Type 0
TapesAreComplete = (w : ℕ) → IsWidth w → (z : List ℕ) (next n : ℕ) (state : StateWires) (op : ℕ) (a : OperandWires) (v : View) (i : Instr) (o : ℕ)
    (takes : Bool)
    → HasTapes w z (record { state = state; op = op; operand = a }) n v i → (takes ≡ true → asks v i ≡ true) → HasFrom z next (tapes_values w n v i o takes)
    → Meets z (tapes_of w n state op a next).list × (took z (tapes_of w n state op a next).answer ≡ takes)

-- which wires are returned, and that the values are one number of the field for each wire that is made
pub record TapesSizes : Type 0 where
  pub answer : (w n : ℕ) (state : StateWires) (op : ℕ) (a : OperandWires) (next : ℕ)
      → (tapes_of w n state op a next).answer ≡ record { taken = next + 3; takes = next + 5; ended = next + 6 }
  pub end : (w n : ℕ) (state : StateWires) (op : ℕ) (a : OperandWires) (next : ℕ) → (tapes_of w n state op a next).next ≡ next + 7
  pub fills : (w n : ℕ) (state : StateWires) (op : ℕ) (a : OperandWires) (v : View) (i : Instr) (o : ℕ) (takes : Bool)
      → Fills (tapes_of w n state op a) (tapes_values w n v i o takes)
  pub in_field : (w n : ℕ) (v : View) (i : Instr) (o : ℕ) (takes : Bool) → n < 2 ^ 29 → v.taken ≤ n → v.ended < 2 → InField (tapes_values w n v i o takes)

-- how many terms the tapes cost: where n is not 0, two combinations have the constant n
abbrev pub tapes_terms : ℕ → ℕ
tapes_terms n = if n == 0 then 29 else 31

-- how many constraints and terms the tapes cost
pub record TapesCosts : Type 0 where
  pub constraints : (w n : ℕ) (state : StateWires) (op : ℕ) (a : OperandWires) (next : ℕ) → length (tapes_of w n state op a next).list ≡ 7
  pub terms : (w : ℕ) → IsWidth w → (n : ℕ) (state : StateWires) (op : ℕ) (a : OperandWires) (next : ℕ)
      → terms_in (tapes_of w n state op a next).list ≡ tapes_terms n
