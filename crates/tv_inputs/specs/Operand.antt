-- The operand of an instruction: its second word, or the register that this names.
use Rattle.std.specs.Prelude.{◌≡◌, ℕ, ◌+◌, ◌-◌, ◌*◌, ◌/◌, ◌%◌, ◌^◌, ◌<◌, Bool, if◌then◌else◌, List, [], ◌∷◌, length, slice_index}
use Rattle.tv_bits.specs.Bits.{HasBits, bits_combination, bits_values, bits_of}
use Rattle.tv_core.specs.Circuits.{Circuit, pure, ◌>>=◌}
use Rattle.tv_core.specs.Combinations.{wire, scaled, less}
use Rattle.tv_core.specs.Constraints.{Combination}
use Rattle.tv_core.specs.Laws.{Assigns, Meets, HasFrom, Fills, InField}
use Rattle.tv_core.specs.Meanings.{terms_in}
use Rattle.tv_core.specs.declared.field.TheConstants.{P}
use Rattle.tv_word.specs.Widths.{IsWidth}
use Rattle.tv_inputs.specs.Accumulation.{accumulated_of}
use Rattle.tv_inputs.specs.declared.records.OperandWires.{OperandWires}
use Rattle.tv_word.specs.Word.{flag_of}

-- a new wire that is the second word `tail` where the immediate bit is 1, and else the register; and its bits
unfoldable pub operand_of : ℕ → ℕ → ℕ → ℕ → Circuit OperandWires
operand_of w imm tail register = do
  word ← accumulated_of (wire register) (wire imm) ((1, tail) ∷ (P - 1, register) ∷ [])
  bits ← bits_of (wire word) w
  pure (record { word = word; bits = bits })

-- the inverse modulo P of 2 ^ k, which divides P - 1 where k is at most 32
abbrev pub power_inverse : ℕ → ℕ
power_inverse k = P - (P - 1) / 2 ^ k

-- m times the number of the operand's bits from number k on: m / 2 ^ k times the operand less its k lowest bits
abbrev pub upper_of : ℕ → OperandWires → ℕ → Combination
upper_of m a k = scaled (m * power_inverse k % P) (less (wire a.word) (bits_combination a.bits.first k))

-- the values of the wires that are made, for an operand
abbrev pub operand_values : ℕ → ℕ → List ℕ
operand_values w a = a ∷ bits_values a w

-- the wires that the operand is chosen by and from: those of the immediate bit, of the second word, and of the register
pub record OperandSources : Type 0 where
  pub imm : ℕ
  pub tail : ℕ
  pub register : ℕ

-- z has what the operand is chosen from: the immediate bit, the second word and the register
pub record HasOperand (w : ℕ) (z : List ℕ) (from : OperandSources) (immediate : Bool) (second named : ℕ) : Type 0 where
  pub assigns : Assigns z
  pub bit : slice_index z from.imm ≡ flag_of immediate
  pub whole : slice_index z from.tail ≡ second
  pub held : slice_index z from.register ≡ named
  pub second_word : second < 2 ^ w
  pub named_word : named < 2 ^ w

-- the wires are those of a word and of its bits
pub record IsOperand (w : ℕ) (z : List ℕ) (made : OperandWires) (a : ℕ) : Type 0 where
  pub word : slice_index z made.word ≡ a
  pub bits : HasBits z made.bits.first w a

-- an assignment that satisfies the constraints has the operand at the returned wires
abbrev pub OperandIsSound : Type 0
OperandIsSound = (w : ℕ) → IsWidth w → (z : List ℕ) (next imm tail register : ℕ) (immediate : Bool) (second named : ℕ)
    → HasOperand w z (record { imm = imm; tail = tail; register = register }) immediate second named → Meets z (operand_of w imm tail register next).list
    → IsOperand w z (operand_of w imm tail register next).answer (if immediate then second else named)

-- an assignment that has these values at the wires that are made meets the constraints
abbrev pub OperandIsComplete : Type 0
OperandIsComplete = (w : ℕ) → IsWidth w → (z : List ℕ) (next imm tail register : ℕ) (immediate : Bool) (second named : ℕ)
    → HasOperand w z (record { imm = imm; tail = tail; register = register }) immediate second named
    → HasFrom z next (operand_values w (if immediate then second else named))
    → Meets z (operand_of w imm tail register next).list

-- which wires are returned, and that the values are one number of the field for each wire that is made
pub record OperandSizes : Type 0 where
  pub answer : (w imm tail register next : ℕ) → (operand_of w imm tail register next).answer ≡ record { word = next; bits = record { first = next + 1; n = w } }
  pub end : (w imm tail register next : ℕ) → (operand_of w imm tail register next).next ≡ next + (w + 1)
  pub fills : (w imm tail register a : ℕ) → Fills (operand_of w imm tail register) (operand_values w a)
  pub in_field : (w a : ℕ) → a < P → InField (operand_values w a)

-- how many constraints and terms the operand costs
pub record OperandCosts : Type 0 where
  pub constraints : (w imm tail register next : ℕ) → length (operand_of w imm tail register next).list ≡ w + 2
  pub terms : (w imm tail register next : ℕ) → terms_in (operand_of w imm tail register next).list ≡ 4 * w + 7
