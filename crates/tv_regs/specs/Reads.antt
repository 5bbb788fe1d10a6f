-- A register read by a one-hot row.
use Rattle.std.specs.Prelude.{◌≡◌, ℕ, ◌+◌, List, [], ◌∷◌, length, slice_index}
use Rattle.tv_bits.specs.OneHot.{IsOneHot}
use Rattle.tv_bits.specs.Wires.{words_at}
use Rattle.tv_core.specs.Circuits.{Circuit, fresh, put, pure, ◌>>=◌}
use Rattle.tv_core.specs.Combinations.{wire, less}
use Rattle.tv_core.specs.Laws.{Assigns, Meets, HasFrom, Fills, InField}
use Rattle.tv_core.specs.Loops.{sequence}

-- a wire of the row times the new wire less a register is 0
unfoldable pub read_of : ℕ → ℕ → ℕ → Circuit (Unit {0})
read_of w sel reg = put (wire sel) (less (wire w) (wire reg)) []

-- the same of the row's wire number i and register i
abbrev pub read_turn : ℕ → ℕ → List ℕ → ℕ → Circuit (Unit {0})
read_turn w sel regs i = read_of w (sel + i) (slice_index regs i)

-- a new wire that is the register that the row has
unfoldable pub read_reg_of : ℕ → List ℕ → Circuit ℕ
read_reg_of sel regs = do
  w ← fresh
  _ ← sequence 16 (read_turn w sel regs)
  pure w

-- the value of the wire that is made: register i of these words
abbrev pub read_reg_values : ℕ → List ℕ → List ℕ
read_reg_values i words = slice_index words i ∷ []

-- in an assignment that satisfies the constraints the result is the register that the row has
abbrev pub ReadRegIsSound : Type 0
ReadRegIsSound = (z : List ℕ) (next sel : ℕ) (regs : List ℕ) (i : ℕ) → length regs ≡ 16 → Assigns z → IsOneHot z sel 16 i
    → Meets z (read_reg_of sel regs next).list → slice_index z (read_reg_of sel regs next).answer ≡ slice_index (words_at z regs) i

-- an assignment that has this value at the wire that was made satisfies the constraints
abbrev pub ReadRegIsComplete : Type 0
ReadRegIsComplete = (z : List ℕ) (next sel : ℕ) (regs : List ℕ) (i : ℕ) → length regs ≡ 16 → Assigns z → IsOneHot z sel 16 i
    → HasFrom z next (read_reg_values i (words_at z regs)) → Meets z (read_reg_of sel regs next).list

-- which wire is returned, and that the values are one number of the field for each wire that is made
pub record ReadRegSizes : Type 0 where
  pub answer : (sel : ℕ) (regs : List ℕ) (next : ℕ) → (read_reg_of sel regs next).answer ≡ next
  pub end : (sel : ℕ) (regs : List ℕ) (next : ℕ) → (read_reg_of sel regs next).next ≡ next + 1
  pub fills : (sel : ℕ) (regs : List ℕ) (i : ℕ) (words : List ℕ) → Fills (read_reg_of sel regs) (read_reg_values i words)
  pub in_field : (i : ℕ) (words : List ℕ) → InField words → InField (read_reg_values i words)
