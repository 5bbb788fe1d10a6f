-- Registers written by a one-hot row.
use Rattle.std.specs.Prelude.{◌≡◌, ℕ, ◌+◌, ◌<◌, ◌==◌, Bool, if◌then◌else◌, List, ◌∷◌, ◌++◌, length, slice_index, slice_set}
use Rattle.std.specs.List.{range_with_len}
use Rattle.tv_bits.specs.Bit.{IsBit}
use Rattle.tv_bits.specs.OneHot.{IsOneHot, row_sum}
use Rattle.tv_bits.specs.Select.{select_of}
use Rattle.tv_core.specs.Below.{each_below}
use Rattle.tv_core.specs.Circuits.{Circuit, here, fresh, put, pure, ◌>>=◌}
use Rattle.tv_core.specs.Combinations.{wire, less}
use Rattle.tv_core.specs.Constraints.{Combination, value}
use Rattle.tv_core.specs.Laws.{Assigns, Meets, HasFrom, Fills, InField}
use Rattle.tv_core.specs.Loops.{sequence}
use Rattle.tv_core.specs.declared.field.TheConstants.{P}
use Rattle.tv_bits.specs.Wires.{words_at}

-- a new wire, which is v where the row's wire is 1, and else the register
unfoldable pub write_of : ℕ → ℕ → ℕ → Circuit (Unit {0})
write_of v sel reg = do
  _ ← select_of sel (wire v) (wire reg)
  pure tt

-- the same of the row's wire number i and register i
abbrev pub write_turn : ℕ → ℕ → List ℕ → ℕ → Circuit (Unit {0})
write_turn v sel regs i = write_of v (sel + i) (slice_index regs i)

-- the sum of the sixteen registers
abbrev pub regs_sum : List ℕ → Combination
regs_sum regs = each_below 16 (λ i. (1, slice_index regs i))

-- how much the sum of the registers changes
abbrev pub change : ℕ → List ℕ → Combination
change first regs = less (row_sum first 16) (regs_sum regs)

-- x less v, and that change
abbrev pub change_with : Combination → ℕ → ℕ → List ℕ → Combination
change_with x v first regs = less (less (x ++ row_sum first 16) (wire v)) (regs_sum regs)

-- where `on` is 1, x less v is 0, and where it is 0 the sum doesn't change
unfoldable pub tie_of : ℕ → Combination → ℕ → ℕ → List ℕ → Circuit (Unit {0})
tie_of on x v first regs = put (wire on) (change_with x v first regs) (change first regs)

-- new registers: where `on` is 1, the register that the row has becomes x, and where it is 0, none changes. The wire
-- before them is a hint: the register that the row has, after the write
unfoldable pub write_reg_of : ℕ → ℕ → Combination → List ℕ → Circuit (List ℕ)
write_reg_of sel on x regs = do
  v ← fresh
  first ← here
  _ ← sequence 16 (write_turn v sel regs)
  _ ← tie_of on x v first regs
  pure (range_with_len first 16)

-- the registers after a write of x to register i, if it is on
abbrev pub written_regs : Bool → ℕ → ℕ → List ℕ → List ℕ
written_regs on x i words = if on then slice_set words i x else words

-- the values of the wires that are made: register i after the write, and then all of them
abbrev pub write_reg_values : Bool → ℕ → ℕ → List ℕ → List ℕ
write_reg_values on x i words = slice_index (written_regs on x i words) i ∷ written_regs on x i words

-- in an assignment that satisfies the constraints the result is the registers after the write
abbrev pub WriteRegIsSound : Type 0
WriteRegIsSound = (z : List ℕ) (next sel on : ℕ) (x : Combination) (regs : List ℕ) (i : ℕ) → length regs ≡ 16 → Assigns z → IsOneHot z sel 16 i
    → IsBit (slice_index z on) → Meets z (write_reg_of sel on x regs next).list
    → words_at z (write_reg_of sel on x regs next).answer ≡ written_regs (slice_index z on == 1) (value x z) i (words_at z regs)

-- an assignment that has these values at the wires that were made satisfies the constraints
abbrev pub WriteRegIsComplete : Type 0
WriteRegIsComplete = (z : List ℕ) (next sel on : ℕ) (x : Combination) (regs : List ℕ) (i : ℕ) → length regs ≡ 16 → Assigns z → IsOneHot z sel 16 i
    → IsBit (slice_index z on) → HasFrom z next (write_reg_values (slice_index z on == 1) (value x z) i (words_at z regs))
    → Meets z (write_reg_of sel on x regs next).list

-- which wires are returned, and that the values are one number of the field for each wire that is made
pub record WriteRegSizes : Type 0 where
  pub answer : (sel on : ℕ) (x : Combination) (regs : List ℕ) (next : ℕ) → (write_reg_of sel on x regs next).answer ≡ range_with_len (next + 1) 16
  pub end : (sel on : ℕ) (x : Combination) (regs : List ℕ) (next : ℕ) → (write_reg_of sel on x regs next).next ≡ next + 17
  pub fills : (sel on : ℕ) (x : Combination) (regs : List ℕ) (b : Bool) (v i : ℕ) (words : List ℕ) → length words ≡ 16
      → Fills (write_reg_of sel on x regs) (write_reg_values b v i words)
  pub in_field : (b : Bool) (v i : ℕ) (words : List ℕ) → v < P → InField words → InField (write_reg_values b v i words)
