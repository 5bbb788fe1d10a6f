-- One register written, by its number.
use Rattle.std.specs.Prelude.{◌≡◌, ℕ, ◌+◌, ◌-◌, ◌<◌, ◌==◌, Bool, if◌then◌else◌, List, [], ◌∷◌, ◌++◌, length, slice_index}
use Rattle.std.specs.List.{range_with_len}
use Rattle.tv_bits.specs.Bit.{IsBit}
use Rattle.tv_bits.specs.OneHot.{row_sum}
use Rattle.tv_core.specs.Circuits.{Circuit, here, fresh, put, pure, ◌>>=◌}
use Rattle.tv_core.specs.Combinations.{wire, scaled}
use Rattle.tv_core.specs.Constraints.{Combination}
use Rattle.tv_core.specs.Laws.{Assigns, Meets, HasFrom, Fills, InField}
use Rattle.tv_core.specs.Loops.{sequence}
use Rattle.tv_core.specs.Meanings.{terms_in}
use Rattle.tv_core.specs.declared.field.TheConstants.{P}
use Rattle.tv_bits.specs.Wires.{words_at}
use Rattle.tv_regs.specs.declared.update.Write.{Write}
use Rattle.tv_regs.specs.Writes.{regs_sum, written_regs}

-- a wire less a number
abbrev pub number_less : ℕ → ℕ → Combination
number_less dest i = if i == 0 then wire dest else (P - i, 0) ∷ (1, dest) ∷ []

-- the new wire less the old one
abbrev pub rise : ℕ → ℕ → Combination
rise old new = (P - 1, old) ∷ (1, new) ∷ []

-- a new wire that is the register, unless this is the one whose number `dest` holds
unfoldable pub stays_of : ℕ → ℕ → ℕ → Circuit (Unit {0})
stays_of dest reg i = do
  new ← fresh
  put (number_less dest i) (rise reg new) []

abbrev pub stays_turn : ℕ → List ℕ → ℕ → Circuit (Unit {0})
stays_turn dest regs i = stays_of dest (slice_index regs i) i

-- how much the sum of the registers rises
abbrev pub sum_rise : ℕ → List ℕ → Combination
sum_rise first regs = scaled (P - 1) (regs_sum regs) ++ row_sum first 16

-- new registers, of which only the one whose number `dest` holds may differ: their sum rises by the result less the
-- word that was there, where `on` is 1, and else not at all
unfoldable pub update_of : ℕ → ℕ → ℕ → ℕ → List ℕ → Circuit (List ℕ)
update_of on dest word result regs = do
  first ← here
  _ ← sequence 16 (stays_turn dest regs)
  _ ← put (wire on) (rise word result) (sum_rise first regs)
  pure (range_with_len first 16)

-- the four wires of a write are below a number
pub record IsWriteMade (wires : ℕ) (write : Write) : Type 0 where
  pub on : write.on < wires
  pub dest : write.dest < wires
  pub word : write.word < wires
  pub value : write.value < wires

-- ---- the laws
-- `on` holds a bit, `dest` the number i of a register, and `word` what stands in it
pub record IsWrite (z : List ℕ) (on dest word : ℕ) (regs : List ℕ) (i : ℕ) : Type 0 where
  pub size : length regs ≡ 16
  pub bit : IsBit (slice_index z on)
  pub number : slice_index z dest ≡ i
  pub within : i < 16
  pub old : slice_index z word ≡ slice_index (words_at z regs) i

-- in an assignment that satisfies the constraints the result is the registers after the write
abbrev pub UpdateIsSound : Type 0
UpdateIsSound = (z : List ℕ) (next on dest word result : ℕ) (regs : List ℕ) (i : ℕ) → Assigns z → IsWrite z on dest word regs i
    → Meets z (update_of on dest word result regs next).list
    → words_at z (update_of on dest word result regs next).answer ≡ written_regs (slice_index z on == 1) (slice_index z result) i (words_at z regs)

-- an assignment that has the registers after the write at the wires that were made satisfies the constraints
abbrev pub UpdateIsComplete : Type 0
UpdateIsComplete = (z : List ℕ) (next on dest word result : ℕ) (regs : List ℕ) (i : ℕ) → Assigns z → IsWrite z on dest word regs i
    → HasFrom z next (written_regs (slice_index z on == 1) (slice_index z result) i (words_at z regs))
    → Meets z (update_of on dest word result regs next).list

-- which wires are returned, and that the values, the registers after the write, are one number of the field for each
-- wire that is made
pub record UpdateSizes : Type 0 where
  pub answer : (on dest word result : ℕ) (regs : List ℕ) (next : ℕ) → (update_of on dest word result regs next).answer ≡ range_with_len next 16
  pub end : (on dest word result : ℕ) (regs : List ℕ) (next : ℕ) → (update_of on dest word result regs next).next ≡ next + 16
  pub fills : (on dest word result : ℕ) (regs words : List ℕ) → length words ≡ 16 → Fills (update_of on dest word result regs) words
  pub in_field : (b : Bool) (v i : ℕ) (words : List ℕ) → v < P → InField words → InField (written_regs b v i words)

-- how many constraints and terms are put
pub record UpdateCosts : Type 0 where
  pub constraints : (on dest word result : ℕ) (regs : List ℕ) (next : ℕ) → length (update_of on dest word result regs next).list ≡ 17
  pub terms : (on dest word result : ℕ) (regs : List ℕ) (next : ℕ) → terms_in (update_of on dest word result regs next).list ≡ 98
