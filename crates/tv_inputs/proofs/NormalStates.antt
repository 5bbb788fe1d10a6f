-- States whose wires are apart.
use Rattle.tv_core.proofs.Common.{◌≡◌, ℕ, ◌+◌, ◌<◌, ◌≤◌, arith, range_with_len, slice_index}
use Rattle.std.proofs.lemmas.List.FromFn.{get_or-range_with_len}
use Rattle.tv_bits.specs.Wires.{wires_top}
use Rattle.tv_inputs.specs.States.{StateIsApart}

-- sixteen wires in a row
pub row_at : (first i : ℕ) → i < 16 → slice_index (range_with_len first 16) i ≡ first + i
row_at first i h = get_or-range_with_len first 16 i 0 h

pub row_top : (first : ℕ) → wires_top (range_with_len first 16) ≤ first + 16
row_top first = omega arith

-- a state of wires in a row
pub row_apart : (first : ℕ) → 0 < first
    → StateIsApart (record { pc = first; regs = range_with_len (first + 1) 16; flag = first + 17; taken_of_primary = first + 18; aux_ended = first + 19 })
row_apart first some =
    let regs : (i : ℕ) → i < 16 → slice_index (range_with_len (first + 1) 16) i ≡ first + 1 + i = row_at (first + 1) in
    record {
      pc = some;
      first = omega (arith, regs 0 (omega arith));
      rise = λ i h. omega (arith, regs i (omega arith), regs (i + 1) (omega arith));
      flag = omega arith;
      taken = omega arith;
      ended = omega arith;
    }
