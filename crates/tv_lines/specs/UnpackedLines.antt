-- The bits of a line that a pair stands for.
use Rattle.std.specs.Prelude.{◌≡◌, ℕ, ◌+◌, ◌≤◌, ◌++◌, List, max}
use Rattle.tv_bits.specs.Bits.{HasBits, bits_of, bits_values}
use Rattle.tv_core.specs.Circuits.{Circuit, pure, ◌>>=◌}
use Rattle.tv_core.specs.Laws.{Assigns, Meets, HasFrom, Fills, InField}
use Rattle.tv_core.specs.Lines.{Line, pair_value}
use Rattle.tv_core.specs.declared.lines.Pair.{Pair}
use Rattle.tv_core.specs.declared.lines.PairNum.{PairNum}
use Rattle.tv_lines.specs.PackedLines.{cell_bits, time_bits, LineInRange, packed, unpacked}
use Rattle.tv_lines.specs.declared.rows.LineBits.{LineBits}

-- a line's parts have as many bits as they should
pub record HasWidths (bits : LineBits) : Type 0 where
  pub cell : bits.cell.n ≡ cell_bits
  pub time : bits.time.n ≡ time_bits
  pub old : bits.old.n ≡ 32
  pub new : bits.new.n ≡ 32

-- the bits are wires below a number
pub record AreBitsMade (bits : LineBits) (wires : ℕ) : Type 0 where
  pub cell : bits.cell.first + bits.cell.n ≤ wires
  pub time : bits.time.first + bits.time.n ≤ wires
  pub old : bits.old.first + bits.old.n ≤ wires
  pub new : bits.new.first + bits.new.n ≤ wires

-- both: a line's parts have as many bits as they should, which are wires below a number
pub record IsLineBelow (wires : ℕ) (bits : LineBits) : Type 0 where
  pub widths : HasWidths bits
  pub made : AreBitsMade bits wires

-- the bits of cell and time are wires below this number
abbrev pub key_end : LineBits → ℕ
key_end bits = max (bits.cell.first + bits.cell.n) (bits.time.first + bits.time.n)

-- the bits represent the four numbers of a line
pub record HasLineBits (z : List ℕ) (bits : LineBits) (line : Line) : Type 0 where
  pub cell : HasBits z bits.cell.first cell_bits line.cell
  pub time : HasBits z bits.time.first time_bits line.time
  pub old : HasBits z bits.old.first 32 line.old
  pub new : HasBits z bits.new.first 32 line.new

-- the bits of a line in two rows that begin at these wires: of the old word and then the cell, and of the new word and
-- then the time
abbrev pub line_bits : ℕ → ℕ → LineBits
line_bits first second = record {
  cell = record { first = first + 32; n = cell_bits };
  time = record { first = second + 32; n = time_bits };
  old = record { first = first; n = 32 };
  new = record { first = second; n = 32 };
}

-- new wires that represent the first number, and such that represent the second
unfoldable pub unpack_of : Pair → Circuit LineBits
unpack_of pair = do
  first ← bits_of pair.first (32 + cell_bits)
  second ← bits_of pair.second (32 + time_bits)
  pure (line_bits first.first second.first)

-- the values of the wires that are made
abbrev pub unpack_values : PairNum → List ℕ
unpack_values pair = bits_values pair.first (32 + cell_bits) ++ bits_values pair.second (32 + time_bits)

-- ---- the laws
-- in an assignment that satisfies the constraints the bits represent the line that the pair stands for
abbrev pub UnpackIsSound : Type 0
UnpackIsSound = (z : List ℕ) (next : ℕ) (pair : Pair) → Assigns z → Meets z (unpack_of pair next).list
    → HasLineBits z (unpack_of pair next).answer (unpacked (pair_value z pair))

-- where the pair packs a line in range, an assignment that has its bits at the wires that were made satisfies the constraints
abbrev pub UnpackIsComplete : Type 0
UnpackIsComplete = (z : List ℕ) (next : ℕ) (pair : Pair) (line : Line) → Assigns z → LineInRange line → pair_value z pair ≡ packed line
    → HasFrom z next (unpack_values (packed line)) → Meets z (unpack_of pair next).list

-- which wires are returned, and as many values as wires, each below P
pub record UnpackSizes : Type 0 where
  pub answer : (pair : Pair) (next : ℕ) → (unpack_of pair next).answer ≡ line_bits next (next + 63)
  pub end : (pair : Pair) (next : ℕ) → (unpack_of pair next).next ≡ next + 115
  pub fills : (pair : Pair) (numbers : PairNum) → Fills (unpack_of pair) (unpack_values numbers)
  pub in_field : (numbers : PairNum) → InField (unpack_values numbers)
