-- A line as a pair of numbers: the cell above the old word, and the time above the new word.
use Rattle.std.specs.Prelude.{◌≡◌, ℕ, ◌+◌, ◌*◌, ◌/◌, ◌%◌, ◌^◌, ◌<◌, ◌++◌, List}
use Rattle.tv_core.specs.Combinations.{scaled}
use Rattle.tv_core.specs.Constraints.{Combination, value}
use Rattle.tv_core.specs.Lines.{Line, pair_value}
use Rattle.tv_core.specs.Normal.{normal}
use Rattle.tv_core.specs.declared.field.TheConstants.{P}
use Rattle.tv_core.specs.declared.limits.TheConstants.{CELL_BITS, TIME_BITS}
use Rattle.tv_core.specs.declared.lines.LineLc.{LineLc}
use Rattle.tv_core.specs.declared.lines.LineNum.{LineNum}
use Rattle.tv_core.specs.declared.lines.Pair.{Pair}
use Rattle.tv_core.specs.declared.lines.PairNum.{PairNum}

-- how many bits a cell's number and a time have
abbrev pub cell_bits : ℕ
cell_bits = CELL_BITS

abbrev pub time_bits : ℕ
time_bits = TIME_BITS

-- what is packed without loss
pub record LineInRange (line : Line) : Type 0 where
  pub cell : line.cell < 2 ^ cell_bits
  pub time : line.time < 2 ^ time_bits
  pub old : line.old < 2 ^ 32
  pub new : line.new < 2 ^ 32

-- ---- numbers
-- a line as a pair, and the line that a pair stands for
abbrev pub packed : Line → PairNum
packed line = record { first = line.cell * 2 ^ 32 + line.old; second = line.time * 2 ^ 32 + line.new }

abbrev pub unpacked : PairNum → Line
unpacked pair = record { cell = pair.first / 2 ^ 32; time = pair.second / 2 ^ 32; old = pair.first % 2 ^ 32; new = pair.second % 2 ^ 32 }

-- a line without its old word, and its item: the pair of that line
abbrev pub without_old : Line → Line
without_old line = record { cell = line.cell; time = line.time; old = 0; new = line.new }

abbrev pub packed_item : Line → PairNum
packed_item line = packed (without_old line)

-- the line of four residues
abbrev pub line_of_numbers : LineNum → Line
line_of_numbers line = record { cell = line.cell; time = line.time; old = line.old; new = line.new }

-- ---- combinations
-- the values of a line's
abbrev pub line_value : List ℕ → LineLc → Line
line_value z line = record { cell = value line.cell z; time = value line.time z; old = value line.old z; new = value line.new z }

-- the one, and 2 ^ 32 times the other
abbrev pub packed_terms : Combination → Combination → Combination
packed_terms low high = low ++ scaled (2 ^ 32 % P) high

-- a line as a pair of combinations
abbrev pub pack : LineLc → Pair
pack line = record { first = packed_terms line.old line.cell; second = packed_terms line.new line.time }

-- a line's item in combinations, which are normal whatever those of the line are
abbrev pub pack_item : LineLc → Pair
pack_item line = record { first = normal (scaled (2 ^ 32 % P) line.cell); second = normal (packed_terms line.new line.time) }

-- ---- the laws
-- the values of a packed line are the packed values, for a line in range
abbrev pub PackIsRight : Type 0
PackIsRight = (z : List ℕ) (line : LineLc) → LineInRange (line_value z line) → pair_value z (pack line) ≡ packed (line_value z line)

-- so are those of an item
abbrev pub ItemIsRight : Type 0
ItemIsRight = (z : List ℕ) (line : LineLc) → LineInRange (line_value z line) → pair_value z (pack_item line) ≡ packed_item (line_value z line)

-- two lines in range that are packed to one pair are one
abbrev pub PackIsOneToOne : Type 0
PackIsOneToOne = (l m : Line) → LineInRange l → LineInRange m → packed l ≡ packed m → l ≡ m

-- a line in range that is packed is unpacked to the same line
abbrev pub UnpackUndoesPack : Type 0
UnpackUndoesPack = (line : Line) → LineInRange line → unpacked (packed line) ≡ line
