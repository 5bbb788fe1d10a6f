-- The labels of a text's lines.
use Rattle.std.specs.Prelude.{ℕ, ◌*◌, ◌/◌, ◌%◌, ◌^◌, nat_lt, Bool, true, false, if◌then◌else◌, List, length, Option, Some, None, option_and_then}
use Rattle.std.specs.List.{before_first, count_by, list_any}
use Rattle.std.specs.Option.{option_map_or}
use Rattle.std.specs.Str.{bytes_eq}
use Rattle.tv_asm.specs.Line.{Said, said}

-- what a line says has a non-empty instruction, good or bad
abbrev pub says_instruction : Option Said → Bool
says_instruction s = option_map_or (λ t. nat_lt 0 (length t.instruction)) s true

-- a line counts as an instruction
abbrev pub has_instruction : List ℕ → Bool
has_instruction line = says_instruction (said line)

-- a line defines the label that it begins with, whatever follows on it
abbrev pub says_label : List ℕ → Option Said → Bool
says_label name s = option_map_or (λ label. bytes_eq label name) (option_and_then (λ t. t.label) s) false

-- a line defines this label
abbrev pub defines : List ℕ → List ℕ → Bool
defines name line = says_label name (said line)

-- some line defines the label
abbrev pub is_defined : List (List ℕ) → List ℕ → Bool
is_defined lines name = list_any (defines name) lines

-- a label's address: two words for each instruction before the line that defines it first
abbrev pub address : ℕ → List (List ℕ) → List ℕ → Option ℕ
address w lines name =
    if is_defined lines name
    then Some (2 * (w / 8) * count_by has_instruction (before_first (defines name) lines) % 2 ^ w)
    else None
