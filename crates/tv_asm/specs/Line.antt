-- What a line of program text says.
use Rattle.std.specs.Prelude.{ℕ, ◌+◌, ◌==◌, nat_le, nat_lt, Bool, ◌&&◌, ◌||◌, if◌then◌else◌, List, length, drop, slice_index, Option, Some, None}
use Rattle.std.specs.Char.{is_ascii_alphanumeric}
use Rattle.std.specs.List.{before_first, take_while}
use Rattle.tv_asm.specs.Text.{trimmed}

-- the line without its comment, which begins at the first `;`
abbrev pub code_of : List ℕ → List ℕ
code_of line = before_first (λ c. c == 59) line

-- what may stand outside comments: a tab, or a character from the space to `~`
abbrev pub is_text : ℕ → Bool
is_text c = c == 9 || (nat_le 32 c && nat_le c 126)

-- a letter, a digit, `_` or `.`
abbrev pub is_label_byte : ℕ → Bool
is_label_byte c = is_ascii_alphanumeric c || c == 95 || c == 46

-- what a line says: the label that it defines, and an instruction, empty where there is none
pub record Said : Type 0 where
  pub label : Option (List ℕ)
  pub instruction : List ℕ

-- what a line's code says that begins with `_`: it has to begin with a label, which is `_`, one more of its
-- bytes at least, and `:`
abbrev pub labelled : List ℕ → Option Said
labelled code =
    let label = take_while is_label_byte code in
    if nat_lt 1 (length label) && slice_index code (length label) == 58
    then Some (record { label = Some label; instruction = trimmed (drop (length label + 1) code) })
    else None

-- what a line's code says; None where its label is bad
unfoldable pub code_says : List ℕ → Option Said
code_says text =
    let code = trimmed text in
    if slice_index code 0 == 95 then labelled code else Some (record { label = None; instruction = code })

-- what a line says
abbrev pub said : List ℕ → Option Said
said line = code_says (code_of line)
