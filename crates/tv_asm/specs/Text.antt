-- A text, its lines, and blanks.
use Rattle.std.specs.Prelude.{ℕ, ◌-◌, ◌==◌, Bool, ◌||◌, List, [], ◌∷◌, length, take, drop}
use Rattle.std.specs.List.{prefix_len, suffix_len, slice_split}
use Rattle.std.specs.Str.Lines.{strip_carriage_return}

-- a space or a tab
abbrev pub is_blank : ℕ → Bool
is_blank c = c == 32 || c == 9

-- without blanks in front, and at the end
abbrev pub trimmed_front : List ℕ → List ℕ
trimmed_front text = drop (prefix_len is_blank text) text

abbrev pub trimmed_end : List ℕ → List ℕ
trimmed_end text = take (length text - suffix_len is_blank text) text

-- without blanks at both ends
unfoldable pub trimmed : List ℕ → List ℕ
trimmed text = trimmed_end (trimmed_front text)

-- a piece after the last line feed: empty, it is no line
abbrev pub last_line : List ℕ → List (List ℕ)
last_line [] = []
last_line (c ∷ cs) = strip_carriage_return (c ∷ cs) ∷ []

-- pieces between line feeds as lines: one carriage return at a line's end is dropped
abbrev pub text_lines : List (List ℕ) → List (List ℕ)
text_lines [] = []
text_lines (piece ∷ []) = last_line piece
text_lines (piece ∷ next ∷ more) = strip_carriage_return piece ∷ text_lines (next ∷ more)

-- the lines of a text
unfoldable pub lines : List ℕ → List (List ℕ)
lines text = text_lines (slice_split (λ c. c == 10) text)
