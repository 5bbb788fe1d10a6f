-- Names as they are shown on standard error.
use Rattle.std.specs.Prelude.{ℕ, ◌/◌, ◌%◌, cond, List, [], ◌∷◌, chars, flat_map, encode_utf8}
use Rattle.std.specs.Char.{is_control, digit_char}

-- `\x` and the two hex digits of a control character
abbrev pub hex_shown : ℕ → List ℕ
hex_shown c = 92 ∷ 120 ∷ digit_char (c / 16) ∷ digit_char (c % 16) ∷ []

-- a character of a name as it is shown: as it is, but for control characters
abbrev pub shown_char : ℕ → List ℕ
shown_char c = cond (is_control c) (hex_shown c) (encode_utf8 c)

-- a name as it is shown, character by character
abbrev pub escaped : List ℕ → List ℕ
escaped name = flat_map shown_char (chars name)
