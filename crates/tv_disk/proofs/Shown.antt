-- How the characters of a name are shown, one after another.
use Rattle.std.proofs.Common.{◌≡◌, ℕ, List, [], ◌++◌, encode_utf8, flat_map, IsUtf8, length, ap, ◌∙◌}
use Rattle.std.proofs.lemmas.List.{nil_from_length}
use Rattle.std.proofs.lemmas.Str.{chars_past_char, chars-nil}
use Rattle.tv_disk.specs.Escaped.{shown_char, escaped}

-- the first character of a name, and the others
pub escaped_more : (name rest : List ℕ) (c : ℕ) → IsUtf8 name → name ≡ encode_utf8 c ++ rest → escaped name ≡ shown_char c ++ escaped rest
escaped_more name rest c utf8 parts = ap (λ cs. flat_map shown_char cs) (chars_past_char name rest c utf8 parts)

-- a name without characters
pub escaped_none : (name : List ℕ) → length name ≡ 0 → escaped name ≡ []
escaped_none name none = ap escaped (nil_from_length name none) ∙ ap (λ cs. flat_map shown_char cs) chars-nil
