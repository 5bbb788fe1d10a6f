-- The header of a program text, on its first line.
use Rattle.std.specs.Prelude.{ℕ, nat_eq, Bool, true, not, ◌+◌, ◌&&◌, ◌||◌, if◌then◌else◌, List, [], ◌++◌, drop, map, slice_index_or, codes}
use Rattle.std.specs.Int.Digits.{digits_of}
use Rattle.std.specs.List.{list_all, list_any, slice_split, starts_with}
use Rattle.std.specs.Str.{bytes_eq}
use Rattle.tv_asm.specs.Text.{is_blank, lines}

-- a line that is a header begins so
abbrev pub is_header : List ℕ → Bool
is_header line = starts_with nat_eq line (codes "; TinyRAM")

-- a header's fields: what stands after its beginning, cut at blanks
abbrev pub header_fields : List ℕ → List (List ℕ)
header_fields line = slice_split is_blank (drop 9 line)

-- a width in decimal digits
abbrev pub width_digits : ℕ → List ℕ
width_digits w = map (λ d. d + 48) (digits_of 10 w)

-- the field that sets the width of words
abbrev pub width_field : ℕ → List ℕ
width_field w = codes "W=" ++ width_digits w

-- a field of a header: one that begins `W=` sets the width of words, one that begins `K=` says that there are 16
-- registers; others say nothing
abbrev pub is_good_field : ℕ → List ℕ → Bool
is_good_field w field =
    (not (starts_with nat_eq field (codes "W=")) || bytes_eq field (width_field w))
    && (not (starts_with nat_eq field (codes "K=")) || bytes_eq field (codes "K=16"))

-- a header has good fields
unfoldable pub is_good_header : ℕ → List ℕ → Bool
is_good_header w line = if is_header line then list_all (is_good_field w) (header_fields line) else true

-- a header with the field `W=16`
unfoldable pub is_header_of_16 : List ℕ → Bool
is_header_of_16 line = is_header line && list_any (bytes_eq (width_field 16)) (header_fields line)

-- the width of words that a text is written for: 16 where its first line is a header that says so, else 32
unfoldable pub width_of : List ℕ → ℕ
width_of text = if is_header_of_16 (slice_index_or (lines text) 0 []) then 16 else 32
