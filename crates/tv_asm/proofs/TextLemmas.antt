-- Lines and pieces of a text.
use Rattle.std.proofs.Common.{◌≡◌, ℕ, ◌+◌, ◌<◌, ◌≤◌, ◌==◌, Bool, List, [], ◌∷◌, length, ◌⊎◌, inl, inr, refl, ap, ◌∙◌, arith}
use Rattle.std.proofs.lemmas.Bool.{cases_lt}
use Rattle.std.proofs.lemmas.List.{take_all, drop_all}
use Rattle.std.proofs.lemmas.List.Sums.{fails_before_first}
use Rattle.std.proofs.lemmas.List.Splits.{slice_split_first, slice_split_none, length-slice_split}
use Rattle.std.specs.List.{position_or_len, before_first, after_first, slice_split}
use Rattle.std.specs.Str.Lines.{strip_carriage_return}
use Rattle.tv_asm.specs.Text.{lines, text_lines}

pub text_lines-cons : (piece : List ℕ) (pieces : List (List ℕ)) → 0 < length pieces
    → text_lines (piece ∷ pieces) ≡ strip_carriage_return piece ∷ text_lines pieces
text_lines-cons piece [] h = absurd (omega arith)
text_lines-cons piece (next ∷ more) h = refl

-- without a separator, the text is its one piece
pub slice_split_whole : (p : ℕ → Bool) (text : List ℕ) → length text ≤ position_or_len p text → slice_split p text ≡ text ∷ []
slice_split_whole p text h = slice_split_none p text (λ k d l. fails_before_first p text k d (omega arith))

whole : (text : List ℕ) → 0 < length text → text_lines (text ∷ []) ≡ strip_carriage_return text ∷ []
whole [] h = absurd (omega arith)
whole (c ∷ cs) h = refl

abbrev pub is_line_feed : ℕ → Bool
is_line_feed c = c == 10

lines_more_at : (text : List ℕ) → 0 < length text → (position_or_len is_line_feed text < length text) ⊎ (length text ≤ position_or_len is_line_feed text)
    → text_lines (slice_split is_line_feed text)
    ≡ strip_carriage_return (before_first is_line_feed text) ∷ text_lines (slice_split is_line_feed (after_first is_line_feed text))
lines_more_at text h (inl l) =
    let pieces = slice_split is_line_feed (after_first is_line_feed text) in
    let some : 0 < length pieces = omega (arith, length-slice_split is_line_feed (after_first is_line_feed text)) in
    ap text_lines (slice_split_first is_line_feed text 0 l) ∙ text_lines-cons (before_first is_line_feed text) pieces some
lines_more_at text h (inr l) =
    let all = take_all (position_or_len is_line_feed text) text l in
    let none = drop_all (position_or_len is_line_feed text + 1) text (omega arith) in
    rw (slice_split_whole is_line_feed text l, all, none) (whole text h)

-- a text's first line, and the lines of what stands after it
pub lines_more : (text : List ℕ) → 0 < length text
    → lines text ≡ strip_carriage_return (before_first (λ c. c == 10) text) ∷ lines (after_first (λ c. c == 10) text)
unfolding lines
lines_more text h = lines_more_at text h (cases_lt (position_or_len is_line_feed text) (length text))

pub lines-nil : lines [] ≡ []
unfolding lines
lines-nil = refl
