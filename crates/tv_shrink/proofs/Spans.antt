-- Constraints whose terms lie one after another in a list.
use Rattle.tv_core.proofs.Common.{◌≡◌, ℕ, ◌+◌, ◌-◌, ◌<◌, ◌≤◌, List, ◌∷◌, ◌++◌, Option, Some, None, refl, sym, ◌∙◌, ap, ap₂, arith, append-nil, map, [], length}
use Rattle.tv_core.proofs.Common.{get_or, take, drop, length-append, length-map, Combination, Constraint}
use Rattle.std.specs.Option.{option_map}
use Rattle.std.specs.Prelude.{slice_range}
use Rattle.tv_r1cs_write.specs.Bytes.{others}
use Rattle.std.proofs.Math.Seq.{drop-append_seam, take-append_seam}
use Rattle.std.proofs.lemmas.List.{append_assoc, drop-append-le, drop-map, get_or-map, length-drop, length-take, take-append-le, take-map}
use Rattle.tv_shrink.specs.Renumbering.{moved, moved_rows}
use Rattle.tv_shrink.specs.Spans.{end_of, row_at, row_terms, span_of, AreInside}
use Rattle.tv_shrink.specs.declared.arena.Span.{Span}

-- a part of a list that has more after it
pub part_kept : (xs more : Combination) (i j : ℕ) → i ≤ j → j ≤ length xs → slice_range (xs ++ more) i j ≡ slice_range xs i j
part_kept xs more i j h k =
    let low : j - i ≤ length (drop i xs) = omega (arith, length-drop i xs) in
    ap (take (j - i)) (drop-append-le i xs more (omega arith)) ∙ take-append-le (j - i) (drop i xs) more low

-- a part between two others
part_between : (xs ys zs : Combination) (i j : ℕ) → i ≡ length xs → j ≡ length xs + length ys → slice_range (xs ++ (ys ++ zs)) i j ≡ ys
part_between xs ys zs i j first last =
    let n : j - i ≡ length ys = omega arith in
    ap₂ (λ m k. take m (drop k (xs ++ (ys ++ zs)))) n first ∙ ap (take (length ys)) (drop-append_seam xs (ys ++ zs)) ∙ take-append_seam ys zs

pub same_row : (a b c d e f : Combination) → a ≡ d → b ≡ e → c ≡ f
    → record { a = a; b = b; c = c } ≡ (let row : Constraint = record { a = d; b = e; c = f } in row)
same_row a b c d e f p q r =
    let made : Combination → Combination → Combination → Constraint = λ x y z. record { a = x; b = y; c = z } in
    ap₂ (λ x y. made x y c) p q ∙ ap (made d e) r

-- a constraint that lies alike in two lists
pub row_by : (xs ys : Combination) (span : Span)
    → ((i j : ℕ) → span.start ≤ i → i ≤ j → j ≤ end_of span → slice_range xs i j ≡ slice_range ys i j) → row_at xs span ≡ row_at ys span
row_by xs ys span same =
    same_row _ _ _ _ _ _
    (same span.start (span.start + span.a) (omega arith) (omega arith) (omega arith))
    (same (span.start + span.a) (span.start + span.a + span.b) (omega arith) (omega arith) (omega arith))
    (same (span.start + span.a + span.b) (end_of span) (omega arith) (omega arith) (omega arith))

-- a constraint's terms with more after them
pub row_kept : (xs more : Combination) (span : Span) → end_of span ≤ length xs → row_at (xs ++ more) span ≡ row_at xs span
row_kept xs more span inside = row_by (xs ++ more) xs span (λ i j low le high. part_kept xs more i j le (omega arith))

-- a constraint whose terms are appended
pub row_appended : (xs : Combination) (row : Constraint) → row_at (xs ++ row_terms row) (span_of (length xs) row) ≡ row
row_appended xs row =
    same_row _ _ _ row.a row.b row.c
    (part_between xs row.a (row.b ++ row.c) (length xs) (length xs + length row.a) refl refl)
    (ap (λ ys. slice_range ys (length xs + length row.a) (length xs + length row.a + length row.b)) (sym (append_assoc xs row.a (row.b ++ row.c)))
    ∙ part_between (xs ++ row.a) row.b row.c (length xs + length row.a) (length xs + length row.a + length row.b) (sym (length-append xs row.a))
    (omega (arith, length-append xs row.a)))
    (ap (λ ys. slice_range ys (length xs + length row.a + length row.b) (length xs + length row.a + length row.b + length row.c))
    (sym (append_assoc xs row.a (row.b ++ row.c)) ∙ sym (append_assoc (xs ++ row.a) row.b row.c)
    ∙ ap (λ ys. xs ++ row.a ++ row.b ++ ys) (sym (append-nil row.c)))
    ∙ part_between (xs ++ row.a ++ row.b) row.c [] (length xs + length row.a + length row.b) (length xs + length row.a + length row.b + length row.c)
    (omega (arith, length-append (xs ++ row.a) row.b, length-append xs row.a)) (omega (arith, length-append (xs ++ row.a) row.b, length-append xs row.a)))

-- where its terms end
pub row_end : (xs : Combination) (row : Constraint) → end_of (span_of (length xs) row) ≡ length (xs ++ row_terms row)
row_end xs row = omega (arith, length-append xs (row.a ++ (row.b ++ row.c)), length-append row.a (row.b ++ row.c), length-append row.b row.c)

-- all constraints, with more terms after theirs
pub rows_kept : (xs more : Combination) (spans : List (Option Span)) → AreInside (length xs) spans
    → map (option_map (row_at (xs ++ more))) spans ≡ map (option_map (row_at xs)) spans
rows_kept xs more [] inside = refl
rows_kept xs more (None ∷ spans) inside = ap (λ rows. None ∷ rows) (rows_kept xs more spans inside.1)
rows_kept xs more (Some span ∷ spans) inside = ap₂ (λ row rows. Some row ∷ rows) (row_kept xs more span inside.0) (rows_kept xs more spans inside.1)

pub inside_more : (n m : ℕ) (spans : List (Option Span)) → n ≤ m → AreInside n spans → AreInside m spans
inside_more n m [] h inside = tt
inside_more n m (None ∷ spans) h inside = (tt, inside_more n m spans h inside.1)
inside_more n m (Some span ∷ spans) h inside = (omega (arith, inside.0), inside_more n m spans h inside.1)

-- the constraint at a place
pub row_found : (f : Span → Constraint) (spans : List (Option Span)) (rows : List (Option Constraint)) (i : ℕ) (span : Option Span)
    → map (option_map f) spans ≡ rows → i < length rows → span ≡ get_or spans i span →
    (i < length spans) × (get_or rows i None ≡ option_map f span)
row_found f spans rows i span is h at =
    let wide : i < length spans = omega (arith, length-map spans (option_map f), ap length is) in
    (wide, ap (λ xs. get_or xs i None) (sym is) ∙ get_or-map (option_map f) spans i span None wide ∙ ap (option_map f) (sym at))

-- constraints whose wires are numbered anew
part_moved : (gone : List ℕ) (xs : Combination) (i j : ℕ) → slice_range (moved gone xs) i j ≡ moved gone (slice_range xs i j)
part_moved gone xs i j =
    let f : ℕ × ℕ → ℕ × ℕ = λ t. (t.0, length (others t.1 gone)) in
    ap (take (j - i)) (drop-map f i xs) ∙ take-map f (j - i) (drop i xs)

pub rows_moved : (gone : List ℕ) (xs : Combination) (spans : List (Option Span))
    → map (option_map (row_at (moved gone xs))) spans ≡ moved_rows gone (map (option_map (row_at xs)) spans)
rows_moved gone xs [] = refl
rows_moved gone xs (None ∷ spans) = ap (λ rows. None ∷ rows) (rows_moved gone xs spans)
rows_moved gone xs (Some span ∷ spans) =
    ap₂ (λ row rows. Some row ∷ rows)
    (same_row _ _ _ _ _ _
    (part_moved gone xs span.start (span.start + span.a))
    (part_moved gone xs (span.start + span.a) (span.start + span.a + span.b))
    (part_moved gone xs (span.start + span.a + span.b) (span.start + span.a + span.b + span.c)))
    (rows_moved gone xs spans)

-- where a constraint was appended, from what the calls gave
pub span_is : (xs : Combination) (row : Constraint) (start a b c : ℕ) → start ≡ length xs → a ≡ length row.a → b ≡ length row.b → c ≡ length row.c
    → record { start = start; a = a; b = b; c = c } ≡ span_of (length xs) row
span_is xs row start a b c at p q r =
    let made : ℕ → ℕ → ℕ → ℕ → Span = λ s x y z. record { start = s; a = x; b = y; c = z } in
    ap₂ (λ s x. made s x b c) at p ∙ ap₂ (λ y z. made (length xs) (length row.a) y z) q r

pub terms_appended : (xs one two three a b c : Combination) → one ≡ xs ++ a → two ≡ one ++ b → three ≡ two ++ c → three ≡ xs ++ (a ++ (b ++ c))
terms_appended xs one two three a b c p q r = r ∙ ap (λ ys. ys ++ c) (q ∙ ap (λ ys. ys ++ b) p) ∙ append_assoc (xs ++ a) b c ∙ append_assoc xs a (b ++ c)

-- how many terms lie where a constraint's do
pub part_size : (xs : Combination) (i n : ℕ) → i + n ≤ length xs → n ≡ length (slice_range xs i (i + n))
part_size xs i n inside = omega (arith, length-take (i + n - i) (drop i xs), length-drop i xs)

pub span_copied : (xs terms : Combination) (span : Span) (start : ℕ) → start ≡ length xs → end_of span ≤ length terms
    → record { start = start; a = span.a; b = span.b; c = span.c } ≡ span_of (length xs) (row_at terms span)
span_copied xs terms span start at inside =
    span_is xs (row_at terms span) start span.a span.b span.c at (part_size terms span.start span.a (omega arith))
    (part_size terms (span.start + span.a) span.b (omega arith))
    (part_size terms (span.start + span.a + span.b) span.c (omega arith))
