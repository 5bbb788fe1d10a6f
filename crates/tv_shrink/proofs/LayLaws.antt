-- Terms put over others, and the constraints whose terms are not among those.
use Rattle.tv_core.proofs.Common.{◌≡◌, ◌⊎◌, ℕ, zero, suc, ◌+◌, ◌-◌, ◌<◌, ◌≤◌, List, ◌∷◌, ◌++◌, Option, Some, None, refl, sym, ◌∙◌, ap, ap₂, subst, arith, inl}
use Rattle.tv_core.proofs.Common.{[], inr, map, length, get_or, set, take, drop, append-nil, length-append, Combination, Constraint}
use Rattle.std.proofs.Common.{take-append-drop, take_all}
use Rattle.std.specs.List.{AllByRecursion}
use Rattle.std.specs.Option.{option_map}
use Rattle.std.specs.Prelude.{slice_range}
use Rattle.std.proofs.Math.Seq.{drop-append-add}
use Rattle.std.proofs.lemmas.List.{append_assoc, drop_all, get_or_read, length-drop, length-take-le, map_push}
use Rattle.tv_shrink.specs.Spans.{end_of, laid, row_at, row_terms, span_of, AreApart, AreInside, AreLaid, IsClear, IsFree, IsInside}
use Rattle.tv_shrink.specs.declared.arena.Span.{Span}
use Rattle.tv_shrink.proofs.Elements.{each_at, each_pushed, each_set, each_weaker}
use Rattle.tv_shrink.proofs.Spans.{inside_more, part_kept, row_appended, row_by, row_end, row_kept, rows_kept}

-- a part of the terms before or after those that were put
part_clear : (xs put : Combination) (start i j : ℕ) → start ≤ length xs → i ≤ j → j ≤ length xs → (j ≤ start) ⊎ (start + length put ≤ i)
    → slice_range (laid start put xs) i j ≡ slice_range xs i j
part_clear xs put start i j h below inside (inl before) =
    let size : length (take start xs) ≡ start = length-take-le start xs h in
    part_kept (take start xs) (put ++ drop (start + length put) xs) i j below (omega arith)
    ∙ sym (part_kept (take start xs) (drop start xs) i j below (omega arith))
    ∙ ap (λ ys. slice_range ys i j) (take-append-drop start xs)
part_clear xs put start i j h below inside (inr behind) =
    let e : ℕ = start + length put in
    let front : length (take start xs ++ put) ≡ start + length put = omega (arith, length-append (take start xs) put, length-take-le start xs h) in
    let size : length (take (start + length put) xs) ≡ start + length put = length-take-le (start + length put) xs (omega arith) in
    ap (take (j - i))
    (ap (drop i) (sym (append_assoc (take start xs) put (drop e xs)))
    ∙ ap (λ n. drop n (take start xs ++ put ++ drop e xs)) (let at : i ≡ length (take start xs ++ put) + (i - e) = omega arith in at)
    ∙ drop-append-add (take start xs ++ put) (drop e xs) (i - e)
    ∙ sym (drop-append-add (take e xs) (drop e xs) (i - e))
    ∙ ap (λ ys. drop (length (take e xs) + (i - e)) ys) (take-append-drop e xs)
    ∙ ap (λ n. drop n xs) (let at : length (take e xs) + (i - e) ≡ i = omega arith in at))

-- a constraint there
row_clear : (xs put : Combination) (start : ℕ) (span : Span) → start ≤ length xs → end_of span ≤ length xs → (end_of span ≤ start)
    ⊎ (start + length put ≤ span.start) → row_at (laid start put xs) span ≡ row_at xs span
row_clear xs put start span h inside clear =
    row_by (laid start put xs) xs span (λ i j low le high. part_clear xs put start i j h le (omega arith)
    (elim clear [ inl before ↦ inl (omega arith) | inr behind ↦ inr (omega arith) ]))

-- the constraint that was put
row_laid : (xs : Combination) (row : Constraint) (start : ℕ) → start ≤ length xs → row_at (laid start (row_terms row) xs) (span_of start row) ≡ row
row_laid xs row start h =
    let size : length (take start xs) ≡ start = length-take-le start xs h in
    let terms : length (row_terms row) ≡ length row.a + (length row.b + length row.c) = omega
    (arith, length-append row.a (row.b ++ row.c), length-append row.b row.c) in
    let inside : end_of (span_of start row) ≤ length (take start xs ++ row_terms row) = omega (arith, length-append (take start xs) (row_terms row)) in
    ap (λ ys. row_at ys (span_of start row)) (sym (append_assoc (take start xs) (row_terms row) (drop (start + length (row_terms row)) xs)))
    ∙ row_kept (take start xs ++ row_terms row) (drop (start + length (row_terms row)) xs) (span_of start row) inside
    ∙ ap (λ n. row_at (take start xs ++ row_terms row) (span_of n row)) (sym size)
    ∙ row_appended (take start xs) row

laid_longer : (start : ℕ) (put xs : Combination) → start ≤ length xs → (length xs ≤ length (laid start put xs))
    × (start + length put ≤ length (laid start put xs))
laid_longer start put xs h =
    let size : length (laid start put xs) ≡ start + (length put + length (drop (start + length put) xs)) =
    length-append (take start xs) (put ++ drop (start + length put) xs)
    ∙ ap₂ (λ m n. m + n) (length-take-le start xs h) (length-append put (drop (start + length put) xs)) in
    (omega (arith, length-drop (start + length put) xs), omega arith)

-- all others are apart from a constraint
apart_back : (s t : Span) → IsClear s.start (end_of s) (Some t) → IsClear t.start (end_of t) (Some s)
apart_back s t (inl h) = inr h
apart_back s t (inr h) = inl h

others_apart : (spans : List (Option Span)) (i : ℕ) (span : Span) → AreApart spans → i < length spans → get_or spans i None ≡ Some span
    → AllByRecursion (IsClear span.start (end_of span)) (set spans i None)
others_apart [] i span apart h at = tt
others_apart (first ∷ spans) zero span apart h at = let here : AreApart (Some span ∷ spans) = subst (λ s. AreApart (s ∷ spans)) at apart in (tt, here.0)
others_apart (None ∷ spans) (suc i) span apart h at = (tt, others_apart spans i span apart (omega arith) at)
others_apart (Some first ∷ spans) (suc i) span apart h at =
    let inside : i < length spans = omega arith in (
      apart_back first span (subst (IsClear first.start (end_of first)) at (each_at (IsClear first.start (end_of first)) spans i None tt apart.0)),
      others_apart spans i span apart.1 inside at,
    )

-- so a free place is apart from all others
free_clear : (n : ℕ) (spans : List (Option Span)) (i : ℕ) (span : Span) (start size : ℕ) → AreLaid n spans → i < length spans → get_or spans i None ≡ Some span
    → IsFree n span start size → AllByRecursion (IsClear start (start + size)) (set spans i None)
free_clear n spans i span start size h inside at (inl over) =
    each_weaker (IsClear span.start (end_of span)) (IsClear start (start + size)) narrower (set spans i None) (others_apart spans i span h.apart inside at)
  where
    narrower : (s : Option Span) → IsClear span.start (end_of span) s → IsClear start (start + size) s
    narrower None clear = tt
    narrower (Some s) (inl before) = inl (omega (arith, over.0))
    narrower (Some s) (inr behind) = inr (omega (arith, over.1))
free_clear n spans i span start size h inside at (inr last) =
    each_weaker (IsInside n) (IsClear start (start + size)) before (set spans i None) (each_set (IsInside n) spans i None tt h.inside)
  where
    before : (s : Option Span) → IsInside n s → IsClear start (start + size) s
    before None is = tt
    before (Some s) is = inl (omega arith)

-- constraints stay apart with one more, one fewer, or one that was put
pub apart_set : (spans : List (Option Span)) (i : ℕ) (span : Span) → AreApart spans
    → AllByRecursion (IsClear span.start (end_of span)) (set spans i None) → AreApart (set spans i (Some span))
apart_set [] i span apart others = tt
apart_set (None ∷ spans) zero span apart others = (others.1, apart)
apart_set (Some first ∷ spans) zero span apart others = (others.1, apart.1)
apart_set (None ∷ spans) (suc i) span apart others = apart_set spans i span apart others.1
apart_set (Some first ∷ spans) (suc i) span apart others =
    (each_set (IsClear first.start (end_of first)) spans i (Some span) (apart_back span first others.0) apart.0, apart_set spans i span apart.1 others.1)

apart_dropped : (spans : List (Option Span)) (i : ℕ) → AreApart spans → AreApart (set spans i None)
apart_dropped [] i apart = tt
apart_dropped (None ∷ spans) zero apart = apart
apart_dropped (Some first ∷ spans) zero apart = apart.1
apart_dropped (None ∷ spans) (suc i) apart = apart_dropped spans i apart
apart_dropped (Some first ∷ spans) (suc i) apart = (each_set (IsClear first.start (end_of first)) spans i None tt apart.0, apart_dropped spans i apart.1)

pub laid_dropped : (n : ℕ) (spans : List (Option Span)) (i : ℕ) → AreLaid n spans → AreLaid n (set spans i None)
laid_dropped n spans i h = record { inside = each_set (IsInside n) spans i None tt h.inside; apart = apart_dropped spans i h.apart }

apart_push : (n : ℕ) (spans : List (Option Span)) (span : Span) → AreInside n spans → AreApart spans → n ≤ span.start → AreApart (spans ++ Some span ∷ [])
apart_push n [] span inside apart behind = (tt, tt)
apart_push n (None ∷ spans) span inside apart behind = apart_push n spans span inside.1 apart behind
apart_push n (Some first ∷ spans) span inside apart behind =
    let clear : IsClear first.start (end_of first) (Some span) = inr (omega (arith, inside.0)) in
    (each_pushed (IsClear first.start (end_of first)) spans (Some span) clear apart.0, apart_push n spans span inside.1 apart.1 behind)

laid_pushed : (n m : ℕ) (spans : List (Option Span)) (span : Span) → AreLaid n spans → n ≤ m → n ≤ span.start → end_of span ≤ m
    → AreLaid m (spans ++ Some span ∷ [])
laid_pushed n m spans span h more behind ends = record {
  inside = each_pushed (IsInside m) spans (Some span) ends (inside_more n m spans more h.inside);
  apart = apart_push n spans span h.inside h.apart behind;
}

apart_none : (spans : List (Option Span)) → AreApart spans → AreApart (spans ++ None ∷ [])
apart_none [] apart = tt
apart_none (None ∷ spans) apart = apart_none spans apart
apart_none (Some first ∷ spans) apart = (each_pushed (IsClear first.start (end_of first)) spans None tt apart.0, apart_none spans apart.1)

pub laid_none : (n : ℕ) (spans : List (Option Span)) → AreLaid n spans → AreLaid n (spans ++ None ∷ [])
laid_none n spans h = record { inside = each_pushed (IsInside n) spans None tt h.inside; apart = apart_none spans h.apart }

pub laid_more : (n m : ℕ) (spans : List (Option Span)) → n ≤ m → AreLaid n spans → AreLaid m spans
laid_more n m spans more h = record { inside = inside_more n m spans more h.inside; apart = h.apart }

-- the constraints where one was put in place of another one
module _ (xs put : Combination) (start : ℕ) (h : start ≤ length xs) where
  one_kept : (span : Option Span) → IsInside (length xs) span → IsClear start (start + length put) span
      → option_map (row_at (laid start put xs)) span ≡ option_map (row_at xs) span
  one_kept None inside clear = refl
  one_kept (Some span) inside clear = ap Some (row_clear xs put start span h inside clear)

  all_kept : (spans : List (Option Span)) → AreInside (length xs) spans → AllByRecursion (IsClear start (start + length put)) spans
      → map (option_map (row_at (laid start put xs))) spans ≡ map (option_map (row_at xs)) spans
  all_kept [] inside clear = refl
  all_kept (span ∷ spans) inside clear = ap₂ (λ row rows. row ∷ rows) (one_kept span inside.0 clear.0) (all_kept spans inside.1 clear.1)

  others_kept : (spans : List (Option Span)) (i : ℕ) (made : Span) (row : Constraint) → AreInside (length xs) spans
      → AllByRecursion (IsClear start (start + length put)) (set spans i None) → row_at (laid start put xs) made ≡ row →
      map (option_map (row_at (laid start put xs))) (set spans i (Some made)) ≡ set (map (option_map (row_at xs)) spans) i (Some row)
  others_kept [] i made row inside clear is = refl
  others_kept (span ∷ spans) zero made row inside clear is = ap₂ (λ first rows. Some first ∷ rows) is (all_kept spans inside.1 clear.1)
  others_kept (span ∷ spans) (suc i) made row inside clear is = ap₂ (λ first rows. first ∷ rows) (one_kept span inside.0 clear.0)
      (others_kept spans i made row inside.1 clear.1 is)

pub held_at : (spans : List (Option Span)) (i : ℕ) (span : Option Span) (held : Span) → i < length spans → span ≡ get_or spans i span → span ≡ Some held
    → get_or spans i None ≡ Some held
held_at spans i span held h at is = sym (get_or_read spans i span h at None) ∙ is

laid_over : (xs : Combination) (spans : List (Option Span)) (rows : List (Option Constraint)) (i start : ℕ) (old : Span) (row : Constraint)
    → AreLaid (length xs) spans → map (option_map (row_at xs)) spans ≡ rows → i < length spans → get_or spans i None ≡ Some old
    → IsFree (length xs) old start (length (row_terms row)) →
    AreLaid (length (laid start (row_terms row) xs)) (set spans i (Some (span_of start row)))
    × (map (option_map (row_at (laid start (row_terms row) xs))) (set spans i (Some (span_of start row))) ≡ set rows i (Some row))
laid_over xs spans rows i start old row h view inside at free =
    let put = row_terms row in
    let before : IsInside (length xs) (Some old) = subst (IsInside (length xs)) at (each_at (IsInside (length xs)) spans i None tt h.inside) in
    let low : start ≤ length xs = elim free [ inl over ↦ omega (arith, over.0) | inr last ↦ omega arith ] in
    let clear = free_clear (length xs) spans i old start (length put) h inside at free in
    let longer = laid_longer start put xs low in
    let ends : end_of (span_of start row) ≡ start + length put = omega (arith, length-append row.a (row.b ++ row.c), length-append row.b row.c) in (
      record {
        inside = each_set (IsInside (length (laid start put xs))) spans i (Some (span_of start row)) (omega (arith, longer.1, ends))
            (inside_more (length xs) (length (laid start put xs)) spans longer.0 h.inside);
        apart = apart_set spans i (span_of start row) h.apart
            (subst (λ m. AllByRecursion (IsClear start m) (set spans i None)) (sym ends) clear);
      },
      others_kept xs put start low spans i (span_of start row) row h.inside clear (row_laid xs row start low) ∙ ap (λ rows. set rows i (Some row)) view,
    )

pub rows_laid : (xs ys put : Combination) (spans : List (Option Span)) (rows : List (Option Constraint)) (i start : ℕ) (old made : Span) (row : Constraint)
    → AreLaid (length xs) spans → map (option_map (row_at xs)) spans ≡ rows → i < length spans → get_or spans i None ≡ Some old →
    put ≡ row_terms row → IsFree (length xs) old start (length put) → ys ≡ laid start put xs → made ≡ span_of start row →
    AreLaid (length ys) (set spans i (Some made)) × (map (option_map (row_at ys)) (set spans i (Some made)) ≡ set rows i (Some row))
rows_laid xs ys put spans rows i start old made row h view inside at terms free is made_is =
    rw (is, made_is, terms) (laid_over xs spans rows i start old row h view inside at (rw terms at free))

-- one more constraint, whose terms are appended
pub rows_added : (xs ys : Combination) (spans more : List (Option Span)) (row : Constraint) (span : Span) → AreLaid (length xs) spans → ys ≡ xs ++ row_terms row
    → span ≡ span_of (length xs) row → more ≡ spans ++ Some span ∷ [] →
    AreLaid (length ys) more × (map (option_map (row_at ys)) more ≡ map (option_map (row_at xs)) spans ++ Some row ∷ [])
rows_added xs ys spans more row span h is at pushed =
    let long = length-append xs (row_terms row) in
    rw (pushed, at, is) (
      laid_pushed (length xs) (length (xs ++ row_terms row)) spans (span_of (length xs) row) h (omega arith) (omega arith) (omega (arith, row_end xs row)),
      map_push (option_map (row_at (xs ++ row_terms row))) spans (Some (span_of (length xs) row))
          ∙ ap₂ (λ rows last. rows ++ Some last ∷ []) (rows_kept xs (row_terms row) spans h.inside) (row_appended xs row),
    )

-- or one that was dropped
pub none_added : (xs : Combination) (spans more : List (Option Span)) → AreLaid (length xs) spans → more ≡ spans ++ None ∷ [] →
    AreLaid (length xs) more × (map (option_map (row_at xs)) more ≡ map (option_map (row_at xs)) spans ++ None ∷ [])
none_added xs spans more h pushed = rw pushed (laid_none (length xs) spans h, map_push (option_map (row_at xs)) spans None)

-- terms put after all others
pub laid_after : (start : ℕ) (put xs : Combination) → start ≡ length xs → xs ++ put ≡ laid start put xs
laid_after start put xs e =
    sym (ap₂ (λ front back. front ++ (put ++ back)) (take_all start xs (omega arith)) (drop_all (start + length put) xs (omega arith))
    ∙ ap (λ back. xs ++ back) (append-nil put))
