-- Constraints whose terms lie one after another in a list.
use Rattle.std.specs.Prelude.{◌≡◌, ◌⊎◌, ℕ, ◌+◌, ◌≤◌, List, [], ◌∷◌, ◌++◌, length, Option, None, Some, drop, slice_range, take}
use Rattle.std.specs.List.{AllByRecursion}
use Rattle.tv_core.specs.Constraints.{Combination, Constraint}
use Rattle.tv_shrink.specs.declared.arena.Span.{Span}

-- the place after a constraint's terms
abbrev pub end_of : Span → ℕ
end_of span = span.start + span.a + span.b + span.c

-- the constraint whose terms lie there
abbrev pub row_at : Combination → Span → Constraint
row_at terms span = record {
  a = slice_range terms span.start (span.start + span.a);
  b = slice_range terms (span.start + span.a) (span.start + span.a + span.b);
  c = slice_range terms (span.start + span.a + span.b) (span.start + span.a + span.b + span.c);
}

-- a constraint's terms, one combination after another
abbrev pub row_terms : Constraint → Combination
row_terms row = row.a ++ (row.b ++ row.c)

-- where they lie from a place on
abbrev pub span_of : ℕ → Constraint → Span
span_of start row = record { start = start; a = length row.a; b = length row.b; c = length row.c }

-- the terms of a constraint that was not dropped lie before a place
abbrev pub IsInside : ℕ → Option Span → Type 0
IsInside n None = Unit {0}
IsInside n (Some span) = end_of span ≤ n

abbrev pub AreInside : ℕ → List (Option Span) → Type 0
AreInside n spans = AllByRecursion (IsInside n) spans

-- a constraint's terms, where it was not dropped, lie outside a part
abbrev pub IsClear : ℕ → ℕ → Option Span → Type 0
IsClear start end None = Unit {0}
IsClear start end (Some span) = (end_of span ≤ start) ⊎ (end ≤ span.start)

-- the terms of no two constraints lie in one place
abbrev pub AreApart : List (Option Span) → Type 0
AreApart [] = Unit {0}
AreApart (None ∷ spans) = AreApart spans
AreApart (Some span ∷ spans) = AllByRecursion (IsClear span.start (end_of span)) spans × AreApart spans

-- the constraints' terms lie before a place, each constraint's apart from all others
pub record AreLaid (n : ℕ) (spans : List (Option Span)) : Type 0 where
  pub inside : AreInside n spans
  pub apart : AreApart spans

-- terms put in place of those from a place on; after all others, where that is their end
abbrev pub laid : ℕ → Combination → Combination → Combination
laid start put terms = take start terms ++ (put ++ drop (start + length put) terms)

-- n terms from a place on are those of a span, or lie after all
abbrev pub IsFree : ℕ → Span → ℕ → ℕ → Type 0
IsFree count span start size = ((start ≡ span.start) × (start + size ≤ end_of span)) ⊎ (start ≡ count)
