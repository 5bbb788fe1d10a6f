-- The rows that wires may stand in, each in an entry that leads to the wire's entry before it.
use Rattle.std.specs.Prelude.{ℕ, suc, ◌≤◌, ◌<◌, ◌==◌, ◌%◌, Bool, List, [], ◌∷◌, length, reverse, slice_index_or, if◌then◌else◌}
use Rattle.std.specs.List.{AllByRecursion, list_any}
use Rattle.tv_shrink.specs.declared.occurrences.Entry.{Entry}

-- the rows of the entry of this number, counted from 1, and of those that it leads to; the entries stand last first
abbrev pub rows_from : List Entry → ℕ → List ℕ
rows_from [] number = []
rows_from (entry ∷ before) number =
    if number == suc (length before) then entry.row ∷ rows_from before entry.next else rows_from before number

-- whether a wire may stand in a row: it is in the list whose place is the remainder of the wire's number
abbrev pub has_row : List (List ℕ) → ℕ → ℕ → Bool
has_row lists wire row = list_any (λ p. p == row) (slice_index_or lists (wire % length lists) [])

-- each entry leads to one before it, or to none; the entries stand last first
abbrev pub LeadBack : List Entry → Type 0
LeadBack [] = Unit {0}
LeadBack (entry ∷ before) = (entry.next ≤ length before) × LeadBack before

-- so do the entries; there are lists, and each begins at one of them, or at none
pub record AreLinked (entries : List Entry) (heads : List ℕ) : Type 0 where
  pub some : 0 < length heads
  pub back : LeadBack (reverse entries)
  pub within : AllByRecursion (λ head. head ≤ length entries) heads
