-- What is left of an outline's expansion, from a place to the next.
use Rattle.tv_core.proofs.Common.{◌≡◌, ◌≢◌, ℕ, suc, ◌+◌, ◌-◌, ◌<◌, ◌≤◌, All, List, [], ◌∷◌, ◌++◌, length, drop, get_or, map, range_with_len}
use Rattle.tv_core.proofs.Common.{refl, sym, ◌∙◌, ap, subst, arith, append_assoc}
use Rattle.tv_outline.proofs.ListLaws.{drop_front, front_some}
use Rattle.std.proofs.lemmas.List.{drop_more, drop_all}
use Rattle.std.proofs.lemmas.List.Elements.{All-drop, All-head}
use Rattle.std.specs.List.{flat_map}
use Rattle.tv_core.specs.Constraints.{Constraint}
use Rattle.tv_outline.specs.Expansion.{IsProper, constraint_in, region_of, turn_count, turn_of, values_of}
use Rattle.tv_outline.specs.Places.{IsIn, left_of}
use Rattle.tv_outline.specs.declared.outline.Region.{Region}
use Rattle.tv_outline.specs.declared.outline.Row.{Row}

-- turns from one on are that one and those after it
turns_more : (f : ℕ → List Constraint) (turn count : ℕ) → turn < count
    → flat_map f (range_with_len turn (count - turn)) ≡ f turn ++ flat_map f (range_with_len (turn + 1) (count - (turn + 1)))
turns_more f turn count h =
    let more : count - turn ≡ suc (count - (turn + 1)) = omega arith in
    ap (λ n. flat_map f (range_with_len turn n)) more

turns_first : (f : ℕ → List Constraint) (count : ℕ) → 0 < count
    → flat_map f (range_with_len 0 count) ≡ f 0 ++ flat_map f (range_with_len 1 (count - 1))
turns_first f count h = let more : count ≡ suc (count - 1) = omega arith in ap (λ n. flat_map f (range_with_len 0 n)) more

no_turns : (f : ℕ → List Constraint) (turn n : ℕ) → n ≡ 0 → flat_map f (range_with_len turn n) ≡ []
no_turns f turn n none = ap (λ m. flat_map f (range_with_len turn m)) none

module _ (words : List ℕ) where
  module _ (region : Region) (rest : List Region) (turn row : ℕ) where
    -- what is left after a row
    unfoldable pub rows_after : List Constraint
    rows_after = map (constraint_in region (values_of words region turn)) (drop (row + 1) region.rows.items)

    unfoldable pub turns_after : List Constraint
    turns_after = flat_map (turn_of words region) (range_with_len (turn + 1) (turn_count region.counts.items - (turn + 1)))

    pub left_first : (d : Row) → row < length region.rows.items → left_of words (region ∷ rest) turn row
        ≡ constraint_in region (values_of words region turn) (get_or region.rows.items row d)
        ∷ (rows_after ++ (turns_after ++ flat_map (region_of words) rest))
    unfolding left_of rows_after turns_after
    left_first d h =
        ap (λ rows. map (constraint_in region (values_of words region turn)) rows ++ (turns_after ++ flat_map (region_of words) rest))
        (drop_more region.rows.items row d h)

    -- the next row of the turn
    pub row_next : row < length region.rows.items → left_of words (region ∷ rest) turn (row + 1) ≡ drop 1 (left_of words (region ∷ rest) turn row)
    unfolding left_of
    row_next h = sym (drop_front (constraint_in region (values_of words region turn)) _ region.rows.items row h)

    -- after the last row
    last_row : row + 1 ≡ length region.rows.items
        → drop 1 (left_of words (region ∷ rest) turn row) ≡ turns_after ++ flat_map (region_of words) rest
    unfolding left_of turns_after
    last_row h =
        drop_front (constraint_in region (values_of words region turn)) _ region.rows.items row (omega arith)
        ∙ ap (λ rows. map (constraint_in region (values_of words region turn)) rows ++ (turns_after ++ flat_map (region_of words) rest))
        (drop_all (row + 1) region.rows.items (omega arith))

    -- the first row of the next turn
    pub turn_next : row + 1 ≡ length region.rows.items → turn + 1 < turn_count region.counts.items
        → left_of words (region ∷ rest) (turn + 1) 0 ≡ drop 1 (left_of words (region ∷ rest) turn row)
    unfolding left_of turns_after
    turn_next h k =
        sym (append_assoc (turn_of words region (turn + 1)) _ _)
        ∙ ap (λ l. l ++ flat_map (region_of words) rest) (sym (turns_more (turn_of words region) (turn + 1) (turn_count region.counts.items) k))
        ∙ sym (last_row h)

  -- the first row of the first turn
  pub left_start : (regions : List Region) → All IsProper regions → left_of words regions 0 0 ≡ flat_map (region_of words) regions
  unfolding left_of
  left_start [] h = refl
  left_start (region ∷ rest) h =
      let proper : IsProper region = All-head IsProper region rest h in
      sym (append_assoc (turn_of words region 0) _ _)
      ∙ ap (λ l. l ++ flat_map (region_of words) rest) (sym (turns_first (turn_of words region) (turn_count region.counts.items) proper.turns))

  -- the first row of the next region
  pub region_next : (region : Region) (rest : List Region) (turn row : ℕ) → row + 1 ≡ length region.rows.items
      → turn_count region.counts.items ≤ turn + 1 → All IsProper rest
      → left_of words rest 0 0 ≡ drop 1 (left_of words (region ∷ rest) turn row)
  unfolding turns_after
  region_next region rest turn row h k proper =
      left_start rest proper
      ∙ sym (ap (λ l. l ++ flat_map (region_of words) rest) (no_turns (turn_of words region) (turn + 1) _ (omega arith)))
      ∙ sym (last_row region rest turn row h)

pub start_is_in : (regions : List Region) → All IsProper regions → IsIn regions 0 0
start_is_in [] h = tt
start_is_in (region ∷ rest) h = let proper : IsProper region = All-head IsProper region rest h in (proper.turns, proper.rows)

-- past the last region nothing is left, and before it there is
pub nothing_left : (words : List ℕ) (regions : List Region) (region turn row : ℕ) → length regions ≤ region
    → left_of words (drop region regions) turn row ≡ []
unfolding left_of
nothing_left words regions region turn row h = ap (λ l. left_of words l turn row) (drop_all region regions h)

pub something_left : (words : List ℕ) (regions : List Region) (turn row : ℕ) → 0 < length regions → IsIn regions turn row
    → left_of words regions turn row ≢ []
unfolding left_of
something_left words [] turn row h at = absurd (omega arith)
something_left words (region ∷ rest) turn row h at =
    front_some (constraint_in region (values_of words region turn)) _ region.rows.items row at.1

-- the regions from one on that was read
module _ (xs regions : List Region) (at : ℕ) (region : Region) (same : xs ≡ regions) (h : at < length xs) (read : region ≡ get_or xs at region) where
  pub found : drop at regions ≡ region ∷ drop (at + 1) regions
  found =
      drop_more regions at region (omega (arith, ap length same))
      ∙ ap (λ x. x ∷ drop (at + 1) regions) (sym (read ∙ ap (λ l. get_or l at region) same))

  pub found_proper : All IsProper regions → IsProper region
  found_proper all = All-head IsProper region (drop (at + 1) regions) (subst (All IsProper) found (All-drop IsProper at regions all))

  pub found_in : (turn row : ℕ) → IsIn (drop at regions) turn row → (turn < turn_count region.counts.items) × (row < length region.rows.items)
  found_in turn row is = subst (λ l. IsIn l turn row) found is
