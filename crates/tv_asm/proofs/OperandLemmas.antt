-- The operands after a name.
use Rattle.std.proofs.Common.{◌≡◌, ℕ, zero, suc, ◌+◌, ◌<◌, ◌≤◌, ◌==◌, Bool, List, [], ◌∷◌, length, map, ◌⊎◌, inl, inr, refl, sym, ◌∙◌, arith}
use Rattle.std.proofs.lemmas.Bool.{cases_lt}
use Rattle.std.proofs.lemmas.List.{length-map, take_all, drop_all}
use Rattle.std.proofs.lemmas.List.Splits.{length-slice_split, slice_split_first}
use Rattle.std.specs.List.{after_first, before_first, count_by, position_or_len, slice_split}
use Rattle.tv_asm.specs.Instruction.{operand_at, operands_in}
use Rattle.tv_asm.specs.Text.{trimmed}
use Rattle.tv_asm.proofs.TextLemmas.{slice_split_whole}

abbrev pub is_comma : ℕ → Bool
is_comma b = b == 44

-- how many operands there are
pub length-operands_in : (text : List ℕ) → 0 < length text → length (operands_in text) ≡ count_by is_comma text + 1
length-operands_in [] h = absurd (omega arith)
length-operands_in (c ∷ cs) h =
    length-map (slice_split is_comma (c ∷ cs)) trimmed ∙ length-slice_split is_comma (c ∷ cs)

trimmed-nil : trimmed [] ≡ []
unfolding trimmed
trimmed-nil = refl

-- nothing after a comma is an empty operand, and so is none
past : (xs : List ℕ) (i : ℕ) → operand_at (map trimmed (slice_split is_comma xs)) i ≡ operand_at (operands_in xs) i
past [] zero = trimmed-nil
past [] (suc i) = refl
past (c ∷ cs) i = refl

first_at : (text : List ℕ) → (position_or_len is_comma text < length text) ⊎ (length text ≤ position_or_len is_comma text)
    → operand_at (map trimmed (slice_split is_comma text)) 0 ≡ trimmed (before_first is_comma text)
first_at text (inl l) = rw (slice_split_first is_comma text 0 l) refl
first_at text (inr l) = rw (slice_split_whole is_comma text l, take_all (position_or_len is_comma text) text l) refl

-- the first operand
pub operand_at-zero : (text : List ℕ) → operand_at (operands_in text) 0 ≡ trimmed (before_first is_comma text)
operand_at-zero text = sym (past text 0) ∙ first_at text (cases_lt (position_or_len is_comma text) (length text))

next_at : (text : List ℕ) (i : ℕ) → (position_or_len is_comma text < length text) ⊎ (length text ≤ position_or_len is_comma text)
    → operand_at (map trimmed (slice_split is_comma text)) (suc i) ≡ operand_at (operands_in (after_first is_comma text)) i
next_at text i (inl l) = rw (slice_split_first is_comma text 0 l) (past (after_first is_comma text) i)
next_at text i (inr l) =
    rw (slice_split_whole is_comma text l, drop_all (position_or_len is_comma text + 1) text (omega arith)) refl

-- the other operands are those after the first comma
pub operand_at-suc : (text : List ℕ) (i : ℕ) → operand_at (operands_in text) (suc i) ≡ operand_at (operands_in (after_first is_comma text)) i
operand_at-suc text i = sym (past text (suc i)) ∙ next_at text i (cases_lt (position_or_len is_comma text) (length text))
