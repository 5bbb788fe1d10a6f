-- Rows over terms, to which more terms are appended.
use Rattle.std.proofs.Common.{◌≡◌, ℕ, ◌+◌, ◌-◌, ◌≤◌, List, [], ◌∷◌, ◌++◌, All, map, take, drop, length, slice_range, refl, sym, ◌∙◌, ap, ap₂, append_assoc}
use Rattle.std.proofs.Common.{arith, length-append, length-drop}
use Rattle.std.proofs.Math.Seq.{drop-append_seam, take-append_seam}
use Rattle.std.proofs.lemmas.List.{append-nil, take-append-le, drop-append-le, map-append}
use Rattle.std.proofs.lemmas.List.Elements.{recursion_from_All}
use Rattle.std.specs.List.{AllByRecursion}
use Rattle.tv_core.specs.Constraints.{Combination, Constraint}
use Rattle.tv_core.specs.Rows.{constraint_at, Within, row_after}
use Rattle.tv_core.specs.declared.rows.TermRow.{TermRow}

module _ {X : Type 0} where
  slice_range-append : (xs ys : List X) (i j : ℕ) → i ≤ j → j ≤ length xs → slice_range (xs ++ ys) i j ≡ slice_range xs i j
  slice_range-append xs ys i j h k =
      ap (λ l. take (j - i) l) (drop-append-le i xs ys (omega arith)) ∙ take-append-le (j - i) (drop i xs) ys (omega (arith, length-drop i xs))

  slice_range-seam : (all xs ys zs : List X) (i j : ℕ) → all ≡ xs ++ (ys ++ zs) → i ≡ length xs → j ≡ i + length ys → slice_range all i j ≡ ys
  slice_range-seam all xs ys zs i j is h k =
      let size : j - i ≡ length ys = omega arith in
      ap₂ take size (ap₂ drop h is ∙ drop-append_seam xs (ys ++ zs)) ∙ take-append_seam ys zs

-- more terms leave the constraints of earlier rows
constraint_at-append : (terms more : Combination) (row : TermRow) → Within terms row → constraint_at (terms ++ more) row ≡ constraint_at terms row
constraint_at-append terms more row w = search (arith, slice_range-append)

constraints-append : (terms more : Combination) (rows : List TermRow) → AllByRecursion (Within terms) rows
    → map (constraint_at (terms ++ more)) rows ≡ map (constraint_at terms) rows
constraints-append terms more [] w = refl
constraints-append terms more (row ∷ rows) w = ap₂ (λ x xs. x ∷ xs) (constraint_at-append terms more row w.0) (constraints-append terms more rows w.1)

pub constraint_same : (x y z a b c : Combination) → x ≡ a → y ≡ b → z ≡ c
    → ◌≡◌ {A = Constraint} (record { a = x; b = y; c = z }) (record { a = a; b = b; c = c })
constraint_same x y z a b c p q r = cc

-- the row after the terms has the combinations that are appended
constraint_at-after : (terms a b c : Combination) → constraint_at (terms ++ (a ++ (b ++ c))) (row_after terms a b c) ≡ record { a = a; b = b; c = c }
constraint_at-after terms a b c =
    let all = terms ++ (a ++ (b ++ c)) in
    let la = length terms + length a in
    let lb = length terms + (length a + length b) in
    let lc = length terms + (length a + length b + length c) in
    let first : slice_range all (length terms) la ≡ a = slice_range-seam all terms a (b ++ c) (length terms) la refl refl refl in
    let second : slice_range all la lb ≡ b = slice_range-seam all (terms ++ a) b c la lb (sym (append_assoc terms a (b ++ c))) (sym (length-append terms a))
    (omega arith) in
    let third : slice_range all lb lc ≡ c = slice_range-seam all (terms ++ (a ++ b)) c [] lb lc (simp (append_assoc, append-nil))
    (omega (arith, length-append terms (a ++ b), length-append a b)) (omega arith) in
    constraint_same _ _ _ a b c first second third

-- one constraint more
pub constraints-push : (terms a b c : Combination) (rows : List TermRow) → All (Within terms) rows
    → map (constraint_at (terms ++ (a ++ (b ++ c)))) (rows ++ row_after terms a b c ∷ []) ≡ map (constraint_at terms) rows
    ++ (record { a = a; b = b; c = c }) ∷ []
constraints-push terms a b c rows w = search (arith, map-append, constraints-append, recursion_from_All, constraint_at-after)
