-- How many bytes there are.
use Rattle.tv_core.proofs.Common.{◌≡◌, ℕ, ◌+◌, ◌*◌, List, [], ◌∷◌, length, refl, arith, length-append, Combination, Constraint, terms_in}
use Rattle.std.proofs.lemmas.List.Sums.{sum_by-cons}
use Rattle.tv_container.specs.Bytes.{four_bytes, terms_bytes}
use Rattle.tv_container.proofs.BytesAt.{length-four_bytes, length-eight_bytes}
use Rattle.tv_r1cs_write.specs.Bytes.{combination_bytes, constraint_bytes, label_bytes, rows_bytes}

-- a label has eight bytes
pub length-label_bytes : (labels : List ℕ) → length (label_bytes labels) ≡ 8 * length labels
length-label_bytes [] = refl
length-label_bytes (label ∷ labels) = simp (length-append, length-eight_bytes, length-label_bytes labels) (omega arith)

-- a combination has four bytes, and twelve for each term; and so on
pub length-terms_bytes : (terms : Combination) → length (terms_bytes terms) ≡ 12 * length terms
length-terms_bytes [] = refl
length-terms_bytes (term ∷ terms) = simp (length-append, length-four_bytes, length-eight_bytes, length-terms_bytes terms) (omega arith)

pub length-combination_bytes : (x : Combination) → length (combination_bytes x) ≡ 4 + 12 * length x
length-combination_bytes x = omega (arith, length-append (four_bytes (length x)) (terms_bytes x), length-four_bytes (length x), length-terms_bytes x)

pub length-constraint_bytes : (row : Constraint) → length (constraint_bytes row) ≡ 12 + 12 * (length row.a + length row.b + length row.c)
length-constraint_bytes row = simp (length-append, length-four_bytes, length-terms_bytes) (omega arith)

pub terms_in-cons : (row : Constraint) (list : List Constraint) → terms_in (row ∷ list) ≡ length row.a + length row.b + length row.c + terms_in list
terms_in-cons row list = sum_by-cons (λ (constraint : Constraint). length constraint.a + length constraint.b + length constraint.c) row list

pub length-rows_bytes : (list : List Constraint) → length (rows_bytes list) ≡ 12 * length list + 12 * terms_in list
length-rows_bytes [] = refl
length-rows_bytes (row ∷ list) =
    omega (arith, length-append (constraint_bytes row) (rows_bytes list), length-constraint_bytes row, length-rows_bytes list, terms_in-cons row list)
