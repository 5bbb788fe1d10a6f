-- Constraints that were written are read.
use Rattle.tv_core.proofs.Common.{◌≡◌, ℕ, ◌+◌, ◌*◌, ◌<◌, ◌≤◌, ◌^◌, suc, List, [], ◌∷◌, ◌++◌, length, Ok, refl, ◌∙◌, arith, length-append, Combination}
use Rattle.tv_core.proofs.Common.{Constraint}
use Rattle.std.proofs.lemmas.List.Elements.{All-head, All-tail}
use Rattle.std.specs.List.{All}
use Rattle.tv_container.specs.Bytes.{four_bytes, eight_bytes, term_bytes, terms_bytes}
use Rattle.tv_container.specs.declared.sections.Section.{Section}
use Rattle.tv_container.proofs.BytesAt.{At, at_first, at_rest, number_of_four, number_of_eight, length-four_bytes, length-eight_bytes}
use Rattle.tv_core.specs.declared.field.TheConstants.{P}
use Rattle.tv_r1cs_read.specs.R1cs.{Read, term_at, terms_at, combination_at, constraint_at, constraints_from}
use Rattle.tv_r1cs_read.proofs.Ahead.{combination_at-counted, count_at-good, term_at-good}
use Rattle.tv_r1cs_read.proofs.Constraints.{constraints_from-end, constraints_from-next}
use Rattle.tv_r1cs_write.specs.Bytes.{combination_bytes, constraint_bytes, rows_bytes}
use Rattle.tv_r1cs_write.specs.Narrow.{IsShort, IsNarrow, HasWiresBelow}
use Rattle.tv_r1cs_write.proofs.Sizes.{length-combination_bytes, length-constraint_bytes}

-- one term, and others
terms_at-term : (file : List ℕ) (wires end n at : ℕ) (term : ℕ × ℕ) (others : Read Combination) → term_at file wires end at ≡ Ok term →
    terms_at file wires end n (at + 12) ≡ Ok others → terms_at file wires end (suc n) at ≡ Ok (record { value = term ∷ others.value; next = others.next })
unfolding terms_at
terms_at-term file wires end n at term others is rest = rw (is, rest) refl

terms_at-none : (file : List ℕ) (wires end at next : ℕ) → at ≡ next → terms_at file wires end 0 at ≡ Ok (record { value = []; next = next })
unfolding terms_at
terms_at-none file wires end at next is = rw is refl

terms_read : (file : List ℕ) (wires end at next : ℕ) (terms : Combination) → At file at (terms_bytes terms) → HasWiresBelow wires terms
    → All (λ t. t.0 < P) terms →
    wires < 2 ^ 32 → at + 12 * length terms ≡ next → next ≤ end → terms_at file wires end (length terms) at ≡ Ok (record { value = terms; next = next })
terms_read file wires end at next [] a over canonical short there within = terms_at-none file wires end at next (omega arith)
terms_read file wires end at next (term ∷ terms) a over canonical short there within =
    let bytes = term_bytes term in
    let size : length bytes ≡ 12 = omega (arith, length-append (four_bytes term.1) (eight_bytes term.0), length-four_bytes term.1, length-eight_bytes term.0) in
    let here = at_first file at bytes (terms_bytes terms) a in
    let below = All-head (λ t. t.1 < wires) term terms over in
    let residue = All-head (λ t. t.0 < P) term terms canonical in
    let wire_is = number_of_four file at term.1 (at_first file at (four_bytes term.1) (eight_bytes term.0) here) (omega arith) in
    let coefficient_is = number_of_eight file (at + 4) term.0
    (at_rest file at 4 (at + 4) (four_bytes term.1) (eight_bytes term.0) here (length-four_bytes term.1) refl) (omega arith) in
    let rest = terms_read file wires end (at + 12) next terms (at_rest file at 12 (at + 12) bytes (terms_bytes terms) a size refl)
    (All-tail (λ t. t.1 < wires) term terms over) (All-tail (λ t. t.0 < P) term terms canonical) short (omega arith) within in
    terms_at-term file wires end (length terms) at term (record { value = terms; next = next })
    (term_at-good file wires end at term.1 term.0 (omega arith) wire_is below coefficient_is residue) rest

combination_read : (file : List ℕ) (wires end at next : ℕ) (x : Combination) → At file at (combination_bytes x) → IsShort x → HasWiresBelow wires x →
    wires < 2 ^ 32 → at + (4 + 12 * length x) ≡ next → next ≤ end → combination_at file wires end at ≡ Ok (record { value = x; next = next })
combination_read file wires end at next x a is over short there within =
    let count = number_of_four file at (length x) (at_first file at (four_bytes (length x)) (terms_bytes x) a) (omega (arith, is.terms)) in
    combination_at-counted file wires end at (length x) (count_at-good file end at (length x) (omega arith) count is.terms)
    ∙ terms_read file wires end (at + 4) next x (at_rest file at 4 (at + 4) (four_bytes (length x)) (terms_bytes x) a (length-four_bytes (length x)) refl)
    over is.canonical short (omega arith) within

constraint_at-read : (file : List ℕ) (wires end at second third next : ℕ) (row : Constraint) →
    combination_at file wires end at ≡ Ok (record { value = row.a; next = second })
    → combination_at file wires end second ≡ Ok (record { value = row.b; next = third }) →
    combination_at file wires end third ≡ Ok (record { value = row.c; next = next })
    → constraint_at file wires end at ≡ Ok (record { value = row; next = next })
unfolding constraint_at
constraint_at-read file wires end at second third next row a b c = rw (a, b, c) refl

constraint_read : (file : List ℕ) (wires end at next : ℕ) (row : Constraint) → At file at (constraint_bytes row) → IsNarrow wires row → wires < 2 ^ 32 →
    at + (12 + 12 * (length row.a + length row.b + length row.c)) ≡ next → next ≤ end
    → constraint_at file wires end at ≡ Ok (record { value = row; next = next })
constraint_read file wires end at next row a is short there within =
    let second = at + (4 + 12 * length row.a) in
    let third = second + (4 + 12 * length row.b) in
    let more = at_rest file at (4 + 12 * length row.a) second (combination_bytes row.a) (combination_bytes row.b ++ combination_bytes row.c) a
    (length-combination_bytes row.a) refl in
    let last = at_rest file second (4 + 12 * length row.b) third (combination_bytes row.b) (combination_bytes row.c) more
    (length-combination_bytes row.b) refl in
    constraint_at-read file wires end at second third next row
    (combination_read file wires end at second row.a
    (at_first file at (combination_bytes row.a) (combination_bytes row.b ++ combination_bytes row.c) a) is.short.a is.a short refl (omega arith))
    (combination_read file wires end second third row.b
    (at_first file second (combination_bytes row.b) (combination_bytes row.c) more) is.short.b is.b short refl (omega arith))
    (combination_read file wires end third next row.c last is.short.c is.c short (omega arith) within)

pub rows_read : (file : List ℕ) (wires at : ℕ) (rows : Section) (list : List Constraint) → At file at (rows_bytes list) → All (IsNarrow wires) list
    → wires < 2 ^ 32 →
    at + length (rows_bytes list) ≡ rows.at + rows.size → constraints_from file wires rows (length list) at ≡ Ok list
rows_read file wires at rows [] a all short there = constraints_from-end file wires 0 at rows refl (omega arith)
rows_read file wires at rows (row ∷ list) a all short there =
    let size = 12 + 12 * (length row.a + length row.b + length row.c) in
    let whole = length-append (constraint_bytes row) (rows_bytes list) in
    let first = constraint_read file wires (rows.at + rows.size) at (at + size) row (at_first file at (constraint_bytes row) (rows_bytes list) a)
    (All-head (IsNarrow wires) row list all) short refl (omega (arith, whole, length-constraint_bytes row)) in
    let rest = rows_read file wires (at + size) rows list
    (at_rest file at size (at + size) (constraint_bytes row) (rows_bytes list) a (length-constraint_bytes row) refl)
    (All-tail (IsNarrow wires) row list all) short (omega (arith, whole, length-constraint_bytes row)) in
    constraints_from-next file wires (suc (length list)) (length list) at rows (record { value = row; next = at + size }) (omega arith) first
    ∙ rw rest refl
