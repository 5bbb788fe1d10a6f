-- A combination that is read term by term.
use Rattle.tv_core.proofs.Common.{◌≡◌, ℕ, ◌+◌, ◌*◌, ◌<◌, ◌≤◌, zero, suc, List, [], ◌∷◌, ◌++◌, length, Ok, refl, ◌∙◌, arith, nat_tests}
use Rattle.tv_core.specs.declared.field.TheConstants.{P}
use Rattle.tv_container.specs.declared.why.ReadRefusal.{ReadRefusal}
use Rattle.tv_container.specs.declared.why.ReadWhy.TheVariants.{TooWide, Truncated, WireRange}
use Rattle.tv_container.specs.Places.{fit, number, wrong}
use Rattle.tv_container.specs.Reading.{Refuses}
use Rattle.tv_r1cs_read.specs.R1cs.{term_at, terms_at, count_at, combination_at}
use Rattle.tv_r1cs_read.specs.Rows.{combination_read, AreAt}
use Rattle.tv_r1cs_read.specs.declared.terms.Bounds.{Bounds}
use Rattle.tv_container.proofs.Chain.{refuses_first}

-- a term that is as it should be
pub term_at-good : (file : List ℕ) (wires end at wire coefficient : ℕ) → at + 12 ≤ end → number file 4 at ≡ wire → wire < wires →
    number file 8 (at + 4) ≡ coefficient → coefficient < P → term_at file wires end at ≡ Ok (coefficient, wire)
unfolding term_at
term_at-good file wires end at wire coefficient fits wire_is below coefficient_is canonical = rw (wire_is, coefficient_is) (grind (arith, nat_tests))

-- one of a wire that the system hasn't
pub term_at-far : (file : List ℕ) (wires end at wire : ℕ) → at + 12 ≤ end → number file 4 at ≡ wire → wires ≤ wire →
    term_at file wires end at ≡ wrong at (WireRange wire wires)
unfolding term_at
term_at-far file wires end at wire fits wire_is above = rw wire_is (grind (arith, nat_tests))

-- a count that is as it should be
pub count_at-good : (file : List ℕ) (end at count : ℕ) → at + 4 ≤ end → number file 4 at ≡ count → count ≤ 1048576 → count_at file end at ≡ Ok count
unfolding count_at
count_at-good file end at count fits is narrow = rw is (grind (arith, nat_tests))

-- one of too many terms
pub count_at-wide : (file : List ℕ) (end at count : ℕ) → at + 4 ≤ end → number file 4 at ≡ count → 1048576 < count →
    count_at file end at ≡ wrong at (TooWide count)
unfolding count_at
count_at-wide file end at count fits is wide = rw is (grind (arith, nat_tests))

-- bytes that pass an end don't fit
pub fit-past : (size at end : ℕ) → end < at + size → fit size at end ≡ wrong at Truncated
fit-past size at end past = grind (arith, nat_tests)

-- once its terms are counted, a combination is those terms
pub combination_at-counted : (file : List ℕ) (wires end at count : ℕ) → count_at file end at ≡ Ok count →
    combination_at file wires end at ≡ terms_at file wires end count (at + 4)
unfolding combination_at
combination_at-counted file wires end at count is = rw is refl

-- terms of a file, and those after them
pub AreAt-append : (file : List ℕ) (bounds : Bounds) (at next : ℕ) (terms others : List (ℕ × ℕ)) → next ≡ at + 12 * length terms →
    AreAt file bounds at terms → AreAt file bounds next others → AreAt file bounds at (terms ++ others)
AreAt-append file bounds at next [] others is are rest = let here : next ≡ at = omega (arith, is) in rw here at rest
AreAt-append file bounds at next (term ∷ terms) others is are rest =
    (are.0, AreAt-append file bounds (at + 12) next terms others (omega (arith, is)) are.1 rest)

terms_at-read : (file : List ℕ) (bounds : Bounds) (at next : ℕ) (terms : List (ℕ × ℕ)) → next ≡ at + 12 * length terms → AreAt file bounds at terms →
    terms_at file bounds.wires bounds.end (length terms) at ≡ Ok (combination_read terms next)
unfolding terms_at
terms_at-read file bounds at next [] is are = let here : next ≡ at = omega (arith, is) in rw here refl
terms_at-read file bounds at next (term ∷ terms) is are = rw (are.0, terms_at-read file bounds (at + 12) next terms (omega (arith, is)) are.1) refl

terms_at-refused : (file : List ℕ) (bounds : Bounds) (at next n : ℕ) (terms : List (ℕ × ℕ)) (why : ReadRefusal) → length terms < n →
    next ≡ at + 12 * length terms → AreAt file bounds at terms → Refuses why (term_at file bounds.wires bounds.end next) →
    Refuses why (terms_at file bounds.wires bounds.end n at)
unfolding terms_at
terms_at-refused file bounds at next zero terms why left is are refuses = absurd (omega (arith, left))
terms_at-refused file bounds at next (suc n) [] why left is are refuses =
    let here : next ≡ at = omega (arith, is) in refuses_first why _ _ (rw here at refuses)
terms_at-refused file bounds at next (suc n) (term ∷ terms) why left is are refuses =
    rw are.0 (refuses_first why _ _ (terms_at-refused file bounds (at + 12) next n terms why (omega (arith, left)) (omega (arith, is)) are.1 refuses))

-- a combination is its terms, once all that are counted were read
pub combination_at-read : (file : List ℕ) (bounds : Bounds) (at count next : ℕ) (terms : List (ℕ × ℕ)) → count_at file bounds.end at ≡ Ok count →
    length terms ≡ count → next ≡ at + 4 + 12 * length terms → AreAt file bounds (at + 4) terms →
    combination_at file bounds.wires bounds.end at ≡ Ok (combination_read terms next)
combination_at-read file bounds at count next terms is all end are =
    combination_at-counted file _ _ _ _ is ∙ rw (← all) (terms_at-read file bounds (at + 4) next terms end are)

-- what the next term is refused for is what the combination is
pub combination_at-refused : (file : List ℕ) (bounds : Bounds) (at count next : ℕ) (terms : List (ℕ × ℕ)) (why : ReadRefusal) →
    count_at file bounds.end at ≡ Ok count → length terms < count → next ≡ at + 4 + 12 * length terms → AreAt file bounds (at + 4) terms →
    Refuses why (term_at file bounds.wires bounds.end next) → Refuses why (combination_at file bounds.wires bounds.end at)
combination_at-refused file bounds at count next terms why is left end are refuses =
    rw (combination_at-counted file _ _ _ _ is) (terms_at-refused file bounds (at + 4) next count terms why left end are refuses)
