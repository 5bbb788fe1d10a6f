-- Turns, digits, weights and terms, one more at a time.
use Rattle.tv_core.proofs.Common.{◌≡◌, ℕ, zero, suc, ◌+◌, ◌*◌, ◌/◌, ◌%◌, ◌^◌, ◌<◌, ◌≤◌, ◌==◌, List, [], ◌∷◌, ◌++◌, length, drop, take, get_or, map, not, cond}
use Rattle.tv_core.proofs.Common.{refl, sym, ◌∙◌, ap, ap₂, arith, append_assoc, append-nil, zero-mul, inl, inr, true, false, cases_lt}
use Rattle.std.specs.Prelude.{min, slice_get, None}
use Rattle.std.proofs.lemmas.Nat.{div-mul-add, mul-le}
use Rattle.tv_core.specs.declared.field.TheConstants.{P}
use Rattle.std.proofs.Math.Nat.{mul_assoc, mul_comm}
use Rattle.std.proofs.lemmas.List.{drop_more, drop_all, take_more, map-append}
use Rattle.std.proofs.lemmas.List.Elements.{filter-append}
use Rattle.std.specs.List.{filter}
use Rattle.tv_outline.specs.Expansion.{coefficient_in, combination_in, digits_of, turn_count, weighed, weights_of, wire_in}
use Rattle.tv_outline.specs.declared.outline.Region.{Region}
use Rattle.tv_outline.specs.declared.outline.Term.{Term}

-- the turns of the loops from one on are its count times those of the loops after it
pub turn_count_more : (counts : List ℕ) (i d : ℕ) → i < length counts → turn_count (drop i counts) ≡ get_or counts i d * turn_count (drop (i + 1) counts)
unfolding turn_count
turn_count_more counts i d h = ap turn_count (drop_more counts i d h)

pub turn_count_none : (counts : List ℕ) (i : ℕ) → length counts ≤ i → turn_count (drop i counts) ≡ 1
unfolding turn_count
turn_count_none counts i h = ap turn_count (drop_all i counts h)

pub turn_count_step : (counts : List ℕ) (i turns : ℕ) → i < length counts → turns * turn_count (drop i counts) ≡ turn_count counts
    → (turns * get_or counts i 0) * turn_count (drop (i + 1) counts) ≡ turn_count counts
turn_count_step counts i turns h is = mul_assoc turns (get_or counts i 0) _ ∙ ap (λ n. turns * n) (sym (turn_count_more counts i 0 h)) ∙ is

-- a product of a number from 2 ^ 32 on is 0, or as large
pub product_over : (m n : ℕ) → 2 ^ 32 ≤ m → m * n < 2 ^ 32 → 0 ≡ m * n
product_over m zero h k = omega arith
product_over m (suc n) h k = absurd (omega (arith, mul-le m m 1 (suc n)))

-- the factors of a product that is not 0
factor_some : (m n : ℕ) → 0 < m * n → 0 < m
factor_some zero n h = absurd (omega (arith, zero-mul n, h))
factor_some (suc m) n h = omega arith

pub count_some : (counts : List ℕ) (i size : ℕ) → i < length counts → size ≡ turn_count (drop i counts) → 0 < size → 0 < get_or counts i 0
count_some counts i size h is some = factor_some _ (turn_count (drop (i + 1) counts)) (omega (arith, turn_count_more counts i 0 h))

pub size_more : (counts : List ℕ) (i size : ℕ) → i < length counts → size ≡ turn_count (drop i counts) → 0 < size
    → size / get_or counts i 0 ≡ turn_count (drop (i + 1) counts)
size_more counts i size h is some =
    let count = get_or counts i 0 in
    let inner = turn_count (drop (i + 1) counts) in
    let product : size ≡ inner * count + 0 = omega (arith, is, turn_count_more counts i 0 h, mul_comm count inner) in
    ap (λ n. n / count) product ∙ div-mul-add inner count 0 (count_some counts i size h is some)

pub size_some : (counts : List ℕ) (i size : ℕ) → i < length counts → size ≡ turn_count (drop i counts) → 0 < size
    → 0 < turn_count (drop (i + 1) counts)
size_some counts i size h is some =
    factor_some (turn_count (drop (i + 1) counts)) (get_or counts i 0)
    (omega (arith, turn_count_more counts i 0 h, mul_comm (get_or counts i 0) (turn_count (drop (i + 1) counts))))

pub digits_more : (counts : List ℕ) (turn i d : ℕ) → i < length counts
    → digits_of (drop i counts) turn ≡ turn / turn_count (drop (i + 1) counts) ∷ digits_of (drop (i + 1) counts) (turn % turn_count (drop (i + 1) counts))
unfolding digits_of
digits_more counts turn i d h = ap (λ l. digits_of l turn) (drop_more counts i d h)

pub digits_step : (counts values digits : List ℕ) (i rest size : ℕ) → i < length counts → size ≡ turn_count (drop (i + 1) counts)
    → values ++ digits_of (drop i counts) rest ≡ digits → (values ++ rest / size ∷ []) ++ digits_of (drop (i + 1) counts) (rest % size) ≡ digits
digits_step counts values digits i rest size h is so_far =
    append_assoc values (rest / size ∷ []) _
    ∙ ap (λ n. values ++ (rest / n ∷ digits_of (drop (i + 1) counts) (rest % n))) is
    ∙ ap (λ l. values ++ l) (sym (digits_more counts rest i 0 h))
    ∙ so_far

pub digits_none : (counts : List ℕ) (turn i : ℕ) → length counts ≤ i → digits_of (drop i counts) turn ≡ []
unfolding digits_of
digits_none counts turn i h = ap (λ l. digits_of l turn) (drop_all i counts h)

pub length-digits_of : (counts : List ℕ) (turn : ℕ) → length (digits_of counts turn) ≡ length counts
unfolding digits_of
length-digits_of [] turn = refl
length-digits_of (count ∷ inner) turn = ap suc (length-digits_of inner (turn % turn_count inner))

pub weighed_more : (weights values : List ℕ) (i w v : ℕ) → i < length weights → i < length values
    → weighed (drop i weights) (drop i values) ≡ get_or weights i w * get_or values i v + weighed (drop (i + 1) weights) (drop (i + 1) values)
unfolding weighed
weighed_more weights values i w v h k = ap₂ weighed (drop_more weights i w h) (drop_more values i v k)

pub weighed_none : (values : List ℕ) → weighed [] values ≡ 0
unfolding weighed
weighed_none values = refl

weighed_no_values : (weights : List ℕ) → weighed weights [] ≡ 0
unfolding weighed
weighed_no_values [] = refl
weighed_no_values (weight ∷ weights) = refl

-- past the end of either there is nothing left to add
pub weighed_past : (weights values : List ℕ) (i : ℕ) → min (length weights) (length values) ≤ i → weighed (drop i weights) (drop i values) ≡ 0
weighed_past weights values i h =
    elim (cases_lt i (length weights)) [
      | inl more ↦ ap (weighed (drop i weights)) (drop_all i values (omega arith)) ∙ weighed_no_values (drop i weights)
      | inr none ↦ ap (λ l. weighed l (drop i values)) (drop_all i weights none) ∙ weighed_none (drop i values)
    ]

-- a term without a rate, and one without a move
pub coefficient_same : (region : Region) (values : List ℕ) (term : Term) → slice_get region.rates.items term.rate ≡ None
    → term.coefficient % P ≡ coefficient_in region values term
coefficient_same region values term none =
    sym (ap (λ w. (term.coefficient + weighed (weights_of w) values) % P) none
    ∙ ap (λ n. n % P) (let e : term.coefficient + weighed [] values ≡ term.coefficient = omega (arith, weighed_none values) in e))

pub wire_same : (region : Region) (values : List ℕ) (term : Term) → slice_get region.moves.items term.shift ≡ None
    → term.wire < 2 ^ 32 → term.wire ≡ wire_in region values term
wire_same region values term none small =
    sym (ap (λ w. (term.wire + weighed (weights_of w) values) % 2 ^ 32) none
    ∙ (let e : (term.wire + weighed [] values) % 2 ^ 32 ≡ term.wire = omega (arith, weighed_none values) in e))

-- the combination of one term more
module _ (region : Region) (values : List ℕ) where
  pub combination_none : combination_in region values [] ≡ []
  unfolding combination_in
  combination_none = refl

  combination_more : (terms : List Term) (i : ℕ) (term : Term) → i < length terms → term ≡ get_or terms i term
      → combination_in region values (take (i + 1) terms) ≡ combination_in region values (take i terms)
      ++ cond (not (coefficient_in region values term == 0)) ((coefficient_in region values term, wire_in region values term) ∷ []) []
  unfolding combination_in
  combination_more terms i term h read =
      let made : Term → ℕ × ℕ = λ t. (coefficient_in region values t, wire_in region values t) in
      ap (combination_in region values) (take_more terms i term h ∙ ap (λ t. take i terms ++ t ∷ []) (sym read))
      ∙ ap (filter (λ (t : ℕ × ℕ). not (t.0 == 0))) (map-append made (take i terms) (term ∷ []))
      ∙ filter-append (λ t. not (t.0 == 0)) (map made (take i terms)) (made term ∷ [])

  -- a term whose coefficient is k, where k is 0 and where it is not
  pub combination_passed : (terms : List Term) (i : ℕ) (term : Term) (k : ℕ) → i < length terms → term ≡ get_or terms i term
      → k ≡ coefficient_in region values term → (k == 0) ≡ true
      → combination_in region values (take (i + 1) terms) ≡ combination_in region values (take i terms)
  combination_passed terms i term k h read is zero_ =
      combination_more terms i term h read
      ∙ ap (λ b. combination_in region values (take i terms) ++ cond (not b) ((coefficient_in region values term, wire_in region values term) ∷ []) [])
      (ap (λ n. n == 0) (sym is) ∙ zero_)
      ∙ append-nil (combination_in region values (take i terms))

  pub combination_taken : (terms : List Term) (i : ℕ) (term : Term) (k w : ℕ) → i < length terms → term ≡ get_or terms i term
      → k ≡ coefficient_in region values term → w ≡ wire_in region values term → (k == 0) ≡ false
      → combination_in region values (take (i + 1) terms) ≡ combination_in region values (take i terms) ++ (k, w) ∷ []
  combination_taken terms i term k w h read is at some =
      combination_more terms i term h read
      ∙ ap (λ b. combination_in region values (take i terms) ++ cond (not b) ((coefficient_in region values term, wire_in region values term) ∷ []) [])
      (ap (λ n. n == 0) (sym is) ∙ some)
      ∙ ap₂ (λ m n. combination_in region values (take i terms) ++ (m, n) ∷ []) (sym is) (sym at)
