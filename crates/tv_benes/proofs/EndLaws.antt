-- What the outputs of a network are, by their places.
use Rattle.tv_core.proofs.Common.{◌≡◌, ◌≢◌, ℕ, ◌+◌, ◌-◌, ◌*◌, ◌/◌, ◌%◌, ◌<◌, ◌≤◌, ◌==◌, Bool, false, if◌then◌else◌, sym, ◌∙◌, ap, ap₂, arith, inl, inr}
use Rattle.tv_core.proofs.Common.{cases_eq, nat_tests}
use Rattle.tv_benes.proofs.ThroughLaws.{alternating-same, alternating_map}
use Rattle.tv_benes.specs.Places.{wires_at, fifth, row, output, output_wire, column_outputs, last_outputs}
use Rattle.tv_benes.specs.Through.{missing, alternating}
use Rattle.tv_benes.specs.declared.places.Ends.{Ends}
use Rattle.tv_benes.specs.declared.shape.Net.{Net}
use Rattle.tv_benes.specs.declared.shape.Net.TheVariants.{Benes, Waksman}

pub output_zero : (o : Ends) (i : ℕ) → i ≡ 0 → output_wire o i ≡ o.first
output_zero o i e = ap (λ k. output_wire o k) e

pub output_one : (o : Ends) (i : ℕ) → i ≡ 1 → output_wire o i ≡ o.second
output_one o i e = ap (λ k. output_wire o k) e

pub if_apart : {X : Type 0} (i k : ℕ) (x y : X) → i ≢ k → (if i == k then x else y) ≡ y
if_apart i k x y e = ap (λ (c : Bool). if c then x else y) (apart_eq i k e)
  where
    apart_eq : (a b : ℕ) → a ≢ b → (a == b) ≡ false
    apart_eq a b e = grind (arith, nat_tests)

pub output_other : (o : Ends) (i : ℕ) → 1 < i → output_wire o i ≡ alternating (fifth (o.others + 1)) (fifth (o.others + 3)) (i - 2)
output_other o i h = if_apart i 0 _ _ (λ e. let f : i ≡ 0 = e in omega arith) ∙ if_apart i 1 _ _ (λ e. let f : i ≡ 1 = e in omega arith)

alternating_moved : {X : Type 0} (a a' b b' : ℕ → X) (i k : ℕ) → i % 2 ≡ k % 2 → a (i / 2) ≡ a' (k / 2) → b (i / 2) ≡ b' (k / 2)
    → alternating a b i ≡ alternating a' b' k
alternating_moved a a' b b' i k e p q = ap (λ r. if r == 0 then a (i / 2) else b (i / 2)) e ∙ ap₂ (λ x y. if k % 2 == 0 then x else y) p q

-- the others are of switches, g being the wire of the one at which i / 2 - m is 0
others_at : (o : Ends) (g m i : ℕ) → o.others + 5 * m ≡ g + 5 → 1 < i → 2 * m ≤ i
    → output o i ≡ alternating (λ j. row (g + 1) (j - m)) (λ j. row (g + 3) (j - m)) i
others_at o g m i at more within =
    let first : o.others + 1 + 5 * ((i - 2) / 2) ≡ g + 1 + 5 * (i / 2 - m) = omega arith in
    let second : o.others + 3 + 5 * ((i - 2) / 2) ≡ g + 3 + 5 * (i / 2 - m) = omega arith in
    ap wires_at (output_other o i more) ∙ alternating_map wires_at (fifth (o.others + 1)) (fifth (o.others + 3)) (i - 2)
    ∙ alternating_moved (row (o.others + 1)) (λ j. row (g + 1) (j - m)) (row (o.others + 3)) (λ j. row (g + 3) (j - m)) (i - 2) i (omega arith)
    (ap wires_at first) (ap wires_at second)

-- those of a whole column
pub whole_outputs : (g i : ℕ) → output (column_outputs g) i ≡ alternating (row (g + 1)) (row (g + 3)) i
whole_outputs g i = elim (cases_eq i 0) [
  | inl none ↦ let at : g + 1 ≡ g + 1 + 5 * 0 = omega arith in
      ap wires_at (output_zero (column_outputs g) i none ∙ at) ∙ ap (alternating (row (g + 1)) (row (g + 3))) (sym none)
  | inr some ↦ elim (cases_eq i 1) [
    | inl one ↦ let at : g + 3 ≡ g + 3 + 5 * 0 = omega arith in
        ap wires_at (output_one (column_outputs g) i one ∙ at) ∙ ap (alternating (row (g + 1)) (row (g + 3))) (sym one)
    | inr more ↦ others_at (column_outputs g) g 0 i (omega arith) (omega arith) (omega arith) ∙ whole i
  ]
]
  where
    whole : (i : ℕ) → alternating (λ j. row (g + 1) (j - 0)) (λ j. row (g + 3) (j - 0)) i ≡ alternating (row (g + 1)) (row (g + 3)) i
    whole i = let same : i / 2 - 0 ≡ i / 2 = omega arith in
        alternating-same (λ j. row (g + 1) (j - 0)) (row (g + 1)) (λ j. row (g + 3) (j - 0)) (row (g + 3)) i (ap (row (g + 1)) same) (ap (row (g + 3)) same)

-- ---- the outputs of a last column: those that pass, and those of its switches
module _ (g : ℕ) (u l : Ends) (i : ℕ) where
  pub end_passes : (net : Net) → i < 2 * missing net → output (last_outputs net g u l) i ≡ alternating (output u) (output l) i
  end_passes Benes h = absurd (omega arith)
  end_passes Waksman h = elim (cases_eq i 0) [
    | inl none ↦ ap wires_at (output_zero (last_outputs Waksman g u l) i none) ∙ ap (alternating (output u) (output l)) (sym none)
    | inr some ↦ let one : i ≡ 1 = omega arith in
        ap wires_at (output_one (last_outputs Waksman g u l) i one) ∙ ap (alternating (output u) (output l)) (sym one)
  ]

  pub end_made : (net : Net) → 2 * missing net ≤ i
      → output (last_outputs net g u l) i ≡ alternating (λ j. row (g + 1) (j - missing net)) (λ j. row (g + 3) (j - missing net)) i
  end_made Benes h = let same : i / 2 ≡ i / 2 - 0 = omega arith in
      whole_outputs g i
      ∙ alternating-same (row (g + 1)) (λ j. row (g + 1) (j - 0)) (row (g + 3)) (λ j. row (g + 3) (j - 0)) i (ap (row (g + 1)) same) (ap (row (g + 3)) same)
  end_made Waksman h = others_at (last_outputs Waksman g u l) g 1 i (omega arith) (omega arith) h
