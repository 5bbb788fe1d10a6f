-- What the checks and the network of a system's memory argument make and add: the checks by a sum over the places of the
-- lines, and by their kinds.
use Rattle.tv_core.proofs.Common.{◌≡◌, ℕ, zero, suc, ◌+◌, ◌-◌, ◌*◌, ◌<◌, ◌≤◌, ◌≢◌, refl, sym, ap, ap₂, ◌∙◌, arith, ◌/◌, length, ne_eqb}
use Rattle.tv_core.proofs.BelowLaws.{sum_below-zero, sum_below-suc, sum_below-add}
use Rattle.tv_core.specs.Below.{sum_below}
use Rattle.tv_core.specs.declared.limits.TheConstants.{CELL_BITS, TAPE_CELLS}
use Rattle.tv_argument.specs.declared.kinds.Kind.{Kind}
use Rattle.tv_argument.specs.declared.kinds.Kind.TheVariants.{ZeroOld, Boot, Within}
use Rattle.tv_layout.proofs.LineKinds.{first_boot, later_boot, later_first, of_image, of_tape, of_steps, first_line_kind, second_line_kind, third_line_kind}
use Rattle.tv_layout.specs.Checks.{boot_kind, first_kind, step_kind, line_kind, checks_of}
use Rattle.tv_layout.specs.Sizes.{step_cost, check_costs, in_row, checks_total, memory_wires, memory_constraints}
use Rattle.tv_stages.specs.declared.nets.Net.{Net}
use Rattle.tv_argument.specs.Checks.{check_made, check_added}
use Rattle.tv_argument.specs.Costs.{network_made}
use Rattle.tv_argument.specs.Memory.{argument_made, argument_added}
use Rattle.tv_layout.specs.Places.{line_count, log_of, ProgramRuns}

-- ---- in a row
pub row_some : (n first other : ℕ) → 1 ≤ n → in_row n first other ≡ first + (n - 1) * other
row_some n first other h = let some : n ≢ 0 = λ e. omega (arith, e, h) in rw (ne_eqb n 0 some) refl

pub row_sum : (n first other : ℕ) (f : ℕ → ℕ) → (1 ≤ n → f 0 ≡ first) → ((i : ℕ) → i ≢ 0 → i < n → f i ≡ other) → sum_below n f ≡ in_row n first other
row_sum zero first other f a b = sum_below-zero f
row_sum (suc zero) first other f a b = sum_below-suc 0 f ∙ ap₂ (λ x y. x + y) (sum_below-zero f) (a (omega arith)) ∙ omega arith
    ∙ sym (row_some 1 first other (omega arith))
row_sum (suc (suc n)) first other f a b =
    let before = row_sum (suc n) first other f (λ h. a (omega arith)) (λ i h j. b i h (omega (arith, j))) in
    let last : f (suc n) ≡ other = b (suc n) (λ e. omega (arith, e)) (omega arith) in
    let here = row_some (suc n) first other (omega arith) in
    let more : n * other + other ≡ suc n * other = omega arith in
    let count : suc n - 1 ≡ n = omega arith in
    let counts : suc (suc n) - 1 ≡ suc n = omega arith in
    sum_below-suc (suc n) f
    ∙ ap₂ (λ x y. x + y) (before ∙ here ∙ ap (λ m. first + m * other) count) last
    ∙ omega (arith, more)
    ∙ ap (λ m. first + m * other) (sym counts)
    ∙ sym (row_some (suc (suc n)) first other (omega arith))

-- three at a time
thirds_sum : (t : ℕ) (f : ℕ → ℕ) → sum_below (3 * t) f ≡ sum_below t (λ j. f (3 * j) + (f (3 * j + 1) + f (3 * j + 2)))
thirds_sum zero f = sum_below-zero f ∙ sym (sum_below-zero (λ j. f (3 * j) + (f (3 * j + 1) + f (3 * j + 2))))
thirds_sum (suc t) f =
    let e : 3 * suc t ≡ suc (suc (suc (3 * t))) = omega arith in
    let one : suc (3 * t) ≡ 3 * t + 1 = omega arith in
    let two : suc (suc (3 * t)) ≡ 3 * t + 2 = omega arith in
    let g : ℕ → ℕ = λ j. f (3 * j) + (f (3 * j + 1) + f (3 * j + 2)) in
    ap (λ m. sum_below m f) e
    ∙ sum_below-suc (suc (suc (3 * t))) f
    ∙ ap₂ (λ x y. x + y) (sum_below-suc (suc (3 * t)) f ∙ ap₂ (λ x y. x + y) (sum_below-suc (3 * t) f ∙ ap (λ x. x + f (3 * t)) (thirds_sum t f)) (ap f one))
    (ap f two)
    ∙ regroup (sum_below t g) (f (3 * t)) (f (3 * t + 1)) (f (3 * t + 2))
    ∙ sym (sum_below-suc t g)
  where
    regroup : (s a b c : ℕ) → s + a + b + c ≡ s + (a + (b + c))
    regroup s a b c = omega arith

-- ---- of all lines, where the check at a place costs what its kind does
module _ (cost : Kind → ℕ) (boots : (c : ℕ) → cost (Boot c) ≡ cost (Boot 0)) (k words n t : ℕ) (c : ℕ → ℕ)
    (image : (i : ℕ) → i < words → c i ≡ cost (boot_kind ZeroOld 0 i))
    (tape : (i : ℕ) → i < n → c (words + i) ≡ cost (boot_kind (Within CELL_BITS) TAPE_CELLS i))
    (first : (j : ℕ) → j < t → c (words + n + 3 * j) ≡ cost (first_kind words j))
    (second : (j : ℕ) → j < t → c (words + n + (3 * j + 1)) ≡ cost (Within k))
    (third : (j : ℕ) → j < t → c (words + n + (3 * j + 2)) ≡ cost (Within CELL_BITS)) where
  row_of : (start : Kind) (cell m : ℕ) (f : ℕ → ℕ) → ((i : ℕ) → i < m → f i ≡ cost (boot_kind start cell i))
      → sum_below m f ≡ in_row m (cost start) (cost (Boot 0))
  row_of start cell m f each =
      row_sum m (cost start) (cost (Boot 0)) f
      (λ h. each 0 (omega (arith, h)) ∙ ap cost (first_boot start cell 0 refl))
      (λ i h l. each i l ∙ ap cost (later_boot start cell i h) ∙ boots (cell + i - 1))

  step_at : (j : ℕ) → j < t → c (words + n + 3 * j) + (c (words + n + (3 * j + 1)) + c (words + n + (3 * j + 2))) ≡ step_cost cost k (first_kind words j)
  step_at j h = ap₂ (λ x y. x + y) (first j h) (ap₂ (λ x y. x + y) (second j h) (third j h))

  steps_sum : sum_below (3 * t) (λ i. c (words + n + i)) ≡ in_row t (step_cost cost k (first_kind words 0)) (step_cost cost k (Within CELL_BITS))
  steps_sum =
      thirds_sum t (λ i. c (words + n + i))
      ∙ row_sum t (step_cost cost k (first_kind words 0)) (step_cost cost k (Within CELL_BITS))
      (λ j. c (words + n + 3 * j) + (c (words + n + (3 * j + 1)) + c (words + n + (3 * j + 2))))
      (λ h. step_at 0 (omega (arith, h)))
      (λ j h l. step_at j l ∙ ap (step_cost cost k) (later_first words j h))

  pub checks_sum : sum_below (words + n + 3 * t) c ≡ checks_total (check_costs cost k words) words n t
  checks_sum =
      sum_below-add (words + n) (3 * t) c
      ∙ ap₂ (λ x y. x + y)
      (sum_below-add words n c ∙ ap₂ (λ x y. x + y) (row_of ZeroOld 0 words c image) (row_of (Within CELL_BITS) TAPE_CELLS n (λ i. c (words + i)) tape))
      steps_sum

-- ---- the kinds at places
module _ (k words n : ℕ) where
  pub tape_kind : (i : ℕ) → i < n → line_kind k words n (words + i) ≡ boot_kind (Within CELL_BITS) TAPE_CELLS i
  tape_kind i h =
      let e : words + i - words ≡ i = omega arith in
      of_tape k words n (words + i) (omega arith) (omega arith) ∙ ap (boot_kind (Within CELL_BITS) TAPE_CELLS) e

  at_step : (j : ℕ) → line_kind k words n (words + n + j) ≡ step_kind k words j
  at_step j = let e : words + n + j - (words + n) ≡ j = omega arith in of_steps k words n (words + n + j) (omega arith) ∙ ap (step_kind k words) e

  pub first_kinds : (j : ℕ) → line_kind k words n (words + n + 3 * j) ≡ first_kind words j
  first_kinds j =
      let e : 3 * j / 3 ≡ j = omega arith in
      at_step (3 * j) ∙ first_line_kind k words (3 * j) (omega arith) ∙ ap (first_kind words) e

  pub second_kinds : (j : ℕ) → line_kind k words n (words + n + (3 * j + 1)) ≡ Within k
  second_kinds j = at_step (3 * j + 1) ∙ second_line_kind k words (3 * j + 1) (omega arith)

  pub third_kinds : (j : ℕ) → line_kind k words n (words + n + (3 * j + 2)) ≡ Within CELL_BITS
  third_kinds j = at_step (3 * j + 2) ∙ third_line_kind k words (3 * j + 2) (omega arith)

  -- what a check costs by its kind alone
  pub kinds_sum : (t : ℕ) (f : Kind → ℕ) → ((c : ℕ) → f (Boot c) ≡ f (Boot 0))
      → sum_below (words + n + 3 * t) (λ i. f (line_kind k words n i)) ≡ checks_total (check_costs f k words) words n t
  kinds_sum t f boots =
      checks_sum f boots k words n t (λ i. f (line_kind k words n i))
      (λ i h. ap f (of_image k words n i h))
      (λ i h. ap f (tape_kind i h))
      (λ j h. ap f (first_kinds j))
      (λ j h. ap f (second_kinds j))
      (λ j h. ap f (third_kinds j))

module _ (net : Net) (runs : ProgramRuns) where
  pub wires_are : argument_made net (checks_of runs) (line_count runs) ≡ memory_wires net runs
  wires_are =
      ap (λ s. network_made net (line_count runs) + s)
      (kinds_sum (log_of (line_count runs)) (length runs.image) runs.n runs.t check_made (λ c. refl))

  pub constraints_are : argument_added net (checks_of runs) (line_count runs) ≡ memory_constraints net runs
  constraints_are =
      ap (λ s. network_made net (line_count runs) + s)
      (kinds_sum (log_of (line_count runs)) (length runs.image) runs.n runs.t check_added (λ c. refl))
