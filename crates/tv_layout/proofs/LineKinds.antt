-- The kinds of lines by their places.
use Rattle.tv_core.proofs.Common.{◌≡◌, ℕ, zero, suc, ◌+◌, ◌-◌, ◌/◌, ◌%◌, ◌<◌, ◌≤◌, ◌≢◌, true, false, refl, sym, subst, arith, inl, inr, ne_eqb, eq-eqb}
use Rattle.tv_core.proofs.Common.{cases_eq, cases_lt}
use Rattle.std.proofs.lemmas.Bool.Decides.{leb_tells}
use Rattle.std.specs.Prelude.{nat_lt}
use Rattle.tv_core.specs.declared.limits.TheConstants.{CELL_BITS, TAPE_CELLS}
use Rattle.tv_argument.specs.Checks.{IsShortKind}
use Rattle.tv_argument.specs.declared.kinds.Kind.{Kind}
use Rattle.tv_argument.specs.declared.kinds.Kind.TheVariants.{ZeroOld, Least, Boot, Within}
use Rattle.tv_layout.specs.Checks.{boot_kind, first_kind, step_kind, line_kind}

lt_true : (a b : ℕ) → a < b → nat_lt a b ≡ true
lt_true a b h = elim (leb_tells (suc a) b) [ inl fits ↦ fits.0 | inr over ↦ absurd (omega (arith, over.1)) ]

lt_false : (a b : ℕ) → b ≤ a → nat_lt a b ≡ false
lt_false a b h = elim (leb_tells (suc a) b) [ inl fits ↦ absurd (omega (arith, fits.1)) | inr over ↦ over.0 ]

-- ---- where a line stands
module _ (k words n i : ℕ) where
  pub of_image : i < words → line_kind k words n i ≡ boot_kind ZeroOld 0 i
  of_image h = rw (lt_true i words h) refl

  pub of_tape : words ≤ i → i < words + n → line_kind k words n i ≡ boot_kind (Within CELL_BITS) TAPE_CELLS (i - words)
  of_tape h j = rw (lt_false i words h) (rw (lt_true i (words + n) j) refl)

  pub of_steps : words + n ≤ i → line_kind k words n i ≡ step_kind k words (i - (words + n))
  of_steps h = let over : words ≤ i = omega (arith, h) in rw (lt_false i words over) (rw (lt_false i (words + n) h) refl)

-- ---- of words at boot
pub first_boot : (first : Kind) (cell i : ℕ) → i ≡ 0 → boot_kind first cell i ≡ first
first_boot first cell i h = rw (eq-eqb i 0 h) refl

pub later_boot : (first : Kind) (cell i : ℕ) → i ≢ 0 → boot_kind first cell i ≡ Boot (cell + i - 1)
later_boot first cell i h = rw (ne_eqb i 0 h) refl

-- ---- of a step's lines
pub first_line_kind : (k words j : ℕ) → j % 3 ≡ 0 → step_kind k words j ≡ first_kind words (j / 3)
first_line_kind k words j h = rw (eq-eqb (j % 3) 0 h) refl

pub second_line_kind : (k words j : ℕ) → j % 3 ≡ 1 → step_kind k words j ≡ Within k
second_line_kind k words j h =
    let none : j % 3 ≢ 0 = λ e. omega (arith, e, h) in
    rw (ne_eqb (j % 3) 0 none) (rw (eq-eqb (j % 3) 1 h) refl)

pub third_line_kind : (k words j : ℕ) → j % 3 ≡ 2 → step_kind k words j ≡ Within CELL_BITS
third_line_kind k words j h =
    let none : j % 3 ≢ 0 = λ e. omega (arith, e, h) in
    let not_one : j % 3 ≢ 1 = λ e. omega (arith, e, h) in
    rw (ne_eqb (j % 3) 0 none) (rw (ne_eqb (j % 3) 1 not_one) refl)

-- the least line is the first one where the image has no words
pub least_first : (words step : ℕ) → words ≡ 0 → step ≡ 0 → first_kind words step ≡ Least
least_first words step h i = rw (h, i) refl

pub some_first : (words step : ℕ) → words ≢ 0 → first_kind words step ≡ Within CELL_BITS
some_first words step h = rw (ne_eqb words 0 h) refl

pub later_first : (words step : ℕ) → step ≢ 0 → first_kind words step ≡ Within CELL_BITS
later_first zero step h = rw (ne_eqb step 0 h) refl
later_first (suc words) step h = some_first (suc words) step (λ e. omega (arith, e))

-- ---- no reach is longer than 31 bits
boot_short : (first : Kind) (cell i : ℕ) → IsShortKind first → IsShortKind (boot_kind first cell i)
boot_short first cell i h = elim (cases_eq i 0) [
  | inl e ↦ subst IsShortKind (sym (first_boot first cell i e)) h
  | inr e ↦ subst IsShortKind (sym (later_boot first cell i e)) tt
]

pub first_short : (words step : ℕ) → IsShortKind (first_kind words step)
first_short words step = elim (cases_eq words 0) [
  | inl e ↦ elim (cases_eq step 0) [
    | inl f ↦ subst IsShortKind (sym (least_first words step e f)) tt
    | inr f ↦ subst IsShortKind (sym (later_first words step f)) (omega arith)
  ]
  | inr e ↦ subst IsShortKind (sym (some_first words step e)) (omega arith)
]

step_short : (k words j : ℕ) → k ≤ 20 → IsShortKind (step_kind k words j)
step_short k words j h = elim (cases_eq (j % 3) 0) [
  | inl e ↦ subst IsShortKind (sym (first_line_kind k words j e)) (first_short words (j / 3))
  | inr e ↦ elim (cases_eq (j % 3) 1) [
    | inl f ↦ subst IsShortKind (sym (second_line_kind k words j f)) (omega (arith, h))
    | inr f ↦ subst IsShortKind (sym (third_line_kind k words j (omega (arith, e, f)))) (omega arith)
  ]
]

pub kinds_short : (k words n i : ℕ) → k ≤ 20 → IsShortKind (line_kind k words n i)
kinds_short k words n i h = elim (cases_lt i words) [
  | inl here ↦ subst IsShortKind (sym (of_image k words n i here)) (boot_short ZeroOld 0 i tt)
  | inr past ↦ elim (cases_lt i (words + n)) [
    | inl here ↦ subst IsShortKind (sym (of_tape k words n i past here)) (boot_short (Within CELL_BITS) TAPE_CELLS (i - words) (omega arith))
    | inr later ↦ subst IsShortKind (sym (of_steps k words n i later)) (step_short k words (i - (words + n)) h)
  ]
]
