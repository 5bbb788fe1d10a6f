-- The lines of the runs in numbers, by their places.
use Rattle.tv_core.proofs.Common.{◌≡◌, ℕ, zero, suc, ◌+◌, ◌-◌, ◌*◌, ◌/◌, ◌%◌, ◌<◌, List, [], ◌∷◌, ◌++◌, length, inl, inr, refl, sym, ap, ap₂, ◌∙◌, arith}
use Rattle.tv_core.proofs.Common.{subst, cases_lt, length-append, slice_index, joined_below, Line}
use Rattle.std.proofs.Common.{add-zero, zero-add}
use Rattle.std.proofs.lemmas.List.{get_or_append_left, get_or-append_right}
use Rattle.tv_core.specs.declared.limits.TheConstants.{TAPE_CELLS}
use Rattle.tv_layout.proofs.LinePlaces.{thirds, length-thirds}
use Rattle.tv_lines.specs.Placed.{zero_line, number_in}
use Rattle.tv_step.specs.Cells.{boot_from, boot_lines}
use Rattle.tv_layout.proofs.Boot.{length-boot_from, length-boot_lines}

-- a line that writes a word into a cell at a time
abbrev pub written_at : ℕ → ℕ → ℕ → Line
written_at cell time word = record { cell = cell; time = time; old = 0; new = word }

pub boot_from_at : (cell time : ℕ) (words : List ℕ) (i : ℕ) → i < length words
    → number_in (boot_from cell time words) i ≡ written_at (cell + i) (time + i) (slice_index words i)
boot_from_at cell time [] i h = absurd (omega arith)
boot_from_at cell time (v ∷ vs) zero h = rw (add-zero cell, add-zero time) refl
boot_from_at cell time (v ∷ vs) (suc i) h =
    let a : cell + suc i ≡ cell + 1 + i = omega arith in
    let b : time + suc i ≡ time + 1 + i = omega arith in
    rw (a, b) (boot_from_at (cell + 1) (time + 1) vs i (omega arith))

-- ---- lines of an image's and a tape's words, and others after them
module _ (image x : List ℕ) (steps : List Line) where
  pub word_of_image : (i : ℕ) → i < length image → number_in (boot_lines image x ++ steps) i ≡ written_at i i (slice_index image i)
  word_of_image i h =
      get_or_append_left (boot_lines image x) steps zero_line i (omega (arith, length-boot_lines image x))
      ∙ get_or_append_left (boot_from 0 0 image) (boot_from TAPE_CELLS (length image) x) zero_line i (omega (arith, length-boot_from 0 0 image))
      ∙ boot_from_at 0 0 image i h
      ∙ ap (λ p. written_at p p (slice_index image i)) (zero-add i)

  pub word_of_tape : (i : ℕ) → i < length x
      → number_in (boot_lines image x ++ steps) (length image + i) ≡ written_at (TAPE_CELLS + i) (length image + i) (slice_index x i)
  word_of_tape i h =
      let e : length image + i - length image ≡ i = omega arith in
      get_or_append_left (boot_lines image x) steps zero_line (length image + i) (omega (arith, length-boot_lines image x))
      ∙ get_or-append_right (boot_from 0 0 image) (boot_from TAPE_CELLS (length image) x) (length image) (length image + i) zero_line
      (length-boot_from 0 0 image) (omega arith)
      ∙ ap (number_in (boot_from TAPE_CELLS (length image) x)) e
      ∙ boot_from_at TAPE_CELLS (length image) x i h

  pub line_of_steps : (j : ℕ) → number_in (boot_lines image x ++ steps) (length image + length x + j) ≡ number_in steps j
  line_of_steps j =
      let e : length image + length x + j - (length image + length x) ≡ j = omega arith in
      get_or-append_right (boot_lines image x) steps (length image + length x) (length image + length x + j) zero_line
      (length-boot_lines image x) (omega arith)
      ∙ ap (number_in steps) e

module _ (image x : List ℕ) (t : ℕ) (f : ℕ → List Line) (three : (i : ℕ) → length (f i) ≡ 3) where
  abbrev boot : ℕ
  boot = length image + length x

  abbrev pub all : List Line
  all = boot_lines image x ++ joined_below t f

  long-steps : length (joined_below t f) ≡ t * 3
  long-steps = length-thirds zero_line f three t

  pub long : length all ≡ length image + length x + 3 * t
  long = length-append (boot_lines image x) (joined_below t f) ∙ omega (arith, length-boot_lines image x, long-steps)

  -- ---- at each place
  pub at_image : (i : ℕ) → i < length image → number_in all i ≡ written_at i i (slice_index image i)
  at_image i h = word_of_image image x (joined_below t f) i h

  pub at_tape : (i : ℕ) → i < length x → number_in all (length image + i) ≡ written_at (TAPE_CELLS + i) (length image + i) (slice_index x i)
  at_tape i h = word_of_tape image x (joined_below t f) i h

  pub at_step : (j r : ℕ) → j < t → r < 3 → number_in all (length image + length x + (3 * j + r)) ≡ number_in (f j) r
  at_step j r h i =
      let step : (3 * j + r) / 3 ≡ j = omega arith in
      let place : (3 * j + r) % 3 ≡ r = omega arith in
      line_of_steps image x (joined_below t f) (3 * j + r)
      ∙ thirds zero_line f three t (3 * j + r) (omega arith) ∙ ap₂ (λ (m p : ℕ). number_in (f m) p) step place

  -- so what holds at each place of its line holds at each place
  pub each_checked : (Q : ℕ → Line → Type 0) → ((i : ℕ) → i < length image → Q i (written_at i i (slice_index image i)))
      → ((i : ℕ) → i < length x → Q (length image + i) (written_at (TAPE_CELLS + i) (length image + i) (slice_index x i)))
      → ((j r : ℕ) → j < t → r < 3 → Q (length image + length x + (3 * j + r)) (number_in (f j) r)) → (i : ℕ) → i < length all → Q i (number_in all i)
  each_checked Q on_image on_tape on_steps i h = elim (cases_lt i (length image)) [
    | inl here ↦ subst (Q i) (sym (at_image i here)) (on_image i here)
    | inr past ↦ elim (cases_lt i boot) [
      | inl here ↦
          let e : length image + (i - length image) ≡ i = omega arith in
          let tape : i - length image < length x = omega (arith, past, here) in
          subst (λ p. Q p (number_in all p)) e (subst (Q (length image + (i - length image))) (sym (at_tape (i - length image) tape))
          (on_tape (i - length image) tape))
      | inr later ↦
          let j : ℕ = (i - boot) / 3 in
          let r : ℕ = (i - boot) % 3 in
          let e : boot + (3 * j + r) ≡ i = omega arith in
          let within : j < t = omega (arith, h, later, long) in
          let small : r < 3 = omega arith in
          subst (λ p. Q p (number_in all p)) e (subst (Q (boot + (3 * j + r))) (sym (at_step j r within small)) (on_steps j r within small))
    ]
  ]

-- what holds of three numbers holds of each below 3
pub below_three : (Q : ℕ → Type 0) → Q 0 → Q 1 → Q 2 → (r : ℕ) → r < 3 → Q r
below_three Q a b c zero h = a
below_three Q a b c (suc zero) h = b
below_three Q a b c (suc (suc zero)) h = c
below_three Q a b c (suc (suc (suc r))) h = absurd (omega arith)
