-- The lines of a run, by their places.
use Rattle.tv_core.proofs.Common.{◌≡◌, ℕ, ◌+◌, ◌-◌, ◌<◌, ◌≤◌, List, ◌++◌, length, length-append, subst, arith, slice_index, Line}
use Rattle.tv_core.specs.declared.limits.TheConstants.{TAPE_CELLS}
use Rattle.tv_layout.proofs.Boot.{length-boot_lines}
use Rattle.tv_layout.proofs.NumberPlaces.{written_at, word_of_tape, line_of_steps}
use Rattle.tv_lines.specs.Placed.{number_in}
use Rattle.tv_step.specs.Cells.{boot_lines}

-- how many there are
pub lines_many : (image x : List ℕ) (steps : List Line) → length (boot_lines image x ++ steps) ≡ length image + length x + length steps
lines_many image x steps = omega (arith, length-append (boot_lines image x) steps, length-boot_lines image x)

module _ (image x : List ℕ) (steps : List Line) (i : ℕ) where
  pub tape_line : length image ≤ i → i < length image + length x → number_in (boot_lines image x ++ steps) i
      ≡ written_at (TAPE_CELLS + (i - length image)) i (slice_index x (i - length image))
  tape_line above h =
      let place : length image + (i - length image) ≡ i = omega (arith, above) in
      subst (λ p. number_in (boot_lines image x ++ steps) p ≡ written_at (TAPE_CELLS + (i - length image)) p (slice_index x (i - length image))) place
      (word_of_tape image x steps (i - length image) (omega (arith, above, h)))

  pub step_line : length image + length x ≤ i → number_in (boot_lines image x ++ steps) i ≡ number_in steps (i - (length image + length x))
  step_line above =
      let place : length image + length x + (i - (length image + length x)) ≡ i = omega (arith, above) in
      subst (λ p. number_in (boot_lines image x ++ steps) p ≡ number_in steps (i - (length image + length x))) place
      (line_of_steps image x steps (i - (length image + length x)))
