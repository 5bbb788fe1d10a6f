-- The lines of a system, in an assignment that meets its steps.
use Rattle.tv_core.proofs.Common.{◌≡◌, ℕ, ◌+◌, ◌-◌, ◌*◌, ◌<◌, ◌≤◌, ◌^◌, List, ◌++◌, length, map, sym, ap, ap₂, ◌∙◌, arith, pow-le-pow_right, length-append}
use Rattle.tv_core.proofs.Common.{length-map, joined_below, Assigns, Meets, HasFrom, Line, IsWidth}
use Rattle.std.proofs.lemmas.List.{map-append}
use Rattle.std.proofs.lemmas.List.Elements.{All-weaker}
use Rattle.tv_lines.specs.PackedLines.{line_value}
use Rattle.tv_lines.specs.Placed.{LinesFrom}
use Rattle.tv_numbers.specs.Numbers.{lines_in}
use Rattle.tv_step.specs.Cells.{boot_lines}
use Rattle.tv_step.specs.Range.{AreWords}
use Rattle.tv_layout.proofs.Boot.{boot_lines_valued, padding_valued, LinesFrom-append, length-boot_lines, boot_lines_placed}
use Rattle.tv_layout.proofs.FirstState.{HoldsZeros}
use Rattle.tv_layout.proofs.Positions.{log_above, log_within}
use Rattle.tv_layout.proofs.Steps.{transition_at, lines_in_transition, length-lines_in_transition, lines_placed}
use Rattle.tv_layout.proofs.Blocks.{BlockSizes, BlockIsSound}
use Rattle.tv_layout.specs.Blocks.{BlockCircuit}
use Rattle.tv_layout.specs.Layout.{boot_lines_of, steps_of, own_lines, system_lines}
use Rattle.tv_layout.specs.Places.{WithinLimits, boot_count, line_count, log_of, tape_at, zero_wires_at, first_at, ProgramRuns, runs_like}
use Rattle.tv_layout.specs.Sound.{padding}
use Rattle.tv_word.proofs.WidthLaws.{word_small}

pub words_32 : (w : ℕ) → IsWidth w → (words : List ℕ) → AreWords w words → AreWords 32 words
words_32 w width words h = All-weaker (λ v. v < 2 ^ w) (λ v. v < 2 ^ 32) (λ v k. word_small w width v k) words h

module _ (runs : ProgramRuns) where
  -- how many lines of padding there are
  abbrev pub spare : ℕ
  spare = 2 ^ log_of (line_count runs) - line_count runs

  module _ (fits : WithinLimits runs) where
    pub few : line_count runs ≤ 2 ^ 20
    few = omega (arith, fits.image_fits, fits.tape_fits, fits.steps_fit)

    pub power_few : 2 ^ log_of (line_count runs) ≤ 2 ^ 20
    power_few = pow-le-pow_right (omega arith) (log_within (line_count runs) few)

    pub short : runs.n < 2 ^ 29
    short = omega (arith, fits.tape_fits)

    pub early : boot_count runs.image runs.n + 3 * runs.t < 2 ^ 32
    early = omega (arith, fits.image_fits, fits.tape_fits, fits.steps_fit)

module _ (w : ℕ) (block : BlockCircuit) (made : ℕ) (sizes : BlockSizes block made) (law : BlockIsSound w block) (image x z : List ℕ) (t : ℕ)
    (fits : WithinLimits (runs_like w image x t))
    (assigns : Assigns z) (words : AreWords w x) (has : HasFrom z tape_at x) (zeros_there : HoldsZeros z (zero_wires_at w (length x)))
    (met : Meets z (steps_of block (length x) (boot_count image (length x)) t (zero_wires_at w (length x)) (first_at w (length x))).list) where
  abbrev pub lines : ℕ → List Line
  lines i = lines_in (transition_at block made sizes z x (boot_count image (length x)) (zero_wires_at w (length x)) (first_at w (length x)) i)

  pub own_valued : map (line_value z) (own_lines block (runs_like w image x t)) ≡ boot_lines image x ++ joined_below t lines
  unfolding own_lines
  own_valued =
      map-append (line_value z) (boot_lines_of image (length x)) _ ∙ ap₂ (λ (u v : List Line). u ++ v)
      (boot_lines_valued z assigns image x (words_32 w fits.width image fits.words) (omega (arith, fits.image_fits)) (omega (arith, fits.tape_fits)) has)
      (lines_in_transition block made sizes z x (boot_count image (length x)) (zero_wires_at w (length x)) (first_at w (length x)) t)

  pub lines_valued : map (line_value z) (system_lines block (runs_like w image x t))
      ≡ (boot_lines image x ++ joined_below t lines) ++ padding (line_count (runs_like w image x t)) (spare (runs_like w image x t))
  lines_valued =
      map-append (line_value z) (own_lines block (runs_like w image x t)) _ ∙ ap₂ (λ (u v : List Line). u ++ v) own_valued
      (padding_valued z assigns (line_count (runs_like w image x t)) (spare (runs_like w image x t))
      (omega (arith, log_above (line_count (runs_like w image x t)) (few (runs_like w image x t) fits), power_few (runs_like w image x t) fits)))

  own_long : length (boot_lines image x ++ joined_below t lines) ≡ line_count (runs_like w image x t)
  own_long =
      let steps = length-lines_in_transition block made sizes z x (boot_count image (length x)) (zero_wires_at w (length x)) (first_at w (length x)) t in
      length-append (boot_lines image x) (joined_below t lines) ∙ omega (arith, length-boot_lines image x, steps)

  pub own_placed : LinesFrom 0 (boot_lines image x ++ joined_below t lines)
  own_placed =
      LinesFrom-append 0 (boot_count image (length x)) (boot_lines image x) (joined_below t lines) (omega (arith, length-boot_lines image x))
      (boot_lines_placed image x (words_32 w fits.width image fits.words) (words_32 w fits.width x words) (omega (arith, fits.image_fits))
      (omega (arith, fits.tape_fits)))
      (lines_placed block made sizes z x (boot_count image (length x)) (zero_wires_at w (length x)) (first_at w (length x)) w fits.width law t assigns
      (short (runs_like w image x t) fits) (early (runs_like w image x t) fits) zeros_there met t (omega arith))

  pub own_many : length (own_lines block (runs_like w image x t)) ≡ line_count (runs_like w image x t)
  own_many = sym (length-map (own_lines block (runs_like w image x t)) (line_value z)) ∙ ap length own_valued ∙ own_long
