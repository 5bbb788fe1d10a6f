-- The lines of a run are in range, stand at their times, and are honest, with padding too.
use Rattle.tv_core.proofs.Common.{◌≡◌, ℕ, zero, suc, ◌+◌, ◌*◌, ◌/◌, ◌<◌, ◌≤◌, ◌^◌, List, [], ◌∷◌, length, refl, sym, ap₂, ◌∙◌, arith, length-append, Line}
use Rattle.tv_core.proofs.Common.{IsWidth}
use Rattle.std.proofs.lemmas.List.{get_or_past}
use Rattle.std.proofs.lemmas.List.Elements.{All-head, All-tail}
use Rattle.tv_core.proofs.LineLaws.{Honest-from_HonestFrom, HonestFrom-from_Honest}
use Rattle.tv_core.specs.Lines.{Honest, HonestFrom, written, memory_after}
use Rattle.tv_core.specs.declared.limits.TheConstants.{NULL_CELL}
use Rattle.tv_lines.specs.Placed.{LinesFrom, IsLine as Fits}
use Rattle.tv_mem.specs.Bytes.{word_in}
use Rattle.tv_step.proofs.CellLaws.{cell_of_tape, lines_in_range}
use Rattle.tv_step.proofs.HonestLaws.{HonestFrom-append, lines_leave_the_state, lines_are_honest}
use Rattle.tv_step.proofs.PlaceLaws.{line_time, lines_are_three_a_step}
use Rattle.tv_step.proofs.RangeLaws.{start_in_range, run_keeps_range}
use Rattle.tv_step.specs.Cells.{IsLine, IsInput, boot_lines, run_lines}
use Rattle.tv_step.specs.Machine.{fetched, operand, start, state_after}
use Rattle.tv_step.specs.Ops.{op_of}
use Rattle.tv_step.specs.Range.{AreWords, StateInRange}
use Rattle.tv_step.specs.Rows.{word_size}
use Rattle.tv_step.specs.State.{State}
use Rattle.tv_step.specs.Trace.{looked_at, data_line, step_lines, lines_of, null_line}
use Rattle.tv_layout.proofs.Boot.{LinesFrom-append, length-boot_lines, boot_lines_placed}
use Rattle.tv_layout.proofs.Whole.{words_32, few, spare}
use Rattle.tv_layout.specs.Places.{WithinLimits, boot_count, line_count, runs_like}
use Rattle.tv_layout.specs.Sound.{padding, all_lines}
use Rattle.tv_word.proofs.WidthLaws.{word_small}

fits_of : (w : ℕ) → IsWidth w → (line : Line) → IsLine w line → Fits line
fits_of w width line l = record { cell = l.cell; old = word_small w width line.old l.old; new = word_small w width line.new l.new }

step_placed : (w : ℕ) → IsWidth w → (n : ℕ) → n < 2 ^ 29 → (st : State) (time : ℕ) → StateInRange w st → LinesFrom time (step_lines w n st time)
step_placed w width n short st time range =
    let j : ℕ = st.pc / word_size w in
    let head : Line = looked_at j time (word_in w st.memory j) in
    let tail : Line = looked_at (j + 1) (time + 1) (word_in w st.memory (j + 1)) in
    let data_ : Line = data_line w n st (time + 2) in
    let all = lines_in_range w width n st time short range in
    let later = All-tail (IsLine w) head (tail ∷ data_ ∷ []) all in (
      refl,
      fits_of w width head (All-head (IsLine w) head (tail ∷ data_ ∷ []) all),
      (
        refl,
        fits_of w width tail (All-head (IsLine w) tail (data_ ∷ []) later),
        (
          line_time w n (op_of (fetched w st).op) st (operand st (fetched w st)) (time + 2)
              ∙ omega arith,
          fits_of w width data_ (All-head (IsLine w) data_ [] (All-tail (IsLine w) tail (data_ ∷ []) later)),
          tt,
        ),
      ),
    )

trace_placed : (w : ℕ) → IsWidth w → (n : ℕ) → n < 2 ^ 29 → (time : ℕ) (st : State) → StateInRange w st → (t : ℕ) → LinesFrom time (lines_of w n time st t)
trace_placed w width n short time st range zero = tt
trace_placed w width n short time st range (suc t) =
    LinesFrom-append time (time + 3 * t) (lines_of w n time st t) _ (omega (arith, lines_are_three_a_step w n time st t))
    (trace_placed w width n short time st range t)
    (step_placed w width n short (state_after w t st) (time + 3 * t) (run_keeps_range w width st t range))

padding_honest : (m : ℕ → ℕ) (time more : ℕ) → m NULL_CELL ≡ 0 → HonestFrom m (padding time more)
padding_honest m time zero e = tt
padding_honest m time (suc more) e = (sym e, padding_honest (written m (null_line time)) (time + 1) more refl)

module _ (w : ℕ) (image x aux : List ℕ) (t : ℕ) (fits : WithinLimits (runs_like w image x t)) (x_words : AreWords w x) (aux_words : AreWords w aux) where
  pub input : IsInput w image x aux
  input = record {
    width = fits.width;
    image_words = fits.words;
    fits = omega (arith, fits.image_fits);
    primary_words = x_words;
    short = omega (arith, fits.tape_fits);
    aux_words = aux_words;
  }

  pub run_many : length (run_lines w image x aux t) ≡ line_count (runs_like w image x t)
  run_many =
      let steps = lines_are_three_a_step w (length x) (length image + length x) (start w image x aux) t in
      length-append (boot_lines image x) (lines_of w (length x) (length image + length x) (start w image x aux) t)
      ∙ ap₂ (λ a b. a + b) (length-boot_lines image x) steps

  pub run_few : length (run_lines w image x aux t) ≤ 2 ^ 20
  run_few = omega (arith, run_many, few (runs_like w image x t) fits)

  pub run_placed : LinesFrom 0 (run_lines w image x aux t)
  run_placed =
      LinesFrom-append 0 (boot_count image (length x)) (boot_lines image x) (lines_of w (length x) (length image + length x) (start w image x aux) t)
      (omega (arith, length-boot_lines image x))
      (boot_lines_placed image x (words_32 w fits.width image fits.words) (words_32 w fits.width x x_words) (omega (arith, fits.image_fits))
      (omega (arith, fits.tape_fits)))
      (trace_placed w fits.width (length x) (omega (arith, fits.tape_fits)) (length image + length x) (start w image x aux)
      (start_in_range w fits.width image x aux x_words aux_words) t)

  pub run_honest : Honest (run_lines w image x aux t)
  run_honest = lines_are_honest w image x aux t input

  -- the null cell holds 0
  null_there : memory_after (run_lines w image x aux t) NULL_CELL ≡ 0
  null_there =
      lines_leave_the_state w image x aux t input NULL_CELL
      ∙ cell_of_tape w x (state_after w t (start w image x aux)).memory (2 ^ 29)
      ∙ get_or_past x (2 ^ 29) 0 (omega (arith, fits.tape_fits))

  -- so padding after them is honest
  pub all_honest : Honest (all_lines w image x aux t)
  all_honest =
      let count : ℕ = line_count (runs_like w image x t) in
      let more : ℕ = spare (runs_like w image x t) in
      let front = HonestFrom-from_Honest (λ _. 0) (run_lines w image x aux t) run_honest in
      let all = HonestFrom-append (λ _. 0) (run_lines w image x aux t) (padding count more) front
      (padding_honest (memory_after (run_lines w image x aux t)) count more null_there) in
      λ earlier line later e. Honest-from_HonestFrom (λ _. 0) (all_lines w image x aux t) earlier line later all e
