-- Boot lines leave the start, and the lines of a run are honest.
use Rattle.tv_core.proofs.Common.{◌≡◌, ℕ, zero, suc, ◌+◌, ◌-◌, ◌*◌, ◌/◌, ◌<◌, ◌≤◌, ◌==◌, Bool, true, false, cond, nat_lt, List, [], ◌∷◌, ◌++◌, length, All}
use Rattle.tv_core.proofs.Common.{refl, sym, ap, ◌∙◌, arith, slice_index, eq-eqb, ne_eqb, eqb-true, Line}
use Rattle.std.proofs.Common.{fold}
use Rattle.std.proofs.Common.{add-zero, zero-add}
use Rattle.std.proofs.lemmas.Bool.{ltb-true, ltb-false}
use Rattle.std.proofs.lemmas.List.Sums.{fold-append}
use Rattle.tv_core.proofs.LineLaws.{Honest-from_HonestFrom}
use Rattle.tv_core.specs.Lines.{written, HonestFrom, memory_after}
use Rattle.tv_core.specs.declared.limits.TheConstants.{TAPE_CELLS}
use Rattle.tv_mem.specs.Bytes.{word_in}
use Rattle.tv_step.proofs.CellLaws.{olds_are_in_cells, step_writes_its_line}
use Rattle.tv_step.proofs.ImageLaws.{word_of_image}
use Rattle.tv_step.proofs.RangeLaws.{start_in_range, run_keeps_range}
use Rattle.tv_step.proofs.ReadLaws.{primary_rest}
use Rattle.tv_step.proofs.RunLaws.{state_next}
use Rattle.tv_step.specs.Cells.{cell_word, cells_of, IsOn, boot_from, boot_lines, run_lines, IsInput, BootLeavesTheStart, LinesLeaveTheState, LinesAreHonest}
use Rattle.tv_step.specs.Machine.{image_bytes, start, state_after}
use Rattle.tv_step.specs.State.{State}
use Rattle.tv_step.specs.Trace.{looked_at, data_line, step_lines, lines_of}

-- ---- lists of lines, one after another
abbrev pub after : (ℕ → ℕ) → List Line → ℕ → ℕ
after m lines = fold written m lines

pub HonestFrom-append : (m : ℕ → ℕ) (xs ys : List Line) → HonestFrom m xs → HonestFrom (after m xs) ys → HonestFrom m (xs ++ ys)
HonestFrom-append m [] ys h k = k
HonestFrom-append m (x ∷ xs) ys h k = (h.0, HonestFrom-append (written m x) xs ys h.1 k)

-- a line that writes what the cell holds changes nothing
pub written_same : (m : ℕ → ℕ) (l : Line) → l.new ≡ m l.cell → (c : ℕ) → written m l c ≡ m c
written_same m l e c = by_test (l.cell == c) refl
  where
    by_test : (b : Bool) → (l.cell == c) ≡ b → written m l c ≡ m c
    by_test true t = ap (λ b. cond b l.new (m c)) t ∙ (e ∙ ap m (eqb-true l.cell c t))
    by_test false t = ap (λ b. cond b l.new (m c)) t

written_agree : (m n : ℕ → ℕ) (l : Line) → ((c : ℕ) → m c ≡ n c) → (c : ℕ) → written m l c ≡ written n l c
written_agree m n l e c = ap (λ v. cond (l.cell == c) l.new v) (e c)

-- ---- boot lines
-- cells below the first, from the first on, and past the last
boot_below : (m : ℕ → ℕ) (i t : ℕ) (vs : List ℕ) (c : ℕ) → c < i → after m (boot_from i t vs) c ≡ m c
boot_below m i t [] c h = refl
boot_below m i t (v ∷ vs) c h = boot_below (written m (record { cell = i; time = t; old = 0; new = v })) (i + 1) (t + 1) vs c (omega arith)
    ∙ ap (λ b. cond b v (m c)) (ne_eqb i c (λ e. omega arith))

boot_at : (m : ℕ → ℕ) (i t : ℕ) (vs : List ℕ) (k : ℕ) → m (i + k) ≡ 0 → after m (boot_from i t vs) (i + k) ≡ slice_index vs k
boot_at m i t [] k e = e
boot_at m i t (v ∷ vs) zero e = rw add-zero
    (boot_below (written m (record { cell = i; time = t; old = 0; new = v })) (i + 1) (t + 1) vs i (omega arith) ∙ ap (λ b. cond b v (m i)) (eq-eqb i i refl))
boot_at m i t (v ∷ vs) (suc k) e =
    let f : i + suc k ≡ i + 1 + k = omega arith in
    rw f (boot_at (written m (record { cell = i; time = t; old = 0; new = v })) (i + 1) (t + 1) vs k
    (ap (λ b. cond b v (m (i + 1 + k))) (ne_eqb i (i + 1 + k) (λ e. omega arith)) ∙ (rw f at e)))

boot_above : (m : ℕ → ℕ) (i t : ℕ) (vs : List ℕ) (c : ℕ) → i + length vs ≤ c → after m (boot_from i t vs) c ≡ m c
boot_above m i t [] c h = refl
boot_above m i t (v ∷ vs) c h = boot_above (written m (record { cell = i; time = t; old = 0; new = v })) (i + 1) (t + 1) vs c (omega arith)
    ∙ ap (λ b. cond b v (m c)) (ne_eqb i c (λ e. omega arith))

-- they are the first of their cells
boot_honest : (m : ℕ → ℕ) (i t : ℕ) (vs : List ℕ) → ((c : ℕ) → i ≤ c → m c ≡ 0) → HonestFrom m (boot_from i t vs)
boot_honest m i t [] h = tt
boot_honest m i t (v ∷ vs) h = (
  sym (h i (omega arith)),
  boot_honest (written m (record { cell = i; time = t; old = 0; new = v })) (i + 1) (t + 1) vs
      (λ c k. ap (λ b. cond b v (m c)) (ne_eqb i c (λ e. omega arith)) ∙ h c (omega arith)),
)

module _ (w : ℕ) (image x aux : List ℕ) (input : IsInput w image x aux) where
  abbrev none : ℕ → ℕ
  none c = 0

  abbrev of_image : ℕ → ℕ
  of_image = after none (boot_from 0 0 image)

  above_image : (c : ℕ) → TAPE_CELLS ≤ c → of_image c ≡ 0
  above_image c h = let fits = input.fits in boot_above none 0 0 image c (omega arith)

  boot_leaves : (c : ℕ) → memory_after (boot_lines image x) c ≡ cell_word w x (image_bytes w image) c
  boot_leaves c =
      ap (λ (f : ℕ → ℕ). f c) (fold-append written none (boot_from 0 0 image) (boot_from TAPE_CELLS (length image) x)) ∙ by_cell (nat_lt c TAPE_CELLS) refl
    where
      by_cell : (b : Bool) → nat_lt c TAPE_CELLS ≡ b → after of_image (boot_from TAPE_CELLS (length image) x) c ≡ cell_word w x (image_bytes w image) c
      by_cell true low =
          boot_below of_image TAPE_CELLS (length image) x c (ltb-true c TAPE_CELLS low)
          ∙ (rw zero-add at (boot_at none 0 0 image c refl) ∙ sym (word_of_image w input.width image c input.image_words))
          ∙ sym (ap (λ b. cond b (word_in w (image_bytes w image) c) (slice_index x (c - TAPE_CELLS))) low)
      by_cell false high =
          let up : TAPE_CELLS ≤ c = ltb-false c TAPE_CELLS high in
          let e : TAPE_CELLS + (c - TAPE_CELLS) ≡ c = omega arith in
          rw e at (boot_at of_image TAPE_CELLS (length image) x (c - TAPE_CELLS) (rw e (above_image c up)))
          ∙ sym (ap (λ b. cond b (word_in w (image_bytes w image) c) (slice_index x (c - TAPE_CELLS))) high)

  boot_lines_honest : HonestFrom none (boot_lines image x)
  boot_lines_honest =
      HonestFrom-append none (boot_from 0 0 image) (boot_from TAPE_CELLS (length image) x) (boot_honest none 0 0 image (λ c h. refl))
      (boot_honest of_image TAPE_CELLS (length image) x (λ c h. above_image c h))

  -- ---- the lines of steps
  abbrev first : State
  first = start w image x aux

  abbrev now : ℕ → State
  now t = state_after w t first

  on_run : (t : ℕ) → IsOn w x (now t)
  on_run t = record {
    short = input.short;
    range = run_keeps_range w input.width first t (start_in_range w input.width image x aux input.primary_words input.aux_words);
    rest = primary_rest w first t;
  }

  -- a step's lines, from a memory that agrees with the cells before it
  module _ (t time : ℕ) (m : ℕ → ℕ) (same : (c : ℕ) → m c ≡ cells_of w x (now t) c) where
    abbrev st : State
    st = now t

    abbrev j : ℕ
    j = st.pc / (w / 8)

    abbrev one : Line
    one = looked_at j time (word_in w st.memory j)

    abbrev two : Line
    two = looked_at (j + 1) (time + 1) (word_in w st.memory (j + 1))

    abbrev third : Line
    third = data_line w (length x) st (time + 2)

    holds : All (λ l. l.old ≡ cells_of w x st l.cell) (step_lines w (length x) st time)
    holds = olds_are_in_cells w input.width x st time (on_run t)

    old_one : one.old ≡ m one.cell
    old_one = holds 0 one (omega arith) ∙ sym (same one.cell)

    after_one : (c : ℕ) → written m one c ≡ m c
    after_one c = written_same m one old_one c

    old_two : two.old ≡ written m one two.cell
    old_two = holds 1 one (omega arith) ∙ sym (same two.cell) ∙ sym (after_one two.cell)

    after_two : (c : ℕ) → written (written m one) two c ≡ m c
    after_two c = written_same (written m one) two old_two c ∙ after_one c

    old_data : third.old ≡ written (written m one) two third.cell
    old_data = holds 2 one (omega arith) ∙ sym (same third.cell) ∙ sym (after_two third.cell)

    step_honest : HonestFrom m (step_lines w (length x) st time)
    step_honest = (old_one, (old_two, (old_data, tt)))

    after_step : (c : ℕ) → after m (step_lines w (length x) st time) c ≡ cells_of w x (now (t + 1)) c
    after_step c =
        written_agree (written (written m one) two) (cells_of w x st) third (λ c. after_two c ∙ same c) c
        ∙ sym (step_writes_its_line w input.width x st (time + 2) (on_run t) c)
        ∙ ap (λ (s : State). cells_of w x s c) (state_next w t first)

  abbrev booted : ℕ → ℕ
  booted = memory_after (boot_lines image x)

  abbrev steps : ℕ → List Line
  steps t = lines_of w (length x) (length image + length x) first t

  leaves : (t : ℕ) (c : ℕ) → after booted (steps t) c ≡ cells_of w x (now t) c
  leaves zero c = boot_leaves c
  leaves (suc t) c =
      let more : t + 1 ≡ suc t = omega arith in
      ap (λ (f : ℕ → ℕ). f c) (fold-append written booted (steps t) (step_lines w (length x) (now t) (length image + length x + 3 * t)))
      ∙ after_step t (length image + length x + 3 * t) (after booted (steps t)) (leaves t) c
      ∙ ap (λ k. cells_of w x (now k) c) more

  steps_honest : (t : ℕ) → HonestFrom booted (steps t)
  steps_honest zero = tt
  steps_honest (suc t) =
      HonestFrom-append booted (steps t) (step_lines w (length x) (now t) (length image + length x + 3 * t)) (steps_honest t)
      (step_honest t (length image + length x + 3 * t) (after booted (steps t)) (leaves t))

pub boot_leaves_the_start : BootLeavesTheStart
boot_leaves_the_start w image x aux input c = boot_leaves w image x aux input c

pub lines_leave_the_state : LinesLeaveTheState
lines_leave_the_state w image x aux t input c =
    ap (λ (f : ℕ → ℕ). f c) (fold-append written (λ c. 0) (boot_lines image x) (lines_of w (length x) (length image + length x) (start w image x aux) t))
    ∙ leaves w image x aux input t c

pub lines_are_honest : LinesAreHonest
lines_are_honest w image x aux t input =
    λ earlier line later e. Honest-from_HonestFrom (λ c. 0) (run_lines w image x aux t) earlier line later
    (HonestFrom-append (λ c. 0) (boot_lines image x) (lines_of w (length x) (length image + length x) (start w image x aux) t)
    (boot_lines_honest w image x aux input) (steps_honest w image x aux input t)) e
