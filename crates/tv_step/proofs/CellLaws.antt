-- Lines hold what their cells hold, and what a step changes of the cells is its data line.
use Rattle.tv_core.proofs.Common.{◌≡◌, ◌≢◌, ℕ, ◌+◌, ◌-◌, ◌/◌, ◌%◌, ◌<◌, ◌^◌, ◌==◌, Bool, true, false, cond, nat_lt, List, [], ◌∷◌, length, All, refl, sym, ap}
use Rattle.tv_core.proofs.Common.{◌∙◌, arith, subst, Option, Some, None, slice_index, lt-ltb, le-ltb, eqb-true, Line, for_widths, IsWidth}
use Rattle.std.proofs.Common.{add-zero}
use Rattle.std.specs.Prelude.{if◌then◌else◌, slice_get}
use Rattle.std.proofs.lemmas.Bool.{eqb-false}
use Rattle.std.proofs.lemmas.List.{get_or_past, get_or-drop}
use Rattle.std.proofs.lemmas.List.Elements.{All-cons, All-nil, All-head}
use Rattle.tv_core.specs.Lines.{written}
use Rattle.tv_core.specs.declared.limits.TheConstants.{TAPE_CELLS, NULL_CELL}
use Rattle.tv_mem.proofs.WordLaws.{words_are_small, others_after_byte, others_after_word}
use Rattle.tv_mem.specs.Bytes.{word_in}
use Rattle.tv_step.proofs.LineLaws.{cell_is_low, came, memory_stays, tape_same}
use Rattle.tv_step.proofs.RangeLaws.{operand_is_word, run_keeps_range}
use Rattle.tv_step.specs.Cells.{cell_word, cells_of, IsOn, IsLine, LinesInRange, OldsAreInCells, StepWritesItsLine}
use Rattle.tv_step.specs.Machine.{fetched, operand, reg, state_after}
use Rattle.tv_step.specs.Ops.{op_of}
use Rattle.tv_step.specs.Range.{AreWords, StateInRange}
use Rattle.tv_step.specs.Rows.{row}
use Rattle.tv_step.specs.State.{State}
use Rattle.tv_step.specs.Trace.{looked_at, touched_line, tape_line, data_line}
use Rattle.tv_step.specs.declared.op.Op.{Op}
use Rattle.tv_step.specs.declared.op.Op.TheVariants.{StoreB, LoadB, StoreW, LoadW, Read}

pub cell_of_memory : (w : ℕ) (x : List ℕ) (m : ℕ → ℕ) (c : ℕ) → c < TAPE_CELLS → cell_word w x m c ≡ word_in w m c
cell_of_memory w x m c h = ap (λ b. cond b (word_in w m c) (slice_index x (c - TAPE_CELLS))) (lt-ltb c TAPE_CELLS h)

pub cell_of_tape : (w : ℕ) (x : List ℕ) (m : ℕ → ℕ) (i : ℕ) → cell_word w x m (TAPE_CELLS + i) ≡ slice_index x i
cell_of_tape w x m i =
    let same : TAPE_CELLS + i - TAPE_CELLS ≡ i = omega arith in
    ap (λ b. cond b (word_in w m (TAPE_CELLS + i)) (slice_index x (TAPE_CELLS + i - TAPE_CELLS))) (le-ltb (TAPE_CELLS + i) TAPE_CELLS (omega arith))
    ∙ ap (λ k. slice_index x k) same

-- the cells of an instruction's two words
fetched_cells : (w : ℕ) → IsWidth w → (pc : ℕ) → pc < 2 ^ w → pc % (w / 4) ≡ 0 → (pc / (w / 8) < TAPE_CELLS) × (pc / (w / 8) + 1 < TAPE_CELLS)
fetched_cells w width pc h aligned =
    for_widths (λ w. pc < 2 ^ w → pc % (w / 4) ≡ 0 → (pc / (w / 8) < TAPE_CELLS) × (pc / (w / 8) + 1 < TAPE_CELLS)) (λ h a. (omega arith, omega arith))
    (λ h a. (omega arith, omega arith)) w width h aligned

-- the first word of a list of words
first_word : (w : ℕ) (xs : List ℕ) (v : ℕ) → AreWords w xs → slice_get xs 0 ≡ Some v → v < 2 ^ w
first_word w [] v h e = cc
first_word w (x ∷ xs) v h e = let same : x ≡ v = cc in subst (λ u. u < 2 ^ w) same (All-head (λ u. u < 2 ^ w) x xs h)

first_of : (xs : List ℕ) (v : ℕ) → slice_get xs 0 ≡ Some v → slice_index xs 0 ≡ v
first_of [] v e = cc
first_of (x ∷ xs) v e = cc

either_first : (b : Bool) (tape : List ℕ) (v : ℕ) → (if b then slice_get tape 0 else None) ≡ Some v → slice_get tape 0 ≡ Some v
either_first true tape v e = e
either_first false tape v e = cc

three : (P : Line → Type 0) (a b c : Line) → P a → P b → P c → All P (a ∷ b ∷ c ∷ [])
three P a b c h k l = All-cons P a (b ∷ c ∷ []) h (All-cons P b (c ∷ []) k (All-cons P c [] l (All-nil P)))

-- ---- lines in range
module _ (w : ℕ) (width : IsWidth w) (n : ℕ) (short : n < 2 ^ 29) (st : State) (range : StateInRange w st) (time : ℕ) where
  none_fits : 0 < 2 ^ w
  none_fits = for_widths (λ w. 0 < 2 ^ w) (omega arith) (omega arith) w width

  memory_fits : (a : ℕ) → a < 2 ^ w → IsLine w (touched_line w n LoadW st a time)
  memory_fits a h =
      let low = cell_is_low w width a h in
      record {
        cell = omega arith;
        old = words_are_small w width st.memory range.bytes (a / (w / 8));
        new = words_are_small w width (state_after w 1 st).memory (run_keeps_range w width st 1 range).bytes (a / (w / 8));
      }

  null_fits : IsLine w (tape_line n st None time)
  null_fits = record { cell = omega arith; old = none_fits; new = none_fits }

  tape_fits : (found : Option ℕ) → ((v : ℕ) → found ≡ Some v → slice_get st.primary 0 ≡ Some v) → IsLine w (tape_line n st found time)
  tape_fits None first = null_fits
  tape_fits (Some v) first = let small = first_word w st.primary v range.primary (first v refl) in record { cell = omega arith; old = small; new = small }

  line_fits : (op : Op) (a : ℕ) → a < 2 ^ w → IsLine w (touched_line w n op st a time)
  line_fits StoreB a h = memory_fits a h
  line_fits LoadB a h = memory_fits a h
  line_fits StoreW a h = memory_fits a h
  line_fits LoadW a h = memory_fits a h
  line_fits Read a h = tape_fits (if a == 0 then slice_get st.primary 0 else None) (either_first (a == 0) st.primary)
  line_fits _ a h = null_fits

  fetch_fits : (j t : ℕ) → j < TAPE_CELLS → IsLine w (looked_at j t (word_in w st.memory j))
  fetch_fits j t low = record {
    cell = omega (arith, low);
    old = words_are_small w width st.memory range.bytes j;
    new = words_are_small w width st.memory range.bytes j;
  }

pub lines_in_range : LinesInRange
lines_in_range w width n st time short range =
    let j : ℕ = st.pc / (w / 8) in
    let low = fetched_cells w width st.pc range.pc_fits range.pc_aligned in
    three (IsLine w) (looked_at j time (word_in w st.memory j)) (looked_at (j + 1) (time + 1) (word_in w st.memory (j + 1))) (data_line w n st (time + 2))
    (fetch_fits w width n short st range time j time low.0) (fetch_fits w width n short st range time (j + 1) (time + 1) low.1)
    (line_fits w width n short st range (time + 2) (op_of (fetched w st).op) (operand st (fetched w st)) (operand_is_word w width st range))

-- ---- lines and cells
module _ (w : ℕ) (width : IsWidth w) (x : List ℕ) (st : State) (on : IsOn w x st) (time : ℕ) where
  -- a memory with the tapes of this state
  module _ (m : ℕ → ℕ) where
    null_holds : 0 ≡ cell_word w x m NULL_CELL
    null_holds = let short = on.short in sym (cell_of_tape w x m (2 ^ 29) ∙ get_or_past x (2 ^ 29) 0 (omega arith))

    tape_holds : (found : Option ℕ) → ((v : ℕ) → found ≡ Some v → slice_get st.primary 0 ≡ Some v)
        → (tape_line (length x) st found time).old ≡ cell_word w x m (tape_line (length x) st found time).cell
    tape_holds None first = null_holds
    tape_holds (Some v) first =
        let gone : ℕ = length x - length st.primary in
        sym (cell_of_tape w x m gone ∙ ap (λ k. slice_index x k) (sym (add-zero gone)) ∙ sym (get_or-drop gone x 0 0)
        ∙ ap (λ l. slice_index l 0) (sym on.rest.is) ∙ first_of st.primary v (first v refl))

  old_holds : (op : Op) (a : ℕ) → a < 2 ^ w → (touched_line w (length x) op st a time).old ≡ cells_of w x st (touched_line w (length x) op st a time).cell
  old_holds StoreB a h = sym (cell_of_memory w x st.memory (a / (w / 8)) (cell_is_low w width a h))
  old_holds LoadB a h = sym (cell_of_memory w x st.memory (a / (w / 8)) (cell_is_low w width a h))
  old_holds StoreW a h = sym (cell_of_memory w x st.memory (a / (w / 8)) (cell_is_low w width a h))
  old_holds LoadW a h = sym (cell_of_memory w x st.memory (a / (w / 8)) (cell_is_low w width a h))
  old_holds Read a h = tape_holds st.memory (if a == 0 then slice_get st.primary 0 else None) (either_first (a == 0) st.primary)
  old_holds _ a h = null_holds st.memory

  -- the new word of the line is what its cell then holds
  new_holds : (op : Op) (a : ℕ) → a < 2 ^ w
      → (touched_line w (length x) op st a time).new ≡ cells_of w x (state_after w 1 st) (touched_line w (length x) op st a time).cell
  new_holds StoreB a h = sym (cell_of_memory w x (state_after w 1 st).memory (a / (w / 8)) (cell_is_low w width a h))
  new_holds LoadB a h = sym (cell_of_memory w x (state_after w 1 st).memory (a / (w / 8)) (cell_is_low w width a h))
  new_holds StoreW a h = sym (cell_of_memory w x (state_after w 1 st).memory (a / (w / 8)) (cell_is_low w width a h))
  new_holds LoadW a h = sym (cell_of_memory w x (state_after w 1 st).memory (a / (w / 8)) (cell_is_low w width a h))
  new_holds Read a h =
      let found : Option ℕ = if a == 0 then slice_get st.primary 0 else None in
      tape_same (length x) st found time ∙ tape_holds (state_after w 1 st).memory found (either_first (a == 0) st.primary)
  new_holds _ a h = null_holds (state_after w 1 st).memory

  -- no other word of memory changes
  others_stay : (op : Op) (i d s a c : ℕ) → c ≢ (touched_line w (length x) op st a time).cell
      → word_in w (came w st (row w op st (record { dest = i; held = d; source = s; operand = a }))).memory c ≡ word_in w st.memory c
  others_stay StoreB i d s a c other = others_after_byte w width st.memory a (d % 256) c other
  others_stay StoreW i d s a c other = others_after_word w width st.memory (a / (w / 8)) d c other
  others_stay op i d s a c other = ap (λ m. word_in w m c) (memory_stays w st op i d s a refl)

  writes : (c : ℕ) → cells_of w x (state_after w 1 st) c ≡ written (cells_of w x st) (data_line w (length x) st time) c
  writes c = by_cell ((data_line w (length x) st time).cell == c) refl
    where
      by_cell : (b : Bool) → ((data_line w (length x) st time).cell == c) ≡ b
          → cells_of w x (state_after w 1 st) c ≡ written (cells_of w x st) (data_line w (length x) st time) c
      by_cell true here =
          ap (cells_of w x (state_after w 1 st)) (sym (eqb-true (data_line w (length x) st time).cell c here))
          ∙ sym (new_holds (op_of (fetched w st).op) (operand st (fetched w st)) (operand_is_word w width st on.range))
          ∙ sym (ap (λ b. cond b (data_line w (length x) st time).new (cells_of w x st c)) here)
      by_cell false there =
          let i = fetched w st in
          let other : c ≢ (data_line w (length x) st time).cell = λ e. eqb-false (data_line w (length x) st time).cell c there (sym e) in
          ap (λ v. cond (nat_lt c TAPE_CELLS) v (slice_index x (c - TAPE_CELLS)))
          (others_stay (op_of i.op) i.dest (reg st i.dest) (reg st i.source) (operand st i) c other)
          ∙ sym (ap (λ b. cond b (data_line w (length x) st time).new (cells_of w x st c)) there)

pub olds_are_in_cells : OldsAreInCells
olds_are_in_cells w width x st time on =
    let j : ℕ = st.pc / (w / 8) in
    let low = fetched_cells w width st.pc on.range.pc_fits on.range.pc_aligned in
    three (λ l. l.old ≡ cells_of w x st l.cell) (looked_at j time (word_in w st.memory j)) (looked_at (j + 1) (time + 1) (word_in w st.memory (j + 1)))
    (data_line w (length x) st (time + 2))
    (sym (cell_of_memory w x st.memory j low.0)) (sym (cell_of_memory w x st.memory (j + 1) low.1))
    (old_holds w width x st on (time + 2) (op_of (fetched w st).op) (operand st (fetched w st)) (operand_is_word w width st on.range))

pub step_writes_its_line : StepWritesItsLine
step_writes_its_line w width x st time on = writes w width x st on time
