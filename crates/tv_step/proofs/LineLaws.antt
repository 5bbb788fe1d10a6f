-- The data line of a step.
use Rattle.tv_core.proofs.Common.{◌≡◌, ℕ, ◌+◌, ◌-◌, ◌*◌, ◌/◌, ◌%◌, ◌^◌, ◌<◌, ◌==◌, false, cond, nat_lt, List, [], ◌∷◌, length, Option, Some, None, refl, ap}
use Rattle.tv_core.proofs.Common.{arith, lt-ltb, le-ltb, Line, for_widths, IsWidth}
use Rattle.std.proofs.Common.{true≢false}
use Rattle.std.specs.Prelude.{if◌then◌else◌, slice_get}
use Rattle.tv_core.specs.declared.limits.TheConstants.{TAPE_CELLS}
use Rattle.tv_mem.specs.Bytes.{word_in}
use Rattle.tv_step.proofs.RunLaws.{either}
use Rattle.tv_step.specs.Cells.{is_store, OnlyStoresWrite}
use Rattle.tv_step.specs.Machine.{fetched, operand, reg, left_in, state_after}
use Rattle.tv_step.specs.Ops.{op_of}
use Rattle.tv_step.specs.Rows.{row, moves, goes_on, jumps, takes}
use Rattle.tv_step.specs.State.{State, Next}
use Rattle.tv_step.specs.Trace.{touched_line, memory_line, tape_line}
use Rattle.tv_step.specs.declared.op.Op.{Op}
use Rattle.tv_step.specs.declared.op.Op.TheVariants.{Cmov, Cjmp, Cnjmp, StoreB, LoadB, StoreW, LoadW, Read}

-- the word in which an address lies has a cell of memory
pub cell_is_low : (w : ℕ) → IsWidth w → (a : ℕ) → a < 2 ^ w → a / (w / 8) < TAPE_CELLS
cell_is_low w width a h = for_widths (λ w. a < 2 ^ w → a / (w / 8) < TAPE_CELLS) (λ h. omega (arith, h)) (λ h. omega (arith, h)) w width h

-- the first word of an instruction
pub first_word : (w : ℕ) → IsWidth w → (at pc : ℕ) → at ≡ pc → at % (w / 4) ≡ 0 → at / (w / 4) * 2 ≡ pc / (w / 8)
first_word w width at pc same =
    for_widths (λ w. at % (w / 4) ≡ 0 → at / (w / 4) * 2 ≡ pc / (w / 8)) (λ h. omega (arith, h)) (λ h. omega (arith, h)) w width

-- a line, whose new word is that of its cell once the step is taken
abbrev recorded : ℕ → State → ℕ → Line → Line
recorded w st time line = record {
  cell = line.cell;
  time = time;
  old = line.old;
  new = if nat_lt line.cell TAPE_CELLS then word_in w (state_after w 1 st).memory line.cell else line.old;
}

memory_recorded : (w : ℕ) → IsWidth w → (st : State) (a time : ℕ) → a < 2 ^ w
    → memory_line w st (a / (w / 8)) time ≡ recorded w st time (memory_line w st (a / (w / 8)) time)
memory_recorded w width st a time small = rw (lt-ltb (a / (w / 8)) TAPE_CELLS (cell_is_low w width a small)) refl

tape_recorded : (w n : ℕ) (st : State) (found : Option ℕ) (time : ℕ) → tape_line n st found time ≡ recorded w st time (tape_line n st found time)
tape_recorded w n st None time = refl
tape_recorded w n st (Some v) time = rw (le-ltb (TAPE_CELLS + (n - length st.primary)) TAPE_CELLS (omega arith)) refl

pub line_lc : (w n : ℕ) → IsWidth w → (op : Op) (st : State) (a time : ℕ) → a < 2 ^ w
    → touched_line w n op st a time ≡ recorded w st time (touched_line w n op st a time)
line_lc w n width StoreB st a time small = memory_recorded w width st a time small
line_lc w n width LoadB st a time small = memory_recorded w width st a time small
line_lc w n width StoreW st a time small = memory_recorded w width st a time small
line_lc w n width LoadW st a time small = memory_recorded w width st a time small
line_lc w n width Read st a time small = tape_recorded w n st (if a == 0 then slice_get st.primary 0 else None) time
line_lc w n width _ st a time small = refl

-- ---- memory where nothing is stored
module _ (w : ℕ) (st : State) where
  -- the state that what came of a step leaves
  abbrev pub came : Next → State
  came n = left_in (λ after. after) st n

  abbrev Stays : Next → Type 0
  Stays n = (came n).memory ≡ st.memory

  taken : (i : ℕ) (tape : List ℕ) (rest : List ℕ → State) → ((left : List ℕ) → (rest left).memory ≡ st.memory) → Stays (takes w st i tape rest)
  taken i [] rest same = refl
  taken i (v ∷ left) rest same = same left

  pub memory_stays : (op : Op) (i d s a : ℕ) → is_store op ≡ false
      → (came (row w op st (record { dest = i; held = d; source = s; operand = a }))).memory ≡ st.memory
  memory_stays StoreB i d s a e = absurd (true≢false e)
  memory_stays StoreW i d s a e = absurd (true≢false e)
  memory_stays Cmov i d s a e = either Stays st.flag (moves w st i a) (goes_on w st) refl refl
  memory_stays Cjmp i d s a e = either Stays st.flag (jumps w st a) (goes_on w st) refl refl
  memory_stays Cnjmp i d s a e = either Stays st.flag (goes_on w st) (jumps w st a) refl refl
  memory_stays Read i d s a e =
      let primary = takes w st i st.primary (λ left. record st { primary = left }) in
      let aux = takes w st i st.aux (λ left. record st { aux = left }) in
      let none = takes w st i [] (λ _. st) in
      either Stays (a == 0) primary (cond (a == 1) aux none)
      (taken i st.primary (λ left. record st { primary = left }) (λ left. refl))
      (either Stays (a == 1) aux none (taken i st.aux (λ left. record st { aux = left }) (λ left. refl)) refl)
  memory_stays _ i d s a e = refl

-- ---- a line's new word where nothing is stored
pub tape_same : (n : ℕ) (st : State) (found : Option ℕ) (time : ℕ) → (tape_line n st found time).new ≡ (tape_line n st found time).old
tape_same n st None time = refl
tape_same n st (Some v) time = refl

line_same : (w n : ℕ) (op : Op) (st : State) (a time : ℕ) → (state_after w 1 st).memory ≡ st.memory → is_store op ≡ false
    → (touched_line w n op st a time).new ≡ (touched_line w n op st a time).old
line_same w n StoreB st a time same e = absurd (true≢false e)
line_same w n StoreW st a time same e = absurd (true≢false e)
line_same w n LoadB st a time same e = ap (λ m. word_in w m (a / (w / 8))) same
line_same w n LoadW st a time same e = ap (λ m. word_in w m (a / (w / 8))) same
line_same w n Read st a time same e = tape_same n st (if a == 0 then slice_get st.primary 0 else None) time
line_same w n _ st a time same e = refl

pub only_stores_write : OnlyStoresWrite
only_stores_write w n st time e =
    let i = fetched w st in
    line_same w n (op_of i.op) st (operand st i) time (memory_stays w st (op_of i.op) i.dest (reg st i.dest) (reg st i.source) (operand st i) e) e
