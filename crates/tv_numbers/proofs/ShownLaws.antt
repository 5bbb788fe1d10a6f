-- The numbers of a machine's step show it.
use Rattle.tv_core.proofs.Common.{◌≡◌, ℕ, ◌+◌, ◌-◌, ◌/◌, ◌^◌, ◌<◌, ◌==◌, Bool, true, false, if◌then◌else◌, List, length, drop, nat_lt, Option, Some, None, refl}
use Rattle.tv_core.proofs.Common.{sym, ◌∙◌, ap, ap₂, subst, arith, eq-eqb, eqb-true, Line, IsWidth}
use Rattle.std.proofs.Common.{◌&&◌, ◌||◌}
use Rattle.std.proofs.Common.{true≢false}
use Rattle.std.specs.Prelude.{is_some}
use Rattle.std.proofs.lemmas.List.{length-drop}
use Rattle.std.proofs.lemmas.Bool.{and_parts, agree_below_at, false_from_ne_true}
use Rattle.tv_core.specs.declared.limits.TheConstants.{TAPE_CELLS, NULL_CELL}
use Rattle.tv_isa.specs.Instruction.{decode}
use Rattle.tv_isa.specs.Opcodes.{among, unused_ops, memory_ops}
use Rattle.tv_isa.specs.declared.instr.Instr.{Instr}
use Rattle.tv_mem.proofs.WordLaws.{words_are_small}
use Rattle.tv_step.proofs.CellLaws.{lines_in_range, olds_are_in_cells}
use Rattle.tv_step.specs.Cells.{cells_of, IsOn, IsLine}
use Rattle.tv_step.specs.Machine.{fetched, operand, reg}
use Rattle.tv_step.specs.Ops.{op_of}
use Rattle.tv_step.specs.Range.{StateInRange}
use Rattle.tv_step.specs.Reads.{reads_aux}
use Rattle.tv_step.specs.Rows.{row}
use Rattle.tv_step.specs.Runs.{IsDefined}
use Rattle.tv_step.specs.State.{State, Next}
use Rattle.tv_step.specs.Trace.{data_line as traced_line}
use Rattle.tv_step.specs.declared.op.Op.{Op}
use Rattle.tv_step.specs.declared.op.Op.TheVariants.{Unused}
use Rattle.tv_word.proofs.FlagLaws.{flag_small}
use Rattle.tv_numbers.proofs.OldRows.{old_row}
use Rattle.tv_numbers.proofs.StepLaws.{op_small, read_test, seen_of, numbers_do}
use Rattle.tv_numbers.specs.Laws.{AtNumbers, HoldsOlds}
use Rattle.tv_numbers.specs.Numbers.{asks, operand_word, touches, takes_primary, step_words}
use Rattle.tv_numbers.specs.Shown.{data_word_of, MayTake, OldsAreShown, head_at, tail_at, data_at, transition_at, ShowsStep, MachineShows, SeenInRange}
use Rattle.tv_numbers.specs.Views.{View, seen, ViewInRange}

-- ---- opcodes that aren't used
abbrev is_unused : Op → Bool
is_unused (Unused op) = true
is_unused _ = false

stops : (w : ℕ) (op : Op) (st : State) (i d s a : ℕ) → is_unused op ≡ true
    → (n : ℕ) × (row w op st (record { dest = i; held = d; source = s; operand = a }) ≡ Next.Undefined n)
stops w (Unused op) st i d s a e = (op, refl)
stops w _ st i d s a e = absurd (true≢false (sym e))

pub defined_used : (w : ℕ) (st : State) → IsDefined w st → among unused_ops (fetched w st).op ≡ false
defined_used w st defined =
    let i = fetched w st in
    let same : is_unused (op_of i.op) ≡ among unused_ops i.op = agree_below_at (λ k. is_unused (op_of k)) (among unused_ops) 32 i.op refl
    (op_small w (head_at w st) (tail_at w st)) in
    false_from_ne_true (among unused_ops i.op)
    (λ e. let stop = stops w (op_of i.op) st i.dest (reg st i.dest) (reg st i.source) (operand st i) (same ∙ e) in defined stop.0 stop.1)

-- ---- the view of a state
pub seen_in_range : SeenInRange
seen_in_range w n st taken ended range within bit = record {
  pc_fits = range.pc_fits;
  pc_aligned = range.pc_aligned;
  registers = range.registers;
  words = range.words;
  flag = flag_small st.flag;
  taken = within;
  ended = bit;
}

-- ---- old words that are passed
-- a step that takes an auxiliary word looks at no cell
looks_nowhere : (n : ℕ) (v : View) (i : Instr) → asks v i ≡ true → (touches v i ≡ false) × (takes_primary v i n ≡ false)
looks_nowhere n v i e =
    let both = and_parts ((i.op == 30) && (operand_word v i == 1)) (v.ended == 0) e in
    let read = and_parts (i.op == 30) (operand_word v i == 1) both.0 in
    let op = eqb-true i.op 30 read.0 in
    let tape = eqb-true (operand_word v i) 1 read.1 in
    (ap (among memory_ops) op, ap₂ (λ k a. ((k == 30) && (a == 0)) && nat_lt v.taken n) op tape)

old_shown : (touched primary : Bool) (c d old : ℕ) (word : Option ℕ) → (is_some word ≡ true → (touched ≡ false) × (primary ≡ false))
    → ((if primary then c else if touched then d else NULL_CELL) ≡ NULL_CELL → old ≡ 0) → (if touched || primary then data_word_of old word else 0) ≡ old
old_shown true primary c d old None h none = refl
old_shown true primary c d old (Some word) h none = absurd (true≢false (h refl).0)
old_shown false true c d old None h none = refl
old_shown false true c d old (Some word) h none = absurd (true≢false (h refl).1)
old_shown false false c d old word h none = sym (none refl)

pub olds_are_shown : OldsAreShown
olds_are_shown w n time v head tail old word is none =
    let i = decode w head tail in
    old_shown (touches v i) (takes_primary v i n) (TAPE_CELLS + v.taken) (operand_word v i / (w / 8)) old word (λ e. looks_nowhere n v i (is.asked e)) none

-- ---- a machine's step
-- the old word of a line of the null cell is the same, whatever word is passed
same_by : (touched primary : Bool) (old : ℕ) (word : Option ℕ) → (is_some word ≡ true → (touched ≡ false) × (primary ≡ false))
    → (if touched || primary then data_word_of old word else 0) ≡ (if touched || primary then old else 0)
same_by touched primary old None h = refl
same_by touched primary old (Some word) h = let none = h refl in ap₂ (λ a b. if a || b then word else 0) none.0 none.1
    ∙ sym (ap₂ (λ a b. if a || b then old else 0) none.0 none.1)

module _ (w : ℕ) (width : IsWidth w) (x : List ℕ) (time : ℕ) (st : State) (gone ended : ℕ) (word : Option ℕ)
    (short : length x < 2 ^ 29) (view : ViewInRange w (length x) (seen st gone ended)) (primary : st.primary ≡ drop gone x) (range : StateInRange w st)
    (defined : IsDefined w st) (may : MayTake w (seen st gone ended) st word) where
  abbrev i : Instr
  i = fetched w st

  abbrev now : View
  now = seen st gone ended

  abbrev line : Line
  line = traced_line w (length x) st (time + 2)

  small : i.op < 32
  small = op_small w (head_at w st) (tail_at w st)

  reads_of : reads_aux w st ≡ ((i.op == 30) && (operand_word now i == 1))
  reads_of = ap (λ b. b && (operand_word now i == 1)) (read_test i.op small)

  asked : is_some word ≡ true → asks now i ≡ true
  asked = by word may
    where
      by : (word : Option ℕ) → MayTake w now st word → is_some word ≡ true → asks now i ≡ true
      by None may e = absurd (true≢false (sym e))
      by (Some u) may e = ap₂ (λ a b. a && b) (sym reads_of ∙ may.0) (eq-eqb ended 0 may.1)

  line_fits : IsLine w line
  line_fits = lines_in_range w width (length x) st time short range 2 line (omega arith)

  data_word : data_at w x time st word < 2 ^ w
  data_word = by word may
    where
      by : (word : Option ℕ) → MayTake w now st word → data_word_of line.old word < 2 ^ w
      by None may = line_fits.old
      by (Some u) may = may.2

  at_numbers : AtNumbers w (length x) now (step_words (head_at w st) (tail_at w st) (data_at w x time st word) (is_some word))
  at_numbers = record {
    short = short;
    range = view;
    head_word = words_are_small w width st.memory range.bytes (st.pc / (w / 8));
    tail_word = words_are_small w width st.memory range.bytes (st.pc / (w / 8) + 1);
    data_word = data_word;
    used = defined_used w st defined;
    asked = asked;
  }

  on : IsOn w x st
  on =
      let within = view.taken in
      let long : length st.primary ≡ length x - gone = ap length primary ∙ length-drop gone x in
      let count : gone ≡ length x - length st.primary = omega arith in
      record { short = short; range = range; rest = record { short = omega arith; is = primary ∙ ap (λ k. drop k x) count } }

  holds : HoldsOlds w x (transition_at w x time now st word) st
  holds =
      let olds = olds_are_in_cells w width x st time on in
      let same = old_row w x gone ended (time + 2) st view.taken primary i small (defined_used w st defined) in
      record {
        first = olds 0 line (omega arith);
        second = olds 1 line (omega arith);
        data_line = same_by (touches now i) (takes_primary now i (length x)) line.old word (λ e. looks_nowhere (length x) now i (asked e)) ∙ same.old
            ∙ olds 2 line (omega arith) ∙ sym (ap (cells_of w x st) same.cell);
      }

  shows_seen : ShowsStep w x time now st word
  shows_seen = record {
    range = at_numbers;
    lines = (numbers_do w width x time now (head_at w st) (tail_at w st) (data_at w x time st word) (is_some word) at_numbers).traced st range.bytes
        (record { pc = refl; regs = refl; flag = refl; primary = primary }) holds;
  }

pub machine_shows : MachineShows
machine_shows w width x time v st word short view m range defined may =
    let same = seen_of x v st m in
    subst (λ u. ShowsStep w x time u st word) (sym same)
    (shows_seen w width x time st v.taken v.ended word short (subst (ViewInRange w (length x)) same view) m.primary range defined
    (subst (λ u. MayTake w u st word) same may))
