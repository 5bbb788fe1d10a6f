-- The step in numbers is the machine's step.
use Rattle.tv_core.proofs.Common.{◌≡◌, ℕ, ◌+◌, ◌-◌, ◌/◌, ◌%◌, ◌^◌, ◌<◌, ◌==◌, Bool, true, false, not, if◌then◌else◌, List, [], ◌∷◌, length, drop, refl, sym}
use Rattle.tv_core.proofs.Common.{◌∙◌, ap, ap₂, subst, arith, inl, inr, cases_eq, eq-eqb, eqb-true, for_widths, IsWidth, flag_of}
use Rattle.std.proofs.Common.{◌&&◌}
use Rattle.std.proofs.Math.Nat.{mod-lt}
use Rattle.std.proofs.lemmas.Bool.{and_parts, agree_below_at}
use Rattle.tv_core.specs.declared.limits.TheConstants.{TAPE_CELLS}
use Rattle.tv_isa.specs.Instruction.{decode}
use Rattle.tv_isa.specs.declared.instr.Instr.{Instr}
use Rattle.tv_mem.specs.Bytes.{word_in}
use Rattle.tv_mem.specs.Words.{AreBytes}
use Rattle.tv_step.proofs.CellLaws.{cell_of_memory}
use Rattle.tv_step.proofs.RangeLaws.{word_at}
use Rattle.tv_step.specs.Machine.{next, fetched, executed, operand}
use Rattle.tv_step.specs.Ops.{op_of}
use Rattle.tv_step.specs.Reads.{is_read, reads_aux}
use Rattle.tv_step.specs.State.{State}
use Rattle.tv_step.specs.Trace.{looked_at, touched_line, step_lines}
use Rattle.tv_numbers.proofs.LineRows.{line_row}
use Rattle.tv_numbers.proofs.NextRows.{Fits, AuxTape, next_row, answered}
use Rattle.tv_numbers.proofs.RangeLaws.{operand_small, fetched_is_line, data_is_line}
use Rattle.tv_numbers.proofs.ReadRow.{row30}
use Rattle.tv_numbers.specs.Laws.{AtNumbers, HoldsOlds, AuxFits, Leads, Halts, DoesStep, NumbersDo}
use Rattle.tv_numbers.specs.Numbers.{asks, operand_word, stepped, data_line, Transition, lines_in, transition_of, step_words}
use Rattle.tv_numbers.specs.Views.{View, seen, Matches}

-- an opcode of a decoded instruction has five bits
pub op_small : (w head tail : ℕ) → (decode w head tail).op < 32
op_small w head tail = mod-lt (head / 2 ^ (w - 5)) (omega arith)

-- the read is the instruction with the opcode 30
pub read_test : (op : ℕ) → op < 32 → is_read (op_of op) ≡ (op == 30)
read_test op h = agree_below_at (λ k. is_read (op_of k)) (λ k. k == 30) 32 op refl h

-- ---- the ended bit, by whether a word is asked for and taken
set_where : (asked takes : Bool) (ended : ℕ) → asked ≡ true → takes ≡ false → (if asked && not takes then 1 else ended) ≡ 1
set_where asked takes ended e f = ap₂ (λ a t. if a && not t then 1 else ended) e f

kept_where : (asked takes : Bool) (ended : ℕ) → (asked ≡ true → takes ≡ true) → (if asked && not takes then 1 else ended) ≡ ended
kept_where true takes ended h = ap (λ t. if not t then 1 else ended) (h refl)
kept_where false takes ended h = refl

stays_set : (set : Bool) (ended : ℕ) → ended ≡ 1 → (if set then 1 else ended) ≡ 1
stays_set true ended e = refl
stays_set false ended e = e

-- ---- at a state that the numbers are of
-- what a step does there
record AtState (w : ℕ) (x : List ℕ) (time : ℕ) (b : Transition) (st : State) : Type 0 where
  pub traced : lines_in b ≡ step_lines w (length x) st time
  pub reads : b.takes ≡ true → reads_aux w st ≡ true
  pub sets : reads_aux w st ≡ true → b.takes ≡ false → b.after.ended ≡ 1
  pub keeps : (reads_aux w st ≡ true → b.takes ≡ true) → b.after.ended ≡ b.now.ended
  pub goes : (rest : List ℕ) → AuxFits w st b.takes b.word rest → b.answers ≡ false → Leads w x b st rest
  pub stands : b.answers ≡ true → Halts w b st

module _ (w : ℕ) (width : IsWidth w) (x : List ℕ) (time : ℕ) (st : State) (gone ended head tail o : ℕ) (takes : Bool)
    (is : AtNumbers w (length x) (seen st gone ended) (step_words head tail o takes))
    (bytes : AreBytes st.memory) (primary : st.primary ≡ drop gone x)
    (holds : HoldsOlds w x (transition_of w (length x) time (seen st gone ended) (step_words head tail o takes)) st) where
  abbrev i : Instr
  i = decode w head tail

  abbrev now : View
  now = seen st gone ended

  abbrev after : View
  after = stepped w (length x) now i o takes

  abbrev transition_in : Transition
  transition_in = transition_of w (length x) time now (step_words head tail o takes)

  -- the instruction's two words are in memory
  low_cells : (st.pc / (w / 8) < TAPE_CELLS) × (st.pc / (w / 8) + 1 < TAPE_CELLS)
  low_cells =
      let fits = is.range.pc_fits in
      let aligned = is.range.pc_aligned in
      for_widths (λ w. st.pc < 2 ^ w → st.pc % (w / 4) ≡ 0 → (st.pc / (w / 8) < TAPE_CELLS) × (st.pc / (w / 8) + 1 < TAPE_CELLS))
      (λ h a. (omega arith, omega arith)) (λ h a. (omega arith, omega arith)) w width fits aligned

  head_is : head ≡ word_in w st.memory (st.pc / (w / 8))
  head_is = holds.first ∙ cell_of_memory w x st.memory (st.pc / (w / 8)) low_cells.0

  tail_is : tail ≡ word_in w st.memory (st.pc / (w / 8) + 1)
  tail_is = holds.second ∙ cell_of_memory w x st.memory (st.pc / (w / 8) + 1) low_cells.1

  instruction : fetched w st ≡ i
  instruction = ap₂ (decode w) (sym head_is) (sym tail_is)

  came_by : next w st ≡ executed w st i
  came_by = ap (executed w st) instruction

  -- it reads the auxiliary tape where the numbers say so
  reads_by : reads_aux w st ≡ ((i.op == 30) && (operand_word now i == 1))
  reads_by = ap (λ (j : Instr). is_read (op_of j.op) && (operand st j == 1)) instruction
      ∙ ap (λ b. b && (operand_word now i == 1)) (read_test i.op (op_small w head tail))

  asks_reads : asks now i ≡ true → reads_aux w st ≡ true
  asks_reads e = reads_by ∙ (and_parts ((i.op == 30) && (operand_word now i == 1)) (ended == 0) e).0

  reads : takes ≡ true → reads_aux w st ≡ true
  reads t = asks_reads (is.asked t)

  fits : Fits w x gone ended o takes st i
  fits = record {
    width = width;
    short = is.short;
    bytes = bytes;
    within = is.range.taken;
    primary = primary;
    operand_fits = operand_small w width (length x) now head tail o takes is;
    dest_fits = word_at w width st.regs i.dest is.range.words;
    old = holds.data_line;
    asked = is.asked;
  }

  tape : (rest : List ℕ) → AuxFits w st takes o rest → AuxTape w x gone ended o takes rest st i
  tape rest aux = record {
    taken = aux.taken;
    left = aux.left;
    ends = λ none op one. aux.ends none (reads_by ∙ ap₂ (λ a b. (a == 30) && (b == 1)) op one);
  }

  goes : (rest : List ℕ) → AuxFits w st takes o rest → transition_in.answers ≡ false → Leads w x transition_in st rest
  goes rest aux other =
      let came = next_row w x gone ended o takes rest (row30 w x gone ended o takes rest) st i (op_small w head tail) is.used other fits (tape rest aux) in
      record {
        state = came.state;
        is = came_by ∙ came.is;
        matches = record {
          pc = ap (λ (v : View). v.pc) came.view;
          regs = ap (λ (v : View). v.regs) came.view;
          flag = ap (λ (v : View). v.flag) came.view;
          primary = came.primary;
        };
        aux = came.aux;
      }

  stands : transition_in.answers ≡ true → Halts w transition_in st
  stands e =
      let done = answered w x gone ended o takes st i (eqb-true i.op 31 e) fits in
      record { is = came_by ∙ done.is; same = done.view; takes = done.none }

  traced : lines_in transition_in ≡ step_lines w (length x) st time
  traced =
      let third : data_line w (length x) now i o (time + 2) ≡ touched_line w (length x) (op_of (fetched w st).op) st (operand st (fetched w st)) (time + 2) =
      line_row w x gone ended o takes st i (time + 2) (op_small w head tail) is.used fits instruction
      ∙ ap (λ (j : Instr). touched_line w (length x) (op_of j.op) st (operand st j) (time + 2)) (sym instruction) in
      let j : ℕ = st.pc / (w / 8) in
      ap₂ (λ h t. looked_at j time h ∷ looked_at (j + 1) (time + 1) t ∷ data_line w (length x) now i o (time + 2) ∷ []) head_is tail_is
      ∙ ap (λ l. looked_at j time (word_in w st.memory j) ∷ looked_at (j + 1) (time + 1) (word_in w st.memory (j + 1)) ∷ l ∷ []) third

  sets : reads_aux w st ≡ true → takes ≡ false → after.ended ≡ 1
  sets r none = elim (cases_eq ended 0) [
    | inl clear ↦ set_where (asks now i) takes ended (ap₂ (λ a b. a && b) (sym reads_by ∙ r) (eq-eqb ended 0 clear)) none
    | inr other ↦ let bit = is.range.ended in stays_set (asks now i && not takes) ended (omega arith)
  ]

  keeps : (reads_aux w st ≡ true → takes ≡ true) → after.ended ≡ ended
  keeps h = kept_where (asks now i) takes ended (λ e. h (asks_reads e))

  at_seen : AtState w x time transition_in st
  at_seen = record { traced = traced; reads = reads; sets = sets; keeps = keeps; goes = goes; stands = stands }

-- ---- at any view
pub same_view : (a b : ℕ) (c d : List ℕ) (e f g h j k : ℕ) → a ≡ b → c ≡ d → e ≡ f → g ≡ h → j ≡ k
    → ◌≡◌ {A = View} (record { pc = a; regs = c; flag = e; taken = g; ended = j }) (record { pc = b; regs = d; flag = f; taken = h; ended = k })
same_view a b c d e f g h j k p q r s t = cc

pub seen_of : (x : List ℕ) (v : View) (st : State) → Matches x v st → v ≡ seen st v.taken v.ended
seen_of x v st m = same_view v.pc st.pc v.regs st.regs v.flag (flag_of st.flag) v.taken v.taken v.ended v.ended (sym m.pc) (sym m.regs) (sym m.flag) refl refl

module _ (w : ℕ) (width : IsWidth w) (x : List ℕ) (time : ℕ) (v : View) (head tail o : ℕ) (takes : Bool)
    (is : AtNumbers w (length x) v (step_words head tail o takes)) where
  abbrev step : View → Transition
  step u = transition_of w (length x) time u (step_words head tail o takes)

  at_state : (st : State) → AreBytes st.memory → Matches x v st → HoldsOlds w x (step v) st → AtState w x time (step v) st
  at_state st bytes m holds =
      let same = seen_of x v st m in
      subst (λ u. AtState w x time (step u) st) (sym same)
      (at_seen w width x time st v.taken v.ended head tail o takes (subst (λ u. AtNumbers w (length x) u (step_words head tail o takes)) same is) bytes
      m.primary (subst (λ u. HoldsOlds w x (step u) st) same holds))

  not_ended : takes ≡ true → v.ended ≡ 0
  not_ended t = eqb-true v.ended 0 (and_parts (((decode w head tail).op == 30) && (operand_word v (decode w head tail) == 1)) (v.ended == 0) (is.asked t)).1

  does_step : DoesStep w x time (step v)
  does_step =
      let i = decode w head tail in
      let fetched_lines = fetched_is_line w width (length x) v head tail o takes is time in
      record {
        lines = (fetched_lines.0, fetched_lines.1, data_is_line w width (length x) v head tail o takes is (time + 2));
        times = (refl, refl, refl);
        fetches = (refl, refl);
        stays = stays_set (asks v i && not takes) v.ended;
        takes_early = not_ended;
        takes_open = λ t. kept_where (asks v i) takes v.ended (λ _. t) ∙ not_ended t;
        word = λ _. is.data_word;
        value = λ _. operand_small w width (length x) v head tail o takes is;
        traced = λ st bytes m holds. (at_state st bytes m holds).traced;
        reads = λ st bytes m holds. (at_state st bytes m holds).reads;
        sets = λ st bytes m holds. (at_state st bytes m holds).sets;
        keeps = λ st bytes m holds. (at_state st bytes m holds).keeps;
        goes = λ st rest bytes m holds. (at_state st bytes m holds).goes rest;
        stands = λ st bytes m holds. (at_state st bytes m holds).stands;
      }

pub numbers_do : NumbersDo
numbers_do w width x time v head tail o takes is = does_step w width x time v head tail o takes is
