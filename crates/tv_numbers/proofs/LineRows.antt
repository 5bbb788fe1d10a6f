-- Each row of the table of instructions: the data line in numbers is that of the machine's trace.
use Rattle.tv_core.proofs.Common.{◌≡◌, ℕ, ◌+◌, ◌-◌, ◌*◌, ◌/◌, ◌%◌, ◌^◌, ◌<◌, ◌≤◌, ◌==◌, nat_lt, Bool, true, false, if◌then◌else◌, List, length, drop, Some}
use Rattle.tv_core.proofs.Common.{None, refl, sym, ◌∙◌, ap, ap₂, arith, inl, inr, slice_index, cases_lt, lt-ltb, le-ltb, Line}
use Rattle.std.proofs.Common.{◌&&◌}
use Rattle.std.proofs.Common.{true≢false}
use Rattle.std.specs.Prelude.{slice_get}
use Rattle.std.proofs.lemmas.List.{drop_all, get_or-drop, length-drop}
use Rattle.std.proofs.lemmas.Option.{slice_get-get_or}
use Rattle.tv_core.specs.declared.limits.TheConstants.{TAPE_CELLS, NULL_CELL}
use Rattle.tv_isa.specs.Opcodes.{among, unused_ops}
use Rattle.tv_isa.specs.declared.instr.Instr.{Instr}
use Rattle.tv_mem.proofs.WordLaws.{byte_of_word, word_after_byte, word_after_word}
use Rattle.tv_mem.specs.Bytes.{byte_of, with_byte, word_in}
use Rattle.tv_step.specs.Machine.{fetched, executed, operand, reg, left_in, state_after}
use Rattle.tv_step.specs.Ops.{op_of}
use Rattle.tv_step.specs.State.{State}
use Rattle.tv_step.specs.Trace.{touched_line, tape_line}
use Rattle.tv_numbers.proofs.Cases.{each_map, word_ops, compare_ops, jump_ops, for_opcode}
use Rattle.tv_numbers.proofs.NextRows.{instr, Fits, looked}
use Rattle.tv_numbers.proofs.ReadRow.{held}
use Rattle.tv_numbers.specs.Numbers.{with_byte_in, data_line}
use Rattle.tv_numbers.specs.Views.{seen}

pub same_line : (c d s t o p m n : ℕ) → c ≡ d → s ≡ t → o ≡ p → m ≡ n
    → ◌≡◌ {A = Line} (record { cell = c; time = s; old = o; new = m }) (record { cell = d; time = t; old = p; new = n })
same_line c d s t o p m n e f g h = cc

-- lines with the same cell, old and new
changed : (j time o old m new : ℕ) → o ≡ old → m ≡ new
    → ◌≡◌ {A = Line} (record { cell = j; time = time; old = o; new = m }) (record { cell = j; time = time; old = old; new = new })
changed j time o old m new e f = cc

module _ (w : ℕ) (x : List ℕ) (gone ended o : ℕ) (takes : Bool) (st : State) where
  abbrev RowHolds : ℕ → Type 0
  RowHolds k = (imm : Bool) (dest source a time : ℕ) → Fits w x gone ended o takes st (instr k imm dest source a)
      → fetched w st ≡ instr k imm dest source a
      → data_line w (length x) (seen st gone ended) (instr k imm dest source a) o time
      ≡ touched_line w (length x) (op_of k) st (operand st (instr k imm dest source a)) time

  -- all rows that look at no cell compute
  abbrev Plain : ℕ → Type 0
  Plain k = ◌≡◌ {A = Bool → ℕ → ℕ → ℕ → ℕ → Line}
      (λ imm dest source a time. data_line w (length x) (seen st gone ended) (instr k imm dest source a) o time)
      (λ imm dest source a time. touched_line w (length x) (op_of k) st (operand st (instr k imm dest source a)) time)

  plain : (k : ℕ) → Plain k → RowHolds k
  plain k is imm dest source a time fits at = ap (λ f. f imm dest source a time) is

  -- the word of memory with a number after the step
  abbrev word_after : Instr → ℕ → ℕ
  word_after i j = word_in w (left_in (λ after. after) st (executed w st i)).memory j

  next_word : (i : Instr) (j : ℕ) → fetched w st ≡ i → word_after i j ≡ word_in w (state_after w 1 st).memory j
  next_word i j is = ap (λ f. word_after f j) (sym is)

  row26 : RowHolds 26
  row26 imm dest source a time fits is =
      let i = instr 26 imm dest source a in
      let at = operand st i in
      let d = reg st dest in
      let r : ℕ = at % (w / 8) in
      let j : ℕ = at / (w / 8) in
      let word = looked w x gone ended o takes st i fits fits.old in
      let byte : byte_of o r ≡ st.memory at = ap (λ v. byte_of v r) word ∙ byte_of_word w fits.width st.memory fits.bytes at in
      let after : word_in w (with_byte st.memory at (d % 256)) j + st.memory at * 256 ^ r
      ≡ o + d % 256 * 256 ^ r = word_after_byte w fits.width st.memory at (d % 256) ∙ ap (λ v. v + d % 256 * 256 ^ r) (sym word) in
      let new : with_byte_in o r (d % 256) ≡ word_in w (with_byte st.memory at (d % 256)) j = less_by _ _ _ _ _ byte after in
      changed j time o _ _ _ word (new ∙ next_word i j is)
    where
      less_by : (p q k m n : ℕ) → p ≡ q → n + q * k ≡ m → m - p * k ≡ n
      less_by p q k m n e f = rw e (let sum = f in omega arith)

  row27 : RowHolds 27
  row27 imm dest source a time fits is =
      let i = instr 27 imm dest source a in
      let word = looked w x gone ended o takes st i fits fits.old in
      changed (operand st i / (w / 8)) time o _ o _ word (word ∙ next_word i (operand st i / (w / 8)) is)

  row28 : RowHolds 28
  row28 imm dest source a time fits is =
      let i = instr 28 imm dest source a in
      let j : ℕ = operand st i / (w / 8) in
      let word = looked w x gone ended o takes st i fits fits.old in
      changed j time o _ (reg st dest) _ word (sym (word_after_word w fits.width st.memory j (reg st dest) fits.dest_fits) ∙ next_word i j is)

  row29 : RowHolds 29
  row29 imm dest source a time fits is =
      let i = instr 29 imm dest source a in
      let word = looked w x gone ended o takes st i fits fits.old in
      changed (operand st i / (w / 8)) time o _ o _ word (word ∙ next_word i (operand st i / (w / 8)) is)

  -- a read's line, by whether it takes a primary word
  abbrev read_line : Bool → ℕ → Line
  read_line b time = record {
    cell = if b then TAPE_CELLS + gone else NULL_CELL;
    time = time;
    old = if b then o else 0;
    new = if b then o else 0;
  }

  some_line : (time : ℕ) → gone < length x → st.primary ≡ drop gone x → o ≡ slice_index x gone
      → read_line true time ≡ tape_line (length x) st (slice_get st.primary 0) time
  some_line time within primary word =
      let zeroth : gone + 0 ≡ gone = omega arith in
      let long : length st.primary ≡ length x - gone = ap length primary ∙ length-drop gone x in
      let first : slice_index st.primary 0 ≡ o = ap (λ l. slice_index l 0) primary ∙ get_or-drop gone x 0 0 ∙ ap (slice_index x) zeroth ∙ sym word in
      let found : slice_get st.primary 0 ≡ Some o = slice_get-get_or st.primary 0 0 (omega arith) ∙ ap Some first in
      let count : gone ≡ length x - length st.primary = omega arith in
      let here : read_line true time ≡ tape_line (length x) st (Some o) time = ap
      (λ c. record { cell = TAPE_CELLS + c; time = time; old = o; new = o }) count in
      here ∙ ap (λ f. tape_line (length x) st f time) (sym found)

  by_read : (at0 within : Bool) (time : ℕ) → (at0 ≡ true → within ≡ true → read_line true time ≡ tape_line (length x) st (slice_get st.primary 0) time)
      → (within ≡ false → slice_get st.primary 0 ≡ None)
      → read_line (at0 && within) time ≡ tape_line (length x) st (if at0 then slice_get st.primary 0 else None) time
  by_read true true time some past = some refl refl
  by_read true false time some past = ap (λ f. tape_line (length x) st f time) (sym (past refl))
  by_read false within time some past = refl

  row30 : RowHolds 30
  row30 imm dest source a time fits is =
      let here = operand st (instr 30 imm dest source a) in
      by_read (here == 0) (nat_lt gone (length x)) time
      (λ e f. some_line time (below_true f) fits.primary (held w x gone ended o takes st imm dest source a fits (ap₂ (λ b c. b && c) e f)))
      (λ f. ap (λ l. slice_get l 0) (fits.primary ∙ drop_all gone x (below_false f)))
    where
      below_true : nat_lt gone (length x) ≡ true → gone < length x
      below_true f = elim (cases_lt gone (length x)) [ inl h ↦ h | inr h ↦ absurd (true≢false (sym f ∙ le-ltb gone (length x) h)) ]

      below_false : nat_lt gone (length x) ≡ false → length x ≤ gone
      below_false f = elim (cases_lt gone (length x)) [ inl h ↦ absurd (true≢false (sym (lt-ltb gone (length x) h) ∙ f)) | inr h ↦ h ]

  pub line_row : (i : Instr) (time : ℕ) → i.op < 32 → among unused_ops i.op ≡ false → Fits w x gone ended o takes st i → fetched w st ≡ i
      → data_line w (length x) (seen st gone ended) i o time ≡ touched_line w (length x) (op_of i.op) st (operand st i) time
  line_row i time small used =
      let all = each_map Plain RowHolds plain in
      for_opcode RowHolds (all word_ops (refl, (refl, (refl, (refl, (refl, (refl, (refl, (refl, (refl, (refl, (refl, (refl, (refl, tt))))))))))))))
      (all compare_ops (refl, (refl, (refl, (refl, (refl, tt)))))) (all jump_ops (refl, (refl, (refl, (refl, (refl, tt))))))
      (row26, (row27, (row28, (row29, (row30, (plain 31 refl, tt)))))) i.op small used i.imm i.dest i.source i.a time
