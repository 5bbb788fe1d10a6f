-- Each row of the table of instructions: from the old of the machine's data line the numbers have its cell and its old.
use Rattle.tv_core.proofs.Common.{◌≡◌, ℕ, ◌+◌, ◌-◌, ◌<◌, ◌≤◌, ◌==◌, nat_lt, Bool, true, false, if◌then◌else◌, List, length, drop, Option, Some, None, refl, sym}
use Rattle.tv_core.proofs.Common.{◌∙◌, ap, arith, inl, inr, slice_index, cases_lt, lt-ltb, le-ltb, Line}
use Rattle.std.proofs.Common.{◌&&◌}
use Rattle.std.proofs.Common.{true≢false}
use Rattle.std.specs.Prelude.{slice_get}
use Rattle.std.proofs.lemmas.List.{drop_all, length-drop}
use Rattle.std.proofs.lemmas.Option.{slice_get-get_or}
use Rattle.tv_core.specs.declared.limits.TheConstants.{TAPE_CELLS, NULL_CELL}
use Rattle.tv_isa.specs.Opcodes.{among, unused_ops}
use Rattle.tv_isa.specs.declared.instr.Instr.{Instr}
use Rattle.tv_step.specs.Machine.{operand}
use Rattle.tv_step.specs.Ops.{op_of}
use Rattle.tv_step.specs.State.{State}
use Rattle.tv_step.specs.Trace.{touched_line, tape_line}
use Rattle.tv_numbers.proofs.Cases.{each_map, word_ops, compare_ops, jump_ops, for_opcode}
use Rattle.tv_numbers.proofs.NextRows.{instr}
use Rattle.tv_numbers.specs.Numbers.{data_line}
use Rattle.tv_numbers.specs.Views.{seen}

-- two lines have the same cell and the same old
pub record SameOld (l m : Line) : Type 0 where
  pub cell : l.cell ≡ m.cell
  pub old : l.old ≡ m.old

module _ (w : ℕ) (x : List ℕ) (gone ended time : ℕ) (st : State) (within : gone ≤ length x) (primary : st.primary ≡ drop gone x) where
  abbrev line_of : ℕ → Bool → ℕ → ℕ → ℕ → Line
  line_of k imm dest source a = touched_line w (length x) (op_of k) st (operand st (instr k imm dest source a)) time

  -- the numbers' data line, from its old
  abbrev line_in : ℕ → Bool → ℕ → ℕ → ℕ → Line
  line_in k imm dest source a = data_line w (length x) (seen st gone ended) (instr k imm dest source a) (line_of k imm dest source a).old time

  abbrev RowHolds : ℕ → Type 0
  RowHolds k = (imm : Bool) (dest source a : ℕ) → SameOld (line_in k imm dest source a) (line_of k imm dest source a)

  -- all rows but a read's compute
  abbrev Plain : ℕ → Type 0
  Plain k = ◌≡◌ {A = Bool → ℕ → ℕ → ℕ → ℕ × ℕ} (λ imm dest source a. ((line_in k imm dest source a).cell, (line_in k imm dest source a).old))
      (λ imm dest source a. ((line_of k imm dest source a).cell, (line_of k imm dest source a).old))

  plain : (k : ℕ) → Plain k → RowHolds k
  plain k is imm dest source a = record { cell = ap (λ f. (f imm dest source a).0) is; old = ap (λ f. (f imm dest source a).1) is }

  -- a read, by whether it reads the primary tape and whether a word of that is left
  abbrev read_line : Bool → ℕ → Line
  read_line b o = record { cell = if b then TAPE_CELLS + gone else NULL_CELL; time = time; old = if b then o else 0; new = if b then o else 0 }

  abbrev tape_read : Option ℕ → Line
  tape_read found = tape_line (length x) st found time

  some_left : gone < length x → SameOld (read_line true (tape_read (slice_get st.primary 0)).old) (tape_read (slice_get st.primary 0))
  some_left left =
      let long : length st.primary ≡ length x - gone = ap length primary ∙ length-drop gone x in
      let found : slice_get st.primary 0 ≡ Some (slice_index st.primary 0) = slice_get-get_or st.primary 0 0 (omega arith) in
      let count : gone ≡ length x - length st.primary = omega arith in
      record { cell = ap (λ c. TAPE_CELLS + c) count ∙ sym (ap (λ f. (tape_read f).cell) found); old = refl }

  none_left : slice_get st.primary 0 ≡ None → SameOld (read_line false (tape_read (slice_get st.primary 0)).old) (tape_read (slice_get st.primary 0))
  none_left none = record { cell = sym (ap (λ f. (tape_read f).cell) none); old = sym (ap (λ f. (tape_read f).old) none) }

  by_read : (at0 left : Bool) → (left ≡ true → gone < length x) → (left ≡ false → slice_get st.primary 0 ≡ None)
      → SameOld (read_line (at0 && left) (tape_read (if at0 then slice_get st.primary 0 else None)).old)
      (tape_read (if at0 then slice_get st.primary 0 else None))
  by_read true true some past = some_left (some refl)
  by_read true false some past = none_left (past refl)
  by_read false left some past = record { cell = refl; old = refl }

  row30 : RowHolds 30
  row30 imm dest source a =
      by_read (operand st (instr 30 imm dest source a) == 0) (nat_lt gone (length x))
      (λ f. elim (cases_lt gone (length x)) [ inl h ↦ h | inr h ↦ absurd (true≢false (sym f ∙ le-ltb gone (length x) h)) ])
      (λ f. elim (cases_lt gone (length x)) [
        | inl h ↦ absurd (true≢false (sym (lt-ltb gone (length x) h) ∙ f))
        | inr h ↦ ap (λ l. slice_get l 0)
            (primary ∙ drop_all gone x h)
      ])

  pub old_row : (i : Instr) → i.op < 32 → among unused_ops i.op ≡ false
      → SameOld (data_line w (length x) (seen st gone ended) i (touched_line w (length x) (op_of i.op) st (operand st i) time).old time)
      (touched_line w (length x) (op_of i.op) st (operand st i) time)
  old_row i small used =
      let all = each_map Plain RowHolds plain in
      for_opcode RowHolds (all word_ops (refl, (refl, (refl, (refl, (refl, (refl, (refl, (refl, (refl, (refl, (refl, (refl, (refl, tt))))))))))))))
      (all compare_ops (refl, (refl, (refl, (refl, (refl, tt)))))) (all jump_ops (refl, (refl, (refl, (refl, (refl, tt))))))
      (plain 26 refl, (plain 27 refl, (plain 28 refl, (plain 29 refl, (row30, (plain 31 refl, tt)))))) i.op small used i.imm i.dest i.source i.a
