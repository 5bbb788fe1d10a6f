-- Each row of the table of instructions: the numbers of the step are those of the machine's next state.
use Rattle.tv_core.proofs.Common.{◌≡◌, ℕ, ◌/◌, ◌%◌, ◌^◌, ◌<◌, ◌≤◌, ◌==◌, Bool, true, false, List, [], ◌∷◌, length, drop, refl, sym, ◌∙◌, ap, subst, IsWidth}
use Rattle.std.proofs.Common.{true≢false}
use Rattle.std.proofs.lemmas.Bool.{false_from_ne_true}
use Rattle.tv_isa.specs.Opcodes.{among, unused_ops}
use Rattle.tv_isa.specs.declared.instr.Instr.{Instr}
use Rattle.tv_mem.proofs.WordLaws.{byte_of_word}
use Rattle.tv_mem.specs.Bytes.{byte_of, word_in}
use Rattle.tv_mem.specs.Words.{AreBytes}
use Rattle.tv_step.proofs.CellLaws.{cell_of_memory}
use Rattle.tv_step.proofs.LineLaws.{cell_is_low}
use Rattle.tv_step.specs.Cells.{cells_of}
use Rattle.tv_step.specs.Machine.{executed, operand, reg, left_in}
use Rattle.tv_step.specs.Rows.{moves}
use Rattle.tv_step.specs.State.{State, Next}
use Rattle.tv_numbers.proofs.Cases.{each_map, word_ops, compare_ops, for_opcode}
use Rattle.tv_numbers.specs.Numbers.{asks, operand_word, stepped, data_line}
use Rattle.tv_numbers.specs.Views.{View, seen}

abbrev pub instr : ℕ → Bool → ℕ → ℕ → ℕ → Instr
instr k imm dest source a = record { op = k; imm = imm; dest = dest; source = source; a = a }

-- nothing is taken where nothing is asked for
pub none_taken : (takes : Bool) → (takes ≡ true → false ≡ true) → takes ≡ false
none_taken takes h = false_from_ne_true takes (λ t. true≢false (sym (h t)))

-- what holds with the flag set and with it clear
by_flag : (Q : State → Type 0) → ((st : State) → Q (record st { flag = true })) → ((st : State) → Q (record st { flag = false })) → (st : State) → Q st
by_flag Q set clear st = on st.flag
  where
    on : (f : Bool) → Q (record st { flag = f })
    on true = set st
    on false = clear st

module _ (w : ℕ) (x : List ℕ) (gone ended o : ℕ) (takes : Bool) where
  -- a state by an instruction whose data line's cell holds its old
  pub record Fits (st : State) (i : Instr) : Type 0 where
    pub width : IsWidth w
    pub short : length x < 2 ^ 29
    pub bytes : AreBytes st.memory
    pub within : gone ≤ length x
    pub primary : st.primary ≡ drop gone x
    pub operand_fits : operand st i < 2 ^ w
    pub dest_fits : reg st i.dest < 2 ^ w
    pub old : (data_line w (length x) (seen st gone ended) i o 0).old ≡ cells_of w x st (data_line w (length x) (seen st gone ended) i o 0).cell
    pub asked : takes ≡ true → asks (seen st gone ended) i ≡ true

  -- the word of memory that a step looks at is the data word
  pub looked : (st : State) (i : Instr) → Fits st i → o ≡ cells_of w x st (operand st i / (w / 8)) → o ≡ word_in w st.memory (operand st i / (w / 8))
  looked st i fits is = is ∙ cell_of_memory w x st.memory (operand st i / (w / 8)) (cell_is_low w fits.width (operand st i) fits.operand_fits)

  -- the machine answers the operand, and the numbers stay
  pub record Answers (st : State) (i : Instr) : Type 0 where
    pub is : executed w st i ≡ Next.Answered (operand_word (seen st gone ended) i)
    pub view : stepped w (length x) (seen st gone ended) i o takes ≡ seen st gone ended
    pub none : takes ≡ false

  pub answered : (st : State) (i : Instr) → i.op ≡ 31 → Fits st i → Answers st i
  answered st i = at i.op
    where
      at : (k : ℕ) → k ≡ 31 → Fits st (instr k i.imm i.dest i.source i.a) → Answers st (instr k i.imm i.dest i.source i.a)
      at k same = subst (λ n. Fits st (instr n i.imm i.dest i.source i.a) → Answers st (instr n i.imm i.dest i.source i.a)) (sym same)
          (λ fits. record { is = refl; view = refl; none = none_taken takes fits.asked })

  module _ (rest : List ℕ) where
    -- the auxiliary tape fits
    pub record AuxTape (st : State) (i : Instr) : Type 0 where
      pub taken : takes ≡ true → st.aux ≡ o ∷ rest
      pub left : takes ≡ false → st.aux ≡ rest
      pub ends : takes ≡ false → i.op ≡ 30 → operand st i ≡ 1 → st.aux ≡ []

    -- the machine goes on to a state that the numbers are those of
    pub record Came (st : State) (i : Instr) : Type 0 where
      pub state : State
      pub is : executed w st i ≡ Next.Gone state
      pub view : seen state (stepped w (length x) (seen st gone ended) i o takes).taken (stepped w (length x) (seen st gone ended) i o takes).ended
          ≡ stepped w (length x) (seen st gone ended) i o takes
      pub primary : state.primary ≡ drop (stepped w (length x) (seen st gone ended) i o takes).taken x
      pub aux : state.aux ≡ rest

    abbrev pub RowHolds : ℕ → State → Type 0
    RowHolds k st = (imm : Bool) (dest source a : ℕ) → (k == 31) ≡ false → Fits st (instr k imm dest source a) → AuxTape st (instr k imm dest source a)
        → Came st (instr k imm dest source a)

    abbrev pub NextRow : ℕ → Type 0
    NextRow k = (st : State) → RowHolds k st

    -- the machine goes on to a state that takes nothing of the tapes
    went : (st : State) (i : Instr) (after : State) → executed w st i ≡ Next.Gone after → Fits st i → AuxTape st i → after.primary ≡ st.primary
        → after.aux ≡ st.aux → asks (seen st gone ended) i ≡ false → (stepped w (length x) (seen st gone ended) i o takes).taken ≡ gone
        → seen after gone (stepped w (length x) (seen st gone ended) i o takes).ended ≡ stepped w (length x) (seen st gone ended) i o takes → Came st i
    went st i after is fits aux primary same none gone_is view = record {
      state = after;
      is = is;
      view = subst (λ n. seen after n (stepped w (length x) (seen st gone ended) i o takes).ended ≡ stepped w (length x) (seen st gone ended) i o takes)
          (sym gone_is) view;
      primary = primary ∙ fits.primary ∙ ap (λ n. drop n x) (sym gone_is);
      aux = same ∙ aux.left (none_taken takes (λ e. sym none ∙ fits.asked e));
    }

    abbrev after_row : ℕ → State → Bool → ℕ → ℕ → ℕ → State
    after_row k st imm dest source a = left_in (λ after. after) st (executed w st (instr k imm dest source a))

    abbrev step_row : ℕ → State → Bool → ℕ → ℕ → ℕ → View
    step_row k st imm dest source a = stepped w (length x) (seen st gone ended) (instr k imm dest source a) o takes

    -- what such a step makes, and what it is to make
    abbrev made : ℕ → State → Bool → ℕ → ℕ → ℕ → Next × List ℕ × List ℕ × Bool × ℕ × View
    made k st imm dest source a =
        let after = after_row k st imm dest source a in
        let step = step_row k st imm dest source a in
        let asked = asks (seen st gone ended) (instr k imm dest source a) in
        (executed w st (instr k imm dest source a), after.primary, after.aux, asked, step.taken, seen after gone step.ended)

    abbrev wanted : ℕ → State → Bool → ℕ → ℕ → ℕ → Next × List ℕ × List ℕ × Bool × ℕ × View
    wanted k st imm dest source a = (Next.Gone (after_row k st imm dest source a), st.primary, st.aux, false, gone, step_row k st imm dest source a)

    goes : (k : ℕ) (st : State) → made k st ≡ wanted k st → RowHolds k st
    goes k st is imm dest source a other fits aux =
        let at = ap (λ f. f imm dest source a) is in
        went st (instr k imm dest source a) (after_row k st imm dest source a) (ap (λ p. p.0) at) fits aux (ap (λ p. p.1) at) (ap (λ p. p.2) at)
        (ap (λ p. p.3) at) (ap (λ p. p.4) at) (ap (λ p. p.5) at)

    -- all rows but the loads and the read compute, some of them once the flag is known
    plain : (k : ℕ) → made k ≡ wanted k → NextRow k
    plain k is st = goes k st (ap (λ f. f st) is)

    flagged : (k : ℕ) → ((st : State) → made k (record st { flag = true }) ≡ wanted k (record st { flag = true }))
        → ((st : State) → made k (record st { flag = false }) ≡ wanted k (record st { flag = false })) → NextRow k
    flagged k set clear st = goes k st (by_flag (λ st. made k st ≡ wanted k st) set clear st)

    -- loads, whose result is of the data word
    row27 : NextRow 27
    row27 st imm dest source a other fits aux =
        let at = operand st (instr 27 imm dest source a) in
        let word = looked st (instr 27 imm dest source a) fits fits.old in
        record {
          state = _;
          is = ap (moves w st dest) (sym (byte_of_word w fits.width st.memory fits.bytes at) ∙ ap (λ v. byte_of v (at % (w / 8))) (sym word));
          view = refl;
          primary = fits.primary;
          aux = aux.left (none_taken takes fits.asked);
        }

    row29 : NextRow 29
    row29 st imm dest source a other fits aux =
        record {
          state = _;
          is = ap (moves w st dest) (sym (looked st (instr 29 imm dest source a) fits fits.old));
          view = refl;
          primary = fits.primary;
          aux = aux.left (none_taken takes fits.asked);
        }

    -- all but the read, whose proof stands in a file of its own
    pub next_row : NextRow 30 → (st : State) (i : Instr) → i.op < 32 → among unused_ops i.op ≡ false → (i.op == 31) ≡ false → Fits st i → AuxTape st i
        → Came st i
    next_row row30 st i small used =
        let all = each_map (λ k. made k ≡ wanted k) NextRow plain in
        for_opcode NextRow (all word_ops (refl, (refl, (refl, (refl, (refl, (refl, (refl, (refl, (refl, (refl, (refl, (refl, (refl, tt))))))))))))))
        (all compare_ops (refl, (refl, (refl, (refl, (refl, tt))))))
        (plain 18 refl, (flagged 19 (λ _. refl) (λ _. refl), (plain 20 refl, (flagged 21 (λ _. refl) (λ _. refl), (flagged 22 (λ _. refl) (λ _. refl), tt)))))
        (plain 26 refl, (row27, (plain 28 refl, (row29, (row30, (row31, tt)))))) i.op small used st i.imm i.dest i.source i.a
      where
        row31 : NextRow 31
        row31 st imm dest source a other = absurd (true≢false other)
