-- A read: the numbers of the step are those of the machine's next state.
use Rattle.tv_core.proofs.Common.{◌≡◌, ◌≢◌, ℕ, suc, ◌+◌, ◌<◌, ◌≤◌, ◌==◌, nat_lt, Bool, true, false, not, if◌then◌else◌, List, [], ◌∷◌, length, drop, add-one}
use Rattle.tv_core.proofs.Common.{refl, sym, ◌∙◌, ap, subst, inl, inr, slice_index, cases_eq, cases_lt, ne_eqb, eqb-true, lt-ltb, le-ltb, flag_of}
use Rattle.std.proofs.Common.{◌&&◌, ◌||◌}
use Rattle.std.proofs.Common.{drop-cons}
use Rattle.std.specs.Prelude.{slice_set}
use Rattle.std.proofs.lemmas.Bool.{and_parts}
use Rattle.std.proofs.lemmas.List.{drop_all}
use Rattle.tv_core.specs.declared.limits.TheConstants.{TAPE_CELLS, NULL_CELL}
use Rattle.tv_isa.specs.declared.instr.Instr.{Instr}
use Rattle.tv_step.proofs.CellLaws.{cell_of_tape}
use Rattle.tv_step.specs.Cells.{cells_of}
use Rattle.tv_step.specs.Machine.{operand}
use Rattle.tv_step.specs.Rows.{reads, takes as takes_of}
use Rattle.tv_step.specs.State.{State, Next}
use Rattle.tv_numbers.proofs.NextRows.{instr, Fits, AuxTape, Came, NextRow}
use Rattle.tv_numbers.specs.Tables.{next_pc}
use Rattle.tv_numbers.specs.Views.{View, seen}

-- the word that a read of the primary tape takes is the data word
pub held : (w : ℕ) (x : List ℕ) (gone ended o : ℕ) (takes : Bool) (st : State) (imm : Bool) (dest source a : ℕ)
    → Fits w x gone ended o takes st (instr 30 imm dest source a)
    → ((operand st (instr 30 imm dest source a) == 0) && nat_lt gone (length x)) ≡ true → o ≡ slice_index x gone
held w x gone ended o takes st imm dest source a fits p =
    subst (λ b. (if b then o else 0) ≡ cells_of w x st (if b then TAPE_CELLS + gone else NULL_CELL)) p fits.old ∙ cell_of_tape w x st.memory gone

module _ (w : ℕ) (x : List ℕ) (gone ended o : ℕ) (takes : Bool) (rest : List ℕ) (st : State) (imm : Bool) (dest source a : ℕ) where
  abbrev the_read : Instr
  the_read = instr 30 imm dest source a

  abbrev at : ℕ
  at = operand st the_read

  -- the numbers after a read, by whether it takes a primary word and whether it asks for an auxiliary one
  abbrev read_view : Bool → Bool → View
  read_view primary asked = record {
    pc = next_pc w st.pc;
    regs = slice_set st.regs dest (if primary || takes then o else 0);
    flag = flag_of (not (primary || takes));
    taken = if primary then gone + 1 else gone;
    ended = if asked && not takes then 1 else ended;
  }

  abbrev after_read : Bool → List ℕ → List ℕ → State
  after_read found primary aux = record st {
    pc = next_pc w st.pc;
    regs = slice_set st.regs dest (if found then o else 0);
    flag = not found;
    primary = primary;
    aux = aux;
  }

  came_read : (primary asked : Bool) → ((at == 0) && nat_lt gone (length x)) ≡ primary → ((at == 1) && (ended == 0)) ≡ asked → (left : List ℕ)
      → reads w st dest at ≡ Next.Gone (after_read (primary || takes) left rest) → left ≡ drop (if primary then gone + 1 else gone) x
      → Came w x gone ended o takes rest st the_read
  came_read primary asked p q left is remains =
      let after = after_read (primary || takes) left rest in
      let view : seen after (read_view primary asked).taken (read_view primary asked).ended ≡ read_view primary asked = refl in
      let view_p = subst (λ b. seen after (read_view b asked).taken (read_view b asked).ended ≡ read_view b asked) (sym p) view in
      let at0 : Bool = (at == 0) && nat_lt gone (length x) in
      record {
        state = after;
        is = is;
        view = subst (λ b. seen after (read_view at0 b).taken (read_view at0 b).ended ≡ read_view at0 b) (sym q) view_p;
        primary = remains ∙ ap (λ b. drop (if b then gone + 1 else gone) x) (sym p);
        aux = refl;
      }

read_aux : (w : ℕ) (x : List ℕ) (gone ended o : ℕ) (rest : List ℕ) (st : State) (imm : Bool) (dest source a : ℕ)
    → Fits w x gone ended o true st (instr 30 imm dest source a) → AuxTape w x gone ended o true rest st (instr 30 imm dest source a)
    → Came w x gone ended o true rest st (instr 30 imm dest source a)
read_aux w x gone ended o rest st imm dest source a fits aux =
    let i = instr 30 imm dest source a in
    let asked = fits.asked refl in
    let one : operand st i ≡ 1 = eqb-true (operand st i) 1 (and_parts (operand st i == 1) (ended == 0) asked).0 in
    came_read w x gone ended o true rest st imm dest source a false true (ap (λ n. (n == 0) && nat_lt gone (length x)) one) asked st.primary
    (ap (reads w st dest) one ∙ ap (λ l. takes_of w st dest l (λ left. record st { aux = left })) (aux.taken refl)) fits.primary

module _ (w : ℕ) (x : List ℕ) (gone ended o : ℕ) (rest : List ℕ) (st : State) (imm : Bool) (dest source a : ℕ)
    (fits : Fits w x gone ended o false st (instr 30 imm dest source a)) (aux : AuxTape w x gone ended o false rest st (instr 30 imm dest source a)) where
  abbrev from : ℕ
  from = operand st (instr 30 imm dest source a)

  abbrev Goes : Type 0
  Goes = Came w x gone ended o false rest st (instr 30 imm dest source a)

  aux_stays : Next.Gone (after_read w x gone ended o false rest st imm dest source a false st.primary st.aux)
      ≡ Next.Gone (after_read w x gone ended o false rest st imm dest source a false st.primary rest)
  aux_stays = ap (λ l. Next.Gone (after_read w x gone ended o false rest st imm dest source a false st.primary l)) (aux.left refl)

  read_primary : from ≡ 0 → gone < length x → Goes
  read_primary zeroth within =
      let p : ((from == 0) && nat_lt gone (length x)) ≡ true = ap (λ n. (n == 0) && nat_lt gone (length x)) zeroth ∙ lt-ltb gone (length x) within in
      let q : ((from == 1) && (ended == 0)) ≡ false = ap (λ n. (n == 1) && (ended == 0)) zeroth in
      let word : o ≡ slice_index x gone = held w x gone ended o false st imm dest source a fits p in
      let tape : st.primary ≡ o ∷ drop (gone + 1) x = fits.primary ∙ rw (add-one, drop-cons x gone 0 within) (ap (λ v. v ∷ drop (suc gone) x) (sym word)) in
      came_read w x gone ended o false rest st imm dest source a true false p q (drop (gone + 1) x)
      (ap (reads w st dest) zeroth ∙ ap (λ l. takes_of w st dest l (λ left. record st { primary = left })) tape
      ∙ ap (λ l. Next.Gone (after_read w x gone ended o false rest st imm dest source a true (drop (gone + 1) x) l)) (aux.left refl)) refl

  read_past : from ≡ 0 → length x ≤ gone → Goes
  read_past zeroth past =
      let p : ((from == 0) && nat_lt gone (length x)) ≡ false = ap (λ n. (n == 0) && nat_lt gone (length x)) zeroth ∙ le-ltb gone (length x) past in
      let q : ((from == 1) && (ended == 0)) ≡ false = ap (λ n. (n == 1) && (ended == 0)) zeroth in
      let tape : st.primary ≡ [] = fits.primary ∙ drop_all gone x past in
      came_read w x gone ended o false rest st imm dest source a false false p q st.primary
      (ap (reads w st dest) zeroth ∙ ap (λ l. takes_of w st dest l (λ left. record st { primary = left })) tape ∙ aux_stays) fits.primary

  read_ended : from ≡ 1 → Goes
  read_ended first =
      let p : ((from == 0) && nat_lt gone (length x)) ≡ false = ap (λ n. (n == 0) && nat_lt gone (length x)) first in
      let q : ((from == 1) && (ended == 0)) ≡ (ended == 0) = ap (λ n. (n == 1) && (ended == 0)) first in
      came_read w x gone ended o false rest st imm dest source a false (ended == 0) p q st.primary
      (ap (reads w st dest) first ∙ ap (λ l. takes_of w st dest l (λ left. record st { aux = left })) (aux.ends refl refl first) ∙ aux_stays) fits.primary

  read_none : from ≢ 0 → from ≢ 1 → Goes
  read_none zeroth first =
      let e0 : (from == 0) ≡ false = ne_eqb from 0 zeroth in
      let e1 : (from == 1) ≡ false = ne_eqb from 1 first in
      came_read w x gone ended o false rest st imm dest source a false false (ap (λ b. b && nat_lt gone (length x)) e0)
      (ap (λ b. b && (ended == 0)) e1) st.primary
      (ap (λ b. if b then takes_of w st dest st.primary (λ left. record st { primary = left }) else if from == 1 then takes_of w st dest st.aux
      (λ left. record st { aux = left }) else takes_of w st dest [] (λ _. st)) e0
      ∙ ap (λ b. if b then takes_of w st dest st.aux (λ left. record st { aux = left }) else takes_of w st dest [] (λ _. st)) e1 ∙ aux_stays) fits.primary

  read_nothing : Goes
  read_nothing = elim (cases_eq from 0) [
    | inl zeroth ↦ elim (cases_lt gone (length x)) [ inl within ↦ read_primary zeroth within | inr past ↦ read_past zeroth past ]
    | inr other ↦ elim (cases_eq from 1) [ inl first ↦ read_ended first | inr others ↦ read_none other others ]
  ]

pub row30 : (w : ℕ) (x : List ℕ) (gone ended o : ℕ) (takes : Bool) (rest : List ℕ) → NextRow w x gone ended o takes rest 30
row30 w x gone ended o true rest st imm dest source a other fits aux = read_aux w x gone ended o rest st imm dest source a fits aux
row30 w x gone ended o false rest st imm dest source a other fits aux = read_nothing w x gone ended o rest st imm dest source a fits aux
