-- How many words a step leaves of the tapes.
use Rattle.tv_core.proofs.Common.{◌≡◌, ℕ, ◌-◌, ◌^◌, ◌/◌, ◌==◌, Bool, true, false, cond, List, [], ◌∷◌, length, refl, sym, ap, ap₂, ◌∙◌, subst, arith}
use Rattle.tv_core.proofs.Common.{eqb-true, ne_eqb, mod-lt}
use Rattle.std.proofs.Common.{◌&&◌}
use Rattle.std.proofs.lemmas.Bool.{agree_below_at}
use Rattle.tv_isa.specs.Instruction.{decode}
use Rattle.tv_isa.specs.declared.opcode.TheConstants.{READ}
use Rattle.tv_mem.specs.Bytes.{word_in}
use Rattle.tv_step.proofs.RunLaws.{either}
use Rattle.tv_step.specs.Machine.{fetched, operand, reg, left_in, state_after}
use Rattle.tv_step.specs.Ops.{op_of}
use Rattle.tv_step.specs.Reads.{is_read}
use Rattle.tv_step.specs.Rows.{row, takes, moves, goes_on, jumps}
use Rattle.tv_step.specs.State.{State, Next}
use Rattle.tv_step.specs.declared.op.Op.{Op}
use Rattle.tv_step.specs.declared.op.Op.TheVariants.{Cmov, Cjmp, Cnjmp, Read}
use Rattle.tv_trace.specs.Before.{before_of, taken_of, left_of}

-- the read is the instruction with the opcode READ
read_test : (w h a : ℕ) → is_read (op_of (decode w h a).op) ≡ ((decode w h a).op == READ)
read_test w h a = agree_below_at (λ k. is_read (op_of k)) (λ k. k == READ) 32 (decode w h a).op refl (mod-lt (h / 2 ^ (w - 5)) (omega arith))

-- a word less, where one is taken
abbrev less : Bool → ℕ → ℕ
less taken n = cond taken (n - 1) n

less_is : (taken : Bool) (n : ℕ) → less taken n ≡ n - cond taken 1 0
less_is true n = refl
less_is false n = omega arith

module _ (w : ℕ) (st : State) where
  -- how many words are left after what came of a step, where it reads the one or the other
  abbrev Leaves : Bool → Bool → Next → Type 0
  Leaves primary aux n =
      left_of (left_in (λ after. after) st n) ≡ record { primary = less primary (length st.primary); aux = less aux (length st.aux) }

  primary_taken : (i : ℕ) (tape : List ℕ) → st.primary ≡ tape → Leaves true false (takes w st i tape (λ left. record st { primary = left }))
  primary_taken i [] e =
      let none = ap length e in
      let same : length st.primary ≡ length st.primary - 1 = omega (arith, none) in
      ap (λ (n : ℕ). record { primary = n; aux = length st.aux }) same
  primary_taken i (v ∷ left) e =
      let long = ap length e in
      let same : length left ≡ length st.primary - 1 = omega (arith, long) in
      ap (λ (n : ℕ). record { primary = n; aux = length st.aux }) same

  aux_taken : (i : ℕ) (tape : List ℕ) → st.aux ≡ tape → Leaves false true (takes w st i tape (λ left. record st { aux = left }))
  aux_taken i [] e =
      let none = ap length e in
      let same : length st.aux ≡ length st.aux - 1 = omega (arith, none) in
      ap (λ (n : ℕ). record { primary = length st.primary; aux = n }) same
  aux_taken i (v ∷ left) e =
      let long = ap length e in
      let same : length left ≡ length st.aux - 1 = omega (arith, long) in
      ap (λ (n : ℕ). record { primary = length st.primary; aux = n }) same

  reads_left : (i : ℕ) (b c : Bool) → (b ≡ true → c ≡ false)
      → Leaves b c (cond b (takes w st i st.primary (λ left. record st { primary = left })) (cond c (takes w st i st.aux
      (λ left. record st { aux = left })) (takes w st i [] (λ _. st))))
  reads_left i true c apart = subst (λ u. Leaves true u (takes w st i st.primary (λ left. record st { primary = left }))) (sym (apart refl))
      (primary_taken i st.primary refl)
  reads_left i false true apart = aux_taken i st.aux refl
  reads_left i false false apart = refl

  zero_not_one : (a : ℕ) → (a == 0) ≡ true → (a == 1) ≡ false
  zero_not_one a e = let z = eqb-true a 0 e in ne_eqb a 1 (λ o. omega arith)

  row_left : (op : Op) (i d s a : ℕ)
      → Leaves (is_read op && (a == 0)) (is_read op && (a == 1)) (row w op st (record { dest = i; held = d; source = s; operand = a }))
  row_left Cmov i d s a = either (Leaves false false) st.flag (moves w st i a) (goes_on w st) refl refl
  row_left Cjmp i d s a = either (Leaves false false) st.flag (jumps w st a) (goes_on w st) refl refl
  row_left Cnjmp i d s a = either (Leaves false false) st.flag (goes_on w st) (jumps w st a) refl refl
  row_left Read i d s a = reads_left i (a == 0) (a == 1) (zero_not_one a)
  row_left _ i d s a = refl

  -- how many are left after a step
  pub left_after : left_of (state_after w 1 st)
      ≡ record { primary = length st.primary - taken_of (before_of w st) 0; aux = length st.aux - taken_of (before_of w st) 1 }
  left_after =
      let i = fetched w st in
      let a : ℕ = operand st i in
      let reads : Bool = i.op == READ in
      row_left (op_of i.op) i.dest (reg st i.dest) (reg st i.source) a
      ∙ ap (λ (b : Bool). record { primary = less (b && (a == 0)) (length st.primary); aux = less (b && (a == 1)) (length st.aux) })
      (read_test w (word_in w st.memory (st.pc / (w / 8))) i.a)
      ∙ ap₂ (λ (n m : ℕ). record { primary = n; aux = m }) (less_is (reads && (a == 0)) (length st.primary)) (less_is (reads && (a == 1)) (length st.aux))
