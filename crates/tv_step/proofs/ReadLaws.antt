-- What steps take of the tapes.
use Rattle.tv_core.proofs.Common.{◌≡◌, ℕ, zero, suc, ◌+◌, ◌-◌, ◌≤◌, ◌==◌, Bool, true, false, not, nat_lt, List, [], ◌∷◌, ◌++◌, length, take, drop, Some, None}
use Rattle.tv_core.proofs.Common.{refl, sym, ap, ◌∙◌, subst, arith, slice_index, eqb-true, ne_eqb, lt-ltb, le-ltb, length-append}
use Rattle.std.proofs.Common.{◌&&◌, ◌||◌}
use Rattle.std.proofs.Common.{add-zero}
use Rattle.std.specs.Prelude.{Option, if◌then◌else◌, is_some, slice_get}
use Rattle.std.proofs.Math.Seq.{take-append_seam}
use Rattle.std.proofs.lemmas.List.{get_or-drop, drop-drop, append_assoc}
use Rattle.tv_step.proofs.EndLaws.{end_answers}
use Rattle.tv_step.proofs.RunLaws.{either, state_next}
use Rattle.tv_step.specs.Machine.{next, fetched, operand, reg, left_in, state_after}
use Rattle.tv_step.specs.Ops.{op_of}
use Rattle.tv_step.specs.Reads.{is_read, reads_aux, word_taken, finds_end, ended_after, words_in, words_taken, IsRest, TapesAreLeft, TakenAreTheFront}
use Rattle.tv_step.specs.Reads.{TakenByCounts, EndedStays, EndedTakesNothing, AnsweringTakesFew}
use Rattle.tv_step.specs.Rows.{row, takes, moves, goes_on, jumps}
use Rattle.tv_step.specs.State.{State, Next}
use Rattle.tv_step.specs.declared.op.Op.{Op}
use Rattle.tv_step.specs.declared.op.Op.TheVariants.{Cmov, Cjmp, Cnjmp, Read}

-- ---- what one step leaves of the tapes
-- whether a step reads the primary tape
abbrev reads_primary : ℕ → State → Bool
reads_primary w st = is_read (op_of (fetched w st).op) && (operand st (fetched w st) == 0)

module _ (w : ℕ) (st : State) where
  abbrev came : Next → State
  came n = left_in (λ after. after) st n

  -- the two tapes after what came of a step, where it reads the one or the other
  record Left (primary aux : Bool) (n : Next) : Type 0 where
    first : (came n).primary ≡ (if primary then drop 1 st.primary else st.primary)
    second : (came n).aux ≡ (if aux then drop 1 st.aux else st.aux)

  primary_taken : (i : ℕ) (tape : List ℕ) → st.primary ≡ tape → Left true false (takes w st i tape (λ left. record st { primary = left }))
  primary_taken i [] e = record { first = e ∙ sym (ap (drop 1) e); second = refl }
  primary_taken i (v ∷ left) e = record { first = sym (ap (drop 1) e); second = refl }

  aux_taken : (i : ℕ) (tape : List ℕ) → st.aux ≡ tape → Left false true (takes w st i tape (λ left. record st { aux = left }))
  aux_taken i [] e = record { first = refl; second = e ∙ sym (ap (drop 1) e) }
  aux_taken i (v ∷ left) e = record { first = refl; second = sym (ap (drop 1) e) }

  reads_left : (i : ℕ) (b c : Bool) → (b ≡ true → c ≡ false)
      → Left b c (if b then takes w st i st.primary (λ left. record st { primary = left }) else if c then takes w st i st.aux
      (λ left. record st { aux = left }) else takes w st i [] (λ _. st))
  reads_left i true c apart = subst (λ u. Left true u (takes w st i st.primary (λ left. record st { primary = left }))) (sym (apart refl))
      (primary_taken i st.primary refl)
  reads_left i false true apart = aux_taken i st.aux refl
  reads_left i false false apart = record { first = refl; second = refl }

  zero_not_one : (a : ℕ) → (a == 0) ≡ true → (a == 1) ≡ false
  zero_not_one a e = let z = eqb-true a 0 e in ne_eqb a 1 (λ o. omega arith)

  row_left : (op : Op) (i d s a : ℕ)
      → Left (is_read op && (a == 0)) (is_read op && (a == 1)) (row w op st (record { dest = i; held = d; source = s; operand = a }))
  row_left Cmov i d s a = either (Left false false) st.flag (moves w st i a) (goes_on w st) (record { first = refl; second = refl })
      (record { first = refl; second = refl })
  row_left Cjmp i d s a = either (Left false false) st.flag (jumps w st a) (goes_on w st) (record { first = refl; second = refl })
      (record { first = refl; second = refl })
  row_left Cnjmp i d s a = either (Left false false) st.flag (goes_on w st) (jumps w st a) (record { first = refl; second = refl })
      (record { first = refl; second = refl })
  row_left Read i d s a = reads_left i (a == 0) (a == 1) (zero_not_one a)
  row_left _ i d s a = record { first = refl; second = refl }

  step_left : Left (reads_primary w st) (reads_aux w st) (next w st)
  step_left = let i = fetched w st in row_left (op_of i.op) i.dest (reg st i.dest) (reg st i.source) (operand st i)

-- ---- what is left of a tape is its end
one_less : (whole rest : List ℕ) → IsRest whole rest → IsRest whole (drop 1 rest)
one_less whole [] e = e
one_less whole (v ∷ rest) e =
    let long = e.short in
    let gone : ℕ = length whole - length (v ∷ rest) in
    let more : length whole - length rest ≡ gone + 1 = omega arith in
    record {
      short = omega arith;
      is = ap (drop 1) e.is ∙ drop-drop 1 gone whole ∙ ap (λ k. drop k whole) (sym more);
    }

either_rest : (whole rest : List ℕ) (b : Bool) → IsRest whole rest → IsRest whole (if b then drop 1 rest else rest)
either_rest whole rest true e = one_less whole rest e
either_rest whole rest false e = e

whole_rest : (whole : List ℕ) → IsRest whole whole
whole_rest whole = let none : length whole - length whole ≡ 0 = omega arith in record { short = omega arith; is = sym (ap (λ k. drop k whole) none) }

module _ (w : ℕ) (st : State) where
  abbrev now : ℕ → State
  now t = state_after w t st

  primary_next : (t : ℕ) → (now (t + 1)).primary ≡ (if reads_primary w (now t) then drop 1 (now t).primary else (now t).primary)
  primary_next t = ap (λ (u : State). u.primary) (sym (state_next w t st)) ∙ (step_left w (now t)).first

  aux_next : (t : ℕ) → (now (t + 1)).aux ≡ (if reads_aux w (now t) then drop 1 (now t).aux else (now t).aux)
  aux_next t = ap (λ (u : State). u.aux) (sym (state_next w t st)) ∙ (step_left w (now t)).second

  pub primary_rest : (t : ℕ) → IsRest st.primary (now t).primary
  primary_rest zero = whole_rest st.primary
  primary_rest (suc t) =
      let more : suc t ≡ t + 1 = omega arith in
      subst (IsRest st.primary) (sym (ap (λ k. (now k).primary) more ∙ primary_next t))
      (either_rest st.primary (now t).primary (reads_primary w (now t)) (primary_rest t))

  pub aux_rest : (t : ℕ) → IsRest st.aux (now t).aux
  aux_rest zero = whole_rest st.aux
  aux_rest (suc t) =
      let more : suc t ≡ t + 1 = omega arith in
      subst (IsRest st.aux) (sym (ap (λ k. (now k).aux) more ∙ aux_next t)) (either_rest st.aux (now t).aux (reads_aux w (now t)) (aux_rest t))

  -- the word that the counts determine
  counted : (a b : List ℕ) → IsRest st.aux a → (r : Bool) → b ≡ (if r then drop 1 a else a)
      → (if r then slice_get a 0 else None) ≡ (if nat_lt (length st.aux - length a) (length st.aux - length b) then Some
      (slice_index st.aux (length st.aux - length a)) else None)
  counted [] b e true f = let same : length b ≡ 0 = ap length f in rw (le-ltb (length st.aux - 0) (length st.aux - length b) (omega arith)) refl
  counted (v ∷ a) b e true f =
      let long = e.short in
      let same : length b ≡ length a = ap length f in
      let head : slice_index st.aux (length st.aux - suc (length a)) ≡ v =
      ap (λ k. slice_index st.aux k) (sym (add-zero (length st.aux - suc (length a)))) ∙ sym (get_or-drop (length st.aux - suc (length a)) st.aux 0 0)
      ∙ ap (λ l. slice_index l 0) (sym e.is) in
      rw (lt-ltb (length st.aux - suc (length a)) (length st.aux - length b) (omega arith)) (ap (λ u. Some u) (sym head))
  counted a b e false f = let same : length b ≡ length a = ap length f in rw (le-ltb (length st.aux - length a) (length st.aux - length b) (omega arith)) refl

  -- what was taken, and then what is left, is the tape
  taken_first : (r : Bool) (a : List ℕ) → words_in (if r then slice_get a 0 else None) ++ (if r then drop 1 a else a) ≡ a
  taken_first true [] = refl
  taken_first true (v ∷ a) = refl
  taken_first false a = refl

  taken_then_left : (t : ℕ) → words_taken w t st ++ (now t).aux ≡ st.aux
  taken_then_left zero = refl
  taken_then_left (suc t) =
      let more : suc t ≡ t + 1 = omega arith in
      ap (λ k. words_taken w (suc t) st ++ (now k).aux) more
      ∙ ap (λ left. words_taken w (suc t) st ++ left) (aux_next t)
      ∙ append_assoc (words_taken w t st) (words_in (word_taken w (now t))) (if reads_aux w (now t) then drop 1 (now t).aux else (now t).aux)
      ∙ ap (λ left. words_taken w t st ++ left) (taken_first (reads_aux w (now t)) (now t).aux)
      ∙ taken_then_left t

  taken_front : (taken left : List ℕ) → taken ++ left ≡ st.aux → taken ≡ take (length st.aux - length left) st.aux
  taken_front taken left e =
      let whole : length taken + length left ≡ length st.aux = sym (length-append taken left) ∙ ap length e in
      let many : length st.aux - length left ≡ length taken = omega arith in
      sym (take-append_seam taken left) ∙ ap (λ l. take (length taken) l) e ∙ ap (λ k. take k st.aux) (sym many)

  -- the ended bit
  ended_on : (b c : Bool) → b ≡ true → (b || c) ≡ true
  ended_on true c e = refl
  ended_on false c e = cc

  ended_more : (s k : ℕ) → ended_after w s st ≡ true → ended_after w (s + k) st ≡ true
  ended_more s zero e = rw (add-zero s) e
  ended_more s (suc k) e =
      let more : s + suc k ≡ suc (s + k) = omega arith in
      ap (λ n. ended_after w n st) more ∙ ended_on (ended_after w (s + k) st) (finds_end w (now (s + k))) (ended_more s k e)

  -- where it is set, nothing is left of the tape
  found_none : (r : Bool) (a : List ℕ) → (r && not (is_some (slice_get a 0))) ≡ true → a ≡ []
  found_none true [] e = refl
  found_none true (v ∷ a) e = cc
  found_none false a e = cc

  none_left : (r : Bool) (a : List ℕ) → a ≡ [] → (if r then drop 1 a else a) ≡ []
  none_left true a e = ap (drop 1) e
  none_left false a e = e

  ended_by : (r b : Bool) (a : List ℕ) → (b ≡ true → a ≡ []) → (b || (r && not (is_some (slice_get a 0)))) ≡ true → a ≡ []
  ended_by r true a before e = before refl
  ended_by r false a before e = found_none r a e

  ended_empty : (t : ℕ) → ended_after w t st ≡ true → (now t).aux ≡ []
  ended_empty zero e = cc
  ended_empty (suc t) e =
      let more : suc t ≡ t + 1 = omega arith in
      ap (λ k. (now k).aux) more ∙ aux_next t ∙ none_left (reads_aux w (now t)) (now t).aux
      (ended_by (reads_aux w (now t)) (ended_after w t st) (now t).aux (ended_empty t) e)

  nothing_taken : (r : Bool) (a : List ℕ) → a ≡ [] → (if r then slice_get a 0 else None) ≡ None
  nothing_taken true a e = ap (λ l. slice_get l 0) e
  nothing_taken false a e = refl

pub tapes_are_left : TapesAreLeft
tapes_are_left w t st = (primary_rest w st t, aux_rest w st t)

pub taken_are_the_front : TakenAreTheFront
taken_are_the_front w t st = taken_front w st (words_taken w t st) (state_after w t st).aux (taken_then_left w st t)

pub taken_by_counts : TakenByCounts
taken_by_counts w t st = counted w st (state_after w t st).aux (state_after w (t + 1) st).aux (aux_rest w st t) (reads_aux w (state_after w t st))
    (aux_next w st t)

pub ended_stays : EndedStays
ended_stays w s t st within e = let whole : s + (t - s) ≡ t = omega arith in ap (λ k. ended_after w k st) (sym whole) ∙ ended_more w st s (t - s) e

pub ended_takes_nothing : EndedTakesNothing
ended_takes_nothing w t st e = nothing_taken w st (reads_aux w (state_after w t st)) (state_after w t st).aux (ended_empty w st t e)

-- ---- how many words a run that answers takes
-- a read doesn't answer
takes_goes : (w : ℕ) (st : State) (i : ℕ) (tape : List ℕ) (rest : List ℕ → State) (v : ℕ) → takes w st i tape rest ≡ Next.Answered v → ⊥
takes_goes w st i [] rest v e = cc
takes_goes w st i (u ∷ left) rest v e = cc

reads_goes : (w : ℕ) (st : State) (i v : ℕ) (b c : Bool)
    → (if b then takes w st i st.primary (λ left. record st { primary = left }) else if c then takes w st i st.aux
    (λ left. record st { aux = left }) else takes w st i [] (λ _. st)) ≡ Next.Answered v → ⊥
reads_goes w st i v true c e = takes_goes w st i st.primary (λ left. record st { primary = left }) v e
reads_goes w st i v false true e = takes_goes w st i st.aux (λ left. record st { aux = left }) v e
reads_goes w st i v false false e = takes_goes w st i [] (λ _. st) v e

answers_unread : (w : ℕ) (st : State) (op : Op) (i d s a v : ℕ)
    → row w op st (record { dest = i; held = d; source = s; operand = a }) ≡ Next.Answered v → (is_read op && (a == 1)) ≡ false
answers_unread w st Read i d s a v e = absurd (reads_goes w st i v (a == 0) (a == 1) e)
answers_unread w st _ i d s a v e = refl

none_taken : (w : ℕ) (st : State) (v : ℕ) → next w st ≡ Next.Answered v → words_in (word_taken w st) ≡ []
none_taken w st v e =
    let i = fetched w st in
    ap (λ r. words_in (if r then slice_get st.aux 0 else None)) (answers_unread w st (op_of i.op) i.dest (reg st i.dest) (reg st i.source) (operand st i) v e)

at_most_one : (found : Option ℕ) → length (words_in found) ≤ 1
at_most_one None = omega arith
at_most_one (Some word) = omega arith

one_a_step : (w t : ℕ) (st : State) → length (words_taken w t st) ≤ t
one_a_step w zero st = omega arith
one_a_step w (suc t) st =
    let found = word_taken w (state_after w t st) in
    let long = length-append (words_taken w t st) (words_in found) in
    let before = one_a_step w t st in
    let one = at_most_one found in
    omega (arith, long)

pub answering_takes_few : AnsweringTakesFew
answering_takes_few w zero st v step e = let some = (end_answers w zero st v step e).some in absurd (omega arith)
answering_takes_few w (suc t) st v step e =
    let same : suc t - 1 ≡ t = omega arith in
    let last : next w (state_after w t st) ≡ Next.Answered v = ap (λ k. next w (state_after w k st)) (sym same) ∙ (end_answers w (suc t) st v step e).last in
    let none = none_taken w (state_after w t st) v last in
    let long = length-append (words_taken w t st) (words_in (word_taken w (state_after w t st)))
    ∙ ap (λ words. length (words_taken w t st) + length words) none in
    let before = one_a_step w t st in
    omega (arith, long)
