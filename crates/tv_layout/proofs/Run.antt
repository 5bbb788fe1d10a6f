-- Steps in an assignment whose lines are honest are the machine's, one by one.
use Rattle.tv_core.proofs.Common.{◌≡◌, ℕ, zero, suc, ◌+◌, ◌-◌, ◌*◌, ◌<◌, ◌≤◌, Bool, true, false, List, [], ◌∷◌, ◌++◌, length, take, refl, sym, ap, ap₂, ◌∙◌}
use Rattle.tv_core.proofs.Common.{arith, subst, add-one, append_assoc, inl, inr, cases_eq, range_with_len, joined_below, Line}
use Rattle.std.proofs.Common.{add-zero}
use Rattle.std.proofs.lemmas.List.{take_all, append-nil}
use Rattle.std.proofs.lemmas.List.Concat.{flat_map-cons}
use Rattle.std.specs.List.{flat_map}
use Rattle.std.specs.Prelude.{if◌then◌else◌}
use Rattle.tv_core.proofs.JoinedLaws.{joined_below-zero, joined_below-suc}
use Rattle.tv_core.proofs.LineLaws.{HonestFrom-from_Honest}
use Rattle.tv_core.specs.Lines.{Honest, HonestFrom, memory_after}
use Rattle.tv_numbers.specs.Laws.{HoldsOlds, AuxFits, DoesStep}
use Rattle.tv_numbers.specs.Numbers.{Transition, lines_in}
use Rattle.tv_numbers.specs.Views.{Matches}
use Rattle.tv_step.proofs.EndLaws.{steps_at_the_end, last_answers}
use Rattle.tv_step.proofs.HonestLaws.{lines_leave_the_state}
use Rattle.tv_step.proofs.RangeLaws.{start_in_range, run_keeps_range}
use Rattle.tv_step.proofs.ReadLaws.{taken_are_the_front}
use Rattle.tv_step.specs.Cells.{boot_lines, run_lines, IsInput}
use Rattle.tv_step.specs.Machine.{start, state_after, Accepts}
use Rattle.tv_step.specs.Range.{StateInRange}
use Rattle.tv_step.specs.Reads.{word_taken, words_in, Reads}
use Rattle.tv_step.specs.State.{State}
use Rattle.tv_step.specs.Trace.{lines_of}
use Rattle.tv_layout.proofs.Machine.{HonestFrom-right, holds, Led, led}
use Rattle.tv_layout.proofs.Steps.{step, transition_at, next_state}
use Rattle.tv_layout.proofs.TakenWords.{taken_in, taken_fits}
use Rattle.tv_inputs.specs.States.{state_in}
use Rattle.tv_layout.proofs.Blocks.{BlockSizes}
use Rattle.tv_layout.specs.Blocks.{BlockCircuit}

-- lists one after another, from number i on
record Split (f : ℕ → List Line) (t i : ℕ) : Type 0 where
  rest : List Line
  is : joined_below t f ≡ joined_below i f ++ (f i ++ rest)

split_at : (f : ℕ → List Line) (t i : ℕ) → i < t → Split f t i
split_at f zero i h = absurd (omega arith)
split_at f (suc t) i h = elim (cases_eq i t) [
  | inl same ↦ record {
    rest = [];
    is = joined_below-suc t f
        ∙ ap₂ (λ a b. a ++ b) (ap (λ k. joined_below k f) (sym same)) (ap f (sym same) ∙ sym (append-nil (f i)));
  }
  | inr apart ↦
      let before = split_at f t i (omega arith) in
      record {
        rest = before.rest ++ f t;
        is = joined_below-suc t f ∙ ap (λ l. l ++ f t) before.is ∙ append_assoc (joined_below i f) (f i ++ before.rest) (f t)
            ∙ ap (λ l. joined_below i f ++ l) (append_assoc (f i) before.rest (f t));
      }
]

module _ (w : ℕ) (block : BlockCircuit) (made : ℕ) (sizes : BlockSizes block made) (image x z : List ℕ) (zero_wires first t : ℕ) where
  abbrev time : ℕ
  time = length image + length x

  abbrev here : ℕ → Transition
  here i = transition_at block made sizes z x (length image + length x) zero_wires first i

  abbrev lines : ℕ → List Line
  lines i = lines_in (transition_at block made sizes z x (length image + length x) zero_wires first i)

  abbrev taken : ℕ → List ℕ
  taken i = taken_in z (step block made sizes z x (length image + length x) zero_wires first i).spot

  -- the words that m steps take, from step i on
  abbrev later : ℕ → ℕ → List ℕ
  later i m = flat_map (λ j. taken_in z (step block made sizes z x (length image + length x) zero_wires first j).spot) (range_with_len i m)

  all_later : (n : ℕ) → joined_below n taken ≡ later 0 n
  unfolding joined_below
  all_later n = refl

  later_first : (i m : ℕ) → later i (suc m) ≡ taken i ++ later (suc i) m
  later_first i m = flat_map-cons taken i (range_with_len (i + 1) m) ∙ ap (λ k. taken i ++ later k m) (add-one i)

  module _ (does : (i : ℕ) → i < t → DoesStep w x (time + 3 * i) (here i)) where
    -- once the end of the tape was found no step takes a word
    none_later : (m i : ℕ) → i + m ≤ t → (here i).now.ended ≡ 1 → later i m ≡ []
    none_later zero i h e = refl
    none_later (suc m) i h e =
        let d = does i (omega arith) in
        let after : (here (suc i)).now.ended ≡ 1 = ap (λ s. (state_in z s).ended) (next_state block made sizes z x time zero_wires first i) ∙ d.stays e in
        later_first i m ∙ by_takes (here i).takes refl (none_later m (suc i) (omega arith) after)
      where
        by_takes : (takes : Bool) → (here i).takes ≡ takes → later (suc i) m ≡ [] → taken i ++ later (suc i) m ≡ []
        by_takes true k rest = let off : (here i).now.ended ≡ 0 = (does i (omega arith)).takes_early k in absurd (omega arith)
        by_takes false k rest = ap (λ b. (if b then (here i).word ∷ [] else []) ++ later (suc i) m) k ∙ rest

    -- what a step takes is at the front of what is left of the tape
    aux_fits : (i m : ℕ) (st : State) → i + suc m ≤ t → StateInRange w st → Matches x (here i).now st → HoldsOlds w x (here i) st → st.aux ≡ later i (suc m)
        → AuxFits w st (here i).takes (here i).word (later (suc i) m)
    aux_fits i m st h range now olds aux =
        let front : st.aux ≡ taken i ++ later (suc i) m = aux ∙ later_first i m in
        let left : (here i).takes ≡ false → st.aux ≡ later (suc i) m = λ k. front ∙ ap (λ b. (if b then (here i).word ∷ [] else []) ++ later (suc i) m) k in
        record {
          taken = λ k. front ∙ ap (λ b. (if b then (here i).word ∷ [] else []) ++ later (suc i) m) k;
          left = left;
          ends = λ k r.
              let d = does i (omega arith) in
              let after : (here (suc i)).now.ended ≡ 1 = ap (λ s. (state_in z s).ended) (next_state block made sizes z x time zero_wires first i)
              ∙ d.sets st range.bytes now olds r k in
              left k ∙ none_later m (suc i) (omega arith) after;
        }

    module _ (aux : List ℕ) (all : aux ≡ joined_below t taken) (input : IsInput w image x aux)
        (honest : Honest (boot_lines image x ++ joined_below t lines)) (starts : Matches x (here 0).now (start w image x aux)) where
      abbrev now : ℕ → State
      now i = state_after w i (start w image x aux)

      range : (i : ℕ) → StateInRange w (now i)
      range i = run_keeps_range w input.width (start w image x aux) i (start_in_range w input.width image x aux input.primary_words input.aux_words)

      -- what is known before step i
      pub record Known (i : ℕ) : Type 0 where
        pub matches : Matches x (here i).now (now i)
        pub are : joined_below i lines ≡ lines_of w (length x) time (start w image x aux) i
        pub left : (m : ℕ) → i + m ≡ t → (now i).aux ≡ later i m

      olds_held : (i : ℕ) → i < t → Known i → HoldsOlds w x (here i) (now i)
      olds_held i h known =
          let s = split_at lines t i h in
          let place : boot_lines image x ++ joined_below t lines ≡ run_lines w image x aux i ++ (lines i ++ s.rest) =
          ap (λ l. boot_lines image x ++ l) s.is
          ∙ sym (append_assoc (boot_lines image x) (joined_below i lines) (lines i ++ s.rest))
          ∙ ap (λ l. (boot_lines image x ++ l) ++ (lines i ++ s.rest)) known.are in
          let whole = HonestFrom-from_Honest (λ _. 0) _ honest in
          let back = HonestFrom-right (λ _. 0) (run_lines w image x aux i) (lines i ++ s.rest) (subst (HonestFrom (λ _. 0)) place whole) in
          holds w x (time + 3 * i) (here i) (now i) (does i h) (memory_after (run_lines w image x aux i)) (lines_leave_the_state w image x aux i input)
          s.rest back

      fits_aux : (i : ℕ) → i < t → Known i → AuxFits w (now i) (here i).takes (here i).word (later (suc i) (t - suc i))
      fits_aux i h known = aux_fits i (t - suc i) (now i) (omega arith) (range i) known.matches (olds_held i h known)
          (known.left (suc (t - suc i)) (omega arith))

      one : (i : ℕ) → (h : i < t) → Known i → Led w x (time + 3 * i) (here i) (now i) (does i h) (later (suc i) (t - suc i))
      one i h known =
          led w x (time + 3 * i) (here i) (now i) (does i h) (range i).bytes known.matches (olds_held i h known) (later (suc i) (t - suc i))
          (fits_aux i h known)

      more : (i : ℕ) → now (suc i) ≡ state_after w 1 (now i)
      more i = ap now (sym (add-one i)) ∙ steps_at_the_end w i (start w image x aux)

      pub known_at : (i : ℕ) → i ≤ t → Known i
      known_at zero h = record {
        matches = starts;
        are = joined_below-zero lines;
        left = λ m e. let same : m ≡ t = omega arith in all ∙ all_later t ∙ ap (λ k. later 0 k) (sym same);
      }
      known_at (suc i) h =
          let known = known_at i (omega arith) in
          let l = one i h known in
          let d = does i h in
          record {
            matches = subst (λ st. Matches x (here (suc i)).now st) (sym (more i))
                (subst (λ s. Matches x (state_in z s) (state_after w 1 (now i))) (sym (next_state block made sizes z x time zero_wires first i)) l.matches);
            are = joined_below-suc i lines ∙ ap₂ (λ a b. a ++ b) known.are (d.traced (now i) (range i).bytes known.matches (olds_held i h known));
            left = λ m e. let same : t - suc i ≡ m = omega arith in ap (λ (st : State). st.aux) (more i) ∙ l.aux ∙ ap (λ k. later (suc i) k) same;
          }

      -- each step takes what the machine's does
      pub takes_at : (i : ℕ) → i < t → taken i ≡ words_in (word_taken w (now i))
      takes_at i h =
          let known = known_at i (omega arith) in
          taken_fits w (now i) (here i).takes (here i).word (later (suc i) (t - suc i)) (fits_aux i h known)
          ((does i h).reads (now i) (range i).bytes known.matches (olds_held i h known))

      -- the last step's answer is the run's
      pub accepts : (m : ℕ) → m + 1 ≡ t → (here m).answers ≡ true → Accepts w image x aux t (here m).value
      accepts m e a =
          let l = one m (omega arith) (known_at m (omega arith)) in
          subst (λ n. Accepts w image x aux n (here m).value) e (last_answers w m (start w image x aux) (here m).value (l.says a))

      -- which reads all words that are taken
      pub reads_all : Reads w image x aux t ≡ aux
      reads_all =
          let none_left : (now t).aux ≡ [] = (known_at t (omega arith)).left 0 (add-zero t) in
          taken_are_the_front w t (start w image x aux) ∙ ap (λ (l : List ℕ). take (length aux - length l) aux) none_left
          ∙ take_all (length aux - 0) aux (omega arith)
