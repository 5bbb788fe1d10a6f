-- Steps in a row, in an assignment that satisfies their constraints.
use Rattle.tv_core.proofs.Common.{◌≡◌, ℕ, zero, suc, ◌+◌, ◌*◌, ◌%◌, ◌<◌, ◌≤◌, ◌^◌, Bool, true, false, List, [], ◌∷◌, ◌++◌, length, map, refl, sym, ap, ap₂, ◌∙◌}
use Rattle.tv_core.proofs.Common.{arith, subst, inl, inr, joined_below, turns, pure, ◌>>=◌, Assigns, Meets, Line, IsWidth}
use Rattle.std.proofs.lemmas.List.{map-append}
use Rattle.std.proofs.lemmas.List.Elements.{All-replicate, All-nil, All-cons, All-append}
use Rattle.std.specs.Prelude.{if◌then◌else◌}
use Rattle.tv_core.proofs.JoinedLaws.{joined_below-zero, joined_below-suc, length-joined_below}
use Rattle.tv_core.proofs.LoopLaws.{turn_met}
use Rattle.tv_core.proofs.MeetsLaws.{parts}
use Rattle.tv_core.specs.declared.lines.LineLc.{LineLc}
use Rattle.tv_lines.specs.PackedLines.{line_value}
use Rattle.tv_lines.specs.Placed.{line_in, LinesFrom, IsLine as Fits}
use Rattle.tv_numbers.specs.Laws.{DoesStep}
use Rattle.tv_numbers.specs.Numbers.{Transition, lines_in}
use Rattle.tv_numbers.specs.Views.{ViewInRange}
use Rattle.tv_step.specs.Cells.{IsLine}
use Rattle.tv_step.specs.Range.{AreWords}
use Rattle.tv_step.specs.Rows.{instruction_size}
use Rattle.tv_layout.proofs.Boot.{LinesFrom-append}
use Rattle.tv_layout.proofs.FirstState.{HoldsZeros, first_view}
use Rattle.tv_inputs.specs.States.{state_in}
use Rattle.tv_block.specs.Block.{IsMachineStep, transition_in, reached}
use Rattle.tv_layout.proofs.Blocks.{BlockSizes, HasCells, BlockIsSound}
use Rattle.tv_layout.proofs.TakenWords.{taken_in}
use Rattle.tv_layout.specs.Blocks.{BlockCircuit}
use Rattle.tv_layout.specs.Layout.{before_steps, step_of, steps_of, state_at, block_at}
use Rattle.tv_block.specs.declared.records.Block.{Block}
use Rattle.tv_inputs.specs.declared.records.StateWires.{StateWires}
use Rattle.tv_word.proofs.WidthLaws.{word_small}

zero_word : (w : ℕ) → IsWidth w → 0 < 2 ^ w
zero_word w (inl e) = rw e (omega arith)
zero_word w (inr e) = rw e (omega arith)

zero_aligned : (w : ℕ) → IsWidth w → 0 % instruction_size w ≡ 0
zero_aligned w (inl e) = rw e refl
zero_aligned w (inr e) = rw e refl

-- ---- lists
-- three lines
three_lines : (f : LineLc → Line) (ls : List LineLc) → length ls ≡ 3 → map f ls ≡ f (line_in ls 0) ∷ f (line_in ls 1) ∷ f (line_in ls 2) ∷ []
three_lines f [] e = absurd (omega arith)
three_lines f (a ∷ []) e = absurd (omega arith)
three_lines f (a ∷ b ∷ []) e = absurd (omega arith)
three_lines f (a ∷ b ∷ c ∷ []) e = refl
three_lines f (a ∷ b ∷ c ∷ x ∷ ls) e = absurd (omega arith)

-- what is mapped over lists one after another
pub map-joined : {A B : Type 0} (f : A → B) (g : ℕ → List A) (h : ℕ → List B) → ((i : ℕ) → map f (g i) ≡ h i) → (n : ℕ)
    → map f (joined_below n g) ≡ joined_below n h
map-joined f g h same zero = ap (map f) (joined_below-zero g) ∙ sym (joined_below-zero h)
map-joined f g h same (suc n) =
    ap (map f) (joined_below-suc n g) ∙ map-append f (joined_below n g) (g n) ∙ ap₂ (λ a b. a ++ b) (map-joined f g h same n) (same n)
    ∙ sym (joined_below-suc n h)

-- ---- the start
pub start_held : (block : BlockCircuit) (z x : List ℕ) (time zero_wires first w : ℕ) → IsWidth w → HoldsZeros z zero_wires
    → ViewInRange w (length x) (state_in z (state_at block (length x) time zero_wires first 0))
start_held block z x time zero_wires first w width zeros_there =
    let some = zero_word w width in
    subst (ViewInRange w (length x)) (sym (first_view z zero_wires zeros_there block (length x) time first)) (record {
      pc_fits = some;
      pc_aligned = zero_aligned w width;
      registers = refl;
      words = All-replicate (λ v. v < 2 ^ w) 16 0 some;
      flag = omega arith;
      taken = omega arith;
      ended = omega arith;
    })

module _ (block : BlockCircuit) (made : ℕ) (sizes : BlockSizes block made) (z x : List ℕ) (time zero_wires first : ℕ) where
  -- the wires of the state before step i, the step, and what it did
  abbrev pub state : ℕ → StateWires
  state i = state_at block (length x) time zero_wires first i

  abbrev pub step : ℕ → Block
  step i = block_at block (length x) time zero_wires first i

  abbrev pub transition_at : ℕ → Transition
  transition_at i = transition_in z (state i) (step i)

  pub next_state : (i : ℕ) → state (suc i) ≡ (step i).next
  unfolding steps_of turns pure ◌>>=◌
  next_state i = refl

  pub last_step : (i : ℕ) → (steps_of block (length x) time (suc i) zero_wires first).answer ≡ reached (step i)
  unfolding steps_of turns pure ◌>>=◌
  last_step i = refl

  -- all lines of n steps
  pub lines_in_transition : (n : ℕ) → map (line_value z) (joined_below n (λ i. (step i).lines)) ≡ joined_below n (λ i. lines_in (transition_at i))
  lines_in_transition n =
      map-joined (line_value z) (λ i. (step i).lines) (λ i. lines_in (transition_at i))
      (λ i. three_lines (line_value z) (step i).lines
      (sizes.three (length x) (state i) (time + 3 * i) (steps_of block (length x) time i zero_wires first).next)) n

  pub length-lines_in_transition : (n : ℕ) → length (joined_below n (λ i. lines_in (transition_at i))) ≡ n * 3
  length-lines_in_transition n = length-joined_below n 3 (λ i. lines_in (transition_at i)) (λ i h. refl)

  module _ (w : ℕ) (width : IsWidth w) (law : BlockIsSound w block) (t : ℕ) (assigns : Assigns z) (short : length x < 2 ^ 29) (early : time + 3 * t < 2 ^ 32)
      (zeros_there : HoldsZeros z zero_wires) (met : Meets z (steps_of block (length x) time t zero_wires first).list) where
    step_met : (i : ℕ) → i < t → Meets z (block (length x) (state i) (time + 3 * i) (steps_of block (length x) time i zero_wires first).next).list
    unfolding steps_of pure
    step_met i h = (parts z _ (λ b. pure (reached b)) _ (turn_met z (step_of block (length x) time) (before_steps zero_wires) first t i h met)).0

    step_sound : (i : ℕ) → i < t → ViewInRange w (length x) (state_in z (state i)) → IsMachineStep w z x (time + 3 * i) (state i) (step i)
    step_sound i h held = (law z x (state i) (time + 3 * i) _ short (omega arith) assigns held (step_met i h)).machine

    -- the state before each step is in range
    pub held : (i : ℕ) → i ≤ t → ViewInRange w (length x) (state_in z (state i))
    held zero h = start_held block z x time zero_wires first w width zeros_there
    held (suc i) h = subst (λ s. ViewInRange w (length x) (state_in z s)) (sym (next_state i)) (step_sound i (omega arith) (held i (omega arith))).range

    pub does : (i : ℕ) → i < t → DoesStep w x (time + 3 * i) (transition_at i)
    does i h = (step_sound i h (held i (omega arith))).does

    -- the cells of its lines
    pub cells : (i : ℕ) → i < t → HasCells w (transition_at i)
    cells i h = (law z x (state i) (time + 3 * i) _ short (omega arith) assigns (held i (omega arith)) (step_met i h)).cells

    -- lines in their places
    fits : (line : Line) → IsLine w line → Fits line
    fits line l = record { cell = l.cell; old = word_small w width line.old l.old; new = word_small w width line.new l.new }

    pub lines_placed : (n : ℕ) → n ≤ t → LinesFrom time (joined_below n (λ i. lines_in (transition_at i)))
    lines_placed zero h = subst (LinesFrom time) (sym (joined_below-zero (λ i. lines_in (transition_at i)))) tt
    lines_placed (suc n) h =
        let d = does n (omega arith) in
        let here : LinesFrom (time + 3 * n) (lines_in (transition_at n)) = (
          d.times.0,
          fits (transition_at n).first d.lines.0,
          (
            d.times.1,
            fits (transition_at n).second d.lines.1,
            (d.times.2 ∙ omega arith, fits (transition_at n).data_line d.lines.2, tt),
          ),
        ) in
        subst (LinesFrom time) (sym (joined_below-suc n (λ i. lines_in (transition_at i))))
        (LinesFrom-append time (time + 3 * n) (joined_below n (λ i. lines_in (transition_at i))) (lines_in (transition_at n))
        (omega (arith, length-lines_in_transition n))
        (lines_placed n (omega arith)) here)

    -- the words that they take are words
    one_word : (i : ℕ) → i < t → (takes : Bool) → (transition_at i).takes ≡ takes
        → AreWords w (if (transition_at i).takes then (transition_at i).word ∷ [] else [])
    one_word i h true e = subst (λ b. AreWords w (if b then (transition_at i).word ∷ [] else [])) (sym e)
        (All-cons (λ v. v < 2 ^ w) (transition_at i).word [] ((does i h).word e) (All-nil (λ v. v < 2 ^ w)))
    one_word i h false e = subst (λ b. AreWords w (if b then (transition_at i).word ∷ [] else [])) (sym e) (All-nil (λ v. v < 2 ^ w))

    pub taken_words : (n : ℕ) → n ≤ t → AreWords w (joined_below n (λ i. taken_in z (step i).spot))
    taken_words zero h = subst (AreWords w) (sym (joined_below-zero (λ i. taken_in z (step i).spot))) (All-nil (λ v. v < 2 ^ w))
    taken_words (suc n) h =
        subst (AreWords w) (sym (joined_below-suc n (λ i. taken_in z (step i).spot)))
        (All-append (λ v. v < 2 ^ w) (joined_below n (λ i. taken_in z (step i).spot)) (taken_in z (step n).spot) (taken_words n (omega arith))
        (one_word n (omega arith) (transition_at n).takes refl))
