-- That what was prepared assigns the values of a run's system.
use Rattle.tv_core.proofs.Common.{◌≡◌, ℕ, ◌+◌, ◌-◌, ◌*◌, ◌≤◌, ◌^◌, Bool, List, [], ◌∷◌, ◌++◌, length, map, All, refl, sym, ap, ap₂, ◌∙◌, subst, arith}
use Rattle.tv_core.proofs.Common.{append_assoc, length-map, slice_index, joined_below, Line}
use Rattle.std.proofs.Common.{replicate}
use Rattle.std.proofs.lemmas.List.Elements.{All-cons, All-nil, All-head, All-tail}
use Rattle.tv_stages.specs.declared.nets.Net.{Net}
use Rattle.tv_bits.specs.Bits.{bits_values}
use Rattle.tv_block.specs.Complete.{step_values}
use Rattle.tv_core.specs.declared.lines.PairNum.{PairNum}
use Rattle.tv_layout.proofs.Boot.{length-boot_lines}
use Rattle.tv_layout.proofs.Positions.{log_within}
use Rattle.tv_layout.proofs.RunLines.{run_placed, run_many}
use Rattle.tv_layout.proofs.Systems.{system_complete}
use Rattle.tv_layout.proofs.Whole.{few, short}
use Rattle.tv_layout.specs.Checks.{checks_of}
use Rattle.tv_layout.specs.Places.{WithinLimits, line_count, log_of, runs_like}
use Rattle.tv_layout.specs.RunInputs.{run_on}
use Rattle.tv_layout.specs.Systems.{run_values, system_of}
use Rattle.tv_layout.specs.Values.{fill, run_step_values as run_step}
use Rattle.tv_layout.specs.declared.places.TheConstants.{STATE_WIRES}
use Rattle.tv_lines.proofs.PackingLaws.{unpack_packed}
use Rattle.tv_lines.specs.PackedLines.{LineInRange, unpacked, packed_item, without_old}
use Rattle.tv_lines.specs.Placed.{LinesFrom}
use Rattle.tv_argument.proofs.Reached.{predecessors_right}
use Rattle.tv_argument.specs.Memory.{routed_values}
use Rattle.tv_argument.specs.Order.{argument_values, predecessors}
use Rattle.tv_stages.specs.Settings.{settings_of}
use Rattle.tv_stages.specs.Stages.{bit_in, IsReordering}
use Rattle.tv_step.proofs.PlaceLaws.{lines_are_three_a_step, states_are_one_more}
use Rattle.tv_step.specs.Cells.{boot_lines, run_lines}
use Rattle.tv_step.specs.Machine.{start, Accepts}
use Rattle.tv_step.specs.Range.{AreWords}
use Rattle.tv_step.specs.Trace.{lines_of, states_of}
use Rattle.tv_step.specs.declared.lines.TraceState.{TraceState}
use Rattle.tv_fill.proofs.PartValues.{parts_of}
use Rattle.tv_fill.proofs.TraceLaws.{steps_in_range, traced_steps}
use Rattle.tv_fill.specs.Filled.{front_values, filled_values, filled_lines, memory_values, PartsFit}
use Rattle.tv_fill.specs.TraceValues.{traced_values}

-- ---- lines in their places
LinesFrom-right : (t u : ℕ) (xs ys : List Line) → t + length xs ≡ u → LinesFrom t (xs ++ ys) → LinesFrom u ys
LinesFrom-right t u [] ys e h = let same : t ≡ u = omega arith in subst (λ n. LinesFrom n ys) same h
LinesFrom-right t u (x ∷ xs) ys e h = LinesFrom-right (t + 1) u xs ys (omega arith) h.2

all_in_range : (t : ℕ) (xs : List Line) → t + length xs ≤ 2 ^ 20 → LinesFrom t xs → All LineInRange xs
all_in_range t [] few h = All-nil LineInRange
all_in_range t (x ∷ xs) few h =
    let time = h.0 in
    All-cons LineInRange x xs (record { cell = h.1.cell; time = omega arith; old = h.1.old; new = h.1.new }) (all_in_range (t + 1) xs (omega arith) h.2)

-- ---- items
unpacked_items : (ls : List Line) → All LineInRange ls → map unpacked (map packed_item ls) ≡ map without_old ls
unpacked_items [] h = refl
unpacked_items (l ∷ ls) h =
    let range = All-head LineInRange l ls h in
    ap₂ (λ (a : Line) (b : List Line). a ∷ b)
    (unpack_packed (without_old l) (record { cell = range.cell; time = range.time; old = omega arith; new = range.new }))
    (unpacked_items ls (All-tail LineInRange l ls h))

old_left_out : (t : ℕ) (ls : List Line) → LinesFrom t ls → LinesFrom t (map without_old ls)
old_left_out t [] h = tt
old_left_out t (l ∷ ls) h = (h.0, record { cell = h.1.cell; old = omega arith; new = h.1.new }, old_left_out (t + 1) ls h.2)

-- items of the same lines
pub packed_as : (image x : List ℕ) (read lines : List Line) (items : List PairNum) → items ≡ map packed_item (filled_lines image x read)
    → read ≡ lines → items ≡ map packed_item (filled_lines image x lines)
packed_as image x read lines items is same = is ∙ ap (λ (ls : List Line). map packed_item (filled_lines image x ls)) same

module _ (w : ℕ) (net : Net) (image x aux : List ℕ) (t : ℕ) (fits : WithinLimits (runs_like w image x t)) (x_words : AreWords w x)
    (aux_words : AreWords w aux) where
  abbrev n : ℕ
  n = length x

  abbrev k : ℕ
  k = log_of (line_count (runs_like w image x t))

  abbrev step_lines : List Line
  step_lines = lines_of w (length x) (length image + length x) (start w image x aux) t

  steps_many : length step_lines ≡ 3 * t
  steps_many = lines_are_three_a_step w (length x) (length image + length x) (start w image x aux) t

  -- there is room for the lines, each of which is in range
  pub few_lines : line_count (runs_like w image x t) ≤ 2 ^ 20
  few_lines = few (runs_like w image x t) fits

  pub log_few : log_of (line_count (runs_like w image x t)) ≤ 20
  log_few = log_within (line_count (runs_like w image x t)) few_lines

  pub lines_fit : (lines : List Line) → lines ≡ step_lines → length image + length x + length lines ≤ 2 ^ 20
  lines_fit lines are = let many = ap length are ∙ steps_many in omega (arith, few_lines)

  -- all lines of the run
  abbrev whole : List Line
  whole = run_lines w image x aux t

  placed : LinesFrom 0 whole
  placed = run_placed w image x aux t fits x_words aux_words

  whole_few : length whole ≤ 2 ^ 20
  whole_few = omega (arith, run_many w image x aux t fits x_words aux_words, few_lines)

  whole_in_range : All LineInRange whole
  whole_in_range = all_in_range 0 whole (omega (arith, whole_few)) placed

  pub lines_in_range : (lines : List Line) → lines ≡ step_lines → All LineInRange lines
  lines_in_range lines are =
      let boot = length-boot_lines image x in
      let own = LinesFrom-right 0 (length image + length x) (boot_lines image x) step_lines (omega (arith, boot)) placed in
      rw are (all_in_range (length image + length x) step_lines (omega (arith, steps_many, few_lines)) own)

  module _ (lines : List Line) (lines_are : lines ≡ step_lines) (states : List TraceState)
      (states_are : states ≡ states_of w (length x) (length aux) (start w image x aux) t)
      (items : List PairNum) (items_are : items ≡ map packed_item (filled_lines image x lines)) where
    filled_whole : filled_lines image x lines ≡ whole
    filled_whole = ap (λ (ls : List Line). filled_lines image x ls) lines_are

    -- the items are those of all lines of the run
    all_packed : items ≡ map packed_item whole
    all_packed = items_are ∙ ap (map packed_item) filled_whole

    unpacked_are : map unpacked items ≡ map without_old whole
    unpacked_are = ap (map unpacked) all_packed ∙ unpacked_items whole whole_in_range

    items_many : length items ≡ length whole
    items_many = ap length all_packed ∙ length-map whole packed_item

    pub items_few : length items ≤ 2 ^ 20
    items_few = omega (arith, items_many, whole_few)

    pub items_placed : LinesFrom 0 (map unpacked items)
    items_placed = subst (LinesFrom 0) (sym unpacked_are) (old_left_out 0 whole placed)

    -- so are their predecessors
    order_is : predecessors (map unpacked items) ≡ predecessors whole
    order_is = ap predecessors unpacked_are ∙ predecessors_right.items whole

    pub permutes : IsReordering (length (predecessors (map unpacked items))) (λ i. slice_index (predecessors (map unpacked items)) i)
    permutes =
        let long = ap length order_is ∙ predecessors_right.long whole in
        rw (long, order_is) (predecessors_right.permutes whole whole_few placed)

    -- the settings bring the values of the memory argument
    brought : (bits : List Bool) → bits ≡ settings_of net (predecessors (map unpacked items)) → (v : ℕ)
        → memory_values (parts_of v t k net image x aux states lines items bits) ≡ argument_values net (checks_of (runs_like w image x t)) whole
    brought bits bits_are v =
        let bits_is : bits ≡ settings_of net (predecessors whole) = bits_are ∙ ap (settings_of net) order_is in
        let checks = checks_of (runs_like w image x t) in
        ap₂ (λ (n : ℕ) (b : List Bool). routed_values net checks (bit_in net n b) items (filled_lines image x lines)) items_many bits_is
        ∙ ap₂ (λ (ps : List PairNum) (ls : List Line). routed_values net checks (bit_in net (length whole) (settings_of net (predecessors whole))) ps ls)
        all_packed filled_whole
        ∙ predecessors_right.reached net checks whole whole_few placed

    -- and the values are those of the run
    pub values_are : (bits : List Bool) → bits ≡ settings_of net (predecessors (map unpacked items)) → (v : ℕ)
        → filled_values w (parts_of v t k net image x aux states lines items bits) ≡ run_values net (run_on w image x aux t) v
    unfolding filled_values fill
    values_are bits bits_are v =
        let tape_bits : List ℕ = joined_below (length x) (λ i. bits_values (slice_index x i) w) in
        let steps : List ℕ = joined_below t (run_step (step_values w) w image x aux) in
        let memory : List ℕ = argument_values net (checks_of (runs_like w image x t)) whole in
        let known : joined_below t (traced_values w (length x) states aux lines) ≡ steps =
        ap₂ (λ (s : List TraceState) (ls : List Line). joined_below t (traced_values w (length x) s aux ls)) states_are lines_are
        ∙ traced_steps w image x aux t fits.width (short (runs_like w image x t) fits) x_words aux_words in
        ap₂ (λ (a b : List ℕ). front_values w v x ++ (a ++ b)) known (brought bits bits_are v)
        ∙ append_assoc (1 ∷ v ∷ x) (tape_bits ++ replicate STATE_WIRES 0) (steps ++ memory)
        ∙ ap (λ (l : List ℕ). (1 ∷ v ∷ x) ++ l) (append_assoc tape_bits (replicate STATE_WIRES 0) (steps ++ memory))

    -- and there are as many as the system has wires
    pub parts_fit : (bits : List Bool) → bits ≡ settings_of net (predecessors (map unpacked items)) → (v : ℕ) → Accepts w image x aux t v
        → (count : ℕ) → count ≡ (system_of net (runs_like w image x t)).wires
        → PartsFit w (parts_of v t k net image x aux states lines items bits) count
    parts_fit bits bits_are v accepts count count_is = record {
      width = fits.width;
      short = short (runs_like w image x t) fits;
      few = log_few;
      states_many = ap length states_are ∙ states_are_one_more w (length x) (length aux) (start w image x aux) t;
      lines_many = ap length lines_are ∙ steps_many;
      items_many = omega (arith, items_many, run_many w image x aux t fits x_words aux_words, ap length lines_are, steps_many);
      items_few = items_few;
      steps = λ i h. rw (states_are, lines_are) (steps_in_range w image x aux t fits.width (short (runs_like w image x t) fits) x_words aux_words i h);
      counted = count_is ∙ sym (system_complete net (run_on w image x aux t) v fits x_words aux_words accepts).sat.each_wire
          ∙ sym (ap length (values_are bits bits_are v));
    }
