-- Lines of a system are of the kinds by which they are checked, and near their predecessors.
use Rattle.tv_core.proofs.Common.{◌≡◌, ◌≢◌, ℕ, ◌+◌, ◌-◌, ◌*◌, ◌/◌, ◌<◌, ◌≤◌, ◌^◌, List, length, map, inl, inr, refl, sym, ap, ◌∙◌, subst, arith, cases_eq}
use Rattle.tv_core.proofs.Common.{cases_lt, ne_eqb, eq-eqb, slice_index, Assigns, Meets, HasFrom, Line, for_widths, IsWidth}
use Rattle.std.proofs.Common.{zero-add}
use Rattle.tv_core.specs.declared.limits.TheConstants.{CELL_BITS, TAPE_CELLS}
use Rattle.tv_lines.specs.Ordered.{key}
use Rattle.tv_lines.specs.PackedLines.{line_value}
use Rattle.tv_lines.specs.Placed.{zero_line, number_in}
use Rattle.tv_argument.proofs.Parts.{placed}
use Rattle.tv_argument.specs.Checks.{IsOfKind, AreOfKinds, HasCell, IsNear, AreNear}
use Rattle.tv_argument.specs.declared.kinds.Kind.{Kind}
use Rattle.tv_argument.specs.declared.kinds.Kind.TheVariants.{ZeroOld, Within}
use Rattle.tv_numbers.specs.Numbers.{Transition, lines_in}
use Rattle.tv_numbers.specs.Views.{View}
use Rattle.tv_step.specs.Range.{AreWords}
use Rattle.tv_step.specs.Rows.{word_size}
use Rattle.tv_inputs.specs.States.{state_in}
use Rattle.tv_layout.proofs.Blocks.{BlockSizes, HasCells, BlockIsSound}
use Rattle.tv_layout.proofs.LineKinds.{of_image, first_boot, later_boot, least_first, some_first, later_first}
use Rattle.tv_layout.proofs.MemoryCosts.{tape_kind, first_kinds, second_kinds, third_kinds}
use Rattle.tv_layout.proofs.NumberPlaces.{written_at, all, long, at_image, at_tape, at_step, each_checked, below_three}
use Rattle.tv_layout.proofs.FirstState.{HoldsZeros, first_view}
use Rattle.tv_layout.proofs.Positions.{log_above, log_within}
use Rattle.tv_layout.proofs.Steps.{transition_at, cells}
use Rattle.tv_layout.proofs.Whole.{few, short, early, own_valued, own_placed}
use Rattle.tv_layout.specs.Blocks.{BlockCircuit}
use Rattle.tv_layout.specs.Checks.{least_place, boot_kind, first_kind, line_kind, checks_of}
use Rattle.tv_layout.specs.Layout.{steps_of, state_at, own_lines}
use Rattle.tv_layout.specs.Places.{WithinLimits, boot_count, line_count, log_of, tape_at, zero_wires_at, first_at, runs_like}

-- ---- the least line
least_some : (words n : ℕ) → words ≢ 0 → least_place words n ≡ 0
least_some words n h = rw (ne_eqb words 0 h) refl

least_none : (words n : ℕ) → words ≡ 0 → least_place words n ≡ n
least_none words n h = rw (eq-eqb words 0 h) refl

-- a place after the image's first line, of the tape or after a step's first line, is another
not_least : (words n i : ℕ) → (words ≢ 0 → i ≢ 0) → (words ≡ 0 → i ≢ n) → i ≢ least_place words n
not_least words n i a b same = elim (cases_eq words 0) [
  | inl none ↦ b none (same ∙ least_none words n none)
  | inr some ↦ a some (same ∙ least_some words n some)
]

-- ---- kinds of lines
boot_is : (least place cell i word : ℕ) (first : Kind) → cell + i < 2 ^ 31 → (i ≡ 0 → IsOfKind least place (written_at (cell + i) place word) first)
    → (i ≢ 0 → place ≢ least) → IsOfKind least place (written_at (cell + i) place word) (boot_kind first cell i)
boot_is least place cell i word first small begins other = elim (cases_eq i 0) [
  | inl e ↦ subst (IsOfKind least place (written_at (cell + i) place word)) (sym (first_boot first cell i e)) (begins e)
  | inr e ↦
      let before : cell + i - 1 < 2 ^ 31 = omega (arith, small) in
      let next : cell + i ≡ cell + i - 1 + 1 = omega (arith, e) in
      subst (IsOfKind least place (written_at (cell + i) place word)) (sym (later_boot first cell i e)) (other e, before, next, refl)
]

start_pc : (block : BlockCircuit) (z x : List ℕ) (time zero_wires first : ℕ) → HoldsZeros z zero_wires
    → (state_in z (state_at block (length x) time zero_wires first 0)).pc ≡ 0
start_pc block z x time zero_wires first held = ap (λ (v : View). v.pc) (first_view z zero_wires held block (length x) time first)

zero_cell : (w : ℕ) → IsWidth w → 0 / word_size w ≡ 0
zero_cell w width = for_widths (λ w. 0 / word_size w ≡ 0) refl refl w width

module _ (w : ℕ) (block : BlockCircuit) (made : ℕ) (sizes : BlockSizes block made) (law : BlockIsSound w block) (image x z : List ℕ) (t : ℕ)
    (fits : WithinLimits (runs_like w image x t))
    (assigns : Assigns z) (words : AreWords w x) (has : HasFrom z tape_at x) (zeros_there : HoldsZeros z (zero_wires_at w (length x)))
    (met : Meets z (steps_of block (length x) (boot_count image (length x)) t (zero_wires_at w (length x)) (first_at w (length x))).list) where
  abbrev count : ℕ
  count = line_count (runs_like w image x t)

  abbrev k : ℕ
  k = log_of (line_count (runs_like w image x t))

  abbrev least : ℕ
  least = least_place (length image) (length x)

  abbrev here : ℕ → Transition
  here i = transition_at block made sizes z x (boot_count image (length x)) (zero_wires_at w (length x)) (first_at w (length x)) i

  abbrev f : ℕ → List Line
  f i = lines_in (transition_at block made sizes z x (boot_count image (length x)) (zero_wires_at w (length x)) (first_at w (length x)) i)

  three : (i : ℕ) → length (f i) ≡ 3
  three i = refl

  abbrev numbers : List Line
  numbers = all image x t f three

  cells_at : (i : ℕ) → i < t → HasCells w (here i)
  cells_at i h =
      cells block made sizes z x (boot_count image (length x)) (zero_wires_at w (length x)) (first_at w (length x)) w fits.width law t assigns
      (short (runs_like w image x t) fits) (early (runs_like w image x t) fits) zeros_there met i h

  many : length numbers ≡ count
  many = long image x t f three

  within : count ≤ 2 ^ k
  within = log_above count (few (runs_like w image x t) fits)

  small : k ≤ 20
  small = log_within count (few (runs_like w image x t) fits)

  time_at : (i : ℕ) → i < length numbers → (number_in numbers i).time ≡ i
  time_at i h = (placed 0 numbers (own_placed w block made sizes law image x z t fits assigns words has zeros_there met) i zero_line h).0 ∙ omega arith

  -- ---- of their kinds
  on_image : (i : ℕ) → i < length image → IsOfKind least i (written_at i i (slice_index image i)) (line_kind k (length image) (length x) i)
  on_image i h =
      let some : length image ≢ 0 = λ e. omega (arith, e, h) in
      subst (IsOfKind least i (written_at i i (slice_index image i))) (sym (of_image k (length image) (length x) i h))
      (subst (λ c. IsOfKind least i (written_at c i (slice_index image i)) (boot_kind ZeroOld 0 i)) (zero-add i)
      (boot_is least i 0 i (slice_index image i) ZeroOld (omega (arith, h, fits.image_fits))
      (λ e. (e ∙ sym (least_some (length image) (length x) some), refl))
      (λ e. not_least (length image) (length x) i (λ _. e) (λ none. absurd (some none)))))

  on_tape : (i : ℕ) → i < length x → IsOfKind least (length image + i) (written_at (TAPE_CELLS + i) (length image + i) (slice_index x i))
      (line_kind k (length image) (length x) (length image + i))
  on_tape i h =
      let other : length image + i ≢ least =
      not_least (length image) (length x) (length image + i) (λ some e. some (omega (arith, e))) (λ none e. omega (arith, none, e, h)) in
      subst (IsOfKind least (length image + i) (written_at (TAPE_CELLS + i) (length image + i) (slice_index x i)))
      (sym (tape_kind k (length image) (length x) i h))
      (boot_is least (length image + i) TAPE_CELLS i (slice_index x i) (Within CELL_BITS) (omega (arith, h, fits.tape_fits)) (λ e. (other, omega arith))
      (λ e. other))

  after : (j : ℕ) → j ≢ 0 → length image + length x + j ≢ least
  after j h = not_least (length image) (length x) (length image + length x + j) (λ some e. some (omega (arith, e))) (λ none e. h (omega (arith, none, e)))

  some_words : (j : ℕ) → length image ≢ 0 → length image + length x + j ≢ least
  some_words j some = not_least (length image) (length x) (length image + length x + j) (λ _ e. some (omega (arith, e))) (λ none. absurd (some none))

  begins : (j : ℕ) (line : Line) → IsOfKind least (length image + length x + (3 * j + 0)) line (first_kind (length image) j)
  begins j line = elim (cases_eq (length image) 0) [
    | inl none ↦ elim (cases_eq j 0) [
      | inl e ↦
          subst (IsOfKind least (length image + length x + (3 * j + 0)) line) (sym (least_first (length image) j none e))
          (let place : length image + length x + (3 * j + 0) ≡ length x = omega (arith, none, e) in place ∙ sym (least_none (length image) (length x) none))
      | inr e ↦
          let far : 3 * j + 0 ≢ 0 = λ same. e (omega (arith, same)) in
          subst (IsOfKind least (length image + length x + (3 * j + 0)) line) (sym (later_first (length image) j e)) (after (3 * j + 0) far, omega arith)
    ]
    | inr some ↦ subst (IsOfKind least (length image + length x + (3 * j + 0)) line) (sym (some_first (length image) j some))
        (some_words (3 * j + 0) some, omega arith)
  ]

  first_at_step : (j : ℕ) → line_kind k (length image) (length x) (length image + length x + (3 * j + 0)) ≡ first_kind (length image) j
  first_at_step j = let e : 3 * j + 0 ≡ 3 * j = omega arith in ap (λ p. line_kind k (length image) (length x) (length image + length x + p)) e
      ∙ first_kinds k (length image) (length x) j

  on_step : (j r : ℕ) → j < t → r < 3 → IsOfKind least (length image + length x + (3 * j + r)) (number_in (f j) r)
      (line_kind k (length image) (length x) (length image + length x + (3 * j + r)))
  on_step j r h i =
      below_three (λ r. IsOfKind least (length image + length x + (3 * j + r)) (number_in (f j) r)
      (line_kind k (length image) (length x) (length image + length x + (3 * j + r))))
      (subst (IsOfKind least (length image + length x + (3 * j + 0)) (number_in (f j) 0)) (sym (first_at_step j)) (begins j (number_in (f j) 0)))
      (subst (IsOfKind least (length image + length x + (3 * j + 1)) (number_in (f j) 1)) (sym (second_kinds k (length image) (length x) j))
      (after (3 * j + 1) (λ e. omega (arith, e)), omega (arith, small)))
      (subst (IsOfKind least (length image + length x + (3 * j + 2)) (number_in (f j) 2)) (sym (third_kinds k (length image) (length x) j))
      (after (3 * j + 2) (λ e. omega (arith, e)), omega arith))
      r i

  least_checked : least < length numbers
  least_checked = elim (cases_eq (length image) 0) [
    | inl none ↦ let at = least_none (length image) (length x) none in omega (arith, at, none, many, fits.some)
    | inr some ↦ let at = least_some (length image) (length x) some in omega (arith, at, some, many)
  ]

  numbers_of_kinds : AreOfKinds (checks_of (runs_like w image x t)) numbers
  numbers_of_kinds = record {
    least = least_checked;
    kinds = each_checked image x t f three
        (λ i line. IsOfKind least i line (line_kind k (length image) (length x) i)) on_image on_tape on_step;
  }

  pub are_of_kinds : AreOfKinds (checks_of (runs_like w image x t)) (map (line_value z) (own_lines block (runs_like w image x t)))
  are_of_kinds = subst (AreOfKinds (checks_of (runs_like w image x t)))
      (sym (own_valued w block made sizes law image x z t fits assigns words has zeros_there met)) numbers_of_kinds

  -- ---- near their predecessors
  cell_of_image : (i : ℕ) → i < length image → (number_in numbers i).cell ≡ i
  cell_of_image i h = ap (λ (l : Line). l.cell) (at_image image x t f three i h)

  cell_of_tape : (i : ℕ) → i < length x → (number_in numbers (length image + i)).cell ≡ TAPE_CELLS + i
  cell_of_tape i h = ap (λ (l : Line). l.cell) (at_tape image x t f three i h)

  near_boot : (place cell i : ℕ) (first : Kind) → IsNear numbers place first
      → (i ≢ 0 → HasCell numbers (cell + i - 1) × ((j : ℕ) → j < place → (number_in numbers j).cell ≢ (number_in numbers place).cell))
      → IsNear numbers place (boot_kind first cell i)
  near_boot place cell i first a b = elim (cases_eq i 0) [
    | inl e ↦ subst (IsNear numbers place) (sym (first_boot first cell i e)) a
    | inr e ↦ subst (IsNear numbers place) (sym (later_boot first cell i e)) (b e)
  ]

  image_near : (i : ℕ) → i < length image → IsNear numbers i (line_kind k (length image) (length x) i)
  image_near i h =
      subst (IsNear numbers i) (sym (of_image k (length image) (length x) i h))
      (near_boot i 0 i ZeroOld tt (λ e. (
        record { place = i - 1; below = omega (arith, many, h, e); is = cell_of_image (i - 1) (omega (arith, h)) ∙ omega arith },
        λ j l same. omega (arith, cell_of_image j (omega (arith, l, h)), cell_of_image i h, same, l),
      )))

  tape_near : (i : ℕ) → i < length x → IsNear numbers (length image + i) (line_kind k (length image) (length x) (length image + i))
  tape_near i h =
      subst (IsNear numbers (length image + i)) (sym (tape_kind k (length image) (length x) i h))
      (near_boot (length image + i) TAPE_CELLS i (Within CELL_BITS) (inl refl) (λ e.
      let before : i - 1 < length x = omega (arith, h) in
      let at : TAPE_CELLS + (i - 1) ≡ TAPE_CELLS + i - 1 = omega (arith, e) in (
        record { place = length image + (i - 1); below = omega (arith, many, h, e); is = cell_of_tape (i - 1) before ∙ at },
        λ j l same. elim (cases_lt j (length image)) [
          | inl booted ↦ omega (arith, cell_of_image j booted, cell_of_tape i h, same, booted, fits.image_fits)
          | inr past ↦
              let p : length image + (j - length image) ≡ j = omega (arith, past) in
              let low : j - length image < i = omega (arith, l, past) in
              let c : (number_in numbers j).cell ≡ TAPE_CELLS + (j - length image) = ap (λ q. (number_in numbers q).cell) (sym p)
              ∙ cell_of_tape (j - length image) (omega (arith, low, h)) in
              omega (arith, c, cell_of_tape i h, same, low)
        ],
      )))

  cell_of_step : (j r : ℕ) → j < t → r < 3 → (number_in numbers (length image + length x + (3 * j + r))).cell ≡ (number_in (f j) r).cell
  cell_of_step j r h i = ap (λ (l : Line). l.cell) (at_step image x t f three j r h i)

  second_near : (j : ℕ) → j < t → IsNear numbers (length image + length x + (3 * j + 1)) (Within k)
  second_near j h =
      let at = cells_at j h in
      let fetched : HasCell numbers (here j).first.cell = record {
        place = length image + length x + (3 * j + 0);
        below = omega (arith, many, h);
        is = cell_of_step j 0 h (omega arith);
      } in
      let place : length image + length x + (3 * j + 1) < 2 ^ k = omega (arith, within, h) in
      inr (place, ((here j).first.cell, cell_of_step j 1 h (omega arith) ∙ at.second, fetched))

  far_near : (place words step : ℕ) → IsNear numbers place (first_kind words step)
  far_near place words step = elim (cases_eq words 0) [
    | inl none ↦ elim (cases_eq step 0) [
      | inl e ↦ subst (IsNear numbers place) (sym (least_first words step none e)) tt
      | inr e ↦ subst (IsNear numbers place) (sym (later_first words step e)) (inl refl)
    ]
    | inr some ↦ subst (IsNear numbers place) (sym (some_first words step some)) (inl refl)
  ]

  step_near : (j r : ℕ) → j < t → r < 3 → IsNear numbers (length image + length x + (3 * j + r))
      (line_kind k (length image) (length x) (length image + length x + (3 * j + r)))
  step_near j r h i =
      below_three (λ r. IsNear numbers (length image + length x + (3 * j + r)) (line_kind k (length image) (length x) (length image + length x + (3 * j + r))))
      (subst (IsNear numbers (length image + length x + (3 * j + 0))) (sym (first_at_step j))
      (far_near (length image + length x + (3 * j + 0)) (length image) j))
      (subst (IsNear numbers (length image + length x + (3 * j + 1))) (sym (second_kinds k (length image) (length x) j)) (second_near j h))
      (subst (IsNear numbers (length image + length x + (3 * j + 2))) (sym (third_kinds k (length image) (length x) j)) (inl refl))
      r i

  -- the least line's key
  first_key : length image ≡ 0 → key (number_in numbers (length x)) ≤ length x
  first_key none =
      let place : length image + length x + (3 * 0 + 0) ≡ length x = omega (arith, none) in
      let there : length x < length numbers = omega (arith, many, none, fits.some) in
      let cell : (number_in numbers (length x)).cell ≡ 0 =
      ap (λ p. (number_in numbers p).cell) (sym place) ∙ cell_of_step 0 0 (omega (arith, fits.some)) (omega arith)
      ∙ (cells_at 0 (omega (arith, fits.some))).first
      ∙ ap (λ pc. pc / word_size w) (start_pc block z x (boot_count image (length x)) (zero_wires_at w (length x)) (first_at w (length x)) zeros_there)
      ∙ zero_cell w fits.width in
      omega (arith, cell, time_at (length x) there)

  other_key : length image ≡ 0 → (i : ℕ) → i < length numbers → length x ≤ key (number_in numbers i)
  other_key none i h = elim (cases_lt i (length x)) [
    | inl tape ↦
        let e : length image + i ≡ i = omega (arith, none) in
        let cell : (number_in numbers i).cell ≡ TAPE_CELLS + i = ap (λ p. (number_in numbers p).cell) (sym e) ∙ cell_of_tape i tape in
        omega (arith, cell, fits.tape_fits)
    | inr past ↦ omega (arith, time_at i h, past)
  ]

  least_key : (i : ℕ) → i < length numbers → key (number_in numbers least) ≤ key (number_in numbers i)
  least_key i h = elim (cases_eq (length image) 0) [
    | inl none ↦
        subst (λ a. key (number_in numbers a) ≤ key (number_in numbers i)) (sym (least_none (length image) (length x) none))
        (let a = first_key none in let b = other_key none i h in omega (arith, a, b))
    | inr some ↦
        let zero_key : key (number_in numbers 0)
        ≡ 0 = omega (
          arith,
          ap (λ (l : Line). l.cell) (at_image image x t f three 0 (omega (arith, some))),
          ap (λ (l : Line). l.time) (at_image image x t f three 0 (omega (arith, some))),
        ) in
        subst (λ a. key (number_in numbers a) ≤ key (number_in numbers i)) (sym (least_some (length image) (length x) some)) (omega (arith, zero_key))
  ]

  numbers_near : AreNear (checks_of (runs_like w image x t)) numbers
  numbers_near = record {
    least = least_key;
    kinds = each_checked image x t f three
        (λ i _. IsNear numbers i (line_kind k (length image) (length x) i)) image_near tape_near step_near;
  }

  pub are_near : AreNear (checks_of (runs_like w image x t)) (map (line_value z) (own_lines block (runs_like w image x t)))
  are_near = subst (AreNear (checks_of (runs_like w image x t)))
      (sym (own_valued w block made sizes law image x z t fits assigns words has zeros_there met)) numbers_near
