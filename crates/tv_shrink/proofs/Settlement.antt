-- What is left once a pass has run, its wires numbered anew.
use Rattle.tv_core.proofs.Common.{◌≡◌, ℕ, ◌+◌, ◌<◌, ◌≤◌, List, ◌∷◌, Option, Some, None, refl, sym, ◌∙◌, ap, ap₂, subst, [], arith, true, map, length}
use Rattle.tv_core.proofs.Common.{range_with_len, length-map, Combination, Constraint}
use Rattle.std.proofs.Common.{◌&&◌}
use Rattle.std.specs.List.{AllByRecursion, filter_map, fold, list_all}
use Rattle.std.specs.Option.{option_map}
use Rattle.tv_r1cs_write.specs.Bytes.{others}
use Rattle.std.proofs.lemmas.Bool.{and_parts}
use Rattle.std.proofs.lemmas.List.{length-take}
use Rattle.std.proofs.lemmas.List.FromFn.{length-range_with_len}
use Rattle.tv_core.specs.Constraints.{System}
use Rattle.tv_core.specs.declared.lines.Counts.{Counts}
use Rattle.tv_shrink.specs.Answers.{counted_system, start_rows, IsReady}
use Rattle.tv_shrink.specs.Renumbering.{moved, moved_rows}
use Rattle.tv_core.specs.Normal.{normal_constraint}
use Rattle.tv_shrink.specs.Pass.{Pass, all_replaced, begun, dropped, passed, row_fits, substituted, turn}
use Rattle.tv_shrink.specs.Substitution.{fits, replaced_in}
use Rattle.tv_shrink.specs.Shrunk.{left_over, place, renumbered, renumbered_in, shrink}
use Rattle.tv_shrink.specs.Tidy.{AreWithin, pass_of}
use Rattle.tv_shrink.proofs.ByConstants.{constants_aside, Leave}
use Rattle.tv_shrink.proofs.Labels.{front-kept, inside-kept, is_gone, others_same, place_is}
use Rattle.tv_shrink.proofs.Linear.{replaced_short}
use Rattle.tv_shrink.proofs.Spans.{same_row}
use Rattle.tv_core.proofs.NormalLaws.{Over, Over-weaker}
use Rattle.tv_shrink.proofs.Elements.{each_set}
use Rattle.tv_shrink.proofs.PassLaws.{RowsOver, Sound, Stays, turns-sound}
use Rattle.tv_shrink.proofs.States.{turns_keep}
use Rattle.tv_shrink.proofs.Solutions.{start-sound}

-- combinations of at most 128 terms
abbrev RowIsShort : Option Constraint → Type 0
RowIsShort None = Unit {0}
RowIsShort (Some c) = (length c.a ≤ 128) × (length c.b ≤ 128) × (length c.c ≤ 128)

short_row : (w : ℕ) (r : Combination) (row : Option Constraint) → RowIsShort row → row_fits w r row ≡ true → RowIsShort (option_map (replaced_in w r) row)
short_row w r None h e = tt
short_row w r (Some c) h e =
    let first = and_parts (fits w r c.a) (fits w r c.b && fits w r c.c) e in
    let others = and_parts (fits w r c.b) (fits w r c.c) first.1 in
    let short = λ (x : Combination) (few : length x ≤ 128) (fit : fits w r x ≡ true). replaced_short 128 w r x (omega arith) fit few in
    (short c.a h.0 first.0, short c.b h.1 others.0, short c.c h.2 others.1)

short_rows : (w : ℕ) (r : Combination) (rows : List (Option Constraint)) → AllByRecursion RowIsShort rows → list_all (row_fits w r) rows ≡ true
    → AllByRecursion RowIsShort (all_replaced w r rows)
short_rows w r [] h e = tt
short_rows w r (row ∷ rows) h e = let both = and_parts (row_fits w r row) (list_all (row_fits w r) rows) e in
    (short_row w r row h.0 both.0, short_rows w r rows h.1 both.1)

short-turns : (publics : ℕ) (places : List ℕ) (pass : Pass) → AllByRecursion RowIsShort pass.rows
    → AllByRecursion RowIsShort (fold (turn publics) pass places).rows
unfolding dropped substituted
short-turns publics places pass h =
    turns_keep (λ p. AllByRecursion RowIsShort p.rows) (λ i p k. each_set RowIsShort p.rows i None tt k) (λ w r p fit k. short_rows w r p.rows k fit)
    publics places pass h

-- rows within, as rows of wires that are not gone, and short ones
over_start : (wires : ℕ) (rows : List (Option Constraint)) → AreWithin wires rows → RowsOver (Stays wires []) rows
    × AllByRecursion RowIsShort rows
over_start wires [] h = (tt, tt)
over_start wires (None ∷ rows) h = let rest = over_start wires rows h.1 in ((tt, rest.0), (tt, rest.1))
over_start wires (Some c ∷ rows) h =
    let rest = over_start wires rows h.1 in
    let each = λ (x : Combination) (k : AllByRecursion (λ t. t.1 < wires) x).
    Over-weaker (λ v. v < wires) (Stays wires []) x (λ v l. (l, refl)) k in
    (((each c.a h.0.a, each c.b h.0.b, each c.c h.0.c), rest.0), ((h.0.short_a, h.0.short_b, h.0.short_c), rest.1))

short_end : (rows : List (Option Constraint)) → AllByRecursion RowIsShort rows → (room : ℕ) (gone : List ℕ) → RowsOver (Stays room gone) rows
    → AreWithin room rows
short_end [] k room gone h = tt
short_end (None ∷ rows) k room gone h = (tt, short_end rows k.1 room gone h.1)
short_end (Some c ∷ rows) k room gone h =
    let each = λ (x : Combination) (o : Over (Stays room gone) x). Over-weaker (Stays room gone) (λ v. v < room) x (λ v s. s.0) o in
    (record { a = each c.a h.0.0; b = each c.b h.0.1; c = each c.c h.0.2; short_a = k.0.0; short_b = k.0.1; short_c = k.0.2 }, short_end rows k.1 room gone h.1)

-- a pass over constraints of these wires, before its first turn and after its last
module _ (room publics : ℕ) (positive : 0 < publics) (rows : List (Option Constraint)) (within : AreWithin room rows) where
  run-sound : Sound rows room publics (fold (turn publics) (pass_of rows []) (range_with_len 0 (length rows)))
  run-sound = turns-sound rows room publics positive (range_with_len 0 (length rows)) (pass_of rows [])
      (start-sound room publics rows (over_start room rows within).0)

  run-within : AreWithin room (fold (turn publics) (pass_of rows []) (range_with_len 0 (length rows))).rows
  run-within =
      let last = fold (turn publics) (pass_of rows []) (range_with_len 0 (length rows)) in
      short_end last.rows (short-turns publics (range_with_len 0 (length rows)) (pass_of rows [])
      (over_start room rows within).1) room last.gone run-sound.over

-- the wires that stay get their places
module _ (wires : ℕ) (gone numbers : List ℕ) (same : (w : ℕ) → is_gone numbers w ≡ is_gone gone w) where
  numbered : (w : ℕ) → Stays wires gone w → length (others w numbers) ≡ place w (others wires gone)
  numbered w stays = ap length (others_same numbers gone same w) ∙ sym (place_is wires gone w stays.0 stays.1)

  moved-renumbered : (x : Combination) → Over (Stays wires gone) x → moved numbers x ≡ renumbered (others wires gone) x
  unfolding renumbered
  moved-renumbered [] h = refl
  moved-renumbered (t ∷ x) h = ap₂ (λ w rest. (t.0, w) ∷ rest) (numbered t.1 h.0) (moved-renumbered x h.1)

  pub rows-renumbered : (rows : List (Option Constraint)) → RowsOver (Stays wires gone) rows
      → moved_rows numbers rows ≡ map (option_map (renumbered_in (others wires gone))) rows
  rows-renumbered [] h = refl
  rows-renumbered (None ∷ rows) h = ap (λ rest. None ∷ rest) (rows-renumbered rows h.1)
  rows-renumbered (Some c ∷ rows) h =
      ap₂ (λ row rest. Some row ∷ rest)
      (same_row _ _ _ _ _ _ (moved-renumbered c.a h.0.0) (moved-renumbered c.b h.0.1) (moved-renumbered c.c h.0.2)) (rows-renumbered rows h.1)

  -- the rows are of the wires that are kept
  over-moved : (x : Combination) → Over (Stays wires gone) x → Over (λ v. v < length (others wires gone)) (moved numbers x)
  over-moved [] h = tt
  over-moved (t ∷ x) h = (omega (arith, numbered t.1 h.0, inside-kept wires gone t.1 h.0.0 h.0.1), over-moved x h.1)

  pub within-moved : (rows : List (Option Constraint)) → RowsOver (Stays wires gone) rows → AreWithin wires rows
      → AreWithin (length (others wires gone)) (moved_rows numbers rows)
  within-moved [] h k = tt
  within-moved (None ∷ rows) h k = (tt, within-moved rows h.1 k.1)
  within-moved (Some c ∷ rows) h k = (
    record {
      a = over-moved c.a h.0.0;
      b = over-moved c.b h.0.1;
      c = over-moved c.c h.0.2;
      short_a = short_moved c.a k.0.short_a;
      short_b = short_moved c.b k.0.short_b;
      short_c = short_moved c.c k.0.short_c;
    },
    within-moved rows h.1 k.1,
  )
    where
      short_moved : (x : Combination) → length x ≤ 128 → length (moved numbers x) ≤ 128
      short_moved x s = let same : length (moved numbers x) ≡ length x = length-map x (λ (t : ℕ × ℕ). (t.0, length (others t.1 numbers))) in omega arith

-- the rows that are left
pub left_rows : (f : Constraint → Constraint) (rows : List (Option Constraint))
    → filter_map (λ row. row) (map (option_map f) rows) ≡ filter_map (option_map f) rows
left_rows f [] = refl
left_rows f (None ∷ rows) = left_rows f rows
left_rows f (Some c ∷ rows) = ap (λ rest. f c ∷ rest) (left_rows f rows)

-- there is a label for wire 0 and each public wire
pub enough_labels : (wires publics : ℕ) (gone : List ℕ) → publics ≤ wires → ((v : ℕ) → is_gone gone v ≡ true → publics ≤ v)
    → publics ≤ length (others wires gone)
enough_labels wires publics gone h later =
    let front = front-kept wires publics gone h later in
    omega (arith, ap length front, length-take publics (others wires gone), length-range_with_len 0 publics)

-- what is left depends on the constraints that were not dropped alone
filtered : (f : Constraint → Constraint) (rows : List (Option Constraint)) → filter_map (option_map f) rows ≡ map f (filter_map (λ row. row) rows)
filtered f [] = refl
filtered f (None ∷ rows) = filtered f rows
filtered f (Some c ∷ rows) = ap (λ rest. f c ∷ rest) (filtered f rows)

left_same : (system : System) (x y : Pass) → Leave x y
    → left_over system x.rows (others system.wires x.gone) ≡ left_over system y.rows (others system.wires y.gone)
unfolding left_over
left_same system x y same =
    let labels = others system.wires x.gone in
    ap (λ list. record {
      system = record { wires = length labels; outputs = system.outputs; inputs = system.inputs; constraints = list };
      labels = labels;
      wires = system.wires;
    })
    (filtered (renumbered_in labels) x.rows ∙ ap (map (renumbered_in labels)) same.0 ∙ sym (filtered (renumbered_in labels) y.rows))
    ∙ ap (λ gone. left_over system y.rows (others system.wires gone)) same.1

-- the shrunk system, from the pass
shrink_is : (counts : Counts) (list : List Constraint) (last : Pass) →
    last ≡ fold (turn (1 + counts.outputs + counts.inputs)) (pass_of (start_rows list) [])
    (range_with_len 0 (length (start_rows list))) →
    left_over (counted_system counts list) last.rows (others counts.wires last.gone) ≡ shrink (counted_system counts list)
unfolding shrink passed begun
shrink_is counts list last ran =
    let publics = 1 + counts.outputs + counts.inputs in
    let system = counted_system counts list in
    let all = map (λ c. Some (normal_constraint c)) list in
    let full = fold (turn publics) (pass_of all []) (range_with_len 0 (length all)) in
    ap (λ (pass : Pass). left_over system pass.rows (others counts.wires pass.gone)) ran
    ∙ sym (left_same system full (fold (turn publics) (pass_of (start_rows list) []) (range_with_len 0 (length (start_rows list))))
    (constants_aside publics (omega arith) list))
    ∙ ap (λ n. let pass = fold (turn publics) (pass_of all []) (range_with_len 0 n) in left_over system pass.rows (others counts.wires pass.gone))
    (length-map list (λ c. Some (normal_constraint c)))

-- what is left, by what the calls gave
module _ (counts : Counts) (rows : List (Option Constraint)) (ready : IsReady counts rows)
    (publics : ℕ) (private : publics ≡ 1 + counts.outputs + counts.inputs) (left : List (Option Constraint)) (gone : List ℕ)
    (ran : pass_of left gone ≡ fold (turn publics) (pass_of rows []) (range_with_len 0 (length rows))) where
  positive : 0 < publics
  positive = omega (arith, private)

  sound : Sound rows counts.wires publics (pass_of left gone)
  sound = subst (Sound rows counts.wires publics) (sym ran) (run-sound counts.wires publics positive rows ready.within)

  left_within : AreWithin counts.wires left
  left_within = subst (λ (pass : Pass). AreWithin counts.wires pass.rows) (sym ran) (run-within counts.wires publics positive rows ready.within)

  module _ (numbers : List ℕ) (moved_on : List (Option Constraint)) (same : (w : ℕ) → is_gone numbers w ≡ is_gone gone w)
      (lowered_on : moved_on ≡ moved_rows numbers left) where
    labels_are : others counts.wires gone ≡ others counts.wires numbers
    labels_are = sym (others_same numbers gone same counts.wires)

    pub labels_enough : 1 + counts.outputs + counts.inputs ≤ length (others counts.wires numbers)
    labels_enough =
        omega (arith, private, ap length labels_are, enough_labels counts.wires publics gone (omega (arith, private, ready.room)) sound.private)

    pub rows_within : AreWithin (length (others counts.wires numbers)) moved_on
    rows_within =
        subst (λ xs. AreWithin (length xs) moved_on) labels_are
        (subst (AreWithin (length (others counts.wires gone))) (sym lowered_on) (within-moved counts.wires gone numbers same left sound.over left_within))

    pub system_is : (list : List Constraint) → rows ≡ start_rows list →
        record {
          system = record {
            wires = length (others counts.wires numbers);
            outputs = counts.outputs;
            inputs = counts.inputs;
            constraints = filter_map (λ row. row) moved_on;
          };
          labels = others counts.wires numbers;
          wires = counts.wires;
        }
        ≡ shrink (counted_system counts list)
    unfolding left_over
    system_is list start =
        ap₂ (λ xs cs. record {
          system = record { wires = length xs; outputs = counts.outputs; inputs = counts.inputs; constraints = cs };
          labels = xs;
          wires = counts.wires;
        })
        (sym labels_are)
        (ap (filter_map (λ (row : Option Constraint). row)) (lowered_on ∙ rows-renumbered counts.wires gone numbers same left sound.over)
        ∙ left_rows (renumbered_in (others counts.wires gone)) left)
        ∙ shrink_is counts list (pass_of left gone)
        (ran ∙ ap₂ (λ n rs. fold (turn n) (pass_of rs []) (range_with_len 0 (length rs))) private start)
