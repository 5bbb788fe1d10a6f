-- The solutions of a shrunk system are those of the system at the wires that are kept.
use Rattle.tv_core.proofs.Common.{◌≡◌, ℕ, suc, ◌+◌, ◌*◌, ◌%◌, ◌<◌, ◌≤◌, List, ◌∷◌, Option, Some, None, refl, sym, ◌∙◌, ap, ap₂, subst, arith, true, [], false}
use Rattle.tv_core.proofs.Common.{inl, inr, map, length, take, range_with_len, slice_index, cases_lt, length-map, value-cons, wire-below, Combination}
use Rattle.tv_core.proofs.Common.{Constraint, value, Assigns, Meets}
use Rattle.std.specs.List.{AllByRecursion, All, filter_map}
use Rattle.std.specs.Option.{option_map}
use Rattle.std.proofs.lemmas.List.{ext_get_or, get_or-map, get_or_past}
use Rattle.std.proofs.lemmas.List.Elements.{All-from_recursion, recursion_from_All, All-get_or}
use Rattle.std.proofs.lemmas.List.FromFn.{length-map-range_with_len, get_or-map-range_with_len}
use Rattle.tv_core.proofs.CombinationLaws.{Assigns-from_Sat, Meets-from_Sat, Sat-from_Meets}
use Rattle.tv_core.specs.Constraints.{System, Holds, Sat}
use Rattle.tv_core.specs.declared.field.TheConstants.{P}
use Rattle.tv_shrink.specs.Laws.{AreOver, IsWhole, KeepsSolutions, SolutionsAreOne, KeepsPublics}
use Rattle.tv_core.specs.Normal.{normal_constraint}
use Rattle.tv_shrink.specs.Pass.{begun, passed}
use Rattle.tv_shrink.specs.Tidy.{pass_of}
use Rattle.tv_r1cs_write.specs.Bytes.{others}
use Rattle.tv_shrink.specs.Shrunk.{place, renumbered, renumbered_in, left_over, shrink, at_wires}
use Rattle.tv_core.proofs.NormalLaws.{Over, Over-normal, Over-weaker, value-normal}
use Rattle.tv_shrink.proofs.PassLaws.{RowsOver, RowsHold, Stays, Agree, Extended, Sound, same_holds, turns-sound}
use Rattle.tv_shrink.proofs.Labels.{is_gone, place-at, Rising-kept, at_place-kept, inside-kept, kept_stay, none_below, looked_up, front-kept}

-- the start of a pass
module _ (z : List ℕ) where
  normal_holds : (c : Constraint) → Holds c z → Holds (normal_constraint c) z
  normal_holds c h = same_holds c (normal_constraint c) z z (sym (value-normal z c.a)) (sym (value-normal z c.b)) (sym (value-normal z c.c)) h

  holds_normal : (c : Constraint) → Holds (normal_constraint c) z → Holds c z
  holds_normal c h = same_holds (normal_constraint c) c z z (value-normal z c.a) (value-normal z c.b) (value-normal z c.c) h

  start_holds : (list : List Constraint) → Meets z list → RowsHold z (map (λ c. Some (normal_constraint c)) list)
  start_holds [] h = tt
  start_holds (c ∷ list) h = (normal_holds c h.0, start_holds list h.1)

  holds_start : (list : List Constraint) → RowsHold z (map (λ c. Some (normal_constraint c)) list) → Meets z list
  holds_start [] h = tt
  holds_start (c ∷ list) h = (holds_normal c h.0, holds_start list h.1)

over-from_All : (wires : ℕ) (x : Combination) → All (λ t. t.1 < wires) x → Over (λ v. v < wires) x
over-from_All wires x h = recursion_from_All (λ t. t.1 < wires) x h

start_over : (wires : ℕ) (list : List Constraint) → AllByRecursion (AreOver wires) list → RowsOver (Stays wires []) (map (λ c. Some (normal_constraint c)) list)
start_over wires [] h = tt
start_over wires (c ∷ list) h =
    let each = λ (x : Combination) (k : All (λ t. t.1 < wires) x).
    Over-normal (Stays wires []) x
    (Over-weaker (λ v. v < wires) (Stays wires []) x (λ v l. (l, refl)) (over-from_All wires x k)) in
    ((each c.a h.0.a, each c.b h.0.b, each c.c h.0.c), start_over wires list h.1)

pub start-sound : (wires publics : ℕ) (rows : List (Option Constraint)) → RowsOver (Stays wires []) rows → Sound rows wires publics (pass_of rows [])
start-sound wires publics rows over = record {
  over = over;
  private = λ v e. absurd (let both : false ≡ true = e in cc);
  down = λ z assigns h. h;
  up = λ z assigns each h. record { y = z; assigns = assigns; each = each; holds = h; agree = λ v e. refl };
  unique = λ y z ay az hy hz agree v. agree v refl;
}

module _ (system : System) (whole : IsWhole system) where
  begun-sound : Sound (begun system).rows system.wires (1 + system.outputs + system.inputs) (begun system)
  unfolding begun
  begun-sound = start-sound system.wires (1 + system.outputs + system.inputs) (map (λ c. Some (normal_constraint c)) system.constraints)
      (start_over system.wires system.constraints (recursion_from_All (AreOver system.wires) system.constraints whole.within))

  passed-sound : Sound (begun system).rows system.wires (1 + system.outputs + system.inputs) (passed system)
  unfolding passed
  passed-sound = turns-sound (begun system).rows system.wires (1 + system.outputs + system.inputs) (omega arith) (range_with_len 0 (length system.constraints))
      (begun system) begun-sound

  meets_begun : (z : List ℕ) → Meets z system.constraints → RowsHold z (begun system).rows
  unfolding begun
  meets_begun z h = start_holds z system.constraints h

  begun_meets : (z : List ℕ) → RowsHold z (begun system).rows → Meets z system.constraints
  unfolding begun
  begun_meets z h = holds_start z system.constraints h

-- the shrunk system's constraints say of small what the rows that are left say of z
module _ (Q : ℕ → Type 0) (labels small z : List ℕ) (same : (v : ℕ) → Q v → slice_index small (place v labels) ≡ slice_index z v) where
  value-renumbered : (x : Combination) → Over Q x → value (renumbered labels x) small ≡ value x z
  unfolding renumbered
  value-renumbered [] h = refl
  value-renumbered (t ∷ x) h =
      value-cons t.0 (place t.1 labels) (renumbered labels x) small
      ∙ ap (λ n. (t.0 * n + value (renumbered labels x) small) % P) (same t.1 h.0)
      ∙ ap (λ n. (t.0 * slice_index z t.1 + n) % P) (value-renumbered x h.1)
      ∙ sym (value-cons t.0 t.1 x z)

  rows_renumbered : (rows : List (Option Constraint)) → RowsOver Q rows → RowsHold z rows → Meets small (filter_map (option_map (renumbered_in labels)) rows)
  rows_renumbered [] h k = tt
  rows_renumbered (None ∷ rows) h k = rows_renumbered rows h.1 k.1
  rows_renumbered (Some c ∷ rows) h k = (
    same_holds c (renumbered_in labels c) z small (sym (value-renumbered c.a h.0.0)) (sym (value-renumbered c.b h.0.1))
        (sym (value-renumbered c.c h.0.2)) k.0,
    rows_renumbered rows h.1 k.1,
  )

  renumbered_rows : (rows : List (Option Constraint)) → RowsOver Q rows → Meets small (filter_map (option_map (renumbered_in labels)) rows) → RowsHold z rows
  renumbered_rows [] h k = tt
  renumbered_rows (None ∷ rows) h k = (tt, renumbered_rows rows h.1 k)
  renumbered_rows (Some c ∷ rows) h k = (
    same_holds (renumbered_in labels c) c small z (value-renumbered c.a h.0.0) (value-renumbered c.b h.0.1) (value-renumbered c.c h.0.2) k.0,
    renumbered_rows rows h.1 k.1,
  )

-- numbers below P, looked up
below_all : (small : List ℕ) → All (λ v. v < P) small → (k : ℕ) → slice_index small k < P
below_all small h k =
    elim (cases_lt k (length small)) [ inl inside ↦ All-get_or (λ v. v < P) small k 0 inside h | inr past ↦ omega (arith, get_or_past small k 0 past) ]

below_looked_up : (f : ℕ → ℕ) (xs : List ℕ) → ((v : ℕ) → f v < P) → AllByRecursion (λ v. v < P) (map f xs)
below_looked_up f [] h = tt
below_looked_up f (x ∷ xs) h = (h x, below_looked_up f xs h)

-- lists that are looked up alike
same_looked_up : (Q : ℕ → Type 0) (f g : ℕ → ℕ) (xs : List ℕ) → AllByRecursion Q xs → ((v : ℕ) → Q v → f v ≡ g v) → map f xs ≡ map g xs
same_looked_up Q f g [] h same = refl
same_looked_up Q f g (x ∷ xs) h same = ap₂ (λ a b. a ∷ b) (same x h.0) (same_looked_up Q f g xs h.1 same)

first_is : (n : ℕ) (xs : List ℕ) → take (suc n) xs ≡ range_with_len 0 (suc n) → slice_index xs 0 ≡ 0
first_is n [] e = refl
first_is n (x ∷ xs) e = let same : x ∷ take n xs ≡ 0 ∷ range_with_len (0 + 1) n = e in cc

-- the labels of the shrunk system
abbrev pub labels_of : System → List ℕ
labels_of system = others system.wires (passed system).gone

-- what is looked up at a place of the list
looked_at : (z labels : List ℕ) (k : ℕ) → k < length labels → slice_index (at_wires labels z) k ≡ slice_index z (slice_index labels k)
looked_at z labels k inside = get_or-map (λ w. slice_index z w) labels k 0 0 inside

module _ (system : System) (whole : IsWhole system) where
  private_gone : (v : ℕ) → is_gone (passed system).gone v ≡ true → 1 + system.outputs + system.inputs ≤ v
  private_gone = (passed-sound system whole).private

  publics_kept : take (1 + system.outputs + system.inputs) (labels_of system) ≡ range_with_len 0 (1 + system.outputs + system.inputs)
  publics_kept = front-kept system.wires (1 + system.outputs + system.inputs) (passed system).gone whole.publics private_gone

  first_kept : slice_index (labels_of system) 0 ≡ 0
  first_kept =
      let more : 1 + system.outputs + system.inputs ≡ suc (system.outputs + system.inputs) = omega arith in
      first_is (system.outputs + system.inputs) (labels_of system)
      (subst (λ m. take m (labels_of system) ≡ range_with_len 0 m) more publics_kept)

  zero_stays : is_gone (passed system).gone 0 ≡ false
  zero_stays = none_below (1 + system.outputs + system.inputs) 0 (passed system).gone private_gone (omega arith)

  some_wire : 0 < system.wires
  some_wire = omega (arith, whole.publics)

  some_kept : 0 < length (labels_of system)
  some_kept = omega (arith, inside-kept system.wires (passed system).gone 0 some_wire zero_stays)

  -- what an assignment has at the kept wires, by their places
  at_places : (z : List ℕ) (v : ℕ) → Stays system.wires (passed system).gone v →
      slice_index (at_wires (labels_of system) z) (place v (labels_of system)) ≡ slice_index z v
  at_places z v stays =
      looked_at z (labels_of system) (place v (labels_of system)) (inside-kept system.wires (passed system).gone v stays.0 stays.1)
      ∙ ap (λ w. slice_index z w) (at_place-kept system.wires (passed system).gone v stays.0 stays.1)

  assigns_down : (z : List ℕ) → Assigns z → Assigns (at_wires (labels_of system) z)
  assigns_down z assigns = record {
    below = All-from_recursion (λ v. v < P) (at_wires (labels_of system) z) (below_looked_up (λ w. slice_index z w) (labels_of system) (wire-below assigns));
    one = looked_at z (labels_of system) 0 some_kept ∙ ap (λ w. slice_index z w) first_kept ∙ assigns.one;
  }

  -- the system's solutions satisfy the shrunk one
  solution_down : (z : List ℕ) → Sat system z → Sat (left_over system (passed system).rows (labels_of system)).system (at_wires (labels_of system) z)
  unfolding left_over
  solution_down z sat =
      let assigns = Assigns-from_Sat system z sat in
      let sound = passed-sound system whole in
      let left = sound.down z assigns (meets_begun system whole z (Meets-from_Sat system z sat)) in
      Sat-from_Meets (left_over system (passed system).rows (labels_of system)).system (at_wires (labels_of system) z)
      (length-map (labels_of system) (λ w. slice_index z w))
      (assigns_down z assigns)
      (rows_renumbered (Stays system.wires (passed system).gone) (labels_of system) (at_wires (labels_of system) z) z (at_places z)
      (passed system).rows sound.over left)

  -- an assignment of all wires, with the numbers of the kept ones
  module _ (small : List ℕ) where
    abbrev spread : List ℕ
    spread = map (λ v. slice_index small (place v (labels_of system))) (range_with_len 0 system.wires)

    spread_at : (v : ℕ) → v < system.wires → slice_index spread v ≡ slice_index small (place v (labels_of system))
    spread_at v h = get_or-map-range_with_len (λ u. slice_index small (place u (labels_of system))) 0 system.wires v v 0 h (omega arith)

    place_first : place 0 (labels_of system) ≡ 0
    place_first =
        subst (λ w. place w (labels_of system) ≡ 0) first_kept (place-at (labels_of system) 0 (Rising-kept system.wires (passed system).gone) some_kept)

    assigns_up : Assigns small → Assigns spread
    assigns_up assigns = record {
      below = All-from_recursion (λ v. v < P) spread
          (below_looked_up (λ v. slice_index small (place v (labels_of system))) (range_with_len 0 system.wires)
          (λ v. below_all small assigns.below (place v (labels_of system))));
      one = spread_at 0 some_wire ∙ ap (λ k. slice_index small k) place_first ∙ assigns.one;
    }

    extended : Assigns small → Meets small (filter_map (option_map (renumbered_in (labels_of system))) (passed system).rows)
        → Extended (begun system).rows system.wires (passed system).gone spread
    extended assigns meets =
        let sound = passed-sound system whole in
        sound.up spread (assigns_up assigns) (length-map-range_with_len (λ v. slice_index small (place v (labels_of system))) 0 system.wires)
        (renumbered_rows (Stays system.wires (passed system).gone) (labels_of system) small spread (λ v h. sym (spread_at v h.0))
        (passed system).rows sound.over meets)

    comes_back : length small ≡ length (labels_of system) → (more : Extended (begun system).rows system.wires (passed system).gone spread)
        → small ≡ at_wires (labels_of system) more.y
    comes_back each more =
        sym (looked_up (labels_of system) small (Rising-kept system.wires (passed system).gone) each)
        ∙ same_looked_up (Stays system.wires (passed system).gone) (λ w. slice_index small (place w (labels_of system))) (λ w. slice_index more.y w)
        (labels_of system) (kept_stay system.wires (passed system).gone)
        (λ v h. sym (more.agree v h.1 ∙ spread_at v h.0))

    solution_up : Sat (left_over system (passed system).rows (labels_of system)).system small → (z : List ℕ) × Sat system z
        × (small ≡ at_wires (labels_of system) z)
    unfolding left_over
    solution_up sat =
        let assigns = Assigns-from_Sat (left_over system (passed system).rows (labels_of system)).system small sat in
        let more = extended assigns (Meets-from_Sat (left_over system (passed system).rows (labels_of system)).system small sat) in
        (more.y, Sat-from_Meets system more.y more.each more.assigns (begun_meets system whole more.y more.holds), comes_back sat.each_wire more)

  -- solutions that agree at the kept wires are one
  module _ (y z : List ℕ) (sat_y : Sat system y) (sat_z : Sat system z) (same : at_wires (labels_of system) y ≡ at_wires (labels_of system) z) where
    agree_all : Agree (passed system).gone y z
    agree_all v stays =
        elim (cases_lt v system.wires) [
          | inl inside ↦ sym (at_places y v (inside, stays)) ∙ ap (λ xs. slice_index xs (place v (labels_of system))) same ∙ at_places z v (inside, stays)
          | inr past ↦ get_or_past y v 0 (omega (arith, sat_y.each_wire)) ∙ sym (get_or_past z v 0 (omega (arith, sat_z.each_wire)))
        ]

    one_solution : y ≡ z
    one_solution =
        let ay = Assigns-from_Sat system y sat_y in
        let az = Assigns-from_Sat system z sat_z in
        let each = (passed-sound system whole).unique y z ay az (meets_begun system whole y (Meets-from_Sat system y sat_y))
        (meets_begun system whole z (Meets-from_Sat system z sat_z)) agree_all in
        ext_get_or 0 y z (sat_y.each_wire ∙ sym sat_z.each_wire) (λ i h. each i)

pub keeps_solutions : KeepsSolutions
unfolding shrink left_over
keeps_solutions system whole small = (
  (λ sat. solution_up system whole small sat),
  (λ found. subst (Sat (left_over system (passed system).rows (labels_of system)).system) (sym found.2) (solution_down system whole found.0 found.1)),
)

pub solutions_are_one : SolutionsAreOne
unfolding shrink left_over
solutions_are_one system whole y z sat_y sat_z same = one_solution system whole y z sat_y sat_z same

pub keeps_publics : KeepsPublics
unfolding shrink left_over
keeps_publics system whole = publics_kept system whole
