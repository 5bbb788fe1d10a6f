-- What the registers' circuits put is normal.
use Rattle.tv_core.proofs.Common.{◌≡◌, ℕ, zero, suc, ◌+◌, ◌-◌, ◌*◌, ◌<◌, ◌≤◌, List, [], ◌∷◌, ◌++◌, length, inl, inr, sym, ap, subst, arith, slice_index}
use Rattle.tv_core.proofs.Common.{cases_lt, each_below, here, fresh, put, pure, ◌>>=◌, wire, scaled, top, Combination, sequence, IsNormal, AreNormal}
use Rattle.std.proofs.Common.{eq-zero-or-pos}
use Rattle.std.proofs.Math.Nat.{mul-pos}
use Rattle.std.proofs.lemmas.List.{get_or_past}
use Rattle.tv_bits.proofs.NormalLaws.{wire_normal, rise_normal, row_normal, kept_normal, times_normal, select_normal}
use Rattle.tv_bits.specs.OneHot.{row_sum}
use Rattle.tv_bits.specs.Ratio.{ratio_of}
use Rattle.tv_bits.specs.Select.{pick_of}
use Rattle.tv_bits.specs.Times.{times_of}
use Rattle.tv_core.proofs.BelowLaws.{each_below-zero}
use Rattle.tv_core.proofs.CombinationLaws.{top-append, top-scaled}
use Rattle.tv_core.proofs.NormalCircuits.{normal_append, normal_negated, normal_both, normal_turns}
use Rattle.tv_core.specs.Normal.{IsNormalConstraint}
use Rattle.tv_core.specs.declared.field.TheConstants.{P}
use Rattle.tv_regs.proofs.Gates.{wires_top-at}
use Rattle.tv_regs.proofs.TripleLaws.{other_branch, negative_small, square_small, square_positive, product_number, long_cubic, long_departure, roots_next}
use Rattle.tv_regs.proofs.TripleLaws.{curve_answer, curve_next, point_next}
use Rattle.tv_regs.proofs.UpdateLaws.{turn_at}
use Rattle.tv_regs.proofs.WriteLaws.{sum_of-suc}
use Rattle.tv_bits.specs.Wires.{wires_top}
use Rattle.tv_regs.specs.Triple.{roots_of, sums_of, pairs_of, cubic, departure, passes_of, passes_turn, curve_of, point_of, triple_of}
use Rattle.tv_regs.specs.Update.{number_less, stays_of, stays_turn, sum_rise, update_of}
use Rattle.tv_regs.specs.declared.triple.Roots.{Roots}

-- ---- registers
pub reg_below : (regs : List ℕ) (wires i : ℕ) → wires_top regs ≤ wires → 0 < wires → slice_index regs i < wires
reg_below regs wires i within some = elim (cases_lt i (length regs)) [
  | inl inside ↦ omega (arith, wires_top-at regs i 0 inside)
  | inr past ↦ omega (arith, get_or_past regs i 0 past)
]

abbrev first_of : ℕ → List ℕ → Combination
first_of n regs = each_below {A = ℕ × ℕ} n (λ i. (1, slice_index regs i))

last_top : (regs : List ℕ) (n : ℕ) → top (first_of n regs) ≤ slice_index regs n → top (first_of (suc n) regs) ≤ slice_index regs n + 1
last_top regs n h = omega (arith, h, ap top (sum_of-suc regs n), top-append (first_of n regs) ((1, slice_index regs n) ∷ []))

module _ (regs : List ℕ) (rise : (i : ℕ) → i < 15 → slice_index regs i < slice_index regs (i + 1)) where
  top_rises : (n : ℕ) → n ≤ 15 → top (first_of n regs) ≤ slice_index regs n
  top_rises zero h = omega (arith, ap top (each_below-zero {A = ℕ × ℕ} (λ i. (1, slice_index regs i))))
  top_rises (suc n) h =
      let one : slice_index regs n < slice_index regs (n + 1) = rise n (omega arith) in
      let same : slice_index regs (n + 1) ≡ slice_index regs (suc n) = ap (slice_index regs) (let e : n + 1 ≡ suc n = omega arith in e) in
      omega (arith, last_top regs n (top_rises n (omega arith)), one, same)

  first_normal : (n : ℕ) → n ≤ 16 → IsNormal (first_of n regs)
  first_normal zero h = subst IsNormal (sym (each_below-zero {A = ℕ × ℕ} (λ i. (1, slice_index regs i)))) tt
  first_normal (suc n) h =
      subst IsNormal (sym (sum_of-suc regs n))
      (normal_append 0 (slice_index regs n) (first_of n regs) ((1, slice_index regs n) ∷ []) (first_normal n (omega arith)) (top_rises n (omega arith))
      (omega arith) (omega arith, omega arith, omega arith, tt))

  sum_rise_normal : (first : ℕ) → slice_index regs 15 < first → IsNormal (sum_rise first regs)
  sum_rise_normal first below =
      let within : top (scaled (P - 1) (first_of 16 regs))
      ≤ first = omega (arith, top-scaled (P - 1) (first_of 16 regs), last_top regs 15 (top_rises 15 (omega arith)), below) in
      normal_append 0 first (scaled (P - 1) (first_of 16 regs)) (row_sum first 16) (normal_negated 0 (first_of 16 regs) (first_normal 16 (omega arith))) within
      (omega arith) (row_normal first 16)

-- ---- one register written
number_normal : (dest i : ℕ) → 0 < dest → i < 16 → IsNormal (number_less dest i)
number_normal dest i some h = elim (eq-zero-or-pos i) [
  | inl none ↦ subst (λ k. IsNormal (number_less dest k)) (sym none) (omega arith, omega arith, omega arith, tt)
  | inr positive ↦ subst IsNormal (sym (other_branch i (wire dest) ((P - i, 0) ∷ (1, dest) ∷ []) positive))
      (omega arith, omega arith, omega arith, (omega arith, omega arith, omega arith, tt))
]

stays_normal : (dest reg i next : ℕ) → 0 < dest → i < 16 → reg < next → AreNormal (stays_of dest reg i next).list
unfolding stays_of fresh put ◌>>=◌
stays_normal dest reg i next some h below = (record { a = number_normal dest i some h; b = rise_normal reg next below; c = tt }, tt)

pub update_normal : (on dest word result : ℕ) (regs : List ℕ) (next : ℕ) → 0 < dest → word < result → ((i : ℕ) → i < 16 → slice_index regs i < next)
    → ((i : ℕ) → i < 15 → slice_index regs i < slice_index regs (i + 1)) → AreNormal (update_of on dest word result regs next).list
unfolding update_of here put pure ◌>>=◌
update_normal on dest word result regs next some before below rise =
    let turns = normal_turns (λ k _. stays_turn dest regs k) tt next 16
    (λ i h. stays_normal dest (slice_index regs i) i (sequence i (stays_turn dest regs) next).next some h (omega
    (arith, below i h, turn_at dest regs next i))) in
    normal_both (sequence 16 (stays_turn dest regs) next).list _ turns (
      record {
        a = (omega arith, omega arith, omega arith, tt);
        b = rise_normal word result before;
        c = sum_rise_normal regs rise next (below 15 (omega arith));
      },
      tt,
    )

-- ---- three registers read at once
cubic_normal : (roots : Roots) (i : ℕ) → i < 16 → 0 < roots.sum → roots.sum < roots.pairs → roots.pairs < roots.product → IsNormal (cubic roots i)
cubic_normal roots i h some k l = elim (eq-zero-or-pos i) [
  | inl none ↦ subst (λ k. IsNormal (cubic roots k)) (sym none) (omega arith, omega arith, omega arith, tt)
  | inr positive ↦ subst IsNormal (sym (other_branch i ((P - 1, roots.product) ∷ []) (long_cubic roots i) positive)) (more positive)
]
  where
    more : 0 < i → IsNormal (long_cubic roots i)
    more positive =
        let square = square_small i h in
        let squared = square_positive i positive in
        let n = negative_small (i * i) squared (omega (arith, square)) in
        let cube = mul-pos squared positive in
        let third : i * i * i < P = omega (arith, product_number (i * i) i square h) in
        search arith

departure_normal : (reg curve i : ℕ) → i < 16 → reg < curve → IsNormal (departure reg curve i)
departure_normal reg curve i h below = elim (eq-zero-or-pos i) [
  | inl none ↦ subst (λ k. IsNormal (departure reg curve k)) (sym none) (omega arith, omega arith, omega arith, (omega arith, omega arith, omega arith, tt))
  | inr positive ↦ subst IsNormal (sym (other_branch i ((1, reg) ∷ (P - 1, curve) ∷ []) (long_departure reg curve i) positive)) (more positive)
]
  where
    more : 0 < i → IsNormal (long_departure reg curve i)
    more positive =
        let square = square_small i h in
        let some = square_positive i positive in
        let m = negative_small i positive (omega arith) in
        let n = negative_small (i * i) some (omega (arith, square)) in
        search arith

passes_normal : (roots : Roots) (curve reg i next : ℕ) → i < 16 → 0 < roots.sum → roots.sum < roots.pairs → roots.pairs < roots.product → reg < curve
    → AreNormal (passes_of roots curve reg i next).list
unfolding passes_of ratio_of fresh put pure ◌>>=◌
passes_normal roots curve reg i next h some k l below =
    (record { a = cubic_normal roots i h some k l; b = (omega arith, omega arith, omega arith, tt); c = departure_normal reg curve i h below }, tt)

curve_normal : (roots : Roots) (regs : List ℕ) (next : ℕ) → 0 < roots.sum → roots.sum < roots.pairs → roots.pairs < roots.product
    → ((i : ℕ) → i < 16 → slice_index regs i < next) → AreNormal (curve_of roots regs next).list
unfolding curve_of fresh pure ◌>>=◌
curve_normal roots regs next some k l below =
    let at = next + 1 + 1 + 1 in
    let turns = normal_turns (λ i _. passes_turn roots next regs i) tt at 16
    (λ i h. passes_normal roots next (slice_index regs i) i (sequence i (passes_turn roots next regs) at).next h some k l (below i h)) in
    normal_both (sequence 16 (passes_turn roots next regs) at).list [] turns tt

point_normal : (n : Combination) (curve next : ℕ) → IsNormal n → curve + 3 ≤ next → AreNormal (point_of n curve next).list
unfolding point_of times_of fresh put pure ◌>>=◌
point_normal n curve next is below = search arith

-- where the sums stand
record RootsPlaced (roots : Roots) (next : ℕ) : Type 0 where
  sum : roots.sum ≡ next + 2
  pairs : roots.pairs ≡ next + 4
  product : roots.product ≡ next + 5

roots_places : (stores target source named : Combination) (next : ℕ) → RootsPlaced (roots_of stores target source named next).answer next
unfolding roots_of sums_of pairs_of times_of pick_of fresh put pure ◌>>=◌
roots_places stores target source named next = record { sum = omega arith; pairs = omega arith; product = omega arith }

module _ (stores target source named : Combination) (next : ℕ) (stores_is : IsNormal stores) (target_is : IsNormal target) (source_is : IsNormal source)
    (named_is : IsNormal named)
    (source_below : top source ≤ next) (named_below : top named ≤ next) where
  with_dest : IsNormal (named ++ wire next)
  with_dest = normal_append 0 next named (wire next) named_is named_below (omega arith) (omega arith, omega arith, omega arith, tt)

  with_both : IsNormal ((named ++ wire next) ++ wire (next + 1))
  with_both =
      let below : top (named ++ wire next) ≤ next + 1 = omega (arith, top-append named (wire next), named_below) in
      normal_append 0 (next + 1) (named ++ wire next) (wire (next + 1)) with_dest below (omega arith) (omega arith, omega arith, omega arith, tt)

  with_other : IsNormal (named ++ wire (next + 1))
  with_other = normal_append 0 (next + 1) named (wire (next + 1)) named_is (omega (arith, named_below)) (omega arith)
      (omega arith, omega arith, omega arith, tt)

  roots_normal : AreNormal (roots_of stores target source named next).list
  unfolding roots_of sums_of pairs_of times_of pick_of fresh put pure ◌>>=◌
  roots_normal =
      let m1 = kept_normal target next target_is in
      let m2 = select_normal stores (wire next) source (next + 1) stores_is source_is (omega (arith, source_below)) in
      let m3 = kept_normal ((named ++ wire next) ++ wire (next + 1)) (next + 1 + 1) with_both in
      let m4 = times_normal (wire (next + 1)) named (next + 1 + 1 + 1) (wire_normal 0 (next + 1) (omega arith)) named_is in
      let m6 = times_normal (wire (next + 1 + 1 + 1)) (wire next) (next + 1 + 1 + 1 + 1 + 1) (wire_normal 0 (next + 1 + 1 + 1) (omega arith))
      (wire_normal 0 next (omega arith)) in
      let m5 : IsNormalConstraint (record { a = wire next; b = named ++ wire (next + 1); c = (P - 1, next + 1 + 1 + 1) ∷ (1, next + 1 + 1 + 1 + 1) ∷ [] }) =
      record { a = wire_normal 0 next (omega arith); b = with_other; c = rise_normal (next + 1 + 1 + 1) (next + 1 + 1 + 1 + 1) (omega arith) } in
      (m1.0, (m2.0, (m3.0, (m4.0, (m5, (m6.0, tt))))))

  pub triple_normal : (regs : List ℕ) → ((i : ℕ) → i < 16 → slice_index regs i < next) → AreNormal (triple_of stores target source named regs next).list
  unfolding triple_of pure ◌>>=◌
  triple_normal regs below =
      let roots = roots_of stores target source named next in
      let curve = curve_of roots.answer regs roots.next in
      let other = point_of (wire roots.answer.other) curve.answer curve.next in
      let third = point_of named curve.answer other.next in
      let dest = point_of (wire roots.answer.dest) curve.answer third.next in
      let places = roots_places stores target source named next in
      let roots_end = roots_next stores target source named next in
      let curve_is = curve_answer roots.answer regs roots.next in
      let curve_end = curve_next roots.answer regs roots.next in
      let other_end = point_next (wire roots.answer.other) curve.answer curve.next in
      let third_end = point_next named curve.answer other.next in
      let one : curve.answer + 3 ≤ curve.next = omega (arith, curve_is, curve_end) in
      let two : curve.answer + 3 ≤ other.next = omega (arith, one, other_end) in
      let three : curve.answer + 3 ≤ third.next = omega (arith, two, third_end) in
      let curve_put = curve_normal roots.answer regs roots.next (omega (arith, places.sum)) (omega (arith, places.sum, places.pairs))
      (omega (arith, places.pairs, places.product))
      (λ i h. omega (arith, below i h, roots_end)) in
      normal_both roots.list _ roots_normal
      (normal_both curve.list _ curve_put
      (normal_both other.list _ (point_normal (wire roots.answer.other) curve.answer curve.next (wire_normal 0 roots.answer.other (omega arith)) one)
      (normal_both third.list _ (point_normal named curve.answer other.next named_is two)
      (normal_both dest.list [] (point_normal (wire roots.answer.dest) curve.answer third.next (wire_normal 0 roots.answer.dest (omega arith)) three) tt))))
