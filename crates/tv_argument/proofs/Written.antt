-- Writing the place before each, in the order of the places.
use Rattle.tv_core.proofs.Common.{◌≡◌, ◌≢◌, ℕ, ◌+◌, ◌-◌, ◌<◌, List, length, set, inl, inr, refl, slice_index, sym, ◌∙◌}
use Rattle.tv_core.proofs.Common.{ap, subst, arith, if◌then◌else◌, cases_eq, eq-eqb, ne_eqb}
use Rattle.std.proofs.lemmas.List.{get_or-set_same, get_or-set_other, length-set}
use Rattle.std.proofs.lemmas.List.FromFn.{fill_by_all}
use Rattle.tv_argument.proofs.Previous.{index_is}
use Rattle.tv_argument.specs.Order.{place_at, index_before, previous_in, previous_order}
use Rattle.tv_stages.specs.Settings.{index_in}
use Rattle.tv_stages.specs.Stages.{places, IsReordering}

pub record IsPlaced (order : List ℕ) (j : ℕ) (found : List ℕ) : Type 0 where
  pub long : length found ≡ length order
  pub each : (t : ℕ) → t < j → t < length order → place_at found (place_at order t) ≡ place_at order (index_before (length order) t)

pub placed_more : (order : List ℕ) (j : ℕ) (found : List ℕ) → IsReordering (length order) (λ i. slice_index order i) → IsPlaced order j found → j < length order
    → IsPlaced order (j + 1) (set found (place_at order j) (place_at order (index_before (length order) j)))
placed_more order j found right h within = record {
  long = length-set found (place_at order j) (place_at order (index_before (length order) j)) ∙ h.long;
  each = λ t k m. elim (cases_eq t j) [
    | inl same ↦ subst (λ t. place_at (set found (place_at order j) (place_at order (index_before (length order) j))) (place_at order t) ≡ place_at order
        (index_before (length order) t)) (sym same)
        (let low = right.below j within in get_or-set_same found (place_at order j) (place_at order (index_before (length order) j)) 0 (omega (arith, h.long)))
    | inr other ↦ (get_or-set_other found (place_at order j) (place_at order t) (place_at order (index_before (length order) j)) 0
        (λ e. other (right.once t j m within e)) ∙ h.each t (omega arith) m)
  ];
}

pub placed_all : (order found : List ℕ) → IsReordering (length order) (λ i. slice_index order i) → IsPlaced order (length order) found
    → found ≡ previous_order order
unfolding places
placed_all order found right h =
    fill_by_all (previous_in order) found (length order) 0 h.long
    (λ i k.
    let f = index_is (length order) order refl right i k in
    sym (ap (place_at found) f.1) ∙ h.each (index_in i order) f.0 f.0)

pub before_zero : (n j : ℕ) → j ≡ 0 → index_before n j ≡ n - 1
before_zero n j e = ap (λ b. if b then n - 1 else j - 1) (eq-eqb j 0 e)

pub before_some : (n j : ℕ) → j ≢ 0 → index_before n j ≡ j - 1
before_some n j e = ap (λ b. if b then n - 1 else j - 1) (ne_eqb j 0 e)
