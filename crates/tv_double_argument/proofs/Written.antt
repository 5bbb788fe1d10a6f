-- Writing the place after each, in the order of the places.
use Rattle.tv_core.proofs.Common.{◌≡◌, ℕ, suc, ◌+◌, ◌<◌, List, [], ◌∷◌, ◌++◌, length, set, inl, inr, sym, ◌∙◌, ap, subst, arith, cases_eq}
use Rattle.std.proofs.Common.{IsPermutation}
use Rattle.std.proofs.lemmas.List.{get_or-set_same, get_or-set_other, length-set}
use Rattle.std.proofs.lemmas.List.FromFn.{fill_by_all}
use Rattle.tv_doubles.proofs.Circle.{index_is, next_at, right}
use Rattle.tv_doubles.specs.Rising.{index_in, place_at}
use Rattle.tv_doubles.specs.Successors.{index_after, next_in}
use Rattle.tv_stages.specs.Stages.{places}
use Rattle.tv_stages.proofs.Reorders.{places-suc}

pub record IsPlaced (order : List ℕ) (j : ℕ) (found : List ℕ) : Type 0 where
  pub long : length found ≡ length order
  pub each : (t : ℕ) → t < j → t < length order → place_at found (place_at order t) ≡ place_at order (index_after (length order) t)

module _ (order : List ℕ) (moved : IsPermutation (places (length order) (λ i. i)) order) where
  pub placed_more : (j : ℕ) (found : List ℕ) → IsPlaced order j found → j < length order
      → IsPlaced order (j + 1) (set found (place_at order j) (place_at order (index_after (length order) j)))
  placed_more j found h within =
      let next = place_at order (index_after (length order) j) in
      let reorders = right (length order) order moved in
      record {
        long = length-set found (place_at order j) next ∙ h.long;
        each = λ t k m. elim (cases_eq t j) [
          | inl same ↦ subst (λ t. place_at (set found (place_at order j) next) (place_at order t) ≡ place_at order (index_after (length order) t)) (sym same)
              (let low = reorders.below j within in get_or-set_same found (place_at order j) next 0 (omega (arith, h.long)))
          | inr other ↦ (get_or-set_other found (place_at order j) (place_at order t) next 0
              (λ e. other (reorders.once t j m within e)) ∙ h.each t (omega arith) m)
        ];
      }

  pub placed_all : (found : List ℕ) → IsPlaced order (length order) found → found ≡ places (length order) (next_in order)
  unfolding places
  placed_all found h =
      fill_by_all (next_in order) found (length order) 0 h.long
      (λ i k.
      let f = index_is (length order) order moved i k in
      sym (ap (place_at found) f.1) ∙ h.each (index_in i order) f.0 f.0 ∙ sym (next_at (length order) order moved i))

-- places, one by one
pub places_next : (n : ℕ) (f : ℕ → ℕ) → places (n + 1) f ≡ places n f ++ f n ∷ []
places_next n f = let more : n + 1 ≡ suc n = omega arith in ap (λ m. places m f) more ∙ places-suc n f
