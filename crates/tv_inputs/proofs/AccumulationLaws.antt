-- The laws of a product added to a sum.
use Rattle.tv_core.proofs.Common.{◌≡◌, ℕ, ◌+◌, ◌-◌, ◌*◌, ◌%◌, ◌<◌, List, [], ◌++◌, refl, sym, ◌∙◌, ap₂, arith, mod-lt, slice_index, value-below, value-append}
use Rattle.tv_core.proofs.Common.{value-wire, wire-below, InField-none, InField-cons, fresh, put, pure, ◌>>=◌, wire, scaled, Combination, value, Assigns}
use Rattle.tv_core.proofs.CombinationLaws.{value-scaled}
use Rattle.tv_core.specs.declared.field.TheConstants.{P}
use Rattle.tv_inputs.specs.Accumulation.{closed_of, accumulated_of, AccumulatedIsSound, AccumulatedIsComplete, AccumulatedSizes}

sum_by : (x p w : ℕ) → x < P → p < P → w < P → p ≡ ((P - 1) * x % P + w) % P → w ≡ (x + p) % P
sum_by x p w h k l e = omega arith

product_by : (x p w : ℕ) → x < P → p < P → w ≡ (x + p) % P → p ≡ ((P - 1) * x % P + w) % P
product_by x p w h k e = omega arith

folded : (x a : ℕ) → (x + a % P) % P ≡ (x + a) % P
folded x a = omega arith

closing : (z : List ℕ) (next : ℕ) (x : Combination) → Assigns z → value (scaled (P - 1) x ++ wire next) z ≡ ((P - 1) * value x z % P + slice_index z next) % P
closing z next x assigns = value-append (scaled (P - 1) x) (wire next) z ∙ ap₂ (λ m n. (m + n) % P) (value-scaled (P - 1) x z) (value-wire assigns next)

pub accumulated_sound : AccumulatedIsSound
unfolding closed_of fresh put pure ◌>>=◌
accumulated_sound z next x f g assigns meets =
    sum_by (value x z) (value f z * value g z % P) (slice_index z next) (value-below x z) (mod-lt _ (omega arith)) (wire-below assigns next)
    (meets.0 ∙ closing z next x assigns) ∙ folded (value x z) (value f z * value g z)

pub accumulated_complete : AccumulatedIsComplete
unfolding closed_of fresh put pure ◌>>=◌
accumulated_complete z next x f g assigns has = (
  product_by (value x z) (value f z * value g z % P) (slice_index z next) (value-below x z) (mod-lt _ (omega arith))
      (has.0 ∙ sym (folded (value x z) (value f z * value g z))) ∙ sym (closing z next x assigns),
  tt,
)

pub accumulated_answer : (x f g : Combination) (next : ℕ) → (accumulated_of x f g next).answer ≡ next
unfolding closed_of fresh put pure ◌>>=◌
accumulated_answer x f g next = refl

pub accumulated_next : (x f g : Combination) (next : ℕ) → (accumulated_of x f g next).next ≡ next + 1
unfolding closed_of fresh put pure ◌>>=◌
accumulated_next x f g next = refl

pub accumulated_sizes : AccumulatedSizes
accumulated_sizes = record {
  answer = accumulated_answer;
  end = accumulated_next;
  fills = λ x f g a b c next. accumulated_next x f g next;
  in_field = λ a b c. InField-cons ((a + b * c) % P) [] (mod-lt _ (omega arith)) InField-none;
}
