-- The laws of an equation that a gate turns on.
use Rattle.tv_core.proofs.Common.{◌≡◌, ℕ, ◌+◌, ◌-◌, ◌*◌, ◌%◌, List, ◌++◌, length, refl, sym, ◌∙◌, ap, arith, mod-eq_of_lt, zero-mul, length-append, length-map}
use Rattle.tv_core.proofs.Common.{value-below, value-less, InField-none, put, less, scaled, wire, Combination, Constraint, value, terms_in}
use Rattle.std.proofs.Common.{one-mul, mul-zero, add-zero}
use Rattle.std.proofs.lemmas.List.Sums.{sum_by-append}
use Rattle.tv_core.proofs.CombinationLaws.{value-empty}
use Rattle.tv_core.proofs.DifferenceLaws.{same_of_minus}
use Rattle.tv_core.specs.declared.field.TheConstants.{P}
use Rattle.tv_bits.specs.Gate.{gated_of, GatedIsSound, GatedIsComplete, GatedSizes, GatedCosts}

pub gated_sound : GatedIsSound
unfolding gated_of put
gated_sound z next gate x y one meets = search (arith, mod-eq_of_lt, value-below, one-mul, value-empty, same_of_minus, value-less)

no_difference : (z : List ℕ) (x y : Combination) → value x z ≡ value y z → value (less x y) z ≡ 0
no_difference z x y same = let below = value-below y z in value-less x y z ∙ ap (λ n. (n + (P - value y z)) % P) same ∙ omega arith

pub gated_complete : GatedIsComplete
unfolding gated_of put
gated_complete = search (arith, no_difference, mul-zero, value-empty, zero-mul)

pub gated_sizes : GatedSizes
unfolding gated_of put
gated_sizes = record {
  end = λ gate x y next. refl;
  fills = λ gate x y next. sym (add-zero next);
  in_field = InField-none;
}

-- how many terms there are in combinations and in lists that are put together
pub length-scaled : (k : ℕ) (x : Combination) → length (scaled k x) ≡ length x
length-scaled k x = length-map x (λ t. (k * t.0 % P, t.1))

pub length-negated : (x : Combination) (w : ℕ) → length (scaled (P - 1) x ++ wire w) ≡ length x + 1
length-negated x w = length-append (scaled (P - 1) x) (wire w) ∙ ap (λ n. n + 1) (length-scaled (P - 1) x)

pub length-less : (x y : Combination) → length (less x y) ≡ length x + length y
length-less x y = length-append x (scaled (P - 1) y) ∙ ap (λ n. length x + n) (length-scaled (P - 1) y)

pub terms-append : (a b : List Constraint) → terms_in (a ++ b) ≡ terms_in a + terms_in b
terms-append a b = sum_by-append (λ (c : Constraint). length c.a + length c.b + length c.c) a b

pub gated_cost_laws : GatedCosts
unfolding gated_of put
gated_cost_laws = record { constraints = λ gate x y next. refl; terms = λ gate x y next. omega (arith, length-less x y) }

pub ruleset gated_laws = (gated_sound, gated_complete, gated_sizes, gated_cost_laws)
