-- The laws of the sign where a wire is 0.
use Rattle.tv_core.proofs.Common.{◌≡◌, ◌≢◌, ℕ, ◌+◌, ◌-◌, ◌*◌, ◌%◌, ◌<◌, [], ◌∷◌, refl, sym, ◌∙◌, ap, ap₂, arith, zero-mul, slice_index, cases_eq, nat_tests}
use Rattle.tv_core.proofs.Common.{value-below, value-wire, value-less, wire-below, InField-none, InField-cons, fresh, put, pure, ◌>>=◌, wire, value}
use Rattle.std.proofs.Common.{mul-zero}
use Rattle.std.proofs.Common.{length-append}
use Rattle.tv_core.proofs.PrimeLaws.{p_zero_product_below}
use Rattle.tv_core.specs.Inverse.{inverse_of}
use Rattle.tv_core.specs.declared.field.TheConstants.{P}
use Rattle.tv_bits.proofs.TimesLaws.{ratio_divides, residue_below}
use Rattle.tv_bits.specs.Ratio.{ratio}
use Rattle.tv_bits.specs.ZeroSign.{sign_at_zero, zero_sign_of, ZeroSignIsSound, ZeroSignIsComplete, ZeroSignSizes, ZeroSignCosts}
use Rattle.tv_bits.specs.Zero.{zero_cases_of}

-- the sign by its two cases
sign-zero : (y sign : ℕ) → y ≡ 0 → sign_at_zero y sign ≡ sign
sign-zero y sign none = rw none refl

sign-other : (y sign : ℕ) → y ≢ 0 → sign_at_zero y sign ≡ 0
sign-other y sign some = grind (arith, nat_tests)

-- the two constraints, as numbers: y, the hint h, the sign and f
difference_none : (sign f : ℕ) → sign < P → f < P → (sign + (P - f)) % P ≡ 0 → f ≡ sign
difference_none sign f h k e = omega arith

sign_is : (y h sign f : ℕ) → y < P → sign < P → f < P → y * h % P ≡ (sign + (P - f)) % P → y * f % P ≡ 0 → f ≡ sign_at_zero y sign
sign_is y h sign f y_small sign_small f_small first second =
    search (arith, cases_eq, zero-mul, difference_none, sign-zero, p_zero_product_below, sign-other)

-- and the other way round
difference_same : (sign : ℕ) → sign < P → (sign + (P - sign)) % P ≡ 0
difference_same sign small = omega arith

difference_zero : (sign : ℕ) → sign < P → (sign + (P - 0)) % P ≡ sign
difference_zero sign small = omega arith

sign_meets : (y sign : ℕ) → y < P → sign < P → (y * ratio y sign % P ≡ (sign + (P - sign_at_zero y sign)) % P) × (y * sign_at_zero y sign % P ≡ 0)
sign_meets y sign h k = search (arith, cases_eq, zero-mul, sign-zero, difference_same, ratio_divides, sign-other, difference_zero, mul-zero)

pub zero_sign_sound : ZeroSignIsSound
unfolding zero_sign_of zero_cases_of ◌>>=◌ fresh put pure
zero_sign_sound z next y f sign assigns meets =
    sign_is (slice_index z y) (slice_index z next) (value sign z) (slice_index z f) (wire-below assigns y) (value-below sign z) (wire-below assigns f)
    (sym (ap₂ (λ m n. m * n % P) (value-wire assigns y) (value-wire assigns next)) ∙ meets.0 ∙ value-less sign (wire f) z
    ∙ ap (λ n. (value sign z + (P - n)) % P) (value-wire assigns f))
    (sym (ap₂ (λ m n. m * n % P) (value-wire assigns y) (value-wire assigns f)) ∙ meets.1.0)

pub zero_sign_complete : ZeroSignIsComplete
unfolding zero_sign_of zero_cases_of ◌>>=◌ fresh put pure
zero_sign_complete z next y f sign assigns is has =
    let numbers = sign_meets (slice_index z y) (value sign z) (wire-below assigns y) (value-below sign z) in
    let difference = value-less sign (wire f) z ∙ ap (λ n. (value sign z + (P - n)) % P) (value-wire assigns f ∙ is) in (
      ap₂ (λ m n. m * n % P) (value-wire assigns y) (value-wire assigns next ∙ has.0) ∙ numbers.0 ∙ sym difference,
      (ap₂ (λ m n. m * n % P) (value-wire assigns y) (value-wire assigns f ∙ is) ∙ numbers.1, tt),
    )

pub zero_sign_sizes : ZeroSignSizes
unfolding zero_sign_of zero_cases_of fresh put pure ◌>>=◌
zero_sign_sizes = record {
  end = λ y f sign next. refl;
  fills = λ y f sign v s next. refl;
  in_field = λ v s. InField-cons (ratio v s) [] (residue_below (s * inverse_of v)) InField-none;
}

pub zero_sign_costs : ZeroSignCosts
unfolding zero_sign_of zero_cases_of fresh put pure ◌>>=◌
zero_sign_costs = record {
  constraints = λ y f sign next. refl;
  terms = λ y f sign next. omega (arith, length-append sign ((P - 1, f) ∷ []));
}

pub ruleset zero_sign_laws = (zero_sign_sound, zero_sign_complete, zero_sign_sizes, zero_sign_costs)
