-- The laws of the test for another number than 0.
use Rattle.tv_core.proofs.Common.{◌≡◌, ◌≢◌, ℕ, ◌+◌, ◌-◌, ◌*◌, ◌%◌, ◌<◌, ◌∷◌, [], refl, arith, zero-mul, cases_eq, nat_tests, value-below, value-wire}
use Rattle.tv_core.proofs.Common.{wire-below, InField-none, InField-cons, fresh, put, pure, ◌>>=◌}
use Rattle.std.proofs.Common.{mul-zero}
use Rattle.tv_core.proofs.CombinationLaws.{value-one_less}
use Rattle.tv_core.proofs.InverseLaws.{mul-inverse_of, inverse_of-below}
use Rattle.tv_core.proofs.PrimeLaws.{p_zero_product_below}
use Rattle.tv_core.specs.Inverse.{inverse_of}
use Rattle.tv_core.specs.declared.field.TheConstants.{P}
use Rattle.tv_bits.specs.Nonzero.{nonzero_flag, nonzero_of, NonzeroIsSound, NonzeroIsComplete, NonzeroSizes}
use Rattle.tv_bits.specs.Zero.{zero_cases_of}

pub nonzero_flag-zero : (x : ℕ) → x ≡ 0 → nonzero_flag x ≡ 0
nonzero_flag-zero x none = rw none refl

pub nonzero_flag-other : (x : ℕ) → x ≢ 0 → nonzero_flag x ≡ 1
nonzero_flag-other x some = grind (arith, nat_tests)

-- the two constraints, as numbers: x, the hint h and the flag f
less_one : (f : ℕ) → f < P → (1 + (P - f)) % P ≡ 0 → f ≡ 1
less_one f small e = omega arith

flag_of : (x h f : ℕ) → x < P → f < P → x * h % P ≡ f → x * ((1 + (P - f)) % P) % P ≡ 0 → f ≡ nonzero_flag x
flag_of x h f x_small f_small first second = search (arith, cases_eq, zero-mul, nonzero_flag-zero, p_zero_product_below, less_one, nonzero_flag-other)

flag_meets : (x : ℕ) → x < P → (x * inverse_of x % P ≡ nonzero_flag x) × (x * ((1 + (P - nonzero_flag x)) % P) % P ≡ 0)
flag_meets x small = search (arith, cases_eq, ℕ, zero-mul, nonzero_flag-zero, mul-inverse_of, nonzero_flag-other, mul-zero)

pub nonzero_sound : NonzeroIsSound
unfolding nonzero_of zero_cases_of ◌>>=◌ fresh put pure
nonzero_sound z next x assigns meets = search (arith, flag_of, value-below, wire-below, value-wire, value-one_less)

pub nonzero_complete : NonzeroIsComplete
unfolding nonzero_of zero_cases_of ◌>>=◌ fresh put pure
nonzero_complete z next x assigns has = search (arith, flag_meets, value-below, value-wire, value-one_less)

nonzero_flag-below : (v : ℕ) → nonzero_flag v < P
nonzero_flag-below v = grind (arith, nat_tests)

pub nonzero_sizes : NonzeroSizes
unfolding nonzero_of zero_cases_of fresh put pure ◌>>=◌
nonzero_sizes = record {
  answer = λ x next. refl;
  end = λ x next. omega arith;
  fills = λ x v next. omega arith;
  in_field = λ v. InField-cons (nonzero_flag v) (inverse_of v ∷ []) (nonzero_flag-below v) (InField-cons (inverse_of v) [] (inverse_of-below v) InField-none);
}

pub ruleset nonzero_laws = (nonzero_sound, nonzero_complete, nonzero_sizes)
