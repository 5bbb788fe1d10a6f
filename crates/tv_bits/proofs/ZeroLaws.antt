-- The laws of the test for 0.
use Rattle.tv_core.proofs.Common.{◌≡◌, ◌≢◌, ℕ, ◌+◌, ◌-◌, ◌*◌, ◌%◌, ◌<◌, refl, arith, zero-mul, cases_eq, nat_tests, value-below, value-wire, wire-below}
use Rattle.tv_core.proofs.Common.{Combination, fresh, put, pure, ◌>>=◌}
use Rattle.std.proofs.Common.{mul-zero}
use Rattle.tv_core.proofs.CombinationLaws.{value-one_less}
use Rattle.tv_core.proofs.InverseLaws.{mul-inverse_of}
use Rattle.tv_core.proofs.PrimeLaws.{p_zero_product_below}
use Rattle.tv_core.specs.declared.field.TheConstants.{P}
use Rattle.tv_core.specs.Inverse.{inverse_of}
use Rattle.tv_bits.specs.Zero.{zero_cases_of, zero_flag, zero_of, ZeroIsSound, ZeroIsComplete}

-- the flag by its two cases
pub zero_flag-zero : (x : ℕ) → x ≡ 0 → zero_flag x ≡ 1
zero_flag-zero x none = rw none refl

pub zero_flag-other : (x : ℕ) → x ≢ 0 → zero_flag x ≡ 0
zero_flag-other x some = grind (arith, nat_tests)

-- the two constraints, as numbers: x, the hint h and the flag f
flag_of : (x h f : ℕ) → x < P → f < P → x * h % P ≡ (1 + (P - f)) % P → x * f % P ≡ 0 → f ≡ zero_flag x
flag_of x h f x_small f_small first second = search (arith, cases_eq, zero-mul, zero_flag-zero, p_zero_product_below, zero_flag-other)

flag_meets : (x : ℕ) → x < P → (x * inverse_of x % P ≡ (1 + (P - zero_flag x)) % P) × (x * zero_flag x % P ≡ 0)
flag_meets x small = search (arith, cases_eq, ℕ, zero-mul, zero_flag-zero, mul-inverse_of, zero_flag-other, mul-zero)

pub zero_sound : ZeroIsSound
unfolding zero_of zero_cases_of ◌>>=◌ fresh put pure
zero_sound z next x assigns meets = search (arith, flag_of, value-below, wire-below, value-wire, value-one_less)

pub zero_complete : ZeroIsComplete
unfolding zero_of zero_cases_of ◌>>=◌ fresh put pure
zero_complete z next x assigns has = search (arith, flag_meets, value-below, value-wire, value-one_less)

-- what the circuit answers, and where it ends
pub zero_answer : (x : Combination) (next : ℕ) → (zero_of x next).answer ≡ next
unfolding zero_of zero_cases_of fresh put pure ◌>>=◌
zero_answer x next = refl

pub zero_next : (x : Combination) (next : ℕ) → (zero_of x next).next ≡ next + 2
unfolding zero_of zero_cases_of fresh put pure ◌>>=◌
zero_next x next = omega arith
