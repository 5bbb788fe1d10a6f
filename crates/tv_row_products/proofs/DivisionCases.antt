-- Quotient and remainder by the two cases of their definitions: the divisor is 0, or it isn't.
use Rattle.tv_core.proofs.Common.{◌≡◌, ◌≢◌, ℕ, ◌/◌, ◌%◌, ◌<◌, refl, arith, mod-lt, nat_tests}
use Rattle.tv_word.specs.Operations.{udiv_result, umod_result}

pub quotient-zero : (a b : ℕ) → b ≡ 0 → udiv_result a b ≡ 0
quotient-zero a b none = rw none refl

pub quotient-other : (a b : ℕ) → b ≢ 0 → udiv_result a b ≡ a / b
quotient-other a b some = grind (arith, nat_tests)

pub remainder-zero : (a b : ℕ) → b ≡ 0 → umod_result a b ≡ 0
remainder-zero a b none = rw none refl

pub remainder-other : (a b : ℕ) → b ≢ 0 → umod_result a b ≡ a % b
remainder-other a b some = grind (arith, nat_tests)

pub remainder-below : (a b : ℕ) → b ≢ 0 → umod_result a b < b
remainder-below a b some = let less : a % b < b = mod-lt a (omega arith) in omega (arith, remainder-other a b some)
