-- What checks cost, and at most.
use Rattle.tv_core.proofs.Common.{ℕ, zero, suc, ◌*◌, ◌^◌, ◌<◌, ◌≤◌, arith}
use Rattle.tv_core.proofs.BelowLaws.{sum_below-zero, sum_below-suc}
use Rattle.tv_core.specs.Below.{sum_below}
use Rattle.tv_argument.specs.Checks.{Checks, check_made, check_added, AreShort, IsShortKind}
use Rattle.tv_argument.specs.Costs.{ChecksAreCheap}
use Rattle.tv_argument.specs.declared.kinds.Kind.{Kind}
use Rattle.tv_argument.specs.declared.kinds.Kind.TheVariants.{ZeroOld, Least, Boot, Within}

check_few : (kind : Kind) → IsShortKind kind → (check_made kind ≤ 2 ^ 6) × (check_added kind ≤ 2 ^ 6)
check_few ZeroOld h = omega arith
check_few Least h = omega arith
check_few (Boot c) h = omega arith
check_few (Within m) h = omega arith

pub sum_few : (n b : ℕ) (f : ℕ → ℕ) → ((i : ℕ) → i < n → f i ≤ b) → sum_below n f ≤ n * b
sum_few zero b f each = let none = sum_below-zero f in omega arith
sum_few (suc n) b f each =
    omega (arith, sum_below-suc n f, sum_few n b f (λ i h. each i (omega arith)), each n (omega arith))

sums_few : (checks : Checks) (n : ℕ) → AreShort checks n → (f : Kind → ℕ) → ((kind : Kind) → IsShortKind kind → f kind ≤ 2 ^ 6)
    → sum_below n (λ i. f (checks.kind i)) ≤ n * 2 ^ 6
sums_few checks n short f each = sum_few n (2 ^ 6) (λ i. f (checks.kind i)) (λ i h. each (checks.kind i) (short i h))

pub checks_cheap : ChecksAreCheap
checks_cheap = record {
  few_made = λ checks n short. sums_few checks n short check_made (λ kind h. (check_few kind h).0);
  few_added = λ checks n short. sums_few checks n short check_added (λ kind h. (check_few kind h).1);
}
