-- What checks cost, and at most.
use Rattle.tv_core.proofs.Common.{ℕ, zero, suc, ◌*◌, ◌^◌, ◌<◌, ◌≤◌, arith}
use Rattle.tv_core.proofs.BelowLaws.{sum_below-zero, sum_below-suc}
use Rattle.tv_core.specs.Below.{sum_below}
use Rattle.tv_double_argument.specs.Checks.{check_added, check_made, reach_bits}
use Rattle.tv_double_argument.specs.Costs.{ChecksAreCheap}
use Rattle.tv_double_argument.specs.declared.kinds.Kind.{Kind}
use Rattle.tv_double_argument.specs.declared.kinds.Kind.TheVariants.{Within, Image, Tape, Guard}

check_few : (kind : Kind) → reach_bits kind ≤ 30 → (check_made kind ≤ 2 ^ 6) × (check_added kind ≤ 2 ^ 6)
check_few (Within m) h = (omega arith, omega arith)
check_few (Image m) h = (omega arith, omega arith)
check_few Tape h = (omega arith, omega arith)
check_few (Guard m) h = (omega arith, omega arith)

pub sum_few : (n b : ℕ) (f : ℕ → ℕ) → ((i : ℕ) → i < n → f i ≤ b) → sum_below n f ≤ n * b
sum_few zero b f each = let none = sum_below-zero f in omega arith
sum_few (suc n) b f each =
    omega (arith, sum_below-suc n f, sum_few n b f (λ i h. each i (omega arith)), each n (omega arith))

pub checks_cheap : ChecksAreCheap
checks_cheap = record {
  few_made = λ kind n short. sum_few n (2 ^ 6) (λ i. check_made (kind i)) (λ i h. (check_few (kind i) (short i h)).0);
  few_added = λ kind n short. sum_few n (2 ^ 6) (λ i. check_added (kind i)) (λ i h. (check_few (kind i) (short i h)).1);
}
