-- The example meets the premises.
use Rattle.std.proofs.Common.{◌≡◌, ◌≢◌, ℕ, zero, suc, ◌+◌, ◌-◌, ◌^◌, ◌<◌, ◌≤◌, inr, refl, arith}
use Rattle.tv_doubles.proofs.WholeLaws.{argument_right}
use Rattle.tv_doubles.specs.Doubles.{HonestDoubles, key}
use Rattle.tv_doubles.specs.Example.{example_line, example_kind, ExampleIsRight}
use Rattle.tv_doubles.specs.Successors.{IsGreatest}
use Rattle.tv_doubles.specs.Whole.{IsKind, AreLines, Reaches, gap}
use Rattle.tv_doubles.specs.Within.{DoubleInRange}

in_range : (i : ℕ) → i < 5 → DoubleInRange (2 ^ 32) (example_line i)
in_range zero h = omega arith
in_range (suc zero) h = omega arith
in_range (suc (suc zero)) h = omega arith
in_range (suc (suc (suc zero))) h = omega arith
in_range (suc (suc (suc (suc i)))) h = omega arith

first_tape : (k : ℕ) → k < 1 → (example_line k).cell ≢ 2
first_tape zero h e = omega arith
first_tape (suc k) h e = omega arith

first_guard : (k : ℕ) → k < 2 → (example_line k).cell ≢ 1
first_guard zero h e = omega arith
first_guard (suc zero) h e = omega arith
first_guard (suc (suc k)) h e = omega arith

tape_words : (q : ℕ) → q < 5 → (example_line q).cell ≡ 2 → (example_line q).old.second ≡ 0
tape_words zero h e = absurd (omega arith)
tape_words (suc zero) h e = refl
tape_words (suc (suc zero)) h e = refl
tape_words (suc (suc (suc zero))) h e = absurd (omega arith)
tape_words (suc (suc (suc (suc q)))) h e = refl

kinds : (i : ℕ) → i < 5 → IsKind (example_kind i) 5 example_line i
kinds zero h = tt
kinds (suc zero) h = (record { old = refl; first = first_tape }, refl, tape_words)
kinds (suc (suc zero)) h = (record { old = refl; first = first_guard }, refl)
kinds (suc (suc (suc i))) h = tt

lines : AreLines (2 ^ 32) 5 example_line example_kind
lines = record { base = inr refl; few = omega arith; some = omega arith; in_range = in_range; kinds = kinds }

near : (i : ℕ) → i + 1 < 5 → (example_line i).cell ≢ 3
    → (q : ℕ) × (q < 5) × ((example_line i).cell < (example_line q).cell) × ((example_line q).cell ≤ (example_line i).cell + gap (example_kind i) 3)
near zero h apart = (2, omega arith, omega arith, omega arith)
near (suc zero) h apart = (4, omega arith, omega arith, omega arith)
near (suc (suc zero)) h apart = (1, omega arith, omega arith, omega arith)
near (suc (suc (suc zero))) h apart = (2, omega arith, omega arith, omega arith)
near (suc (suc (suc (suc i)))) h apart = absurd (omega arith)

reaches : Reaches 5 example_line example_kind (λ i. 3)
reaches = record { bits = λ i h. omega arith; late = λ i h t. omega arith; near = near; least = (0, omega arith, refl) }

honest : HonestDoubles 5 example_line
honest zero h = refl
honest (suc zero) h = refl
honest (suc (suc zero)) h = refl
honest (suc (suc (suc zero))) h = refl
honest (suc (suc (suc (suc zero)))) h = refl
honest (suc (suc (suc (suc (suc i))))) h = absurd (omega arith)

keys : (i : ℕ) → i < 5 → key example_line i ≤ key example_line 4
keys zero h = omega arith
keys (suc zero) h = omega arith
keys (suc (suc zero)) h = omega arith
keys (suc (suc (suc zero))) h = omega arith
keys (suc (suc (suc (suc i)))) h = omega arith

greatest : IsGreatest 5 example_line (5 - 1)
greatest = (omega arith, keys)

pub example_right : ExampleIsRight
example_right = record {
  lines = lines;
  reaches = reaches;
  honest = honest;
  greatest = greatest;
  meet = argument_right.complete (2 ^ 32) 5 example_line example_kind (λ i. 3) lines reaches honest greatest;
}
