-- How many switches there are at most, and how far the generator's places reach.
use Rattle.tv_core.proofs.Common.{◌≡◌, ℕ, suc, ◌+◌, ◌*◌, ◌^◌, ◌≤◌, ◌<◌, ◌-◌, ◌∙◌, ap, arith, pow-le-pow_right}
use Rattle.std.proofs.Math.Nat.{mul-le-mul, mul-le-mul_left, mul-le-mul_right}
use Rattle.std.proofs.lemmas.Nat.{pow_pos}
use Rattle.tv_benes.proofs.ThroughLaws.{twice}
use Rattle.tv_benes.specs.Through.{switches}
use Rattle.tv_benes.specs.declared.shape.Net.{Net}
use Rattle.tv_benes.specs.declared.shape.Net.TheVariants.{Benes, Waksman}

switches_most : (net : Net) (h : ℕ) → switches net h ≤ (2 * h + 1) * 2 ^ h
switches_most Benes h = omega arith
switches_most Waksman h = let some = pow_pos h in omega arith

pub switches_few : (net : Net) (h : ℕ) → h < 31 → switches net h ≤ 61 * 2 ^ 30
switches_few net h few =
    let within : h ≤ 30 = omega arith in
    let factor : 2 * h ≤ 2 * 30 = mul-le-mul_left 2 within in
    let whole : 2 * h + 1 ≤ 2 * 30 + 1 = omega arith in
    let power : 2 ^ h ≤ 2 ^ 30 = pow-le-pow_right (omega arith) within in
    omega (arith, switches_most net h, mul-le-mul whole power)

-- the places of an item within one half more
pub nearer : (j b d m : ℕ) → b < 2 → (j + 1) * 2 ^ suc d ≤ m → (2 * j + b + 1) * 2 ^ d ≤ m
nearer j b d m small near =
    let more : (2 * j + b + 1) * 2 ^ d ≤ (2 * j + 2) * 2 ^ d = mul-le-mul_right (2 ^ d) (omega arith) in
    omega (arith, ap (λ k. (j + 1) * k) (twice d))

-- what is near at a level is near in a half
pub half_near : (k d m : ℕ) → 2 ^ suc k * 2 ^ d ≤ m → 2 ^ k * 2 ^ suc d ≤ m
half_near k d m near = omega (arith, ap (λ x. x * 2 ^ d) (twice k), ap (λ x. 2 ^ k * x) (twice d))

pub place_near : (s k d m : ℕ) → s < 2 ^ k → 2 ^ suc k * 2 ^ d ≤ m → (s + 1) * 2 ^ suc d ≤ m
place_near s k d m within near =
    let more : (s + 1) * 2 ^ suc d ≤ 2 ^ k * 2 ^ suc d = mul-le-mul_right (2 ^ suc d) (omega arith) in
    omega (arith, half_near k d m near)

pub near_at : (h d m : ℕ) {n : ℕ} → n ≡ 2 ^ h → 2 ^ suc h * 2 ^ d ≤ m → 2 * n * 2 ^ d ≤ m
near_at h d m same near = rw same (omega (arith, ap (λ x. x * 2 ^ d) (twice h)))

pub power_is : (k : ℕ) → 1 ≤ k → 2 ^ k ≡ 2 * 2 ^ (k - 1)
power_is k some = let same : k ≡ suc (k - 1) = omega arith in ap (λ j. 2 ^ j) same ∙ twice (k - 1)

-- ---- the level below
pub less_by : {h k t : ℕ} → h ≡ suc k → h ≡ t → k < t
less_by e f = omega arith

pub level_less : {h k n : ℕ} → h ≡ suc k → h < n → k < n
level_less e f = omega arith
