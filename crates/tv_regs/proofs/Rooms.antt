-- What stands below the next wire in the gadgets of `triple`.
use Rattle.tv_core.proofs.Common.{◌≡◌, ℕ, ◌+◌, ◌≤◌, ◌<◌, [], arith, top, Combination}
use Rattle.std.proofs.Common.{max}

pub top_number : (f : ℕ) {t k n : ℕ} → t ≤ f + k → k ≡ 4 → f + 4 ≤ n → t ≤ n
top_number f h e g = omega arith

pub top_more : {t u w n : ℕ} → u ≡ max t (w + 1) → t ≤ n → w < n → u ≤ n
top_more e h g = omega arith

pub short_number : {l k : ℕ} → l ≡ k → k ≡ 4 → l < 128
short_number e h = omega arith

pub short_more : {l h k : ℕ} → h ≡ l + 1 → l ≡ k → k ≡ 4 → h < 128
short_more e f g = omega arith

pub top_none : {l : Combination} {n : ℕ} → l ≡ [] → top l ≤ n
top_none e = rw e (omega arith)

-- one of the three wires from a curve's first on
pub top_second : (curve : ℕ) {t o n : ℕ} → t ≡ o + 1 → o ≡ curve + 1 → curve + 3 ≤ n → t ≤ n
top_second curve e f h = omega arith

pub top_third : (curve : ℕ) {t o n : ℕ} → t ≡ o + 1 → o ≡ curve + 2 → curve + 3 ≤ n → t ≤ n
top_third curve e f h = omega arith

pub begins : (curve : ℕ) {n : ℕ} → curve + 3 ≤ n → curve < n
begins curve h = omega arith
