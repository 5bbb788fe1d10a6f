-- The height is the number of bits of L - 1.
use Rattle.std.proofs.Common.{◌≡◌, ℕ, zero, suc, ◌-◌, ◌*◌, ◌/◌, ◌^◌, ◌<◌, ◌≤◌, inl, inr, Bool, if◌then◌else◌, ap, arith}
use Rattle.std.proofs.lemmas.Bool.{cases_lt, lt-ltb, le-ltb}
use Rattle.std.proofs.lemmas.Nat.{pow_pos}
use Rattle.tv_stages.specs.Stages.{height_within, height}
use Rattle.tv_stages.specs.Laws.{HeightIsRight}

high : (fuel L : ℕ) → 1 < L → height_within (suc fuel) L ≡ suc (height_within fuel (L - L / 2))
high fuel L h = ap (λ (b : Bool). if b then suc (height_within fuel (L - L / 2)) else 0) (lt-ltb 1 L h)

flat : (fuel L : ℕ) → L ≤ 1 → height_within (suc fuel) L ≡ 0
flat fuel L h = ap (λ (b : Bool). if b then suc (height_within fuel (L - L / 2)) else 0) (le-ltb 1 L h)

enough_within : (fuel L : ℕ) → L ≤ suc fuel → L ≤ 2 ^ height_within fuel L
enough_within zero L h = omega arith
enough_within (suc fuel) L h = elim (cases_lt 1 L) [
  | inl more ↦
      let e = high fuel L more in
      let deep = enough_within fuel (L - L / 2) (omega arith) in
      let same : 2 ^ height_within (suc fuel) L ≡ 2 ^ suc (height_within fuel (L - L / 2)) = ap (λ n. 2 ^ n) e in
      let twice : 2 ^ suc (height_within fuel (L - L / 2)) ≡ 2 * 2 ^ height_within fuel (L - L / 2) = omega arith in
      omega arith
  | inr less ↦ let pos = pow_pos (height_within (suc fuel) L) in omega arith
]

least_within : (fuel L k : ℕ) → L ≤ 2 ^ k → height_within fuel L ≤ k
least_within zero L k h = omega arith
least_within (suc fuel) L zero h = let e = flat fuel L h in omega arith
least_within (suc fuel) L (suc k) h = elim (cases_lt 1 L) [
  | inl more ↦
      let e = high fuel L more in
      let twice : 2 ^ suc k ≡ 2 * 2 ^ k = omega arith in
      let deep = least_within fuel (L - L / 2) k (omega arith) in
      omega arith
  | inr less ↦ let e = flat fuel L less in omega arith
]

pub height_right : HeightIsRight
unfolding height
height_right = record {
  enough = λ L. enough_within L L (omega arith);
  least = λ L k h. least_within L L k h;
}

-- where there is a stage, more slots than half of those numbers
pub height_more : (L : ℕ) → 1 ≤ height L → 2 ^ (height L - 1) < L
height_more L some = elim (cases_lt (2 ^ (height L - 1)) L) [
  | inl h ↦ h
  | inr h ↦ absurd (let least = height_right.least L (height L - 1) h in omega arith)
]
