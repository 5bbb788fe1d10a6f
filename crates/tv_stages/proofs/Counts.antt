-- With 2 ^ k slots the switches are as many as Benes and Waksman count.
use Rattle.std.proofs.Common.{◌≡◌, ◌≢◌, ℕ, zero, suc, ◌+◌, ◌-◌, ◌*◌, ◌/◌, ◌%◌, ◌^◌, ◌<◌, ◌≤◌, ◌==◌, inl, inr, Bool, if◌then◌else◌, sym, ◌∙◌, ap, arith, eq-eqb}
use Rattle.std.proofs.Math.Nat.{pow-le-pow_right}
use Rattle.std.proofs.lemmas.Bool.{cases_lt, cases_eq, lt-ltb, le-ltb, ne_eqb}
use Rattle.std.proofs.lemmas.Nat.{pow_pos, pow-add}
use Rattle.tv_stages.specs.Stages.{height, stage_count, depth, pairs, middle_count, number_count, gap_size, switch_count, first_switch}
use Rattle.tv_stages.specs.Laws.{SwitchesOfPowers}
use Rattle.tv_stages.specs.declared.nets.Net.TheVariants.{Benes, Waksman}
use Rattle.tv_stages.proofs.Slots.{parts}
use Rattle.tv_stages.proofs.Depths.{stage_count_is, depth_before, depth_after}
use Rattle.tv_stages.proofs.Numbers.{count_middle, count_pairs}
use Rattle.tv_stages.proofs.BitLists.{first_suc}
use Rattle.tv_stages.proofs.Heights.{height_right}

twice_of : (d : ℕ) → 2 ^ suc d ≡ 2 * 2 ^ d
twice_of d = omega arith

gap_none : (L l : ℕ) → l < height L → gap_size Waksman L l ≡ 0
unfolding gap_size
gap_none L l h =
    let stride = 2 ^ depth L l in
    let last : ℕ = if L / stride % 2 == 0 then stride - L % stride else L % stride in
    ap (λ (b : Bool). if b then 0 else if L / stride == 2 then 0 else last) (lt-ltb l (height L) h)

gap_even : (L l d : ℕ) → height L ≤ l → depth L l ≡ d → L / 2 ^ d ≢ 2 → L / 2 ^ d % 2 ≡ 0 → gap_size Waksman L l ≡ 2 ^ d - L % 2 ^ d
unfolding gap_size
gap_even L l d past deep more even =
    let stride = 2 ^ depth L l in
    let same : stride ≡ 2 ^ d = ap (λ n. 2 ^ n) deep in
    let last : ℕ = if L / stride % 2 == 0 then stride - L % stride else L % stride in
    ap (λ (b : Bool). if b then 0 else if L / stride == 2 then 0 else last) (le-ltb l (height L) past)
    ∙ ap (λ (b : Bool). if b then 0 else last) (ne_eqb (L / stride) 2 (λ e. more (ap (λ n. L / n) (sym same) ∙ e)))
    ∙ ap (λ (b : Bool). if b then stride - L % stride else L % stride) (eq-eqb (L / stride % 2) 0 (ap (λ n. L / n % 2) same ∙ even))
    ∙ ap (λ n. n - L % n) same

module _ (h : ℕ) where
  abbrev L : ℕ
  L = 2 ^ suc h

  height_power : height L ≡ suc h
  height_power =
      let least = height_right.least L (suc h) (omega arith) in
      let enough = height_right.enough L in
      elim (cases_lt h (height L)) [
        | inl more ↦ omega arith
        | inr few ↦ absurd (
            let low : 2 ^ height L ≤ 2 ^ h = pow-le-pow_right (omega arith) few in
            let twice : 2 ^ suc h ≡ 2 * 2 ^ h = omega arith in
            let pos = pow_pos h in
            omega arith)
      ]

  -- L by a stride of 2 ^ d
  split_at : (d e : ℕ) → d + e ≡ suc h → (L / 2 ^ d ≡ 2 ^ e) × (L % 2 ^ d ≡ 0)
  split_at d e is =
      let made : L ≡ 2 ^ e * 2 ^ d + 0 = ap (λ n. 2 ^ n) (sym is ∙ omega arith) ∙ pow-add 2 e d ∙ omega arith in
      parts (2 ^ d) L (2 ^ e) 0 (pow_pos d) made

  pairs_power : (d : ℕ) → d ≤ h → pairs L d ≡ 2 ^ h
  unfolding pairs
  pairs_power d le =
      let e = h - d in
      let twice : 2 * 2 ^ d ≡ 2 ^ suc d = omega arith in
      let s = split_at (suc d) e (omega arith) in
      let whole : L / (2 * 2 ^ d) ≡ 2 ^ e = ap (λ n. L / n) twice ∙ s.0 in
      let rest : L % (2 * 2 ^ d) ≡ 0 = ap (λ n. L % n) twice ∙ s.1 in
      let all : 2 ^ d * 2 ^ e ≡ 2 ^ h = sym (pow-add 2 d e) ∙ ap (λ n. 2 ^ n) (omega arith) in
      let some : 2 ^ d * (L / (2 * 2 ^ d)) ≡ 2 ^ d * 2 ^ e = ap (λ n. 2 ^ d * n) whole in
      omega arith

  number_power : (l : ℕ) → l < stage_count L → number_count L l ≡ 2 ^ h
  unfolding middle_count
  number_power l within =
      let k = height_power in
      let n = stage_count_is L in
      let twice : 2 ^ suc h ≡ 2 * 2 ^ h = omega arith in
      elim (cases_eq l (height L)) [
        | inl same ↦
            let half : 2 ^ (height L - 1) ≡ 2 ^ h = ap (λ m. 2 ^ (m - 1)) k ∙ ap (λ m. 2 ^ m) (omega arith) in
            count_middle L l same ∙ omega arith
        | inr other ↦ count_pairs L l other ∙ elim (cases_lt l (height L)) [
          | inl before ↦ pairs_power (depth L l) (omega (arith, depth_before L l before))
          | inr past ↦ pairs_power (depth L l) (omega (arith, depth_after L l (2 * height L - 2 - l) past (omega arith)))
        ]
      ]

  benes_first : (n : ℕ) → n ≤ stage_count L → first_switch Benes L n ≡ n * 2 ^ h
  unfolding first_switch switch_count gap_size
  benes_first zero le = omega arith
  benes_first (suc n) le =
      let deep = benes_first n (omega arith) in
      let here = number_power n (omega arith) in
      omega arith

  waksman_before : (n : ℕ) → n ≤ suc h → first_switch Waksman L n ≡ n * 2 ^ h
  unfolding first_switch switch_count
  waksman_before zero le = omega arith
  waksman_before (suc n) le =
      let k = height_power in
      let deep = waksman_before n (omega arith) in
      let here = number_power n (omega (arith, stage_count_is L)) in
      let none = gap_none L n (omega arith) in
      omega arith

  waksman_after : (n : ℕ) → n ≤ h → first_switch Waksman L (suc h + n) + 2 ^ h ≡ (suc h + n) * 2 ^ h + 2 ^ (h - n)
  unfolding switch_count
  waksman_after zero le =
      let same : suc h + 0 ≡ suc h = omega arith in
      let all : h - 0 ≡ h = omega arith in
      ap (λ m. first_switch Waksman L m + 2 ^ h) same ∙ ap (λ m. m + 2 ^ h) (waksman_before (suc h) (omega arith))
      ∙ ap (λ m. suc h * 2 ^ h + 2 ^ m) (sym all) ∙ ap (λ m. m * 2 ^ h + 2 ^ (h - 0)) (sym same)
  waksman_after (suc n) le =
      let k = height_power in
      let l = suc h + n in
      let d = h - suc n in
      let next : suc h + suc n ≡ suc l = omega arith in
      let deep = waksman_after n (omega arith) in
      let here = number_power l (omega (arith, stage_count_is L)) in
      let s = split_at d (suc (suc n)) (omega arith) in
      let four : 2 ^ suc (suc n) ≡ 4 * 2 ^ n = omega arith in
      let pos = pow_pos n in
      let more : L / 2 ^ d ≢ 2 = λ e. absurd (omega (arith, s.0)) in
      let even : L / 2 ^ d % 2 ≡ 0 = ap (λ m. m % 2) s.0 ∙ omega arith in
      let gap = gap_even L l d (omega arith) (depth_after L l d (omega arith) (omega arith)) more even in
      let room : 2 ^ d ≤ 2 ^ h = let le : d ≤ h = omega arith in pow-le-pow_right (omega arith) le in
      let half : 2 ^ (h - n) ≡ 2 * 2 ^ d = ap (λ m. 2 ^ m) (omega arith) ∙ twice_of d in
      let step = first_suc Waksman L l in
      let count : (suc h + suc n) * 2 ^ h ≡ (suc h + n) * 2 ^ h + 2 ^ h = ap (λ m. m * 2 ^ h) next ∙ omega arith in
      ap (λ m. first_switch Waksman L m + 2 ^ h) next ∙ omega (arith, s.1)

pub of_powers : SwitchesOfPowers
of_powers = record {
  benes = λ h.
      let stages : stage_count (2 ^ suc h) ≡ 2 * h + 1 = stage_count_is (2 ^ suc h) ∙ ap (λ k. 2 * k - 1) (height_power h) ∙ omega arith in
      benes_first h (stage_count (2 ^ suc h)) (omega arith) ∙ ap (λ n. n * 2 ^ h) stages;
  waksman = λ h.
      let stages : stage_count (2 ^ suc h) ≡ suc h + h = stage_count_is (2 ^ suc h) ∙ ap (λ k. 2 * k - 1) (height_power h) ∙ omega arith in
      let all = waksman_after h h (omega arith) in
      let zero : h - h ≡ 0 = omega arith in
      let none : 2 ^ (h - h) ≡ 1 = ap (λ n. 2 ^ n) zero in
      let twice = twice_of h in
      let product : (suc h + h) * 2 ^ h ≡ h * (2 * 2 ^ h) + 2 ^ h = omega arith in
      let whole : h * 2 ^ suc h ≡ h * (2 * 2 ^ h) = ap (λ n. h * n) twice in
      ap (λ n. first_switch Waksman (2 ^ suc h) n) stages ∙ omega arith;
}
