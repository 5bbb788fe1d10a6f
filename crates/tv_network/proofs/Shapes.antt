-- Figures of a network's shape.
use Rattle.tv_core.proofs.Common.{◌≡◌, ℕ, zero, suc, ◌+◌, ◌-◌, ◌*◌, ◌%◌, ◌^◌, ◌<◌, ◌≤◌, ◌==◌, Bool, if◌then◌else◌, refl, sym, ◌∙◌, ap, subst, arith, inl}
use Rattle.tv_core.proofs.Common.{inr, cases_lt}
use Rattle.tv_core.proofs.Common.{eq-eqb, ne_eqb}
use Rattle.std.proofs.Common.{min}
use Rattle.std.proofs.Math.Nat.{mul-le-mul_left}
use Rattle.tv_network.specs.Stages.{form_of, switches_in, wires_before}
use Rattle.tv_network.specs.Switches.{width}
use Rattle.tv_network.specs.declared.shape.Network.{Network}
use Rattle.tv_network.specs.declared.switches.Form.{Form}
use Rattle.tv_network.specs.declared.switches.Form.TheVariants.{Bound, Open}
use Rattle.tv_stages.proofs.Heights.{height_right}
use Rattle.tv_stages.proofs.Depths.{stage_count_is, depth_before, depth_after}
use Rattle.tv_stages.specs.Stages.{depth, height, stage_count}

pub stages_few : (L : ℕ) → L ≤ 2 ^ 25 → stage_count L ≤ 49
stages_few L few = let least = height_right.least L 25 few in omega (arith, stage_count_is L)

-- the depth of a stage is its distance from the outside
pub depth_across : (L l : ℕ) → l < stage_count L → min l (stage_count L - 1 - l) ≡ depth L l
depth_across L l within =
    let n = stage_count_is L in
    elim (cases_lt l (height L)) [
      | inl before ↦ let d = depth_before L l before in omega arith
      | inr past ↦ let d = depth_after L l (2 * height L - 2 - l) past (omega arith) in omega arith
    ]

module _ (n : Network) (l m : ℕ) (is : m ≡ depth n.items l) where
  pub form_bound : m % n.rate ≡ 0 → Bound ≡ form_of n l
  form_bound e = sym (ap (λ (b : Bool). if b then Bound else Open) (ap (λ d. d % n.rate == 0) (sym is) ∙ eq-eqb (m % n.rate) 0 e))

  pub form_open : (m % n.rate ≡ 0 → ⊥) → Open ≡ form_of n l
  form_open e = sym (ap (λ (b : Bool). if b then Bound else Open) (ap (λ d. d % n.rate == 0) (sym is) ∙ ne_eqb (m % n.rate) 0 e))

pub width_few : (form : Form) → (3 ≤ width form) × (width form ≤ 5)
width_few Bound = (omega arith, omega arith)
width_few Open = (omega arith, omega arith)

pub wires_before-zero : (n : Network) → wires_before n 0 ≡ 0
unfolding wires_before
wires_before-zero n = refl

pub wires_before-suc : (n : Network) (l : ℕ) → wires_before n (suc l) ≡ wires_before n l + switches_in n l * width (form_of n l)
unfolding wires_before
wires_before-suc n l = refl

pub product_few : (a b : ℕ) → a ≤ 2 ^ 25 → b ≤ 5 → a * b ≤ 5 * 2 ^ 25
product_few a b h k =
    let one : a * b ≤ a * 5 = mul-le-mul_left a k in
    omega arith

pub one_more : (a w : ℕ) → a * w + w ≡ (a + 1) * w
one_more a w = grind arith

pub wires_mono : (n : Network) (l m : ℕ) → l < m → wires_before n (suc l) ≤ wires_before n m
wires_mono n l zero h = absurd (omega arith)
wires_mono n l (suc m) h = elim (cases_lt l m) [
  | inl before ↦ omega (arith, wires_mono n l m before, wires_before-suc n m)
  | inr last ↦ let same : suc l ≡ suc m = omega arith in subst (λ k. wires_before n (suc l) ≤ wires_before n k) same (omega arith)
]
