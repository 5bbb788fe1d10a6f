-- The numbers of three registers read at once: a curve of degree two through three points, modulo P.
use Rattle.tv_core.proofs.Common.{◌⊎◌, ◌≡◌, ℕ, ◌+◌, ◌-◌, ◌*◌, ◌/◌, ◌%◌, ◌<◌, ◌≤◌, List, inl, inr, refl, sym, ◌∙◌, ap, arith, mod-lt, mod-eq_of_lt, zero-mul}
use Rattle.tv_core.proofs.Common.{slice_index, cases_lt, InField}
use Rattle.std.proofs.Common.{mul-zero}
use Rattle.std.proofs.Math.Nat.{div-add-mod}
use Rattle.std.proofs.lemmas.Nat.{mul-mod_first}
use Rattle.tv_bits.proofs.TimesLaws.{ratio_divides}
use Rattle.tv_core.proofs.DifferenceLaws.{same_of_minus}
use Rattle.tv_core.proofs.PrimeLaws.{p_zero_product_below}
use Rattle.tv_core.specs.declared.field.TheConstants.{P}
use Rattle.tv_regs.proofs.Gates.{word_below}
use Rattle.tv_regs.specs.Triple.{minus, first_divided, second_divided, curve_by, curve_through, curve_at, root_product, passing}

-- ---- differences
pub minus_below : (a b : ℕ) → minus a b < P
minus_below a b = mod-lt (a + (P - b)) (omega arith)

pub minus_itself : (a b : ℕ) → a < P → a ≡ b → minus a b ≡ 0
minus_itself a b small same = omega arith

minus_split : (a b : ℕ) → a < P → b ≤ P → (k : ℕ) × (minus a b + b ≡ a + P * k)
minus_split a b h l = elim (cases_lt a b) [ inl less ↦ (1, omega arith) | inr more ↦ (0, omega arith) ]

split : (n : ℕ) → n ≡ n % P + P * (n / P)
split n = omega (arith, div-add-mod n P)

-- ---- the product of three differences, as the cubic has it: x, y and z stand for i less o, b and d, and n for i² negated
cubed : (i o b d x y z kx ky kz p m n : ℕ) → x + o ≡ i + P * kx → y + b ≡ i + P * ky → z + d ≡ i + P * kz → x * y ≡ p + P * m → n + i * i ≡ P
    → (i * i * i + n * (o + b + d) + i * (o * b + d * (o + b)) + (P - 1) * (o * b * d)) % P ≡ p * z % P
cubed i o b d x y z kx ky kz p m n ex ey ez ep en =
    let square : p + i * (o + b) + P * m + P * (o * ky)
    ≡ i * i + o * b + P * (kx * y) + P * (i * ky) = omega (arith, ap (λ k. k * y) ex, ap (λ k. i * k) ey, ap (λ k. o * k) ey) in
    omega (arith, ap (λ k. k * i) square, ap (λ k. k * d) square, ap (λ k. p * k) ez, ap (λ k. k * (o + b + d)) en)

pub cubic_number : (o b d i : ℕ) → o < 16 → b < 16 → d < 16 → i < 16
    → (i * i * i + (P - i * i) * (o + b + d) + i * (o * b + d * (o + b)) + (P - 1) * (o * b * d)) % P ≡ root_product o b d i
cubic_number o b d i ho hb hd hi =
    let x = minus_split i o (omega arith) (omega arith) in
    let y = minus_split i b (omega arith) (omega arith) in
    let z = minus_split i d (omega arith) (omega arith) in
    let xy = minus i o * minus i b in
    let small : i * i ≤ P = grind arith in
    cubed i o b d (minus i o) (minus i b) (minus i d) x.0 y.0 z.0 (xy % P) (xy / P) (P - i * i) x.1 y.1 z.1 (split xy) (omega arith)

-- it is 0 at the three numbers, and nowhere else
zero_first : (x y z : ℕ) → x ≡ 0 → x * y % P * z % P ≡ 0
zero_first x y z none = ap (λ n. n * y % P * z % P) none ∙ ap (λ n. n % P * z % P) (zero-mul y) ∙ ap (λ n. n % P) (zero-mul z)

zero_second : (x y z : ℕ) → y ≡ 0 → x * y % P * z % P ≡ 0
zero_second x y z none = ap (λ n. x * n % P * z % P) none ∙ ap (λ n. n % P * z % P) (mul-zero x) ∙ ap (λ n. n % P) (zero-mul z)

zero_third : (x y z : ℕ) → z ≡ 0 → x * y % P * z % P ≡ 0
zero_third x y z none = ap (λ n. x * y % P * n % P) none ∙ ap (λ n. n % P) (mul-zero (x * y % P))

module _ (o b d i : ℕ) (small : i < P) where
  pub root_other : i ≡ o → root_product o b d i ≡ 0
  root_other same = zero_first (minus i o) (minus i b) (minus i d) (minus_itself i o small same)

  pub root_named : i ≡ b → root_product o b d i ≡ 0
  root_named same = zero_second (minus i o) (minus i b) (minus i d) (minus_itself i b small same)

  pub root_dest : i ≡ d → root_product o b d i ≡ 0
  root_dest same = zero_third (minus i o) (minus i b) (minus i d) (minus_itself i d small same)

pub root_cases : (o b d i : ℕ) → o < P → b < P → d < P → i < P → root_product o b d i ≡ 0 → (i ≡ o) ⊎ ((i ≡ b) ⊎ (i ≡ d))
root_cases o b d i ho hb hd hi none =
    elim (p_zero_product_below (minus i o * minus i b % P) (minus i d) (mod-lt _ (omega arith)) (minus_below i d) none) [
      | inl first ↦ elim (p_zero_product_below (minus i o) (minus i b) (minus_below i o) (minus_below i b) first) [
        | inl here ↦ inl (same_of_minus i o hi ho here)
        | inr here ↦ inr (inl (same_of_minus i b hi hb here))
      ]
      | inr here ↦ inr (inr (same_of_minus i d hi hd here))
    ]

-- ---- Newton's form, from the coefficients: x and y stand for i less o and b, and the other letters for residues on the way
expanded : (i o b s f g x y kx ky h m1 c1 k1 h0 m0 v k0 w m2 c0 q : ℕ) → x + o ≡ i + P * kx → y + b ≡ i + P * ky → (o + b) * g ≡ h + P * m1
    → c1 + h ≡ f + P * k1
    → o * f ≡ h0 + P * m0 → v + h0 ≡ s + P * k0 → o * b * g ≡ w + P * m2 → v + w ≡ c0 + P * q → (c0 + i * c1 + i * i * g) % P ≡ (s + x * f + x * y * g) % P
expanded i o b s f g x y kx ky h m1 c1 k1 h0 m0 v k0 w m2 c0 q ex ey eh ec1 eb ev ew ec0 =
    omega (arith, ap (λ n. i * n) ec1, ap (λ n. i * n) eh, ap (λ n. n * f) ex, ap (λ n. n * (y * g)) ex, ap (λ n. n * (i * g)) ey, ap (λ n. n * (o * g)) ey)

curve_expands : (o b s f g i : ℕ) → o < 16 → b < 16 → i < 16 → s < P → f < P
    → curve_at (curve_by o b s f g) i ≡ (s + minus i o * f + minus i o * minus i b * g) % P
curve_expands o b s f g i ho hb hi hs hf =
    let x = minus_split i o (omega arith) (omega arith) in
    let y = minus_split i b (omega arith) (omega arith) in
    let h = (o + b) * g in
    let c1 = minus_split f (h % P) hf (omega arith) in
    let v = minus_split s (o * f % P) hs (omega arith) in
    let low = minus s (o * f % P) in
    let sum = low + o * b * g % P in
    let whole = expanded i o b s f g (minus i o) (minus i b) x.0 y.0 (h % P) (h / P) (minus f (h % P)) c1.0 (o * f % P) (o * f / P) low v.0 (o * b * g % P)
    (o * b * g / P) (sum % P) (sum / P)
    x.1 y.1 (split h) c1.1 (split (o * f)) v.1 (split (o * b * g)) (split sum) in
    let flat : (a b c : ℕ) → ((a + b % P) % P + c % P) % P ≡ (a + b + c) % P = λ a b c. omega arith in
    flat (sum % P) (i * minus f (h % P)) (i * i * g) ∙ whole

-- ---- the curve goes through the three points
module _ (o b d : ℕ) (words : List ℕ) (ho : o < 16) (hb : b < 16) (hd : d < 16) (small : InField words) where
  abbrev s : ℕ
  s = slice_index words o

  abbrev t : ℕ
  t = slice_index words b

  abbrev u : ℕ
  u = slice_index words d

  abbrev f : ℕ
  f = first_divided o b s t

  abbrev g : ℕ
  g = second_divided o b d s t u

  abbrev curve_value : ℕ → ℕ
  curve_value i = curve_at (curve_through o b d words) i

  expands : (i : ℕ) → i < 16 → curve_value i ≡ (s + minus i o * f + minus i o * minus i b * g) % P
  expands i hi = curve_expands o b s f g i ho hb hi (word_below words o small) (mod-lt _ (omega arith))

  first_rise : minus b o * f % P ≡ minus t s
  first_rise = ratio_divides (minus b o) (minus t s) (minus_below t s)
      (λ none. minus_itself t s (word_below words b small)
      (ap (slice_index words) (same_of_minus b o (omega arith) (omega arith) (sym (mod-eq_of_lt (minus_below b o)) ∙ none))))

  second_rise : minus d o * minus d b % P * g % P ≡ minus (minus u s) (minus d o * f % P)
  second_rise = ratio_divides (minus d o * minus d b % P) (minus (minus u s) (minus d o * f % P)) (minus_below (minus u s) (minus d o * f % P)) (λ none.
      elim (p_zero_product_below (minus d o) (minus d b) (minus_below d o) (minus_below d b) (omega arith)) [
        | inl here ↦
            let same : d ≡ o = same_of_minus d o (omega arith) (omega arith) here in
            minus_itself (minus u s) (minus d o * f % P) (minus_below u s) (minus_itself u s (word_below words d small) (ap (slice_index words) same)
            ∙ sym (ap (λ n. n * f % P) here ∙ ap (λ n. n % P) (zero-mul f)))
        | inr here ↦
            let same : d ≡ b = same_of_minus d b (omega arith) (omega arith) here in
            minus_itself (minus u s) (minus d o * f % P) (minus_below u s) (ap (λ n. minus n s) (ap (slice_index words) same)
            ∙ sym (ap (λ n. minus n o * f % P) same ∙ first_rise))
      ])

  at_other : curve_value o ≡ s
  at_other =
      let none = minus_itself o o (omega arith) refl in
      expands o ho ∙ ap (λ n. (s + n * f + n * minus o b * g) % P) none ∙ omega (arith, zero-mul f, zero-mul (minus o b), zero-mul g, word_below words o small)

  at_named : curve_value b ≡ t
  at_named =
      let none = minus_itself b b (omega arith) refl in
      let plain : (s + minus b o * f + minus b o * 0 * g) % P ≡ (s + minus b o * f) % P = omega arith in
      expands b hb ∙ ap (λ n. (s + minus b o * f + minus b o * n * g) % P) none ∙ plain
      ∙ omega (arith, first_rise, word_below words o small, word_below words b small)

  at_dest : curve_value d ≡ u
  at_dest =
      expands d hd ∙ omega (arith, second_rise, mul-mod_first (minus d o * minus d b) g P, word_below words o small, word_below words d small)

  pub curve_passes : (i : ℕ) → i < 16 → root_product o b d i ≡ 0 → slice_index words i ≡ curve_value i
  curve_passes i hi none = elim (root_cases o b d i (omega arith) (omega arith) (omega arith) (omega arith) none) [
    | inl same ↦ sym (ap (λ k. curve_value k) same ∙ at_other ∙ ap (slice_index words) (sym same))
    | inr (inl same) ↦ sym (ap (λ k. curve_value k) same ∙ at_named ∙ ap (slice_index words) (sym same))
    | inr (inr same) ↦ sym (ap (λ k. curve_value k) same ∙ at_dest ∙ ap (slice_index words) (sym same))
  ]

  -- so each register's ratio is one
  pub passing_divides : (i : ℕ) → i < 16 → root_product o b d i * passing o b d words i % P ≡ minus (slice_index words i) (curve_value i)
  passing_divides i hi =
      let root : root_product o b d i < P = mod-lt _ (omega arith) in
      ratio_divides (root_product o b d i) (minus (slice_index words i) (curve_value i)) (minus_below (slice_index words i) (curve_value i))
      (λ none. minus_itself (slice_index words i) (curve_value i) (word_below words i small) (curve_passes i hi (sym (mod-eq_of_lt root) ∙ none)))
