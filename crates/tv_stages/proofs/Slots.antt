-- Slots by their bits: x is made of x / 2 ^ d / 2, of bit d, and of x % 2 ^ d.
use Rattle.std.proofs.Common.{◌≡◌, ◌≢◌, ℕ, suc, ◌+◌, ◌-◌, ◌*◌, ◌/◌, ◌%◌, ◌^◌, ◌<◌, ◌≤◌, inl, inr, Bool}
use Rattle.std.proofs.Common.{true, false, not, if◌then◌else◌, refl, sym, ◌∙◌, ap, ap₂, arith, eq-eqb}
use Rattle.std.proofs.Math.Nat.{mul-le-mul_left}
use Rattle.std.proofs.lemmas.Bool.{cases_lt, cases_Bool, ne_eqb, eqb-true, eqb-false}
use lib.Arith.{mod-mul}
use Rattle.std.proofs.lemmas.Nat.{pow_pos, div-mul-add, mod-mul-add}
use Rattle.tv_stages.specs.Stages.{insert_bit, remove_bit, is_low, flip, low}

-- a quotient and a remainder
pub parts : (S x q r : ℕ) → r < S → x ≡ q * S + r → (x / S ≡ q) × (x % S ≡ r)
parts S x q r h e = (ap (λ y. y / S) e ∙ div-mul-add q S r h, ap (λ y. y % S) e ∙ mod-mul-add q S r h)

pub whole : (S x : ℕ) → 0 < S → x ≡ x / S * S + x % S
whole S x pos = omega arith

-- two numbers of one class are at least S apart
pub class_apart : (S x y : ℕ) → 0 < S → x % S ≡ y % S → x < y → x + S ≤ y
class_apart S x y pos same less = elim (cases_lt (x / S) (y / S)) [
  | inl h ↦ let m : suc (x / S) ≤ y / S = omega arith in omega (arith, mul-le-mul_left S m)
  | inr h ↦ absurd (omega (arith, mul-le-mul_left S h))
]

pub is_low_at : (d x : ℕ) → x / 2 ^ d % 2 ≡ 0 → is_low d x ≡ true
unfolding is_low
is_low_at d x e = eq-eqb (x / 2 ^ d % 2) 0 e

pub is_high_at : (d x : ℕ) → x / 2 ^ d % 2 ≡ 1 → is_low d x ≡ false
unfolding is_low
is_high_at d x e = ne_eqb (x / 2 ^ d % 2) 0 (λ z. absurd (omega arith))

module _ (d x : ℕ) where
  pub low_is : is_low d x ≡ true → x / 2 ^ d % 2 ≡ 0
  unfolding is_low
  low_is e = eqb-true (x / 2 ^ d % 2) 0 e

  pub high_is : is_low d x ≡ false → x / 2 ^ d % 2 ≡ 1
  unfolding is_low
  high_is e = let ne = eqb-false (x / 2 ^ d % 2) 0 e in let h : x / 2 ^ d % 2 ≢ 0 = ne in omega arith

  pub flip_low : is_low d x ≡ true → flip d x ≡ x + 2 ^ d
  unfolding flip
  flip_low e = ap (λ (b : Bool). if b then x + 2 ^ d else x - 2 ^ d) e

  pub flip_high : is_low d x ≡ false → flip d x ≡ x - 2 ^ d
  unfolding flip
  flip_high e = ap (λ (b : Bool). if b then x + 2 ^ d else x - 2 ^ d) e

  pub low_low : is_low d x ≡ true → low d x ≡ x
  unfolding low
  low_low e = ap (λ (b : Bool). if b then x else x - 2 ^ d) e

  pub low_high : is_low d x ≡ false → low d x ≡ flip d x
  unfolding low
  low_high e = ap (λ (b : Bool). if b then x else x - 2 ^ d) e ∙ sym (flip_high e)

  pub flip_parts_low : is_low d x ≡ true → (flip d x / 2 ^ d ≡ suc (x / 2 ^ d)) × (flip d x % 2 ^ d ≡ x % 2 ^ d)
  flip_parts_low e =
      let pos = pow_pos d in
      let f = flip_low e in
      let less : x % 2 ^ d < 2 ^ d = omega arith in
      parts (2 ^ d) (flip d x) (suc (x / 2 ^ d)) (x % 2 ^ d) less (omega (arith, whole (2 ^ d) x pos))

  pub high_more : is_low d x ≡ false → 2 ^ d ≤ x
  high_more e =
      let pos = pow_pos d in
      let one : 1 ≤ x / 2 ^ d = omega (arith, high_is e) in
      omega (arith, mul-le-mul_left (2 ^ d) one, whole (2 ^ d) x pos)

  pub flip_parts_high : is_low d x ≡ false → (suc (flip d x / 2 ^ d) ≡ x / 2 ^ d) × (flip d x % 2 ^ d ≡ x % 2 ^ d)
  flip_parts_high e =
      let pos = pow_pos d in
      let f = flip_high e in
      let m = x / 2 ^ d - 1 in
      let next : x / 2 ^ d ≡ suc m = omega (arith, high_is e) in
      let less : x % 2 ^ d < 2 ^ d = omega arith in
      let more = high_more e in
      let prod : x / 2 ^ d * 2 ^ d ≡ suc m * 2 ^ d = ap (λ z. z * 2 ^ d) next in
      let both = parts (2 ^ d) (flip d x) m (x % 2 ^ d) less (omega (arith, whole (2 ^ d) x pos, prod)) in
      (ap suc both.0 ∙ sym next, both.1)

  pub flip_mod : flip d x % 2 ^ d ≡ x % 2 ^ d
  flip_mod = elim (cases_Bool (is_low d x)) [ inl e ↦ (flip_parts_low e).1 | inr e ↦ (flip_parts_high e).1 ]

  pub flip_turns : is_low d (flip d x) ≡ not (is_low d x)
  flip_turns = elim (cases_Bool (is_low d x)) [
    | inl e ↦ is_high_at d (flip d x) (omega (arith, (flip_parts_low e).0, low_is e)) ∙ ap not (sym e)
    | inr e ↦ is_low_at d (flip d x) (omega (arith, (flip_parts_high e).0, high_is e)) ∙ ap not (sym e)
  ]

  pub flip_upper : flip d x / 2 ^ d / 2 ≡ x / 2 ^ d / 2
  flip_upper = elim (cases_Bool (is_low d x)) [
    | inl e ↦ omega (arith, (flip_parts_low e).0, low_is e)
    | inr e ↦ omega (arith, (flip_parts_high e).0, high_is e)
  ]

  pub flip_moves : flip d x ≢ x
  flip_moves same = turned (is_low d x) (sym (ap (λ y. is_low d y) same) ∙ flip_turns)
    where
      turned : (b : Bool) → b ≡ not b → ⊥
      turned true e = cc
      turned false e = cc

pub flip_flip : (d x : ℕ) → flip d (flip d x) ≡ x
flip_flip d x = elim (cases_Bool (is_low d x)) [
  | inl e ↦ let up = flip_low d x e in let down = flip_high d (flip d x) (flip_turns d x ∙ ap not e) in omega arith
  | inr e ↦
      let more = high_more d x e in
      let down = flip_high d x e in
      let up = flip_low d (flip d x) (flip_turns d x ∙ ap not e) in
      omega arith
]

module _ (d x : ℕ) where
  pub low_flip : low d (flip d x) ≡ low d x
  low_flip = elim (cases_Bool (is_low d x)) [
    | inl e ↦ low_high d (flip d x) (flip_turns d x ∙ ap not e) ∙ flip_flip d x ∙ sym (low_low d x e)
    | inr e ↦ low_low d (flip d x) (flip_turns d x ∙ ap not e) ∙ sym (low_high d x e)
  ]

  pub is_low_low : is_low d (low d x) ≡ true
  is_low_low = elim (cases_Bool (is_low d x)) [
    | inl e ↦ ap (λ y. is_low d y) (low_low d x e) ∙ e
    | inr e ↦ ap (λ y. is_low d y) (low_high d x e) ∙ flip_turns d x ∙ ap not e
  ]

  pub low_mod : low d x % 2 ^ d ≡ x % 2 ^ d
  low_mod = elim (cases_Bool (is_low d x)) [
    | inl e ↦ ap (λ y. y % 2 ^ d) (low_low d x e)
    | inr e ↦ ap (λ y. y % 2 ^ d) (low_high d x e) ∙ flip_mod d x
  ]

  pub low_upper : low d x / 2 ^ d / 2 ≡ x / 2 ^ d / 2
  low_upper = elim (cases_Bool (is_low d x)) [
    | inl e ↦ ap (λ y. y / 2 ^ d / 2) (low_low d x e)
    | inr e ↦ ap (λ y. y / 2 ^ d / 2) (low_high d x e) ∙ flip_upper d x
  ]

  -- x is one of the two slots
  pub low_near : (low d x ≤ x) × (x ≤ low d x + 2 ^ d)
  low_near = elim (cases_Bool (is_low d x)) [
    | inl e ↦ let l = low_low d x e in (omega arith, omega arith)
    | inr e ↦ let l = low_high d x e in let f = flip_high d x e in (omega arith, omega arith)
  ]

  pub flip_near : flip d x ≤ low d x + 2 ^ d
  flip_near = elim (cases_Bool (is_low d x)) [
    | inl e ↦ let l = low_low d x e in let f = flip_low d x e in omega arith
    | inr e ↦ let l = low_high d x e in omega arith
  ]

  pub remove_low : remove_bit d (low d x) ≡ remove_bit d x
  unfolding remove_bit
  remove_low = ap₂ (λ q r. q * 2 ^ d + r) low_upper low_mod

  pub remove_flip : remove_bit d (flip d x) ≡ remove_bit d x
  unfolding remove_bit
  remove_flip = ap₂ (λ q r. q * 2 ^ d + r) (flip_upper d x) (flip_mod d x)

  -- the lower slot from its upper bits and its class
  pub low_made : low d x ≡ x / 2 ^ d / 2 * (2 * 2 ^ d) + x % 2 ^ d
  low_made =
      let pos = pow_pos d in
      let y = low d x in
      let even = low_is d y is_low_low in
      let half : y / 2 ^ d ≡ 2 * (x / 2 ^ d / 2) = omega (arith, low_upper) in
      let prod : y / 2 ^ d * 2 ^ d ≡ 2 * (x / 2 ^ d / 2) * 2 ^ d = ap (λ z. z * 2 ^ d) half in
      omega (arith, whole (2 ^ d) y pos, prod, low_mod)

  pub insert_remove : insert_bit d (remove_bit d x) ≡ low d x
  unfolding insert_bit remove_bit
  insert_remove =
      let less : x % 2 ^ d < 2 ^ d = let pos = pow_pos d in omega arith in
      let p = parts (2 ^ d) (x / 2 ^ d / 2 * 2 ^ d + x % 2 ^ d) (x / 2 ^ d / 2) (x % 2 ^ d) less refl in
      ap₂ (λ q r. q * (2 * 2 ^ d) + r) p.0 p.1 ∙ sym low_made

  pub remove_insert : remove_bit d (insert_bit d x) ≡ x
  unfolding insert_bit remove_bit
  remove_insert =
      let pos = pow_pos d in
      let less : x % 2 ^ d < 2 ^ d = omega arith in
      let p = parts (2 ^ d) (x / 2 ^ d * (2 * 2 ^ d) + x % 2 ^ d) (2 * (x / 2 ^ d)) (x % 2 ^ d) less (omega arith) in
      let half : (x / 2 ^ d * (2 * 2 ^ d) + x % 2 ^ d) / 2 ^ d / 2 ≡ x / 2 ^ d = omega (arith, p.0) in
      ap₂ (λ q r. q * 2 ^ d + r) half p.1 ∙ sym (whole (2 ^ d) x pos)

-- the class of a slot one depth further
pub class_next : (d x y : ℕ) → x % 2 ^ d ≡ y % 2 ^ d → is_low d x ≡ is_low d y → x % 2 ^ suc d ≡ y % 2 ^ suc d
class_next d x y same bits =
    let twice : 2 * 2 ^ d ≡ 2 ^ suc d = omega arith in
    ap (λ m. x % m) (sym twice) ∙ mod-mul x (omega arith) (pow_pos d) ∙ ap₂ (λ b r. b * 2 ^ d + r) (bit_same (is_low d y) refl) same
    ∙ sym (mod-mul y (omega arith) (pow_pos d)) ∙ ap (λ m. y % m) twice
  where
    bit_same : (b : Bool) → is_low d y ≡ b → x / 2 ^ d % 2 ≡ y / 2 ^ d % 2
    bit_same true e = low_is d x (bits ∙ e) ∙ sym (low_is d y e)
    bit_same false e = high_is d x (bits ∙ e) ∙ sym (high_is d y e)
