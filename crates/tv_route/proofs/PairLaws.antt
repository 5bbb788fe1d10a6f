-- Numbers in pairs, and inputs in pairs by their outputs.
use Rattle.tv_core.proofs.Common.{◌≡◌, ◌≢◌, ℕ, zero, suc, ◌+◌, ◌-◌, ◌*◌, ◌%◌, ◌<◌, ◌==◌, ◌⊎◌, inl, inr, if◌then◌else◌, List, length, get_or, set, sym, ◌∙◌, ap}
use Rattle.tv_core.proofs.Common.{subst, arith, slice_index, cases_eq}
use Rattle.std.proofs.Common.{length-set, get_or-set_same, get_or-set_other}
use Rattle.tv_route.specs.Permutations.{Permutes}
use Rattle.tv_route.specs.Route.{other, partners}

-- pairs every number below m with another one
pub record IsPairing (m : ℕ) (s : ℕ → ℕ) : Type 0 where
  pub below : (x : ℕ) → x < m → s x < m
  pub back : (x : ℕ) → x < m → s (s x) ≡ x
  pub moves : (x : ℕ) → x < m → s x ≢ x

pub other-even : (x : ℕ) → x % 2 ≡ 0 → other x ≡ x + 1
other-even x even = ap (λ r. if r == 0 then x + 1 else x - 1) even

pub other-odd : (x : ℕ) → x % 2 ≡ 1 → other x ≡ x - 1
other-odd x odd = ap (λ r. if r == 0 then x + 1 else x - 1) odd

-- the two cases of a number in a pair
pub other_cases : (x : ℕ) → ((x % 2 ≡ 0) × (other x ≡ x + 1)) ⊎ ((x % 2 ≡ 1) × (other x ≡ x - 1))
other_cases x = elim (cases_eq (x % 2) 0) [
  | inl even ↦ inl (even, other-even x even)
  | inr odd ↦ let one : x % 2 ≡ 1 = omega arith in inr (one, other-odd x one)
]

pub other_below : (n x : ℕ) → x < 2 * n → other x < 2 * n
other_below n x h = omega (arith, other_cases x)

other_back : (x : ℕ) → other (other x) ≡ x
other_back x = elim (other_cases x) [
  | inl e ↦ let odd : (x + 1) % 2 ≡ 1 = omega (arith, e.0) in ap other e.1 ∙ other-odd (x + 1) odd ∙ omega arith
  | inr e ↦ let even : (x - 1) % 2 ≡ 0 = omega (arith, e.0) in ap other e.1 ∙ other-even (x - 1) even ∙ omega (arith, e.0)
]

other_moves : (x : ℕ) → other x ≢ x
other_moves x same = omega (arith, other_cases x)

pub other_pairs : (n : ℕ) → IsPairing (2 * n) other
other_pairs n = record { below = other_below n; back = λ x h. other_back x; moves = λ x h. other_moves x }

module _ (n : ℕ) (p : List ℕ) (perm : Permutes (2 * n) p) where
  pub partners-long : (j : ℕ) → length (partners p j) ≡ 2 * n
  unfolding partners
  partners-long zero = perm.as_long
  partners-long (suc j) =
      let a = slice_index p (2 * j) in
      let b = slice_index p (2 * j + 1) in
      length-set (set (partners p j) a b) b a ∙ length-set (partners p j) a b ∙ partners-long j

  -- of inputs whose pairs are done the partner is there
  partners_have : (j i : ℕ) → j < n + 1 → i < 2 * j → slice_index (partners p j) (slice_index p i) ≡ slice_index p (other i)
  unfolding partners
  partners_have zero i within h = absurd (omega arith)
  partners_have (suc j) i within h =
      let a = slice_index p (2 * j) in
      let b = slice_index p (2 * j + 1) in
      let before = partners p j in
      let long = partners-long j in
      let a_in : a < length (partners p j) = omega (arith, perm.below (2 * j) (omega arith)) in
      let b_in : b < length (set (partners p j) a b) = omega (arith, perm.below (2 * j + 1) (omega arith), length-set (partners p j) a b) in
      let apart : a ≢ b = λ e. let same : 2 * j ≡ 2 * j + 1 = perm.once (2 * j) (2 * j + 1) (omega arith) (omega arith) e in omega arith in
      elim (cases_eq i (2 * j)) [
        | inl first ↦
            let even : i % 2 ≡ 0 = omega arith in
            let place : other i ≡ 2 * j + 1 = other-even i even ∙ omega arith in
            ap (λ k. get_or (set (set before a b) b a) (slice_index p k) 0) first
            ∙ get_or-set_other (set before a b) b a a 0 apart
            ∙ get_or-set_same before a b 0 a_in
            ∙ ap (λ k. slice_index p k) (sym place)
        | inr later ↦ elim (cases_eq i (2 * j + 1)) [
          | inl second ↦
              let odd : i % 2 ≡ 1 = omega arith in
              let place : other i ≡ 2 * j = other-odd i odd ∙ omega arith in
              ap (λ k. get_or (set (set before a b) b a) (slice_index p k) 0) second
              ∙ get_or-set_same (set before a b) b a 0 b_in
              ∙ ap (λ k. slice_index p k) (sym place)
          | inr early ↦
              let not_a : slice_index p i ≢ a = λ e. let same : i ≡ 2 * j = perm.once i (2 * j) (omega arith) (omega arith) e in later same in
              let not_b : slice_index p i ≢ b = λ e. let same : i ≡ 2 * j + 1 = perm.once i (2 * j + 1) (omega arith) (omega arith) e in early same in
              get_or-set_other (set before a b) b (slice_index p i) a 0 not_b
              ∙ get_or-set_other before a (slice_index p i) b 0 not_a
              ∙ partners_have j i (omega arith) (omega arith)
        ]
      ]

  pub partner_of : (i : ℕ) → i < 2 * n → slice_index (partners p n) (slice_index p i) ≡ slice_index p (other i)
  partner_of i h = partners_have n i (omega arith) h

  pub partner_at : (x : ℕ) → x < 2 * n → slice_index (partners p n) x ≡ slice_index p (other (perm.back x))
  partner_at x h = ap (λ y. slice_index (partners p n) y) (sym (perm.there x h)) ∙ partner_of (perm.back x) (perm.back_below x h)

  pub partners_pair : IsPairing (2 * n) (λ x. slice_index (partners p n) x)
  partners_pair = record {
    below = λ x h. subst (λ y. y < 2 * n) (sym (partner_at x h)) (perm.below (other (perm.back x)) (other_below n (perm.back x) (perm.back_below x h)));
    back = λ x h.
        ap (λ y. slice_index (partners p n) y) (partner_at x h) ∙ partner_of (other (perm.back x)) (other_below n (perm.back x) (perm.back_below x h))
        ∙ ap (λ i. slice_index p i) (other_back (perm.back x)) ∙ perm.there x h;
    moves = λ x h e.
        other_moves (perm.back x) (perm.once (other (perm.back x)) (perm.back x) (other_below n (perm.back x) (perm.back_below x h)) (perm.back_below x h)
        (sym (partner_at x h) ∙ e ∙ sym (perm.there x h)));
  }
