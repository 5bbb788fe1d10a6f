-- One step of adding two combinations.
use Rattle.tv_core.proofs.Common.{◌≡◌, ◌≢◌, ℕ, ◌+◌, ◌*◌, ◌%◌, ◌<◌, ◌≤◌, Bool, List, ◌∷◌, ◌++◌, refl, sym, ◌∙◌, ap, ap₂, subst, arith, true, false, [], ◌-◌, ◌^◌}
use Rattle.tv_core.proofs.Common.{cond, inl, inr, length, append_assoc, append-nil, slice_index, cases_lt, cond_both, value-cons, value-append, value-below}
use Rattle.tv_core.proofs.Common.{scaled, Combination, value, normal, IsNormalFrom}
use Rattle.std.proofs.Common.{eqb, eq-eqb, min, eqb-true, add-mul, mul-zero}
use Rattle.std.proofs.lemmas.Bool.{cond-true, eqb-false}
use Rattle.tv_core.specs.declared.field.TheConstants.{P}
use Rattle.tv_core.specs.Normal.{with_term}
use Rattle.tv_shrink.specs.Merge.{first_wire, head_at, tail_at}
use Rattle.tv_core.proofs.NormalLaws.{Over, Over-append, Over-scaled, normal_from, IsNormalFrom-lower}
use Rattle.tv_core.proofs.Unique.{normal-step}

-- what one side has of a wire
abbrev given : ℕ → ℕ → Combination → ℕ
given factor w x = factor * head_at w x % P

module _ (factor : ℕ) (z : List ℕ) where
  none_given : (n v : ℕ) → v < P → v ≡ (factor * 0 % P * n + v) % P
  none_given n v small = let none : factor * 0 ≡ 0 = mul-zero factor in subst (λ k. v ≡ (k % P * n + v) % P) (sym none) (omega arith)

  split_head : (w : ℕ) (t : ℕ × ℕ) (x : Combination) (b : Bool) → eqb t.1 w ≡ b →
      value (scaled factor (t ∷ x)) z ≡ (factor * cond b t.0 0 % P * slice_index z w + value (scaled factor (cond b x (t ∷ x))) z) % P
  split_head w t x true e =
      value-cons (factor * t.0 % P) t.1 (scaled factor x) z
      ∙ ap (λ v. (factor * t.0 % P * slice_index z v + value (scaled factor x) z) % P) (eqb-true t.1 w e)
  split_head w t x false e = none_given (slice_index z w) (value (scaled factor (t ∷ x)) z) (value-below (scaled factor (t ∷ x)) z)

  value-side : (w : ℕ) (x : Combination) → value (scaled factor x) z ≡ (given factor w x * slice_index z w + value (scaled factor (tail_at w x)) z) % P
  value-side w [] = none_given (slice_index z w) (value (scaled factor []) z) (value-below (scaled factor []) z)
  value-side w (t ∷ x) = split_head w t x (eqb t.1 w) refl

-- the rest of a side has later wires
Over-above : (w : ℕ) (x : Combination) → IsNormalFrom w x → Over (λ v. w ≤ v) x
Over-above w [] n = tt
Over-above w (t ∷ x) n = (n.0, Over-above w x (IsNormalFrom-lower w (t.1 + 1) x (omega (arith, n.0)) n.3))

normal-tail_at : (w : ℕ) (x : Combination) → IsNormalFrom w x → IsNormalFrom (w + 1) (tail_at w x)
normal-tail_at w [] n = tt
normal-tail_at w (t ∷ x) n =
    cond_both (eqb t.1 w) x (t ∷ x) (IsNormalFrom (w + 1))
    (λ e. IsNormalFrom-lower (w + 1) (t.1 + 1) x (omega (arith, eqb-true t.1 w e)) n.3)
    (λ e. let apart : t.1 ≢ w = eqb-false t.1 w e in (omega (arith, n.0), n.1, n.2, n.3))

later : (factor w : ℕ) (x : Combination) → IsNormalFrom w x → Over (λ v. w + 1 ≤ v) (scaled factor (tail_at w x))
later factor w x n = Over-scaled (λ v. w + 1 ≤ v) factor (tail_at w x) (Over-above (w + 1) (tail_at w x) (normal-tail_at w x n))

-- sums of both sides
both_sums : (a b n v u : ℕ) → ((a * n + v) % P + (b * n + u) % P) % P ≡ ((a + b) * n + (v + u) % P) % P
both_sums a b n v u = let apart = add-mul a b n in omega (arith, apart)

-- one step: the least wire of both sides is taken
merge-step : (left right w : ℕ) (x y : Combination) → IsNormalFrom w x → IsNormalFrom w y →
    normal (scaled left x ++ scaled right y)
    ≡ with_term (given left w x + given right w y) w (normal (scaled left (tail_at w x) ++ scaled right (tail_at w y)))
merge-step left right w x y n m =
    let p : Combination = scaled left (tail_at w x) in
    let q : Combination = scaled right (tail_at w y) in
    normal-step (scaled left x ++ scaled right y) (p ++ q) (given left w x + given right w y) w
    (normal_from (w + 1) (p ++ q) (Over-append (λ v. w + 1 ≤ v) p q (later left w x n) (later right w y m)))
    (λ z. value-append (scaled left x) (scaled right y) z
    ∙ ap₂ (λ a b. (a + b) % P) (value-side left z w x) (value-side right z w y)
    ∙ both_sums (given left w x) (given right w y) (slice_index z w) (value p z) (value q z)
    ∙ ap (λ v. ((given left w x + given right w y) * slice_index z w + v) % P) (sym (value-append p q z)))

-- a side from the least wire on
normal-least : (w : ℕ) (x : Combination) → IsNormalFrom 0 x → w ≤ first_wire x → IsNormalFrom w x
normal-least w [] n h = tt
normal-least w (t ∷ x) n h = (h, n.1, n.2, n.3)

pub with_term-front : (k w : ℕ) (x : Combination) → with_term (k % P) w [] ++ x ≡ with_term k w x
unfolding with_term
with_term-front k w x =
    let twice : k % P % P ≡ k % P = omega arith in
    subst (λ n. cond (eqb n 0) [] ((n, w) ∷ []) ++ x ≡ cond (eqb (k % P) 0) x ((k % P, w) ∷ x)) (sym twice) (either_way (eqb (k % P) 0))
  where
    either_way : (b : Bool) → cond b [] ((k % P, w) ∷ []) ++ x ≡ cond b x ((k % P, w) ∷ x)
    either_way true = refl
    either_way false = refl

-- one turn of the loop that adds two sides
pub merge-turn : (out total : Combination) (left right w k : ℕ) (x y : Combination) → IsNormalFrom 0 x → IsNormalFrom 0 y
    → w ≤ first_wire x → w ≤ first_wire y → k ≡ (given left w x + given right w y) % P →
    out ++ normal (scaled left x ++ scaled right y) ≡ total →
    (out ++ with_term k w []) ++ normal (scaled left (tail_at w x) ++ scaled right (tail_at w y)) ≡ total
merge-turn out total left right w k x y n m h g is before =
    let rest : Combination = normal (scaled left (tail_at w x) ++ scaled right (tail_at w y)) in
    append_assoc out (with_term k w []) rest
    ∙ ap (λ e. out ++ (with_term e w [] ++ rest)) is
    ∙ ap (λ u. out ++ u) (with_term-front (given left w x + given right w y) w rest)
    ∙ ap (λ u. out ++ u) (sym (merge-step left right w x y (normal-least w x n h) (normal-least w y m g)))
    ∙ before

pub normal-rest : (w : ℕ) (x : Combination) → IsNormalFrom 0 x → w ≤ first_wire x → IsNormalFrom 0 (tail_at w x)
normal-rest w x n h = IsNormalFrom-lower 0 (w + 1) (tail_at w x) (omega arith) (normal-tail_at w x (normal-least w x n h))

-- both sides are used up
pub nothing_left : (out total : Combination) (left right : ℕ) (x y : Combination) → x ≡ [] → y ≡ []
    → out ++ normal (scaled left x ++ scaled right y) ≡ total → out ≡ total
unfolding normal
nothing_left out total left right x y e f before = sym (append-nil out) ∙ ap₂ (λ u v. out ++ normal (scaled left u ++ scaled right v)) (sym e) (sym f) ∙ before

-- and one of them gets shorter in each turn
tail_here : (w : ℕ) (t : ℕ × ℕ) (x : Combination) → t.1 ≡ w → length (tail_at w (t ∷ x)) ≡ length x
tail_here w t x e = ap length (cond-true (eqb t.1 w) x (t ∷ x) (eq-eqb t.1 w e))

tail_short : (w : ℕ) (x : Combination) → length (tail_at w x) ≤ length x
tail_short w [] = omega arith
tail_short w (t ∷ x) = cond_both (eqb t.1 w) x (t ∷ x) (λ y. length y ≤ length (t ∷ x)) (λ _. omega arith) (λ _. omega arith)

pub shorter : (w : ℕ) (x y : Combination) → w ≡ min (first_wire x) (first_wire y) → first_wire x ≤ 2 ^ 32 - 1 → first_wire y ≤ 2 ^ 32 - 1
    → 0 < length x + length y → length (tail_at w x) + length (tail_at w y) < length x + length y
shorter w [] [] e h g some = absurd (omega arith)
shorter w (t ∷ x) [] e h g some = omega (arith, tail_here w t x (omega arith))
shorter w [] (u ∷ y) e h g some = omega (arith, tail_here w u y (omega arith))
shorter w (t ∷ x) (u ∷ y) e h g some =
    elim (cases_lt u.1 t.1) [
      | inl before ↦ omega (arith, tail_here w u y (omega arith), tail_short w (t ∷ x))
      | inr from ↦ omega (arith, tail_here w t x (omega arith), tail_short w (u ∷ y))
    ]
