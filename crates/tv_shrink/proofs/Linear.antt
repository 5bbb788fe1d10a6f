-- What the functions on a constraint's combinations return.
use Rattle.tv_core.proofs.Common.{◌≡◌, ◌≢◌, ℕ, ◌+◌, ◌-◌, ◌*◌, ◌%◌, ◌<◌, ◌≤◌, Bool, not, length, ◌∷◌, ◌++◌, Some, None, sym, ◌∙◌, ap, [], ap₂, append-nil, arith}
use Rattle.tv_core.proofs.Common.{true, false, inl, inr, cond, mod-lt, cond_both, length-append, length-map, scaled, value-append, Combination, Constraint}
use Rattle.tv_core.proofs.Common.{value, normal, IsNormalFrom}
use Rattle.std.proofs.Common.{◌||◌, leb, eqb, mul-zero}
use Rattle.std.proofs.lemmas.Bool.{le-leb, leb-true, not-true, or_cases, or_left, or_right}
use Rattle.std.specs.Option.{option_or}
use Rattle.tv_core.proofs.InverseLaws.{inverse_of-below, mul-inverse_of}
use Rattle.tv_core.proofs.PrimeLaws.{p_cancels}
use Rattle.tv_core.proofs.Unique.{normal-same, same_values}
use Rattle.tv_core.specs.Inverse.{inverse_of}
use Rattle.tv_core.specs.declared.field.TheConstants.{P}
use Rattle.tv_core.specs.Normal.{coefficient}
use Rattle.tv_shrink.specs.Substitution.{has_wire, without, constant_in, difference, linear_form, solved, replaced, fits}
use Rattle.tv_core.proofs.NormalLaws.{Over, Over-append, Over-normal, Over-scaled, Over-weaker, IsNormalFrom-normal, length-normal, value-normal}
use Rattle.tv_shrink.proofs.Constants.{joined, parted, scaled_once}

-- what a constraint says is 0
pub linear-first : (c : Constraint) (k : ℕ) (out : Combination) → constant_in c.a ≡ Some k → out ≡ normal (scaled k c.b ++ scaled (P - 1) c.c)
    → linear_form c ≡ Some out
unfolding linear_form difference
linear-first c k out is made = ap (λ o. option_or (difference o c.b c.c) (difference (constant_in c.b) c.a c.c)) is ∙ ap Some (sym made)

pub linear-second : (c : Constraint) (k : ℕ) (out : Combination) → constant_in c.a ≡ None → constant_in c.b ≡ Some k
    → out ≡ normal (scaled k c.a ++ scaled (P - 1) c.c) → linear_form c ≡ Some out
unfolding linear_form difference
linear-second c k out isnt is made = ap₂ (λ o p. option_or (difference o c.b c.c) (difference p c.a c.c)) isnt is ∙ ap Some (sym made)

pub linear-none : (c : Constraint) → constant_in c.a ≡ None → constant_in c.b ≡ None → linear_form c ≡ None
unfolding linear_form difference
linear-none c isnt is = ap₂ (λ o p. option_or (difference o c.b c.c) (difference p c.a c.c)) isnt is

-- a combination with another one in place of a wire
swapped : (a b c : ℕ) → ((a + c) % P + b) % P ≡ ((a + b) % P + c) % P
swapped a b c = omega arith

pub replaced-made : (w k : ℕ) (r before after : Combination) → IsNormalFrom 0 (before ++ (k, w) ∷ after) → Over (λ v. v < w) r
    → normal (scaled 1 before ++ scaled k r) ++ after ≡ replaced w r (before ++ (k, w) ∷ after)
unfolding replaced
replaced-made w k r before after n below =
    let x = before ++ (k, w) ∷ after in
    let p = parted 0 w k before after n in
    let both = scaled 1 before ++ scaled k r in
    let up = λ (y : Combination) (h : Over (λ v. v < w) y). Over-weaker (λ v. v < w) (λ v. v < w + 1) y (λ v l. omega arith) h in
    let low : Over (λ v. v < w + 1) (normal both) = up (normal both) (Over-normal (λ v. v < w) both (Over-append (λ v. v < w) (scaled 1 before) (scaled k r)
    (Over-scaled (λ v. v < w) 1 before p.below) (Over-scaled (λ v. v < w) k r below))) in
    same_values 0 0 (normal both ++ after) (normal (before ++ after ++ scaled k r))
    (joined 0 (w + 1) (normal both) after (omega arith) (IsNormalFrom-normal both) low p.back) (IsNormalFrom-normal (before ++ after ++ scaled k r))
    (λ z. value-append (normal both) after z
    ∙ ap (λ m. (m + value after z) % P) (value-normal z both ∙ value-append (scaled 1 before) (scaled k r) z
    ∙ ap (λ y. (value y z + value (scaled k r) z) % P) (scaled_once 0 before p.front))
    ∙ swapped (value before z) (value after z) (value (scaled k r) z)
    ∙ ap (λ m. (m + value (scaled k r) z) % P) (sym (value-append before after z))
    ∙ sym (value-append (before ++ after) (scaled k r) z)
    ∙ sym (value-normal z (before ++ after ++ scaled k r)))
    ∙ ap₂ (λ y j. normal (y ++ scaled j r)) (sym p.others) (sym p.own)
    ∙ sym (ap (λ b. cond b (normal (without w x ++ scaled (coefficient w x) r)) x) p.has)

pub replaced-lacking : (w : ℕ) (r x : Combination) → false ≡ has_wire w x → replaced w r x ≡ x
unfolding replaced
replaced-lacking w r x e = ap (λ b. cond b (normal (without w x ++ scaled (coefficient w x) r)) x) (sym e)

-- what a wire is
pub negative : (k i : ℕ) → i < P → k * i % P ≡ 1 → (P - i) % P ≡ P - i
negative k i small one =
    let some : i ≢ 0 = λ e. let none : k * i % P ≡ 0 = ap (λ j. k * j % P) e ∙ ap (λ n. n % P) (mul-zero k) in omega arith in
    omega arith

pub solve-made : (own w : ℕ) (front : Combination) → IsNormalFrom 0 (front ++ (own, w) ∷ [])
    → normal (scaled (P - inverse_of own) front) ≡ solved w (front ++ (own, w) ∷ [])
unfolding solved
solve-made own w front n =
    let p = parted 0 w own front [] n in
    sym (ap₂ (λ k y. normal (scaled (P - inverse_of k) y)) p.own (p.others ∙ append-nil front))

scaled-normal : (f least : ℕ) (x : Combination) → f % P ≢ 0 → IsNormalFrom least x → IsNormalFrom least (scaled f x)
scaled-normal f least [] apart n = tt
scaled-normal f least (t ∷ x) apart n =
    let some : f * t.0 % P ≢ 0 = λ none. let zero = p_cancels f t.0 0 (none ∙ sym (ap (λ k. k % P) (mul-zero f))) apart in omega (arith, zero, n.1, n.2) in
    (n.0, omega arith, mod-lt (f * t.0) (omega arith), scaled-normal f (t.1 + 1) x apart n.3)

pub scaled-same : (own : ℕ) (x : Combination) → 0 < own → own < P → IsNormalFrom 0 x → scaled (P - inverse_of own) x ≡ normal (scaled (P - inverse_of own) x)
scaled-same own x some small n =
    let one = mul-inverse_of own (λ none. omega arith) in
    let factor = negative own (inverse_of own) (inverse_of-below own) one in
    let below = inverse_of-below own in
    sym (normal-same (scaled (P - inverse_of own) x) (scaled-normal (P - inverse_of own) 0 x (λ none. absurd (omega arith)) n))

-- whether a combination keeps to its most terms
pub fits-lacking : (w : ℕ) (r x : Combination) → has_wire w x ≡ false → fits w r x ≡ true
unfolding fits
fits-lacking w r x e = or_left (not (has_wire w x)) (leb (length (replaced w r x)) 128) (ap not e)

pub fits-having : (w : ℕ) (r x out : Combination) (has : Bool) → has ≡ has_wire w x → has ≡ true → out ≡ replaced w r x → leb (length out) 128 ≡ fits w r x
unfolding fits
fits-having w r x out has is e made = ap (λ y. leb (length y) 128) made ∙ sym (ap (λ b. not b || leb (length (replaced w r x)) 128) (sym is ∙ e))

-- a combination has no more terms with another one in place of a wire than both together
length-without : (w : ℕ) (x : Combination) → length (without w x) ≤ length x
unfolding without
length-without w [] = omega arith
length-without w (t ∷ x) =
    let rest = length-without w x in
    cond_both (not (eqb t.1 w)) (t ∷ without w x) (without w x) (λ y. length y ≤ length (t ∷ x)) (λ _. omega arith) (λ _. omega arith)

length-replaced : (w : ℕ) (r x : Combination) → length (replaced w r x) ≤ length x + length r
unfolding replaced
length-replaced w r x =
    cond_both (has_wire w x) (normal (without w x ++ scaled (coefficient w x) r)) x (λ y. length y ≤ length x + length r)
    (λ _. omega (
      arith,
      length-normal (without w x ++ scaled (coefficient w x) r),
      length-append (without w x) (scaled (coefficient w x) r),
      length-without w x,
      length-map {B = ℕ × ℕ} r (λ (t : ℕ × ℕ). (coefficient w x * t.0 % P, t.1)),
    ))
    (λ _. omega arith)

pub fits-few : (w : ℕ) (r x : Combination) → length x + length r ≤ 128 → fits w r x ≡ true
unfolding fits
fits-few w r x few =
    let short : length (replaced w r x) ≤ 128 = omega (arith, length-replaced w r x) in
    or_right (not (has_wire w x)) (leb (length (replaced w r x)) 128) (le-leb (length (replaced w r x)) 128 short)

-- what fits stays short
pub replaced_short : (n w : ℕ) (r x : Combination) → 128 ≤ n → fits w r x ≡ true → length x ≤ n → length (replaced w r x) ≤ n
unfolding fits
replaced_short n w r x most e few =
    elim (or_cases (not (has_wire w x)) (leb (length (replaced w r x)) 128) e) [
      | inl lacks ↦ omega (arith, ap length (replaced-lacking w r x (sym (not-true (has_wire w x) lacks))))
      | inr short ↦ omega (arith, leb-true (length (replaced w r x)) 128 short)
    ]
