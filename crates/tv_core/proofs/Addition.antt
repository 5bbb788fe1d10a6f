-- One term more in a normal combination, at its wire's place.
use Rattle.std.proofs.Common.{◌≡◌, ℕ, zero, suc, ◌+◌, ◌*◌, ◌%◌, ◌<◌, ◌≤◌, [], ◌∷◌, ◌++◌, refl, sym, ◌∙◌, ap, arith, subst, append_assoc, append-nil, take}
use Rattle.std.proofs.Common.{length-append, max, length, set, get_or, false, eqb, eq-eqb, ne_eqb, cond, inl, inr}
use Rattle.std.specs.List.{insert, remove}
use Rattle.std.proofs.lemmas.List.{length-take-le, take_at, set_split, drop_at}
use Rattle.std.proofs.lemmas.Bool.{cases_lt, cases_eq, cond_both, lt-ltb, le-ltb}
use Rattle.tv_core.specs.Combinations.{scaled, top}
use Rattle.tv_core.specs.Constraints.{Combination}
use Rattle.tv_core.specs.declared.field.TheConstants.{P}
use Rattle.tv_core.specs.Normal.{with_term, added, normal, place, put_at, IsNormal, IsNormalFrom}
use Rattle.tv_core.proofs.CombinationLaws.{multiple, taken, top-append}
use Rattle.tv_core.proofs.NormalLaws.{IsNormalFrom-normal, length-normal, top-normal}
use Rattle.tv_core.proofs.Unique.{normal-end, normal-front, normal-same}

-- the place
place-empty : (w : ℕ) → place w [] ≡ 0
unfolding place
place-empty w = refl

place-below : (w : ℕ) (u : ℕ × ℕ) (rest : Combination) → u.1 < w → place w (u ∷ rest) ≡ suc (place w rest)
unfolding place
place-below w u rest h = ap (λ b. cond b (suc (place w rest)) 0) (lt-ltb u.1 w h)

place-here : (w : ℕ) (u : ℕ × ℕ) (rest : Combination) → w ≤ u.1 → place w (u ∷ rest) ≡ 0
unfolding place
place-here w u rest h = ap (λ b. cond b (suc (place w rest)) 0) (le-ltb u.1 w h)

pub place_within : (w : ℕ) (x : Combination) → place w x ≤ length x
place_within w [] = omega (arith, place-empty w)
place_within w (u ∷ rest) =
    elim (cases_lt u.1 w) [ inl below ↦ omega (arith, place-below w u rest below, place_within w rest) | inr here ↦ omega (arith, place-here w u rest here) ]

-- a term whose wire is not below it does not stand before it
pub place_up_to : (w : ℕ) (x : Combination) (i : ℕ) (d : ℕ × ℕ) → i < length x → w ≤ (get_or x i d).1 → place w x ≤ i
place_up_to w [] i d h above = absurd (omega arith)
place_up_to w (u ∷ rest) zero d h above = omega (arith, place-here w u rest above)
place_up_to w (u ∷ rest) (suc i) d h above =
    elim (cases_lt u.1 w) [
      | inl below ↦ omega (arith, place-below w u rest below, place_up_to w rest i d (omega arith) above)
      | inr here ↦ omega
          (arith, place-here w u rest here)
    ]

-- and one whose wire is below it does
over_least : (least : ℕ) (x : Combination) (i : ℕ) (d : ℕ × ℕ) → IsNormalFrom least x → i < length x → least ≤ (get_or x i d).1
over_least least [] i d n h = absurd (omega arith)
over_least least (u ∷ rest) zero d n h = n.0
over_least least (u ∷ rest) (suc i) d n h = omega (arith, n.0, over_least (u.1 + 1) rest i d n.3 (omega arith))

pub place_beyond : (least w : ℕ) (x : Combination) (i : ℕ) (d : ℕ × ℕ) → IsNormalFrom least x → i < length x → (get_or x i d).1 < w → i + 1 ≤ place w x
place_beyond least w [] i d n h below = absurd (omega arith)
place_beyond least w (u ∷ rest) zero d n h below = omega (arith, place-below w u rest below)
place_beyond least w (u ∷ rest) (suc i) d n h below =
    let first : u.1 < w = omega (arith, over_least (u.1 + 1) rest i d n.3 (omega arith)) in
    omega (arith, place-below w u rest first, place_beyond (u.1 + 1) w rest i d n.3 (omega arith) below)

-- what is added, by the first term
added-before : (t u : ℕ × ℕ) (rest : Combination) → t.1 < u.1 → added t (u ∷ rest) ≡ with_term t.0 t.1 (u ∷ rest)
unfolding added
added-before t u rest h = ap (λ b. cond b (with_term t.0 t.1 (u ∷ rest)) (cond (eqb t.1 u.1) (with_term (t.0 + u.0) t.1 rest) (u ∷ added t rest)))
    (lt-ltb t.1 u.1 h)

added-here : (t u : ℕ × ℕ) (rest : Combination) → t.1 ≡ u.1 → added t (u ∷ rest) ≡ with_term (t.0 + u.0) t.1 rest
unfolding added
added-here t u rest e = search (arith, cond, eqb, le-ltb, eq-eqb)

added-after : (t u : ℕ × ℕ) (rest : Combination) → u.1 < t.1 → added t (u ∷ rest) ≡ u ∷ added t rest
unfolding added
added-after t u rest h = search (arith, cond, eqb, le-ltb, ne_eqb)

added-empty : (t : ℕ × ℕ) → added t [] ≡ with_term t.0 t.1 []
unfolding added
added-empty t = refl

-- one term more at a place
put_at-first : (k w : ℕ) (x : Combination) → put_at k w 0 x ≡ with_term k w x
unfolding with_term
put_at-first k w x = refl

put_at-later : (k w place : ℕ) (u : ℕ × ℕ) (x : Combination) → put_at k w (suc place) (u ∷ x) ≡ u ∷ put_at k w place x
put_at-later k w place u x = search (arith, cond_both, eqb, suc, cond)

-- at a wire that stands there
add_same : (t : ℕ × ℕ) (x : Combination) (d : ℕ × ℕ) → place t.1 x < length x → (get_or x (place t.1 x) d).1 ≡ t.1 →
    put_at (t.0 + (get_or x (place t.1 x) d).0) t.1 (place t.1 x) (remove x (place t.1 x)) ≡ added t x
add_same t [] d = λ h e. absurd (omega arith)
add_same t (u ∷ rest) d =
    elim (cases_lt u.1 t.1) [
      | inl below ↦ subst AtPlace (sym (place-below t.1 u rest below)) (λ h e.
          put_at-later (t.0 + (get_or rest (place t.1 rest) d).0) t.1 (place t.1 rest) u (remove rest (place t.1 rest))
          ∙ ap (λ y. u ∷ y) (add_same t rest d (omega arith) e)
          ∙ sym (added-after t u rest below))
      | inr here ↦ subst AtPlace (sym (place-here t.1 u rest here)) (λ h e.
          put_at-first (t.0 + u.0) t.1 rest ∙ sym (added-here t u rest (sym e)))
    ]
  where
    AtPlace : ℕ → Type 0
    AtPlace p = p < length (u ∷ rest) → (get_or (u ∷ rest) p d).1 ≡ t.1
        → put_at (t.0 + (get_or (u ∷ rest) p d).0) t.1 p (remove (u ∷ rest) p) ≡ added t (u ∷ rest)

-- at a wire that does not
add_apart : (t : ℕ × ℕ) (x : Combination) (d : ℕ × ℕ) → (place t.1 x < length x → (get_or x (place t.1 x) d).1 ≡ t.1 → ⊥)
    → put_at t.0 t.1 (place t.1 x) x ≡ added t x
add_apart t [] d = λ apart. ap (λ p. put_at t.0 t.1 p []) (place-empty t.1) ∙ put_at-first t.0 t.1 [] ∙ sym (added-empty t)
add_apart t (u ∷ rest) d =
    elim (cases_lt u.1 t.1) [
      | inl below ↦ subst AtPlace (sym (place-below t.1 u rest below)) (λ apart.
          put_at-later t.0 t.1 (place t.1 rest) u rest
          ∙ ap (λ y. u ∷ y) (add_apart t rest d (λ h e. apart (omega arith) e))
          ∙ sym (added-after t u rest below))
      | inr here ↦ subst AtPlace (sym (place-here t.1 u rest here)) (λ apart.
          let other : t.1 < u.1 = elim (cases_eq u.1 t.1) [ inl e ↦ absurd (apart (omega arith) e) | inr ne ↦ omega arith ] in
          put_at-first t.0 t.1 (u ∷ rest) ∙ sym (added-before t u rest other))
    ]
  where
    AtPlace : ℕ → Type 0
    AtPlace p = (p < length (u ∷ rest) → (get_or (u ∷ rest) p d).1 ≡ t.1 → ⊥) → put_at t.0 t.1 p (u ∷ rest) ≡ added t (u ∷ rest)

-- a coefficient that is known modulo P
put_at-mod : (k n w place : ℕ) (x : Combination) → k ≡ n % P → put_at k w place x ≡ put_at n w place x
put_at-mod k n w place x e =
    let twice : k % P ≡ n % P = omega arith in ap (λ m. cond (eqb m 0) x (insert x place (m, w))) twice

-- a coefficient that is a number of the field other than 0
pub put_at-kept : (k w place : ℕ) (x : Combination) → k < P → eqb k 0 ≡ false → put_at k w place x ≡ insert x place (k, w)
put_at-kept k w place x below kept =
    let same : k % P ≡ k = omega arith in
    ap (λ m. cond (eqb m 0) x (insert x place (m, w))) same ∙ ap (λ b. cond b x (insert x place (k, w))) kept

pub put_at-none : (w place : ℕ) (x : Combination) → put_at 0 w place x ≡ x
put_at-none w place x = refl

-- a term in the place of another
pub replaced : (x : Combination) (at : ℕ) (t : ℕ × ℕ) → at < length x → set x at t ≡ insert (remove x at) at t
replaced x at t within = grind (arith, set_split, take_at, drop_at, length-take-le, insert, remove)

-- what a call of `add` leaves
pub added_same : (k w at sum : ℕ) (u : ℕ × ℕ) (x out : Combination) → IsNormal x → at ≡ place w x → at < length x → u ≡ get_or x at u → u.1 ≡ w
    → sum ≡ (k + u.0) % P → out ≡ put_at sum w at (remove x at) → out ≡ normal (x ++ (k, w) ∷ [])
added_same k w at sum u x out n is within read same adds put =
    let same_term : (get_or x at u).1 ≡ w = ap (λ t. t.1) (sym read) ∙ same in
    put
    ∙ put_at-mod sum (k + u.0) w at (remove x at) adds
    ∙ ap (λ t. put_at (k + t.0) w at (remove x at)) read
    ∙ at_place same_term
    ∙ sym (normal-end (k, w) x n)
  where
    at_place : (get_or x at u).1 ≡ w → put_at (k + (get_or x at u).0) w at (remove x at) ≡ added (k, w) x
    at_place same_term = subst (λ p. p < length x → (get_or x p u).1 ≡ w → put_at (k + (get_or x p u).0) w p (remove x p) ≡ added (k, w) x) (sym is)
        (add_same (k, w) x u) within same_term

pub added_apart : (k w at : ℕ) (d : ℕ × ℕ) (x out : Combination) → IsNormal x → at ≡ place w x → (at < length x → (get_or x at d).1 ≡ w → ⊥)
    → out ≡ put_at k w at x → out ≡ normal (x ++ (k, w) ∷ [])
added_apart k w at d x out n is apart put =
    put
    ∙ subst (λ p. (p < length x → (get_or x p d).1 ≡ w → ⊥) → put_at k w p x ≡ added (k, w) x) (sym is) (add_apart (k, w) x d) apart
    ∙ sym (normal-end (k, w) x n)

-- terms that are added in turn
pub added_none : (x : Combination) → IsNormal x → x ≡ normal (x ++ [])
added_none x n = sym (ap normal (append-nil x) ∙ normal-same x n)

added_more : (x y out after : Combination) (t : ℕ × ℕ) → out ≡ normal (x ++ y) → after ≡ normal (out ++ t ∷ []) → after ≡ normal (x ++ (y ++ t ∷ []))
added_more x y out after t before adds =
    adds ∙ ap (λ o. normal (o ++ t ∷ [])) before ∙ normal-front (x ++ y) (t ∷ []) ∙ ap normal (append_assoc x y (t ∷ []))

module _ (x terms : Combination) (i : ℕ) (t : ℕ × ℕ) (h : i < length terms) (read : t ≡ get_or terms i t) (out after : Combination) where
  pub added_term : out ≡ normal (x ++ take i terms) → after ≡ normal (out ++ t ∷ []) → after ≡ normal (x ++ take (i + 1) terms)
  added_term before adds = added_more x (take i terms) out after t before adds ∙ ap (λ y. normal (x ++ y)) (sym (taken terms i t h read))

  pub added_multiple : (k c : ℕ) → c ≡ k * t.0 % P → out ≡ normal (x ++ scaled k (take i terms)) → after ≡ normal (out ++ (c, t.1) ∷ [])
      → after ≡ normal (x ++ scaled k (take (i + 1) terms))
  added_multiple k c is before adds =
      added_more x (scaled k (take i terms)) out after (c, t.1) before adds ∙ ap (λ y. normal (x ++ y)) (sym (multiple terms i t h read k c is))

-- what is known of a combination that was made normal
pub normal_of : (x out : Combination) → out ≡ normal x → IsNormal out
normal_of x out e = subst IsNormal (sym e) (IsNormalFrom-normal x)

pub length_of : (x y out : Combination) → out ≡ normal (x ++ y) → length out ≤ length x + length y
length_of x y out e = omega (arith, ap length e, length-normal (x ++ y), length-append x y)

pub top_of : (x y out : Combination) → out ≡ normal (x ++ y) → top out ≤ max (top x) (top y)
top_of x y out e = omega (arith, ap top e, top-normal (x ++ y), top-append x y)

pub short_of : (x y out : Combination) (n most : ℕ) → out ≡ normal (x ++ y) → length y ≤ n → length x + n < most → length out < most
short_of x y out n most e short fits = omega (arith, length_of x y out e)
