-- Looking into a normal combination.
use Rattle.tv_core.proofs.Common.{◌≡◌, ℕ, zero, suc, ◌+◌, ◌*◌, ◌%◌, ◌<◌, ◌≤◌, ◌∷◌, Some, None, refl, sym, ◌∙◌, ap, ap₂, subst, arith, [], ◌++◌, not, true}
use Rattle.tv_core.proofs.Common.{false, Bool, Constraint, inl, inr, cond, length, get_or, mod-eq_of_lt, cases_lt, scaled, Combination, IsNormalFrom}
use Rattle.std.proofs.Common.{◌&&◌, eqb, ltb, eq-eqb, ne_eqb, ltb-true, one-mul}
use Rattle.std.specs.List.{list_all}
use Rattle.std.specs.Prelude.{Option, IfSome, is_some}
use Rattle.std.proofs.lemmas.Bool.{and_left, and_right, cond-true, cond-false, ltb-false, or_from}
use Rattle.std.specs.List.Sorted.{IsNonDecreasingBy, IsPartitionPoint}
use Rattle.tv_core.specs.declared.field.TheConstants.{P}
use Rattle.tv_core.specs.Normal.{coefficient}
use Rattle.tv_shrink.specs.Substitution.{has_wire, constant_in, without}
use Rattle.std.proofs.lemmas.List.Folds.{list_all-append}
use Rattle.tv_shrink.specs.Answers.{holds_by_constants}
use Rattle.tv_shrink.proofs.ReplacingLaws.{found_here, found_later}
use Rattle.tv_core.proofs.NormalLaws.{Over, IsNormalFrom-lower}
use Rattle.tv_core.proofs.Unique.{coefficient-first, coefficient-other}

-- constants
pub constant_in-none : constant_in [] ≡ Some 0
unfolding constant_in coefficient
constant_in-none = refl

pub constant_in-one : (t : ℕ × ℕ) → t.0 < P → t.1 ≡ 0 → constant_in (t ∷ []) ≡ Some t.0
unfolding constant_in
constant_in-one t small is =
    ap (λ b. cond (b && true) (Some (coefficient 0 (t ∷ []))) None) (eq-eqb t.1 0 is)
    ∙ ap (λ w. Some (coefficient w (t ∷ []))) (sym is)
    ∙ ap Some (coefficient-first t [] small tt)

pub constant_in-other : (t : ℕ × ℕ) (x : Combination) → (t.1 ≡ 0 → ⊥) → constant_in (t ∷ x) ≡ None
unfolding constant_in
constant_in-other t x apart = ap (λ b. cond (b && list_all (λ u. eqb u.1 0) x) (Some (coefficient 0 (t ∷ x))) None) (ne_eqb t.1 0 apart)

pub constant_in-more : (t u : ℕ × ℕ) (x : Combination) → IsNormalFrom 0 (t ∷ u ∷ x) → constant_in (t ∷ u ∷ x) ≡ None
unfolding constant_in
constant_in-more t u x n =
    let above : t.1 + 1 ≤ u.1 = n.3.0 in
    ap (λ b. cond b (Some (coefficient 0 (t ∷ u ∷ x))) None)
    (and_right (eqb t.1 0) (eqb u.1 0 && list_all (λ v. eqb v.1 0) x) (and_left (eqb u.1 0) (list_all (λ v. eqb v.1 0) x) (ne_eqb u.1 0 (λ e. omega arith))))

-- by the length and the first term
pub constant_in-empty : (x : Combination) → 0 ≡ length x → Some 0 ≡ constant_in x
constant_in-empty [] e = sym constant_in-none
constant_in-empty (t ∷ x) e = absurd (omega arith)

pub constant_in-single : (x : Combination) (d e : ℕ × ℕ) → length x ≡ 1 → IsNormalFrom 0 x → (get_or x 0 e).1 ≡ 0 → Some (get_or x 0 d).0 ≡ constant_in x
constant_in-single [] d e one n is = absurd (omega arith)
constant_in-single (t ∷ []) d e one n is = sym (constant_in-one t n.2 is)
constant_in-single (t ∷ u ∷ x) d e one n is = absurd (omega arith)

pub constant_in-several : (x : Combination) → 0 < length x → (length x ≡ 1 → ⊥) → IsNormalFrom 0 x → None ≡ constant_in x
constant_in-several [] some e n = absurd (omega arith)
constant_in-several (t ∷ []) some e n = absurd (e (omega arith))
constant_in-several (t ∷ u ∷ x) some e n = sym (constant_in-more t u x n)

pub constant_in-wired : (x : Combination) (d : ℕ × ℕ) → 0 < length x → ((get_or x 0 d).1 ≡ 0 → ⊥) → None ≡ constant_in x
constant_in-wired [] d some e = absurd (omega arith)
constant_in-wired (t ∷ x) d some e = sym (constant_in-other t x e)

-- a constraint whose combinations are constants, or one of them isn't
abbrev is_product : Option ℕ → Option ℕ → Option ℕ → Bool
is_product None p q = false
is_product (Some k) None q = false
is_product (Some k) (Some m) None = false
is_product (Some k) (Some m) (Some n) = eqb (k * m % P) n

products : (a b c : Bool) (k m n : ℕ) → is_product (cond a (Some k) None) (cond b (Some m) None) (cond c (Some n) None)
    ≡ ((a && (b && c)) && eqb (k * m % P) n)
products false b c k m n = refl
products true false c k m n = refl
products true true false k m n = refl
products true true true k m n = refl

pub by_constants : (c : Constraint) (k m n : Option ℕ) → k ≡ constant_in c.a → m ≡ constant_in c.b → n ≡ constant_in c.c
    → is_product k m n ≡ holds_by_constants c
unfolding constant_in
by_constants c k m n e f g =
    let is_zero : (ℕ × ℕ) → Bool = λ t. eqb t.1 0 in
    rw (e, f, g) (products (list_all is_zero c.a) (list_all is_zero c.b) (list_all is_zero c.c) (coefficient 0 c.a) (coefficient 0 c.b) (coefficient 0 c.c))
    ∙ ap (λ b. b && eqb (coefficient 0 c.a * coefficient 0 c.b % P) (coefficient 0 c.c))
    (sym (list_all-append is_zero c.a (c.b ++ c.c) ∙ ap (λ b. list_all is_zero c.a && b) (list_all-append is_zero c.b c.c)))

-- a wire that was found
pub above_at : (least i : ℕ) (d : ℕ × ℕ) (x : Combination) → IsNormalFrom least x → i < length x → least ≤ (get_or x i d).1
above_at least i d [] n h = absurd (omega arith)
above_at least zero d (t ∷ x) n h = n.0
above_at least (suc i) d (t ∷ x) n h = let later = above_at (t.1 + 1) i d x n.3 (omega arith) in omega (arith, n.0)

lacks_each : (w : ℕ) (x : Combination) → ((k : ℕ) (d : ℕ × ℕ) → k < length x → (get_or x k d).1 ≡ w → ⊥) → has_wire w x ≡ false
unfolding has_wire
lacks_each w [] each = refl
lacks_each w (t ∷ x) each =
    or_from (eqb t.1 w) (has_wire w x) (ne_eqb t.1 w (λ e. each 0 t (omega arith) e)) (lacks_each w x (λ k d h e. each (suc k) d (omega arith) e))

-- once times a combination
pub scaled_once : (least : ℕ) (x : Combination) → IsNormalFrom least x → scaled 1 x ≡ x
scaled_once least [] n = refl
scaled_once least (t ∷ x) n =
    let first : 1 * t.0 % P ≡ t.0 = ap (λ k. k % P) (one-mul t.0) ∙ mod-eq_of_lt n.2 in
    ap₂ (λ k rest. (k, t.1) ∷ rest) first (scaled_once (t.1 + 1) x n.3)

-- the wires of a normal combination rise
pub rising : (least : ℕ) (x : Combination) → IsNormalFrom least x → IsNonDecreasingBy (λ t. t.1) x
rising least [] n i j d le h = absurd (omega arith)
rising least (t ∷ x) n zero zero d le h = omega arith
rising least (t ∷ x) n zero (suc j) d le h = let above = above_at (t.1 + 1) j d x n.3 (omega arith) in omega arith
rising least (t ∷ x) n (suc i) zero d le h = absurd (omega arith)
rising least (t ∷ x) n (suc i) (suc j) d le h = rising (t.1 + 1) x n.3 i j d (omega arith) (omega arith)

-- so a wire stands where those before it end, or nowhere
pub split_missing : (w i : ℕ) (x : Combination) → IsNormalFrom 0 x → IsPartitionPoint (λ t. ltb t.1 w ≡ true) (λ t. ltb t.1 w ≡ false) x i
    → ((d : ℕ × ℕ) → i < length x → (get_or x i d).1 ≡ w → ⊥) → has_wire w x ≡ false
split_missing w i x n point apart =
    lacks_each w x (λ k d h e.
    elim (cases_lt k i) [
      | inl before ↦ absurd (let less = ltb-true (get_or x k d).1 w (point.0 k d (omega arith) before) in omega arith)
      | inr behind ↦
          let inside : i < length x = omega arith in
          let least = ltb-false (get_or x i d).1 w (point.1 i d (omega arith) inside) in
          let most : (get_or x i d).1 ≤ (get_or x k d).1 = rising 0 x n i k d behind h in
          apart d inside (omega arith)
    ])

-- a wire that stands in a normal combination, between the terms before it and those after it
pub record Parted (least w k : ℕ) (before after : Combination) : Type 0 where
  pub low : least ≤ w
  pub some : 0 < k
  pub has : has_wire w (before ++ (k, w) ∷ after) ≡ true
  pub own : coefficient w (before ++ (k, w) ∷ after) ≡ k
  pub others : without w (before ++ (k, w) ∷ after) ≡ before ++ after
  pub front : IsNormalFrom least before
  pub below : Over (λ v. v < w) before
  pub back : IsNormalFrom (w + 1) after

without-before : (least w : ℕ) (x : Combination) → IsNormalFrom least x → w < least → without w x ≡ x
unfolding without
without-before least w [] n h = refl
without-before least w (t ∷ x) n h =
    cond-true (not (eqb t.1 w)) (t ∷ without w x) (without w x) (ap not (ne_eqb t.1 w (λ e. absurd (omega (arith, n.0)))))
    ∙ ap (λ rest. t ∷ rest) (without-before (t.1 + 1) w x n.3 (omega (arith, n.0)))

pub parted : (least w k : ℕ) (before after : Combination) → IsNormalFrom least (before ++ (k, w) ∷ after) → Parted least w k before after
unfolding without
parted least w k [] after n = record {
  low = n.0;
  some = n.1;
  has = found_here w (k, w) after refl;
  own = coefficient-first (k, w) after n.2 n.3;
  others = cond-false (not (eqb w w)) ((k, w) ∷ without w after) (without w after) (ap not (eq-eqb w w refl))
      ∙ without-before (w + 1) w after n.3 (omega arith);
  front = tt;
  below = tt;
  back = n.3;
}
parted least w k (t ∷ before) after n =
    let x = before ++ (k, w) ∷ after in
    let rest = parted (t.1 + 1) w k before after n.3 in
    let apart : t.1 ≡ w → ⊥ = λ e. absurd (omega (arith, rest.low)) in
    record {
      low = omega (arith, n.0, rest.low);
      some = rest.some;
      has = found_later w t x rest.has;
      own = coefficient-other t w x apart ∙ rest.own;
      others = cond-true (not (eqb t.1 w)) (t ∷ without w x) (without w x) (ap not (ne_eqb t.1 w apart)) ∙ ap (λ y. t ∷ y) rest.others;
      front = (n.0, n.1, n.2, rest.front);
      below = (omega (arith, rest.low), rest.below);
      back = rest.back;
    }

pub has_from : {A : Type 0} (w : ℕ) (x : Combination) (o : Option A) (before after : A → Combination) (k : A → ℕ) → IsNormalFrom 0 x
    → IfSome o (λ p. x ≡ before p ++ (k p, w) ∷ after p) → (is_some o ≡ false → has_wire w x ≡ false) → is_some o ≡ has_wire w x
has_from w x (Some p) before after k n is none = sym (ap (has_wire w) is ∙ (parted 0 w (k p) (before p) (after p) (subst (IsNormalFrom 0) is n)).has)
has_from w x None before after k n is none = sym (none refl)

-- a normal combination, and one of later wires after it
pub joined : (least w : ℕ) (x y : Combination) → least ≤ w → IsNormalFrom least x → Over (λ v. v < w) x → IsNormalFrom w y → IsNormalFrom least (x ++ y)
joined least w [] y low n h m = IsNormalFrom-lower least w y low m
joined least w (t ∷ x) y low n h m = (n.0, n.1, n.2, joined (t.1 + 1) w x y (omega (arith, h.0)) n.3 h.1 m)
