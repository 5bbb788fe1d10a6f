-- The values of combinations, and what an assignment has at a wire.
use Rattle.std.proofs.Common.{◌≡◌, ℕ, ◌+◌, ◌-◌, ◌*◌, ◌%◌, ◌<◌, List, [], ◌∷◌, ◌++◌, max, Some, length, slice_get, take, get_or, refl, sym, ◌∙◌, ap, arith}
use Rattle.std.proofs.Common.{append_assoc, mod-lt}
use Rattle.std.specs.Prelude.{slice_index}
use Rattle.std.proofs.Math.Nat.{add-mod, add-mod-mod, mul_assoc}
use Rattle.std.proofs.lemmas.Bool.{cases_lt}
use Rattle.std.proofs.lemmas.List.{get_or_past, map-append, take_more}
use Rattle.std.proofs.lemmas.List.Elements.{All-get_or, All-from_recursion, recursion_from_All}
use Rattle.std.proofs.lemmas.List.Sums.{sum_by-cons, sum_by-append}
use Rattle.std.proofs.lemmas.Nat.{mul-mod_first, mul-mod_second}
use Rattle.tv_core.proofs.Residues.{sum_by-mod_same, sum_by-mul, sum_by-map}
use Rattle.tv_core.specs.Constraints.{Combination, value, System, Sat}
use Rattle.tv_core.specs.Combinations.{wire, constant, one_less, scaled, less, top}
use Rattle.tv_core.specs.Laws.{Assigns, Meets}
use Rattle.tv_core.specs.declared.field.TheConstants.{P}

pub value-below : (x : Combination) (z : List ℕ) → value x z < P
value-below x z = mod-lt _ (omega arith)

pub value-append : (x y : Combination) (z : List ℕ) → value (x ++ y) z ≡ (value x z + value y z) % P
value-append x y z = ap (λ n. n % P) (sum_by-append (λ t. t.0 * slice_index z t.1) x y) ∙ add-mod _ _ P

pub value-cons : (c w : ℕ) (x : Combination) (z : List ℕ) → value ((c, w) ∷ x) z ≡ (c * slice_index z w + value x z) % P
value-cons c w x z = ap (λ n. n % P) (sum_by-cons (λ t. t.0 * slice_index z t.1) (c, w) x) ∙ sym (add-mod-mod _ _ P)

pub value-scaled : (k : ℕ) (x : Combination) (z : List ℕ) → value (scaled k x) z ≡ k * value x z % P
value-scaled k x z =
    let term : (ℕ × ℕ) → ℕ = λ t. t.0 * slice_index z t.1 in
    let each : (t : ℕ × ℕ) → (k * t.0 % P) * slice_index z t.1 % P ≡ k * term t % P = λ t. mul-mod_first (k * t.0) (slice_index z t.1) P
    ∙ ap (λ n. n % P) (mul_assoc k t.0 (slice_index z t.1)) in
    ap (λ n. n % P) (sum_by-map term (λ t. (k * t.0 % P, t.1)) x)
    ∙ sum_by-mod_same (λ t. (k * t.0 % P) * slice_index z t.1) (λ t. k * term t) P x each
    ∙ ap (λ n. n % P) (sum_by-mul k term x)
    ∙ sym (mul-mod_second k _ P)

-- terms appended in turn
module _ (terms : Combination) (i : ℕ) (t : ℕ × ℕ) (h : i < length terms) (read : t ≡ get_or terms i t) where
  pub taken : take (i + 1) terms ≡ take i terms ++ t ∷ []
  taken = take_more terms i t h ∙ ap (λ u. take i terms ++ u ∷ []) (sym read)

  pub multiple : (k c : ℕ) → c ≡ k * t.0 % P → scaled k (take (i + 1) terms) ≡ scaled k (take i terms) ++ (c, t.1) ∷ []
  multiple k c is =
      ap (scaled k) taken ∙ map-append (λ (u : ℕ × ℕ). (k * u.0 % P, u.1)) (take i terms) (t ∷ [])
      ∙ ap (λ n. scaled k (take i terms) ++ (n, t.1) ∷ []) (sym is)

  module _ (x out after : Combination) where
    pub appended_term : out ≡ x ++ take i terms → after ≡ out ++ t ∷ [] → after ≡ x ++ take (i + 1) terms
    appended_term before adds =
        adds ∙ ap (λ o. o ++ t ∷ []) before ∙ append_assoc x (take i terms) (t ∷ []) ∙ ap (λ y. x ++ y) (sym taken)

    pub appended_multiple : (k c : ℕ) → c ≡ k * t.0 % P → out ≡ x ++ scaled k (take i terms) → after ≡ out ++ (c, t.1) ∷ []
        → after ≡ x ++ scaled k (take (i + 1) terms)
    appended_multiple k c is before adds =
        adds ∙ ap (λ o. o ++ (c, t.1) ∷ []) before ∙ append_assoc x (scaled k (take i terms)) ((c, t.1) ∷ []) ∙ ap (λ y. x ++ y) (sym (multiple k c is))

negated : (x y : ℕ) → y < P → (x + (P - 1) * y % P) % P ≡ (x + (P - y)) % P
negated x y small = omega arith

-- the greatest wire
pub top-append : (x y : Combination) → top (x ++ y) ≡ max (top x) (top y)
top-append [] y = omega arith
top-append (t ∷ x) y = omega (arith, top-append x y)

pub top-scaled : (k : ℕ) (x : Combination) → top (scaled k x) ≡ top x
top-scaled k [] = refl
top-scaled k (t ∷ x) = ap (λ n. max (t.1 + 1) n) (top-scaled k x)

module _ {z : List ℕ} (assigns : Assigns z) where
  pub wire-below : (w : ℕ) → slice_index z w < P
  wire-below w = search (arith, cases_lt, length, All-get_or, get_or_past)

  pub value-wire : (w : ℕ) → value (wire w) z ≡ slice_index z w
  value-wire w = let small = wire-below w in omega arith

  pub value-one_less : (w : ℕ) → value (one_less w) z ≡ (1 + (P - slice_index z w)) % P
  value-one_less w = let small = wire-below w in omega (arith, assigns.one)

  pub value-constant : (c : ℕ) → value (constant c) z ≡ c % P
  value-constant c = rw (assigns.one) (ap (λ n. n % P) (omega arith))

-- one times a number of the field is that number
pub value-once : (z : List ℕ) (x : Combination) → Assigns z → value x z * value (constant 1) z % P ≡ value x z
value-once z x assigns = search (arith, value-below, value-constant)

pub value-less : (x y : Combination) (z : List ℕ) → value (less x y) z ≡ (value x z + (P - value y z)) % P
value-less x y z = value-append x (scaled (P - 1) y) z ∙ ap (λ n. (value x z + n) % P) (value-scaled (P - 1) y z)
    ∙ negated (value x z) (value y z) (value-below y z)

pub value-empty : (z : List ℕ) → value [] z ≡ 0
value-empty z = refl

-- a system's satisfying assignment is one
slice_index_first : (z : List ℕ) → slice_get z 0 ≡ Some 1 → slice_index z 0 ≡ 1
slice_index_first [] e = cc
slice_index_first (v ∷ z) e = cc

pub Assigns-from_Sat : (system : System) (z : List ℕ) → Sat system z → Assigns z
Assigns-from_Sat system z sat = record { below = sat.below; one = slice_index_first z sat.one }

pub Meets-from_Sat : (system : System) (z : List ℕ) → Sat system z → Meets z system.constraints
Meets-from_Sat system z sat = recursion_from_All _ system.constraints sat.holds

-- and one that meets a system's constraints, with a number for each wire, satisfies it
slice_get_first : (z : List ℕ) → slice_index z 0 ≡ 1 → slice_get z 0 ≡ Some 1
slice_get_first [] e = absurd (omega arith)
slice_get_first (v ∷ z) e = ap Some e

pub Sat-from_Meets : (system : System) (z : List ℕ) → length z ≡ system.wires → Assigns z → Meets z system.constraints → Sat system z
Sat-from_Meets system z each assigns meets = search (arith, slice_get_first, All-from_recursion)
