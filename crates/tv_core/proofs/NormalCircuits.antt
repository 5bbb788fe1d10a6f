-- Circuits that put constraints of normal combinations alone, and combinations that are normal as they stand.
use Rattle.std.proofs.Common.{ℕ, zero, suc, ◌+◌, ◌-◌, ◌<◌, ◌≤◌, List, [], ◌∷◌, ◌++◌, arith}
use Rattle.tv_core.specs.Circuits.{Circuit, turns, pure, put, ◌>>=◌}
use Rattle.tv_core.specs.Combinations.{scaled, top}
use Rattle.tv_core.specs.Constraints.{Combination, Constraint}
use Rattle.tv_core.specs.Normal.{IsNormal, IsNormalFrom, AreNormal}
use Rattle.tv_core.specs.declared.field.TheConstants.{P}
use Rattle.tv_core.proofs.ApartLaws.{normal_scaled}
use Rattle.tv_core.proofs.NormalLaws.{IsNormalFrom-lower}

-- ---- combinations
-- one after another, the wires of the second from the top of the first on
pub normal_append : (least mid : ℕ) (x y : Combination) → IsNormalFrom least x → top x ≤ mid → least ≤ mid → IsNormalFrom mid y → IsNormalFrom least (x ++ y)
normal_append least mid [] y n within below m = IsNormalFrom-lower least mid y below m
normal_append least mid (t ∷ x) y n within below m =
    (n.0, n.1, n.2, normal_append (t.1 + 1) mid x y n.3 (omega (arith, within)) (omega (arith, within)) m)

-- a multiple by P less 1
pub normal_negated : (least : ℕ) (x : Combination) → IsNormalFrom least x → IsNormalFrom least (scaled (P - 1) x)
normal_negated least x n = normal_scaled (P - 1) least x (omega arith) (omega arith) n

-- ---- circuits
pub normal_both : (front back : List Constraint) → AreNormal front → AreNormal back → AreNormal (front ++ back)
normal_both [] back p q = q
normal_both (c ∷ front) back p q = (p.0, normal_both front back p.1 q)

pub normal_put : (a b c : Combination) (next : ℕ) → IsNormal a → IsNormal b → IsNormal c → AreNormal (put a b c next).list
unfolding put
normal_put a b c next na nb nc = (record { a = na; b = nb; c = nc }, tt)

pub normal_then : {A B : Type 0} (first : Circuit A) (second : A → Circuit B) (next : ℕ) → AreNormal (first next).list
    → AreNormal (second (first next).answer (first next).next).list → AreNormal ((first >>= second) next).list
unfolding ◌>>=◌
normal_then first second next p q = normal_both (first next).list (second (first next).answer (first next).next).list p q

pub normal_turns : {A : Type 0} (piece : ℕ → A → Circuit A) (x : A) (next n : ℕ)
    → ((i : ℕ) → i < n → AreNormal (piece i (turns i piece x next).answer (turns i piece x next).next).list) → AreNormal (turns n piece x next).list
unfolding turns pure
normal_turns piece x next zero each = tt
normal_turns piece x next (suc n) each =
    normal_then (turns n piece x) (piece n) next (normal_turns piece x next n (λ i h. each i (omega arith))) (each n (omega arith))
