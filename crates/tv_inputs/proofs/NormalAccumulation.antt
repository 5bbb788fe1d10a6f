-- A product added to a sum is put by normal combinations.
use Rattle.tv_core.proofs.Common.{ℕ, ◌-◌, ◌≤◌, arith, fresh, put, pure, ◌>>=◌, wire, scaled, top, Combination, IsNormal, AreNormal}
use Rattle.tv_core.proofs.CombinationLaws.{top-scaled}
use Rattle.tv_core.proofs.NormalCircuits.{normal_append, normal_negated}
use Rattle.tv_core.specs.declared.field.TheConstants.{P}
use Rattle.tv_inputs.specs.Accumulation.{closed_of, accumulated_of}

pub closed_normal : (minus f g : Combination) (next : ℕ) → IsNormal minus → top minus ≤ next → IsNormal f → IsNormal g
    → AreNormal (closed_of minus f g next).list
unfolding closed_of fresh put pure ◌>>=◌
closed_normal minus f g next n below nf ng =
    let sum = normal_append 0 next minus (wire next) n below (omega arith) (omega arith, omega arith, omega arith, tt) in
    (record { a = nf; b = ng; c = sum }, tt)

pub accumulated_normal : (x f g : Combination) (next : ℕ) → IsNormal x → top x ≤ next → IsNormal f → IsNormal g → AreNormal (accumulated_of x f g next).list
accumulated_normal x f g next n below nf ng =
    let within : top (scaled (P - 1) x) ≤ next = omega (arith, top-scaled (P - 1) x, below) in
    closed_normal (scaled (P - 1) x) f g next (normal_negated 0 x n) within nf ng
