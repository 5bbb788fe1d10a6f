-- What a call gave, as the same list in other words.
use Rattle.tv_core.proofs.Common.{◌≡◌, ℕ, List, ◌++◌, subst}
use Rattle.tv_core.specs.Values.{ValuesMeaning, GivesSome}
use Rattle.tv_core.specs.declared.sink.SinkFault.{SinkFault}
use Rattle.tv_regs.specs.Triple.{roots_values, curve_values, passing_values, point_values}
use Rattle.tv_regs.specs.declared.triple.Curve.{Curve}

pub some_as : {V : Type 0} {m : ValuesMeaning V} {old new : V} {xs ys : List ℕ} {fault : SinkFault} → xs ≡ ys
    → GivesSome m old new xs fault → GivesSome m old new ys fault
some_as {V} {m} {old} {new} {xs} {ys} {fault} same p = subst (λ (l : List ℕ). GivesSome m old new l fault) same p

-- the values of three registers, by the curve
abbrev pub values_by : ℕ → ℕ → ℕ → List ℕ → Curve → List ℕ
values_by o b d words curve =
    roots_values o b d
    ++ (curve_values curve
    ++ (passing_values o b d words ++ (point_values o curve.bend words ++ (point_values b curve.bend words ++ point_values d curve.bend words))))
