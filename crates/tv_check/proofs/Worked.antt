-- Worked rows: the verdicts on the system of four wires, wire 1 public, in which wire 1 times wire 2 is wire 3.
use Rattle.tv_core.proofs.Common.{◌≡◌, [], ◌∷◌, refl}
use Rattle.tv_core.specs.Constraints.{System}
use Rattle.tv_check.specs.declared.verdict.Verdict.TheVariants.{Yes, WireCount, NoPublic, NoConstraint}
use Rattle.tv_check.specs.Verdict.{judge}

abbrev product : System
product = record {
  wires = 4;
  outputs = 0;
  inputs = 1;
  constraints = record { a = (1, 1) ∷ []; b = (1, 2) ∷ []; c = (1, 3) ∷ [] } ∷ [];
}

satisfied : judge product (1 ∷ 3 ∷ 5 ∷ 15 ∷ []) (3 ∷ []) ≡ Yes
satisfied = refl

other_product : judge product (1 ∷ 3 ∷ 5 ∷ 16 ∷ []) (3 ∷ []) ≡ NoConstraint 0
other_product = refl

other_tape : judge product (1 ∷ 3 ∷ 5 ∷ 15 ∷ []) (4 ∷ []) ≡ NoPublic 1
other_tape = refl

no_tape : judge product (1 ∷ 3 ∷ 5 ∷ 15 ∷ []) [] ≡ NoPublic 1
no_tape = refl

long_tape : judge product (1 ∷ 3 ∷ 5 ∷ 15 ∷ []) (3 ∷ 5 ∷ []) ≡ NoPublic 2
long_tape = refl

other_constant : judge product (2 ∷ 3 ∷ 5 ∷ 15 ∷ []) (3 ∷ []) ≡ NoPublic 0
other_constant = refl

few_values : judge product (1 ∷ 3 ∷ 5 ∷ []) (3 ∷ []) ≡ WireCount 3 4
few_values = refl
