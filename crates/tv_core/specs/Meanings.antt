-- What the sinks and the taker of values of this crate are seen as, and what they mean.
use Rattle.std.specs.Prelude.{◌≡◌, refl, ℕ, ◌+◌, ◌*◌, ◌%◌, ◌≤◌, ◌==◌, Bool, false, if◌then◌else◌, List, [], ◌∷◌, ◌++◌, length, sum_by, count_by, Option, Some}
use Rattle.std.specs.Prelude.{None}
use Rattle.std.proofs.Common.{◌∙◌}
use Rattle.std.specs.List.{AllByRecursion}
use Rattle.tv_core.specs.Combinations.{top}
use Rattle.tv_core.specs.Constraints.{Constraint, Combination, System, value}
use Rattle.tv_core.specs.Sinks.{Meaning}
use Rattle.tv_core.specs.Values.{ValuesMeaning}
use Rattle.tv_core.specs.declared.field.TheConstants.{P}
use Rattle.tv_core.specs.declared.lines.Counts.{Counts}

-- how many terms a constraint has
abbrev pub terms_of : Constraint → ℕ
terms_of constraint = length constraint.a + length constraint.b + length constraint.c

-- how many terms the combinations of a list have
abbrev pub terms_in : List Constraint → ℕ
terms_in list = sum_by (λ constraint. terms_of constraint) list

-- the counts of a system
abbrev pub system_counts : System → Counts
system_counts system = record {
  wires = system.wires;
  outputs = system.outputs;
  inputs = system.inputs;
  constraints = length system.constraints;
  terms = terms_in system.constraints;
}

-- a combination of at most 128 terms, whose wires are below a number
pub record Fits (wires : ℕ) (x : Combination) : Type 0 where
  pub within : top x ≤ wires
  pub short : length x ≤ 128

-- a constraint of such combinations
pub record IsFit (wires : ℕ) (constraint : Constraint) : Type 0 where
  pub a : Fits wires constraint.a
  pub b : Fits wires constraint.b
  pub c : Fits wires constraint.c

-- a sink that counts
pub record Counted : Type 0 where
  pub wires : ℕ
  pub constraints : ℕ
  pub terms : ℕ

-- the counts are those of the list, whose combinations are short and of wires that were made
pub record IsCounted (sink : Counted) (list : List Constraint) : Type 0 where
  pub constraints : sink.constraints ≡ length list
  pub terms : sink.terms ≡ terms_in list
  pub fit : AllByRecursion (IsFit sink.wires) list

-- it never refuses
abbrev pub counted_meaning : Meaning Counted
counted_meaning = record {
  stands = IsCounted;
  tried = λ _ _. ⊥;
  wires = λ sink. sink.wires;
  constraints = λ sink. sink.constraints;
  broken = λ _. false;
  faults = λ _. 0;
  wants = λ _. 0;
  Keeps = λ _ _. Unit {0};
  keeps_same = λ _. tt;
  keeps_then = λ _ _ _ _ _. tt;
}

-- a sink that keeps its list, and whether it was refused memory
pub record Listed : Type 0 where
  pub wires : ℕ
  pub list : List Constraint
  pub broken : Bool

-- the list is the one kept; after a refusal, of which there is one, it tried one constraint more
abbrev pub listed_meaning : Meaning Listed
listed_meaning = record {
  stands = λ sink list. (sink.list ≡ list) × (sink.broken ≡ false);
  tried = λ sink list. (refused : Constraint) × (list ≡ sink.list ++ refused ∷ []);
  wires = λ sink. sink.wires;
  constraints = λ sink. length sink.list;
  broken = λ sink. sink.broken;
  faults = λ _. 0;
  wants = λ sink. if sink.broken then 1 else 0;
  Keeps = λ _ _. Unit {0};
  keeps_same = λ _. tt;
  keeps_then = λ _ _ _ _ _. tt;
}

-- a sink that tests each constraint against a slice
pub record Tested : Type 0 where
  pub z : List ℕ
  pub wires : ℕ
  pub tested : ℕ
  pub held : ℕ
  pub first_failed : Option ℕ
  pub sum : ℕ

-- the product of a constraint's first two values
abbrev pub product_in : List ℕ → Constraint → ℕ
product_in z constraint = value constraint.a z * value constraint.b z % P

-- whether z meets a constraint; a wire past the end of z counts as 0
abbrev pub holds : List ℕ → Constraint → Bool
holds z constraint = product_in z constraint == value constraint.c z

-- the place of the first constraint that z fails, from a place on
abbrev pub first_failure : List ℕ → ℕ → List Constraint → Option ℕ
first_failure z at [] = None
first_failure z at (constraint ∷ rest) = if holds z constraint then first_failure z (at + 1) rest else Some at

-- the numbers are those of the list
pub record IsTested (sink : Tested) (list : List Constraint) : Type 0 where
  pub tested : sink.tested ≡ length list
  pub held : sink.held ≡ count_by (holds sink.z) list
  pub first_failed : sink.first_failed ≡ first_failure sink.z 0 list
  pub sum : sink.sum ≡ sum_by (product_in sink.z) list % P

-- it never refuses
abbrev pub tested_meaning : Meaning Tested
tested_meaning = record {
  stands = IsTested;
  tried = λ _ _. ⊥;
  wires = λ sink. sink.wires;
  constraints = λ sink. sink.tested;
  broken = λ _. false;
  faults = λ _. 0;
  wants = λ _. 0;
  Keeps = λ old new. new.z ≡ old.z;
  keeps_same = λ _. refl;
  keeps_then = λ old mid new p q. q ∙ p;
}

-- a taker of values that keeps its list, and whether it was refused memory
pub record Kept : Type 0 where
  pub list : List ℕ
  pub broken : Bool

-- the list is the one kept; after a refusal, of which there is one, it tried one number more
abbrev pub kept_giving : ValuesMeaning Kept
kept_giving = record {
  stands = λ taker list. (taker.list ≡ list) × (taker.broken ≡ false);
  tried = λ taker list. (refused : ℕ) × (list ≡ taker.list ++ refused ∷ []);
  broken = λ taker. taker.broken;
  faults = λ _. 0;
  wants = λ taker. if taker.broken then 1 else 0;
  Keeps = λ _ _. Unit {0};
  keeps_same = λ _. tt;
  keeps_then = λ _ _ _ _ _. tt;
}
