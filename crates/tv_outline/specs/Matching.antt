-- What the sink that tests against an outline is seen as, and what it means.
use Rattle.std.specs.Prelude.{◌≡◌, ◌≢◌, refl, ℕ, Bool, true, false, List, ◌++◌, length}
use Rattle.std.proofs.Common.{◌∙◌}
use Rattle.tv_core.specs.Constraints.{Constraint}
use Rattle.tv_core.specs.Sinks.{Meaning}
use Rattle.tv_outline.specs.Expansion.{expansion_of}
use Rattle.tv_outline.specs.declared.outline.Outline.{Outline}

-- the outline, how many wires were made and constraints put, what is left of the expansion after these, and whether
-- they were the expansion's
pub record Matched : Type 0 where
  pub outline : Outline
  pub wires : ℕ
  pub constraints : ℕ
  pub left : List Constraint
  pub same : Bool

-- the list begins the expansion, of which the rest is left, or no list that begins with it is the expansion
pub record IsMatched (sink : Matched) (list : List Constraint) : Type 0 where
  pub constraints : sink.constraints ≡ length list
  pub same : sink.same ≡ true → list ++ sink.left ≡ expansion_of sink.outline
  pub other : sink.same ≡ false → (rest : List Constraint) → list ++ rest ≢ expansion_of sink.outline

-- it never refuses
abbrev pub matching : Meaning Matched
matching = record {
  stands = IsMatched;
  tried = λ _ _. ⊥;
  wires = λ sink. sink.wires;
  constraints = λ sink. sink.constraints;
  broken = λ _. false;
  faults = λ _. 0;
  wants = λ _. 0;
  Keeps = λ old new. new.outline ≡ old.outline;
  keeps_same = λ _. refl;
  keeps_then = λ old mid new p q. q ∙ p;
}
