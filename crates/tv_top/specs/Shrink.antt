-- `shrink SYSTEM OUT`: a system with fewer private wires and the same solutions.
use Rattle.std.specs.Prelude.{◌≡◌, ◌≢◌, ◌↔◌, ℕ, ◌+◌, nat_lt, codes, List, [], ◌∷◌, take, Option, Some, None, Result, Ok, Err, IfOk, if◌then◌else◌}
use Rattle.std.specs.List.{range_with_len}
use Rattle.tv_core.specs.Constraints.{System, Sat}
use Rattle.tv_files.specs.Outside.{Names, WhereKnown}
use Rattle.tv_shrink.specs.Answers.{most, all_terms, first_wide}
use Rattle.tv_r1cs_write.specs.Shrunken.{Shrunken}
use Rattle.tv_shrink.specs.Shrunk.{shrink, at_wires}
use Rattle.tv_shrink.specs.declared.fault.ShrinkFault.{ShrinkFault}
use Rattle.tv_shrink.specs.declared.fault.ShrinkFault.TheVariants as fault
use Rattle.tv_plan.specs.declared.refusal.Bad.{Bad}
use Rattle.tv_plan.specs.declared.refusal.Bad.TheVariants as bad
use Rattle.tv_plan.specs.declared.refusal.Finish.TheVariants.{Quiet}
use Rattle.tv_plan.specs.declared.refusal.What.TheVariants.{SystemTerms, CombinationTerms}
use Rattle.tv_plan.specs.declared.refusal.Stop.{Stop}
use Rattle.tv_plan.specs.declared.refusal.Stop.TheVariants as stop
use Rattle.tv_top.specs.declared.shrink.ShrinkArgs.{ShrinkArgs}
use Rattle.tv_plan.specs.Claims.{Call, Holds, Then, AnswersOrStops}
use Rattle.tv_plan.specs.Containers.{system_in}
use Rattle.tv_plan.specs.Contents.{Content.{Rest}}
use Rattle.tv_plan.specs.Flaws.{Flaw, Flaw.{OfSystem, OverLimit}}
use Rattle.tv_plan.specs.Kinds.{is_quiet}
use Rattle.tv_plan.specs.Plan.{Named, Plan, Outcome, Look, ◌>>=◌, named, settled, input, outcome_by, one_name, name_at}

-- the limits of a system's terms, and of the terms of one combination
abbrev pub terms_bad : ℕ → Bad
terms_bad has = bad.Limit SystemTerms has most

abbrev pub wide_bad : ℕ → Bad
wide_bad has = bad.Limit CombinationTerms has 128

-- what a refusal is of shrinking the system at a word
abbrev pub shrink_stop : ℕ → ShrinkFault → Stop
shrink_stop word (fault.Bad at why) = stop.Contents (bad.System at why)
shrink_stop word (fault.Terms has) = stop.Contents (terms_bad has)
shrink_stop word (fault.Combination has) = stop.Contents (wide_bad has)
shrink_stop word fault.Fault = stop.Fault word
shrink_stop word fault.Memory = stop.Memory

-- what is left of a system of combinations that are narrow, or the first one is this wide
abbrev pub narrow_shrunk : Option ℕ → System → Result Shrunken Bad
narrow_shrunk None system = Ok (shrink system)
narrow_shrunk (Some has) system = Err (wide_bad has)

-- what is left of a system, or what it is refused for
abbrev pub shrunk_of : System → Result Shrunken Bad
shrunk_of system =
    if nat_lt most (all_terms system) then Err (terms_bad (all_terms system)) else narrow_shrunk (first_wide system.constraints) system

-- the file of a system: what is left of it, unless it is refused itself
unfoldable pub shrunk_look : Named → Names → Look Shrunken
shrunk_look place files = do
  system ← input place system_in files
  settled (shrunk_of system)

abbrev pub shrink_ends : Shrunken → Outcome
shrink_ends shrunken = record { files = Rest shrunken ∷ []; finish = Quiet }

-- what the file of a system may be refused for
abbrev pub shrink_flaws : List Flaw
shrink_flaws = OverLimit SystemTerms ∷ OverLimit CombinationTerms ∷ OfSystem ∷ []

abbrev pub shrink_plan : Named → Named → Plan
shrink_plan system out = record {
  reads = system ∷ [];
  writes = out ∷ [];
  amounts = [];
  flaws = shrink_flaws;
  ends_by = is_quiet;
  leads_to = λ files. outcome_by shrink_ends (shrunk_look system files);
}

-- the plan that the command's words ask for
abbrev pub shrink_asks : ShrinkArgs → Plan
shrink_asks args = shrink_plan (named args.system) (named args.out)

-- the plan of the words after the command's name, where they have its form
abbrev pub shrink_form : List (List ℕ) → Option Plan
shrink_form (system ∷ out ∷ []) = Some (shrink_plan (name_at 1 system) (name_at 2 out))
shrink_form _ = None

-- The numbers that satisfy the shrunk system are those that some assignment which satisfies the system has at the kept
-- wires, and no two such assignments have the same numbers there; wire 0 and all public wires keep their numbers.
pub record Keeps (system : System) (shrunken : Shrunken) : Type 0 where
  pub solutions : (small : List ℕ) → Sat shrunken.system small ↔ ((z : List ℕ) × Sat system z × (small ≡ at_wires shrunken.labels z))
  pub one : (y z : List ℕ) → Sat system y → Sat system z → at_wires shrunken.labels y ≡ at_wires shrunken.labels z → y ≡ z
  pub publics : take (1 + system.outputs + system.inputs) shrunken.labels ≡ range_with_len 0 (1 + system.outputs + system.inputs)

-- this is left of a system, and keeps its solutions, or the system is refused for this
pub record IsShrunk (system : System) (held : Result Shrunken Bad) : Type 0 where
  pub is : shrunk_of system ≡ held
  pub keeps : IfOk held (Keeps system)

-- What `shrink` promises over files whose contents are known, the two names being different: SYSTEM holds a system, and
-- OUT then what is left of it, or one of the two is refused for this.
abbrev pub Shrinks : Names → List ℕ → List ℕ → Call → Type 0
Shrinks files system out = AnswersOrStops (one_name 2 out) shrink_ends (Then (Holds system_in (files system)) IsShrunk) files

-- What a call promises that has these words, where they are those of `shrink`.
abbrev pub OnShrink : List (List ℕ) → Call → Type 0
OnShrink words call = (system out : List ℕ) → words ≡ codes "shrink" ∷ system ∷ out ∷ [] → system ≢ out
    → WhereKnown call.before (λ files. Shrinks files system out call)
