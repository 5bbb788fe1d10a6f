-- `listing TEXT N T WITNESS BY OUT`: the lines of memory and tapes that an assignment of a program's system has.
use Rattle.std.specs.Prelude.{◌≡◌, ◌≢◌, ◌<◌, ◌≤◌, ◌^◌, ℕ, codes, List, [], ◌∷◌, Option, Some, None, Result, IfOk, if◌then◌else◌}
use Rattle.std.specs.Str.{bytes_eq}
use Rattle.tv_stages.specs.declared.nets.Net.TheVariants.{Benes}
use Rattle.tv_core.specs.Constraints.{Sat}
use Rattle.tv_core.specs.declared.limits.TheConstants.{TAPE_WORDS, STEPS}
use Rattle.tv_extract.specs.declared.run.Run.{Run}
use Rattle.tv_files.specs.Outside.{Names, WhereKnown}
use Rattle.tv_listing.specs.Laws.{HasListing}
use Rattle.tv_listing.specs.Listing.{assigned_lines, text_by}
use Rattle.tv_listing.specs.declared.row.By.{By}
use Rattle.tv_listing.specs.declared.row.By.TheVariants.{Time, Cell}
use Rattle.tv_word.specs.Numeral.{numeral}
use Rattle.tv_top.specs.declared.listing.ListingArgs.{ListingArgs}
use Rattle.tv_plan.specs.declared.refusal.Bad.{Bad}
use Rattle.tv_top.specs.Build.{program_system, size_amounts, program_runs}
use Rattle.tv_plan.specs.Claims.{Call, AnswersOrStops}
use Rattle.tv_top.specs.Assignment.{Assigned, assigned_flaws, assigned_of, assigned_run, run_ends, HasAssigned}
use Rattle.tv_plan.specs.Kinds.{is_listing}
use Rattle.tv_plan.specs.Plan.{Named, Plan, Outcome, name_at, named, outcome_by, writes_bytes, with_three}

-- the order that a word names
abbrev pub by_word : List ℕ → Option By
by_word word = if bytes_eq word (codes "time") then Some Time else (if bytes_eq word (codes "cell") then Some Cell else None)

-- the text of the lines of an assignment up to a step
unfoldable pub assigned_text : By → ℕ → ℕ → ℕ → Assigned → List ℕ
assigned_text by n t step assigned = text_by by (assigned_lines (program_runs n t assigned.program) step assigned.z)

-- what comes of a run of an assignment: the lines up to the step that answers
abbrev pub lines_written : By → ℕ → ℕ → Assigned → Run → Outcome
lines_written by n t assigned run = writes_bytes (assigned_text by n t run.step assigned)

abbrev pub listing_ends : By → ℕ → ℕ → Assigned → Outcome
listing_ends by n t assigned = run_ends (lines_written by n t assigned) (assigned_run Benes n t assigned)

-- what the words of `listing` say: the order, N and T, and the names of the three files
pub record ListingWords : Type 0 where
  pub by : By
  pub text : Named
  pub n : ℕ
  pub t : ℕ
  pub witness : Named
  pub out : Named

abbrev pub listing_plan : ListingWords → Plan
listing_plan given = record {
  reads = given.text ∷ given.witness ∷ [];
  writes = given.out ∷ [];
  amounts = size_amounts given.n given.t;
  flaws = assigned_flaws;
  ends_by = is_listing;
  leads_to = λ files. outcome_by (listing_ends given.by given.n given.t) (assigned_of given.text given.witness files);
}

-- the plan that the command's words ask for
abbrev pub listing_asks : ListingArgs → Plan
listing_asks args = listing_plan (record {
  by = args.by;
  text = named args.text;
  n = args.n;
  t = args.t;
  witness = named args.witness;
  out = named args.out;
})

-- the plan of the words after the command's name, where they have its form
abbrev pub listing_form : List (List ℕ) → Option Plan
listing_form (text ∷ n ∷ t ∷ witness ∷ by ∷ out ∷ []) =
    with_three (λ by n t. listing_plan
    (record { by = by; text = name_at 1 text; n = n; t = t; witness = name_at 4 witness; out = name_at 6 out }))
    (by_word by) (numeral 10 (2 ^ 64) n) (numeral 10 (2 ^ 64) t)
listing_form _ = None

-- The two files hold what those of `extract` do. And an assignment that satisfies the program's system has a run, of
-- which its lines are: boot lines, and the lines of the machine's steps on the run's tapes. So its listing is, byte for
-- byte, that of the run's trace.
pub record HasListed (n t : ℕ) (text witness : Option (List ℕ)) (held : Result Assigned Bad) : Type 0 where
  pub assigned : HasAssigned Benes n t text witness held
  pub satisfying : IfOk held (λ assigned. Sat (program_system Benes n t assigned.program) assigned.z
      → HasListing Benes (program_runs n t assigned.program) assigned.z)

-- What `listing` promises over files whose contents are known, OUT being none of the other names and N and T within
-- their limits.
abbrev pub Lists : ListingWords → Names → Call → Type 0
Lists given files = AnswersOrStops (given.out ∷ []) (listing_ends given.by given.n given.t)
    (HasListed given.n given.t (files given.text.name) (files given.witness.name)) files

-- What a call promises that has these words, where they are those of `listing`.
abbrev pub OnListing : List (List ℕ) → Call → Type 0
OnListing words call = (text first second witness order out : List ℕ) (by : By) (n t : ℕ)
    → words ≡ codes "listing" ∷ text ∷ first ∷ second ∷ witness ∷ order ∷ out ∷ []
    → by_word order ≡ Some by → numeral 10 (2 ^ 64) first ≡ Some n → numeral 10 (2 ^ 64) second ≡ Some t
    → text ≢ out → witness ≢ out → n ≤ TAPE_WORDS → 0 < t → t ≤ STEPS
    → WhereKnown call.before (λ files. Lists
    (record { by = by; text = name_at 1 text; n = n; t = t; witness = name_at 4 witness; out = name_at 6 out }) files call)
