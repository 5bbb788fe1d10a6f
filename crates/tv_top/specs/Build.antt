-- `build TEXT N T SYSTEM`, which may have one more word, `waksman`: the system of a program's runs.
use Rattle.std.specs.Prelude.{◌≡◌, ◌≢◌, ◌<◌, ◌≤◌, ◌^◌, ℕ, codes, List, [], ◌∷◌, Option, Some, None, Result, IfOk, if◌then◌else◌}
use Rattle.std.specs.Str.{bytes_eq}
use Rattle.tv_stages.specs.declared.nets.Net.{Net}
use Rattle.tv_stages.specs.declared.nets.Net.TheVariants.{Benes, Waksman}
use Rattle.tv_core.specs.Constraints.{System}
use Rattle.tv_core.specs.Normal.{AreNormal}
use Rattle.tv_core.specs.declared.limits.TheConstants.{TAPE_WORDS, STEPS}
use Rattle.tv_files.specs.Outside.{Names, WhereKnown}
use Rattle.tv_layout.specs.Reduces.{Reduces}
use Rattle.tv_layout.specs.Systems.{system_of}
use Rattle.tv_layout.specs.Places.{ProgramRuns, runs_of}
use Rattle.tv_word.specs.Numeral.{numeral}
use Rattle.tv_top.specs.declared.build.BuildArgs.{BuildArgs}
use Rattle.tv_plan.specs.declared.programs.Program.{Program}
use Rattle.tv_plan.specs.declared.refusal.Bad.{Bad}
use Rattle.tv_plan.specs.declared.refusal.Finish.TheVariants.{Quiet}
use Rattle.tv_plan.specs.declared.refusal.What.TheVariants.{TapeWords, Steps}
use Rattle.tv_plan.specs.Claims.{Call, Holds, AnswersOrStops}
use Rattle.tv_plan.specs.Contents.{Content.{Constraints}}
use Rattle.tv_plan.specs.Kinds.{is_quiet}
use Rattle.tv_plan.specs.Plan.{Named, Amount, Plan, Outcome, name_at, named, input, outcome_by, with_three}
use Rattle.tv_plan.specs.Programs.{bits, program_in, program_flaws}

-- the network that the word after those of the command names: none is Benes' one, and `waksman` is Waksman's
abbrev pub net_word : List (List ℕ) → Option Net
net_word [] = Some Benes
net_word (word ∷ []) = if bytes_eq word (codes "waksman") then Some Waksman else None
net_word _ = None

-- how many words the tape has, and how many steps there are at most
abbrev pub size_amounts : ℕ → ℕ → List Amount
size_amounts n t = record { what = TapeWords; has = n; least = 0; most = TAPE_WORDS } ∷ record { what = Steps; has = t; least = 1; most = STEPS } ∷ []

-- a program's runs of t steps on tapes of n words, and their system
abbrev pub program_runs : ℕ → ℕ → Program → ProgramRuns
program_runs n t program = runs_of (bits program.width) program.words n t

unfoldable pub program_system : Net → ℕ → ℕ → Program → System
program_system net n t program = system_of net (program_runs n t program)

abbrev pub build_ends : Net → ℕ → ℕ → Program → Outcome
build_ends net n t program = record { files = Constraints (program_system net n t program) ∷ []; finish = Quiet }

-- what the words of `build` say: the network, N and T, and the names of the two files
pub record BuildWords : Type 0 where
  pub net : Net
  pub text : Named
  pub n : ℕ
  pub t : ℕ
  pub system : Named

abbrev pub build_plan : BuildWords → Plan
build_plan given = record {
  reads = given.text ∷ [];
  writes = given.system ∷ [];
  amounts = size_amounts given.n given.t;
  flaws = program_flaws;
  ends_by = is_quiet;
  leads_to = λ files. outcome_by (build_ends given.net given.n given.t) (input given.text program_in files);
}

-- the plan that the command's words ask for
abbrev pub build_asks : BuildArgs → Plan
build_asks args = build_plan (record { net = args.net; text = named args.text; n = args.n; t = args.t; system = named args.system })

-- the plan of the words after the command's name, where they have its form
abbrev pub build_form : List (List ℕ) → Option Plan
build_form (text ∷ n ∷ t ∷ system ∷ last) =
    with_three (λ net n t. build_plan (record { net = net; text = name_at 1 text; n = n; t = t; system = name_at 4 system }))
    (net_word last) (numeral 10 (2 ^ 64) n) (numeral 10 (2 ^ 64) t)
build_form _ = None

-- The file of a program text holds a program, whose system reduces its runs and has combinations in normal form alone,
-- or it is refused for this.
pub record HasSystem (net : Net) (n t : ℕ) (text : Option (List ℕ)) (held : Result Program Bad) : Type 0 where
  pub holds : Holds program_in text held
  pub reduces : IfOk held (λ program. Reduces (program_system net n t program) (program_runs n t program))
  pub normal : IfOk held (λ program. AreNormal (program_system net n t program).constraints)

-- What `build` promises over files whose contents are known, the two names being different and N and T within their
-- limits: TEXT holds a program, whose system SYSTEM then holds, or it is refused for this.
abbrev pub Builds : BuildWords → Names → Call → Type 0
Builds given files =
    AnswersOrStops (given.system ∷ []) (build_ends given.net given.n given.t) (HasSystem given.net given.n given.t (files given.text.name)) files

-- What a call promises that has these words, where they are those of `build`.
abbrev pub OnBuild : List (List ℕ) → Call → Type 0
OnBuild words call = (text n_word t_word system : List ℕ) (last : List (List ℕ)) (net : Net) (n t : ℕ)
    → words ≡ codes "build" ∷ text ∷ n_word ∷ t_word ∷ system ∷ last
    → net_word last ≡ Some net → numeral 10 (2 ^ 64) n_word ≡ Some n → numeral 10 (2 ^ 64) t_word ≡ Some t
    → text ≢ system → n ≤ TAPE_WORDS → 0 < t → t ≤ STEPS
    → WhereKnown call.before (λ files. Builds (record { net = net; text = name_at 1 text; n = n; t = t; system = name_at 4 system }) files call)
