-- `trace TEXT TAPE AUX T`: the steps of a run.
use Rattle.std.specs.Prelude.{ℕ, List, [], ◌∷◌}
use Rattle.tv_files.specs.Outside.{Outside}
use Rattle.tv_plan.specs.Finds.{reading}
use Rattle.tv_plan.specs.Inputs.{inputs_of, input_flaws, run_end}
use Rattle.tv_plan.specs.Plan.{named}
use Rattle.tv_plan.specs.Programs.{bits}
use Rattle.tv_plan.specs.declared.inputs.Inputs.{Inputs}
use Rattle.tv_plan.specs.declared.refusal.Finish.TheVariants.{Run}
use Rattle.tv_plan.specs.declared.status.Status.{Status}
use Rattle.tv_step.specs.Machine.{start}
use Rattle.tv_trace.specs.Trace.{trace_text}
use Rattle.tv_trace.specs.declared.run.Shown.{Shown}
use Rattle.tinyr1cs_tools.specs.Print.{PrintsFound}
use Rattle.tinyr1cs_tools.specs.declared.trace.TraceArgs.{TraceArgs}

-- the text of the run of at most t steps
abbrev pub run_text : Shown → ℕ → Inputs → List ℕ
run_text shown t inputs =
    trace_text (bits inputs.program.width) shown t (start (bits inputs.program.width) inputs.program.words inputs.tape inputs.aux)

-- the three files are read, and the text of the run on them is printed, with the line of its end
abbrev pub Traces : TraceArgs → Outside → Outside → Status → Type 0
Traces args = PrintsFound
    (reading (args.text.word ∷ args.tape.word ∷ args.aux.word ∷ []) (input_flaws args.tape.word args.aux.word)
    (inputs_of (named args.text) (named args.tape) (named args.aux)))
    (run_text args.shown args.t) (λ inputs. Run (run_end args.t inputs)) 5
