-- The lines that are said.
use Rattle.std.specs.Prelude.{◌≡◌, ℕ, List, [], ◌∷◌, ◌++◌, Option, Some, None, option_map, codes, decimal}
use Rattle.tv_asm.specs.declared.fault.AsmWhy.{AsmWhy}
use Rattle.tv_asm.specs.declared.fault.AsmWhy.TheVariants.{NotText, BadHeader, BadLabel, DoubledLabel, UnknownName, Operands, BadRegister, BadNumber}
use Rattle.tv_asm.specs.declared.fault.AsmWhy.TheVariants.{UnknownLabel}
use Rattle.tv_check.specs.declared.verdict.Verdict.{Verdict}
use Rattle.tv_check.specs.declared.verdict.Verdict.TheVariants.{Yes, WireCount, NoPublic, NoConstraint}
use Rattle.tv_container.specs.declared.why.ReadWhy.{ReadWhy}
use Rattle.tv_container.specs.declared.why.ReadWhy.TheVariants.{BadMagic, BadVersion, Missing, Doubled, OtherPrime, BadCount, WireRange, NotCanonical}
use Rattle.tv_container.specs.declared.why.ReadWhy.TheVariants.{Truncated, TooWide, Trailing}
use Rattle.tv_step.specs.declared.end.End.{End}
use Rattle.tv_step.specs.declared.end.End.TheVariants as ends
use Rattle.tv_plan.specs.declared.refusal.Bad.{Bad}
use Rattle.tv_plan.specs.declared.refusal.Bad.TheVariants as bad
use Rattle.tv_plan.specs.declared.refusal.Ending.{Ending}
use Rattle.tv_plan.specs.declared.refusal.Ending.TheVariants.{Refused, Stopped, Finished}
use Rattle.tv_plan.specs.declared.refusal.Finish.{Finish}
use Rattle.tv_plan.specs.declared.refusal.Finish.TheVariants as finishes
use Rattle.tv_plan.specs.declared.refusal.Refusal.{Refusal}
use Rattle.tv_plan.specs.declared.refusal.Refusal.TheVariants as refusal
use Rattle.tv_plan.specs.declared.refusal.Stop.TheVariants as stop
use Rattle.tv_plan.specs.declared.refusal.Trial.{Trial}
use Rattle.tv_step.specs.declared.not_run.NotRun.{NotRun}
use Rattle.tv_step.specs.declared.not_run.NotRun.TheVariants as not_runs
use Rattle.tv_plan.specs.declared.refusal.What.{What}
use Rattle.tv_plan.specs.declared.refusal.What.TheVariants.{ImageWords, ImageBytes, TapeWords, AuxWords, TextBytes, SystemTerms, CombinationTerms, Steps, Draws}

-- how a run ends
abbrev pub end_text : End → List ℕ
end_text (ends.Answer value step) = codes "answer " ++ decimal value ++ codes " at step " ++ decimal step
end_text (ends.Undefined op step) = codes "undefined opcode " ++ decimal op ++ codes " at step " ++ decimal step
end_text (ends.Silent steps) = codes "no answer in " ++ decimal steps ++ codes " steps"

-- what is found of an assignment
abbrev pub verdict_text : Verdict → List ℕ
verdict_text Yes = codes "yes"
verdict_text (WireCount has wants) = codes "no: " ++ decimal has ++ codes " wires, " ++ decimal wants ++ codes " wanted"
verdict_text (NoPublic at) = codes "no: public wire " ++ decimal at
verdict_text (NoConstraint at) = codes "no: constraint " ++ decimal at

-- why a line of a program is refused
abbrev pub asm_text : AsmWhy → List ℕ
asm_text NotText = codes "not text"
asm_text BadHeader = codes "bad header"
asm_text BadLabel = codes "bad label"
asm_text DoubledLabel = codes "label defined twice"
asm_text UnknownName = codes "unknown name"
asm_text (Operands has wants) = decimal has ++ codes " operands, " ++ decimal wants ++ codes " wanted"
asm_text BadRegister = codes "bad register"
asm_text BadNumber = codes "bad number"
asm_text UnknownLabel = codes "unknown label"

-- why a container is refused
abbrev pub read_text : ReadWhy → List ℕ
read_text BadMagic = codes "bad magic"
read_text (BadVersion found) = codes "version " ++ decimal found
read_text (Missing section) = codes "section " ++ decimal section ++ codes " missing"
read_text (Doubled section) = codes "section " ++ decimal section ++ codes " doubled"
read_text OtherPrime = codes "another prime"
read_text (BadCount has wants) = decimal has ++ codes " for " ++ decimal wants
read_text (WireRange wire wires) = codes "wire " ++ decimal wire ++ codes " of " ++ decimal wires
read_text NotCanonical = codes "not below p"
read_text Truncated = codes "truncated"
read_text (TooWide terms) = decimal terms ++ codes " terms"
read_text Trailing = codes "bytes after the end"

-- the name of a quantity
abbrev pub what_text : What → List ℕ
what_text ImageWords = codes "image words"
what_text ImageBytes = codes "image bytes"
what_text TapeWords = codes "tape words"
what_text AuxWords = codes "aux words"
what_text TextBytes = codes "text bytes"
what_text SystemTerms = codes "system terms"
what_text CombinationTerms = codes "combination terms"
what_text Steps = codes "steps"
what_text Draws = codes "draws"

-- a limit of a quantity
abbrev pub limit_text : What → ℕ → ℕ → List ℕ
limit_text what has most = codes "limit: " ++ what_text what ++ codes " " ++ decimal has ++ codes ", most " ++ decimal most

-- what words are refused for
abbrev pub refusal_text : Refusal → List ℕ
refusal_text refusal.Usage = codes "usage: asm, disasm, run, build, witness, check, extract, trial, shrink, listing"
refusal_text (refusal.SameName first second) = codes "same name: words " ++ decimal first ++ codes " and " ++ decimal second
refusal_text (refusal.Limit what has most) = limit_text what has most

-- what contents are refused for
abbrev pub bad_text : Bad → List ℕ
bad_text (bad.Program line why) = codes "bad program: line " ++ decimal line ++ codes ": " ++ asm_text why
bad_text (bad.Tape word at) = codes "bad tape: word " ++ decimal word ++ codes ", item " ++ decimal at
bad_text (bad.System at why) = codes "bad system: byte " ++ decimal at ++ codes ": " ++ read_text why
bad_text (bad.Witness at why) = codes "bad witness: byte " ++ decimal at ++ codes ": " ++ read_text why
bad_text (bad.Image len) = codes "bad image: " ++ decimal len ++ codes " bytes"
bad_text (bad.Limit what has most) = limit_text what has most

-- why an assignment has no run
abbrev pub not_run_text : NotRun → List ℕ
not_run_text (not_runs.WireCount has wants) = decimal has ++ codes " wires, " ++ decimal wants ++ codes " wanted"
not_run_text (not_runs.WideWire at) = codes "wire " ++ decimal at ++ codes " is wide"
not_run_text (not_runs.NotARun end) = end_text end

-- the result of a trial
abbrev pub trial_text : Trial → List ℕ
trial_text trial =
    codes "trial: steps " ++ decimal trial.steps ++ codes ", wires " ++ decimal trial.wires ++ codes ", constraints "
    ++ decimal trial.constraints ++ codes ", sum " ++ decimal trial.sum ++ codes ", satisfied " ++ decimal trial.satisfied

-- what is said with a good end
abbrev pub finish_text : Finish → Option (List ℕ)
finish_text finishes.Quiet = None
finish_text (finishes.Run end) = Some (end_text end)
finish_text (finishes.NoRun end) = Some (codes "no run: " ++ end_text end)
finish_text (finishes.NotARun why) = Some (codes "not a run: " ++ not_run_text why)
finish_text (finishes.Verdict verdict) = Some (verdict_text verdict)
finish_text (finishes.Trial trial) = Some (trial_text trial)

-- the line of an end, without its own end; nothing is printed after a fault or an allocation failure
abbrev pub line : Ending → Option (List ℕ)
line (Refused why) = Some (refusal_text why)
line (Stopped (stop.Fault word)) = None
line (Stopped stop.Memory) = None
line (Stopped (stop.Contents bad)) = Some (bad_text bad)
line (Finished finish) = finish_text finish

-- what a function returned, seen by view, is this
abbrev pub Reads : {X Y : Type 0} → (X → Y) → Option X → Option Y → Type 0
Reads view None due = due ≡ None
Reads view (Some x) due = due ≡ Some (view x)

-- the bytes that are said: the line and a line feed
abbrev pub says : Ending → Option (List ℕ)
says ending = option_map (λ text. text ++ 10 ∷ []) (line ending)
