-- The run that an assignment of a program's system has, whether or not it satisfies the system.
use Rattle.std.specs.Prelude.{◌≡◌, ℕ, ◌^◌, ◌==◌, nat_lt, if◌then◌else◌, List, [], ◌∷◌, length, slice_index, Result, Ok, Err}
use Rattle.std.specs.List.{range_with_len}
use Rattle.tv_stages.specs.declared.nets.Net.{Net}
use Rattle.tv_block.specs.Block.{block_of}
use Rattle.tv_step.specs.Machine.{start, end_of}
use Rattle.tv_step.specs.declared.end.End.{End}
use Rattle.tv_step.specs.declared.end.End.TheVariants as ends
use Rattle.tv_layout.specs.Layout.{taken_wires}
use Rattle.tv_layout.specs.Places.{tape_at, ProgramRuns}
use Rattle.tv_layout.specs.Systems.{system_of}
use Rattle.tv_extract.specs.declared.run.ExtractFault.{ExtractFault}
use Rattle.tv_extract.specs.declared.run.ExtractFault.TheVariants as faults
use Rattle.tv_step.specs.declared.not_run.NotRun.{NotRun}
use Rattle.tv_step.specs.declared.not_run.NotRun.TheVariants.{WireCount, WideWire, NotARun}
use Rattle.tv_extract.specs.declared.run.Run.{Run}

infixl 10 ◌>>=◌
abbrev pub ◌>>=◌ : {A B : Type 0} → Result A NotRun → (A → Result B NotRun) → Result B NotRun
(Ok x) >>= f = f x
(Err fault) >>= f = Err fault

-- the word at a wire, which is refused where the number there is wide: none of w bits
abbrev pub word_at : ℕ → List ℕ → ℕ → Result ℕ NotRun
word_at w z wire = if nat_lt (slice_index z wire) (2 ^ w) then Ok (slice_index z wire) else Err (WideWire wire)

-- those at wires, where none is wide; else the first that is
abbrev pub words_at : ℕ → List ℕ → List ℕ → Result (List ℕ) NotRun
words_at w z [] = Ok []
words_at w z (wire ∷ wires) = word_at w z wire >>= (λ word. words_at w z wires >>= (λ words. Ok (word ∷ words)))

-- a run that ends so, and has to answer a word
abbrev pub answering : ℕ → List ℕ → List ℕ → End → Result Run NotRun
answering answer tape aux (ends.Answer v step) =
    if v == answer then Ok (record { answer = answer; tape = tape; aux = aux; step = step }) else Err (NotARun (ends.Answer v step))
answering answer tape aux (ends.Undefined op step) = Err (NotARun (ends.Undefined op step))
answering answer tape aux (ends.Silent steps) = Err (NotARun (ends.Silent steps))

-- the run on the words at the public wires and those that are taken: first the number of values is compared with
-- the wires, then each of these words is looked at, and then the machine has to answer the word at wire 1
unfoldable pub run_in : Net → ProgramRuns → List ℕ → Result Run NotRun
run_in net runs z =
    if length z == (system_of net runs).wires
    then (word_at runs.width z 1
    >>= (λ answer. words_at runs.width z (range_with_len tape_at runs.n)
    >>= (λ tape. words_at runs.width z (taken_wires (block_of runs.width) runs z)
    >>= (λ aux. answering answer tape aux (end_of runs.width runs.t (start runs.width runs.image tape aux))))))
    else Err (WireCount (length z) (system_of net runs).wires)

-- the fault of an extraction for this reason
abbrev pub fault_of : NotRun → ExtractFault
fault_of (WireCount has wants) = faults.WireCount has wants
fault_of (WideWire at) = faults.WideWire at
fault_of (NotARun end) = faults.NotARun end

-- what an extraction is refused for: what is due is refused for that, or memory ran out
abbrev pub IsFaultOf : {A : Type 0} → Result A NotRun → ExtractFault → Type 0
IsFaultOf due (faults.WireCount has wants) = due ≡ Err (WireCount has wants)
IsFaultOf due (faults.WideWire at) = due ≡ Err (WideWire at)
IsFaultOf due (faults.NotARun end) = due ≡ Err (NotARun end)
IsFaultOf due faults.Memory = Unit {0}
