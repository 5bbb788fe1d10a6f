-- The forms of words.
use Rattle.std.specs.Prelude.{ℕ, List, [], ◌∷◌, Option, None, codes, if◌then◌else◌}
use Rattle.std.specs.Str.{bytes_eq}
use Rattle.tv_plan.specs.Asm.{asm_form}
use Rattle.tv_top.specs.Build.{build_form}
use Rattle.tv_plan.specs.Check.{check_form}
use Rattle.tv_plan.specs.Disasm.{disasm_form}
use Rattle.tv_top.specs.Extract.{extract_form}
use Rattle.tv_top.specs.Listing.{listing_form}
use Rattle.tv_plan.specs.Plan.{Plan}
use Rattle.tv_plan.specs.Run.{run_form}
use Rattle.tv_top.specs.Shrink.{shrink_form}
use Rattle.tv_top.specs.Trial.{trial_form}
use Rattle.tv_top.specs.Witness.{witness_form}

-- the plan of these words, where they have the form of a command's
abbrev pub form : List (List ℕ) → Option Plan
form [] = None
form (name ∷ words) =
    if bytes_eq name (codes "asm") then asm_form words
    else (if bytes_eq name (codes "disasm") then disasm_form words
    else (if bytes_eq name (codes "run") then run_form words
    else (if bytes_eq name (codes "build") then build_form words
    else (if bytes_eq name (codes "witness") then witness_form words
    else (if bytes_eq name (codes "check") then check_form words
    else (if bytes_eq name (codes "extract") then extract_form words
    else (if bytes_eq name (codes "trial") then trial_form words
    else (if bytes_eq name (codes "shrink") then shrink_form words
    else (if bytes_eq name (codes "listing") then listing_form words else None)))))))))
