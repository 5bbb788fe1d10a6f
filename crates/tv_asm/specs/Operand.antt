-- Operands of an instruction, in text.
use Rattle.std.specs.Prelude.{ℕ, ◌^◌, ◌==◌, nat_eq, true, false, not, ◌&&◌, ◌||◌, if◌then◌else◌, List, length, drop, slice_index, Option, Result, Ok, Err}
use Rattle.std.specs.Prelude.{codes}
use Rattle.std.specs.List.{starts_with}
use Rattle.std.specs.Option.{ok_or}
use Rattle.tv_word.specs.Numeral.{numeral}
use Rattle.tv_asm.specs.Steps.{◌>>=◌}
use Rattle.tv_asm.specs.declared.fault.AsmWhy.{AsmWhy}
use Rattle.tv_asm.specs.declared.fault.AsmWhy.TheVariants.{BadRegister, BadNumber, UnknownLabel}
use Rattle.tv_asm.specs.declared.operand.Operand.{Operand}

-- a register: `r` and a number below 16 without a leading zero
unfoldable pub register : List ℕ → Result ℕ AsmWhy
register text =
    let digits = drop 1 text in
    if slice_index text 0 == 114 && (length digits == 1 || not (slice_index digits 0 == 48))
    then ok_or (numeral 10 16 digits) BadRegister
    else Err BadRegister

-- a number below 2 ^ w: decimal digits, or `0x` and hexadecimal digits of either case
unfoldable pub number : ℕ → List ℕ → Result ℕ AsmWhy
number w text =
    ok_or (if starts_with nat_eq text (codes "0x") then numeral 16 (2 ^ w) (drop 2 text) else numeral 10 (2 ^ w) text) BadNumber

-- the operand A: a register where it begins with `r`, a label's address where it begins with `_`, else a number
unfoldable pub operand : ℕ → (List ℕ → Option ℕ) → List ℕ → Result Operand AsmWhy
operand w address text =
    if slice_index text 0 == 114
    then (register text >>= λ r. Ok (record { imm = false; a = r }))
    else
    if slice_index text 0 == 95
    then (ok_or (address text) UnknownLabel >>= λ a. Ok (record { imm = true; a = a }))
    else (number w text >>= λ n. Ok (record { imm = true; a = n }))
