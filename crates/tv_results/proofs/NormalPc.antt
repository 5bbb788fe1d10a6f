-- The program counter after a step is put by normal combinations.
use Rattle.tv_core.proofs.Common.{◌≢◌, ℕ, ◌+◌, ◌-◌, ◌%◌, ◌^◌, ◌<◌, ◌≤◌, [], ◌∷◌, ◌++◌, arith, fresh, put, pure, ◌>>=◌, wire, IsNormal, IsNormalFrom, AreNormal}
use Rattle.tv_core.proofs.Common.{for_widths, IsWidth}
use Rattle.tv_bits.proofs.NormalLaws.{wire_normal, times_normal}
use Rattle.tv_bits.specs.Times.{times_of}
use Rattle.tv_core.proofs.NormalCircuits.{normal_append}
use Rattle.tv_core.specs.declared.field.TheConstants.{P}
use Rattle.tv_isa.specs.Opcodes.{place_of}
use Rattle.tv_isa.specs.declared.opcode.TheConstants.{JMP, CJMP, CNJMP, ANSWER}
use Rattle.tv_inputs.proofs.NormalAccumulation.{accumulated_normal}
use Rattle.tv_inputs.proofs.NormalTapes.{if_zero_normal}
use Rattle.tv_inputs.proofs.UpperLaws.{upper_normal, upper_top}
use Rattle.tv_inputs.specs.Accumulation.{closed_of}
use Rattle.tv_inputs.specs.Operand.{upper_of}
use Rattle.tv_results.specs.Pc.{from_last, goes_in, after_in, jump_in, pc_of}
use Rattle.tv_inputs.specs.Tapes.{if_zero_of}
use Rattle.tv_inputs.specs.declared.records.OperandWires.{OperandWires}
use Rattle.tv_inputs.specs.declared.records.StateWires.{StateWires}
use Rattle.tv_bits.specs.Zero.{zero_cases_of}

-- ---- what depends on the width
abbrev LastIsNormal : ℕ → Type 0
LastIsNormal w = (pc : ℕ) → 0 < pc → IsNormal (from_last w pc)

last_normal : (w : ℕ) → IsWidth w → LastIsNormal w
last_normal = for_widths LastIsNormal (λ pc h. search arith) (λ pc h. search arith)

abbrev AfterIsNormal : ℕ → Type 0
AfterIsNormal w = (pc answers wraps : ℕ) → 0 < pc → pc < answers → answers < wraps → IsNormal (after_in w pc answers wraps)

after_normal : (w : ℕ) → IsWidth w → AfterIsNormal w
after_normal = for_widths AfterIsNormal (λ pc answers wraps h k l. search arith) (λ pc answers wraps h k l. search arith)

-- the number of the operand's upper bits, m times, and a wire after them
target_normal : (m k c least : ℕ) (a : OperandWires) (wraps : ℕ) → k ≤ 32 → m % P ≢ 0 → 0 < c → c < P → least ≤ a.word → a.word < a.bits.first
    → a.bits.first + k ≤ wraps → IsNormalFrom least (upper_of m a k ++ (c, wraps) ∷ [])
target_normal m k c least a wraps short apart some small from rise within =
    let last : IsNormalFrom wraps ((c, wraps) ∷ []) = (omega arith, some, small, tt) in
    normal_append least wraps (upper_of m a k) ((c, wraps) ∷ []) (upper_normal least m a k short apart from rise)
    (omega (arith, upper_top m a k rise, within)) (omega arith) last

abbrev JumpIsNormal : ℕ → Type 0
JumpIsNormal w = (pc answers : ℕ) (a : OperandWires) (wraps : ℕ) → 0 < pc → pc < answers → answers < a.word → a.word < a.bits.first → a.bits.first + w ≤ wraps
    → IsNormal (jump_in w pc answers a wraps)

jump_16 : JumpIsNormal 16
jump_16 pc answers a wraps h k l rise m =
    let rest = target_normal 4 2 (2 ^ 16) (answers + 1) a wraps (omega arith) (λ e. omega arith) (omega arith) (omega arith) (omega arith) rise (omega arith) in
    (omega arith, omega arith, omega arith, (omega arith, omega arith, omega arith, (omega arith, omega arith, omega arith, rest)))

jump_32 : JumpIsNormal 32
jump_32 pc answers a wraps h k l rise m =
    let rest = target_normal 8 3 (2 ^ 32) (answers + 1) a wraps (omega arith) (λ e. omega arith) (omega arith) (omega arith) (omega arith) rise (omega arith) in
    (omega arith, omega arith, omega arith, (omega arith, omega arith, omega arith, (omega arith, omega arith, omega arith, rest)))

jump_normal : (w : ℕ) → IsWidth w → JumpIsNormal w
jump_normal = for_widths JumpIsNormal jump_16 jump_32

-- ---- all of it
pub pc_normal : (w : ℕ) → IsWidth w → (state : StateWires) (op : ℕ) (a : OperandWires) (next : ℕ) → 0 < state.pc → state.pc < op → op + 29 ≤ a.word
    → a.word < a.bits.first → a.bits.first + w ≤ next → AreNormal (pc_of w state op a next).list
unfolding pc_of if_zero_of zero_cases_of times_of closed_of fresh put pure ◌>>=◌
pc_normal w width state op a next some before row rise within =
    let answers : ℕ = op + place_of ANSWER in
    let flags = (1, op + place_of CJMP) ∷ (P - 1, op + place_of CNJMP) ∷ [] in
    let jumps = (1, op + place_of JMP) ∷ (1, op + place_of CNJMP) ∷ (1, next + 1 + 1) ∷ [] in
    let wraps = if_zero_normal (goes_in op) (from_last w state.pc) next (search arith) (omega arith) (last_normal w width state.pc some) in
    let by_flag = times_normal (wire state.flag) flags (next + 1 + 1) (wire_normal 0 state.flag (omega arith)) (search arith) in
    let after = after_normal w width state.pc answers next some (omega arith) (omega arith) in
    let jump = jump_normal w width state.pc answers a next some (omega arith) (omega arith) rise within in
    let counter = accumulated_normal (after_in w state.pc answers next) jumps (jump_in w state.pc answers a next) (next + 1 + 1 + 1)
    after (omega arith) (search arith) jump in
    (wraps.0, (wraps.1.0, (by_flag.0, (counter.0, tt))))
