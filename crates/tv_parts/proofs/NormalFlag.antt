-- The flag after a step is put by normal combinations.
use Rattle.tv_core.proofs.Common.{ℕ, ◌+◌, ◌-◌, ◌<◌, ◌≤◌, List, [], ◌∷◌, ◌++◌, refl, arith, fresh, put, pure, ◌>>=◌, wire, top, Combination, IsNormal}
use Rattle.tv_core.proofs.Common.{IsNormalFrom, AreNormal}
use Rattle.tv_bits.proofs.NormalLaws.{wire_normal, rise_normal, times_normal}
use Rattle.tv_bits.specs.Times.{times_of}
use Rattle.tv_bits.specs.declared.bit_wires.Bits.{Bits}
use Rattle.tv_core.proofs.CombinationLaws.{top-append}
use Rattle.tv_core.proofs.NormalLaws.{IsNormalFrom-lower}
use Rattle.tv_core.specs.declared.field.TheConstants.{P}
use Rattle.tv_isa.specs.Opcodes.{keeper_ops}
use Rattle.tv_isa.specs.declared.opcode.TheConstants.{ADD, MULL, UMULH, SMULH, SHL, SHR, CMPA, CMPAE, CMPG, CMPGE, READ}
use Rattle.tv_inputs.proofs.NormalAccumulation.{accumulated_normal}
use Rattle.tv_inputs.proofs.NormalOpcodes.{opcode_sum_normal, opcodes_then, opcodes_top}
use Rattle.tv_inputs.specs.Accumulation.{closed_of}
use Rattle.tv_parts.specs.Flag.{tested_in, next_flag_of}
use Rattle.tv_inputs.specs.OpcodeSums.{opcode_sum}
use Rattle.tv_inputs.specs.declared.records.StateWires.{StateWires}
use Rattle.tv_inputs.specs.declared.records.TapeWires.{TapeWires}

-- the opcodes whose sign is negative, and read
abbrev turned_ops : List ℕ
turned_ops = ADD ∷ MULL ∷ UMULH ∷ SMULH ∷ CMPA ∷ CMPAE ∷ CMPG ∷ CMPGE ∷ READ ∷ []

-- the wires that come after the row
abbrev after_row : ℕ → TapeWires → ℕ → ℕ → Combination
after_row f t left right = (1, f) ∷ (P - 1, t.taken) ∷ (P - 1, t.takes) ∷ (1, left) ∷ (1, right) ∷ []

tested_normal : (before op f : ℕ) (t : TapeWires) (left right : ℕ) → before < op → op + 29 ≤ f → f < t.taken → t.taken < t.takes → t.takes < left → left < right
    → IsNormal (tested_in before op f t left right)
tested_normal before op f t left right h row k l m n =
    let rest = after_row f t left right in
    let last : IsNormalFrom (op + 29) rest = search arith in
    let both : IsNormalFrom (op + 0) (opcode_sum op turned_ops ++ rest) =
    opcodes_then 1 op 0 29 turned_ops rest (omega arith) (omega arith) refl refl (omega arith) last in
    (omega arith, omega arith, omega arith, IsNormalFrom-lower (before + 1) (op + 0) (opcode_sum op turned_ops ++ rest) (omega arith) both)

tested_top : (before op f : ℕ) (t : TapeWires) (left right : ℕ) → before < op → op + 29 ≤ f → f < t.taken → t.taken < t.takes → t.takes < left → left < right
    → top (tested_in before op f t left right) ≤ right + 1
tested_top before op f t left right h row k l m n =
    let rest = after_row f t left right in
    let rest_top : top rest ≤ right + 1 = omega arith in
    omega (arith, top-append (opcode_sum op turned_ops) rest, opcodes_top 1 op 29 turned_ops refl, rest_top)

pub flag_normal : (w : ℕ) (state : StateWires) (op : ℕ) (x : Bits) (f : ℕ) (t : TapeWires) (next : ℕ) → state.taken_of_primary < op → op + 29 ≤ f
    → f < x.first → f < t.taken → t.taken < t.takes → t.takes < next → AreNormal (next_flag_of w state op x f t next).list
unfolding next_flag_of times_of closed_of fresh put pure ◌>>=◌
flag_normal w state op x f t next before row decomposed taken takes within =
    let tested = tested_in state.taken_of_primary op f t next (next + 1) in
    let highest = rise_normal f (x.first + (w - 1)) (omega arith) in
    let left = times_normal (opcode_sum op (SHL ∷ [])) ((P - 1, f) ∷ (1, x.first + (w - 1)) ∷ []) next (opcode_sum_normal op (SHL ∷ []) refl) highest in
    let lowest = rise_normal f x.first decomposed in
    let right = times_normal (opcode_sum op (SHR ∷ [])) ((P - 1, f) ∷ (1, x.first) ∷ []) (next + 1) (opcode_sum_normal op (SHR ∷ []) refl) lowest in
    let tested_is = tested_normal state.taken_of_primary op f t next (next + 1) before row taken takes within (omega arith) in
    let below : top tested ≤ next + 1 + 1 = tested_top state.taken_of_primary op f t next (next + 1) before row taken takes within (omega arith) in
    let flag = accumulated_normal tested (opcode_sum op keeper_ops) (wire state.flag) (next + 1 + 1) tested_is below
    (opcode_sum_normal op keeper_ops refl) (wire_normal 0 state.flag (omega arith)) in
    (left.0, (right.0, (flag.0, tt)))
