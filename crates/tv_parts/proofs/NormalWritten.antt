-- The registers written are put by normal combinations.
use Rattle.tv_core.proofs.Common.{ℕ, ◌+◌, ◌<◌, ◌≤◌, [], ◌∷◌, refl, arith, slice_index, ◌>>=◌, wire, top, IsNormal, AreNormal}
use Rattle.tv_core.proofs.NormalCircuits.{normal_both}
use Rattle.tv_isa.specs.Opcodes.{writer_ops}
use Rattle.tv_isa.specs.declared.opcode.TheConstants.{CMOV}
use Rattle.tv_regs.proofs.NormalLaws.{reg_below, update_normal}
use Rattle.tv_regs.specs.declared.triple.Triple.{Triple}
use Rattle.tv_inputs.proofs.AccumulationLaws.{accumulated_next}
use Rattle.tv_inputs.proofs.NormalAccumulation.{accumulated_normal}
use Rattle.tv_inputs.proofs.NormalOpcodes.{opcode_sum_normal, opcodes_top}
use Rattle.tv_inputs.specs.Accumulation.{accumulated_of}
use Rattle.tv_inputs.specs.OpcodeSums.{opcode_sum}
use Rattle.tv_inputs.specs.States.{StateUnder, StateIsApart}
use Rattle.tv_parts.specs.Written.{written_of}
use Rattle.tv_inputs.specs.declared.records.StateWires.{StateWires}

pub written_normal : (op : ℕ) (state : StateWires) (regs : Triple) (result next : ℕ) → StateUnder next state → StateIsApart state → op + 29 ≤ next
    → 0 < regs.dest → regs.dest_word < result → AreNormal (written_of op state regs result next).list
unfolding written_of ◌>>=◌
written_normal op state regs result next under apart row dest word =
    let writers = opcode_sum op writer_ops in
    let moves = opcode_sum op (CMOV ∷ []) in
    let on = accumulated_of writers moves (wire state.flag) next in
    let end = accumulated_next writers moves (wire state.flag) next in
    let writers_are : IsNormal writers = opcode_sum_normal op writer_ops refl in
    let moves_are : IsNormal moves = opcode_sum_normal op (CMOV ∷ []) refl in
    let writers_top : top writers ≤ next = omega (arith, opcodes_top 1 op 29 writer_ops refl, row) in
    let first = accumulated_normal writers moves (wire state.flag) next writers_are writers_top moves_are (omega arith, omega arith, omega arith, tt) in
    let below : (i : ℕ) → i < 16 → slice_index state.regs i < on.next =
    λ i h. omega (arith, reg_below state.regs next i under.regs (omega (arith, under.pc)), end) in
    normal_both on.list _ first (update_normal on.answer regs.dest regs.dest_word result state.regs on.next dest word below apart.rise)
