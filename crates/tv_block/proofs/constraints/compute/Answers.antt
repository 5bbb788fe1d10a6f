use Rattle.tv_core.proofs.Common.{all_then, some_then, some_first, refused_wires, all_last, refl, emits_as, arith}
use Rattle.tv_block.proofs.Growing.{rises, both, now, after, computed_room, next_fits, made_by, within, up, one_up, state_under, triple_under}
use Rattle.tv_block.proofs.Growing.{operand_under, instruction_under, tail_under, imm_under}
use Rattle.tv_block.specs.Block.{computed_of}
use Rattle.tv_block.proofs.constraints.compute.Goals as goal

pub returns-in_err-instruction : goal.returns-in_err-instruction
unfolding computed_of
returns-in_err-instruction g c = refused_wires _ _ _ _ c.from_residual.ensures (some_first _ c.in_err-instruction.ensures.emits)

pub returns-in_err-regs : goal.returns-in_err-regs
unfolding computed_of
returns-in_err-regs g c =
    refused_wires _ _ _ _ c.from_residual-in_err-regs.ensures (some_then _ c.in_ok-instruction.ensures.emits (some_first _ c.in_err-regs.ensures.emits))

pub returns-in_err-operand : goal.returns-in_err-operand
unfolding computed_of
returns-in_err-operand g c =
    let p2 = rw c.imm-imm.ensures at c.in_err-operand.ensures.emits in
    refused_wires _ _ _ _ c.from_residual-in_err-operand.ensures (some_then _ c.in_ok-instruction.ensures.emits (some_then _ c.in_ok-regs.ensures.emits
    (some_first _ p2)))

pub returns-in_err-made : goal.returns-in_err-made
unfolding computed_of
returns-in_err-made g c =
    let p2 = rw c.imm-imm.ensures at c.in_ok-operand.ensures.emits in
    refused_wires _ _ _ _ c.from_residual-in_err-made.ensures (some_then _ c.in_ok-instruction.ensures.emits (some_then _ c.in_ok-regs.ensures.emits
    (some_then _ p2 (some_then _ c.fresh-test.ensures.emits (some_first _ c.in_err-made.ensures.emits)))))

pub returns-clause-emits : goal.returns-clause-emits
unfolding computed_of
returns-clause-emits g c =
    let p2 = rw c.imm-imm.ensures at c.in_ok-operand.ensures.emits in
    emits_as (omega arith) (omega arith) (all_then _ c.in_ok-instruction.ensures.emits (all_then _ c.in_ok-regs.ensures.emits (all_then _ p2
    (all_then _ c.fresh-test.ensures.emits (all_last _ c.in_ok-made.ensures.emits refl)))))

pub registers-requires : goal.registers-requires
registers-requires g c =
    let r = c.requires in
    let e1 = c.in_ok-instruction.ensures in
    record {
      width = r.width;
      room = now _ _ (after e1.emits.grows (computed_room _ r.room));
      state_made = state_under (rises e1.emits.grows) r.state_made;
      instruction_made = instruction_under _ r.width e1.emits.grows e1.places;
    }

pub imm-imm-requires-clause-within : goal.imm-imm-requires-clause-within
imm-imm-requires-clause-within g c =
    let e1 = c.in_ok-instruction.ensures in
    within (after e1.emits.grows (computed_room g.row.W c.requires.room)) (instruction_under _ c.requires.width e1.emits.grows e1.places).low

pub put_operand-requires : goal.put_operand-requires
put_operand-requires g c =
    let r = c.requires in
    let e1 = c.in_ok-instruction.ensures in
    let e2 = c.in_ok-regs.ensures in
    record {
      width = r.width;
      room = now _ _ (after e2.emits.grows (after e1.emits.grows (computed_room _ r.room)));
      imm_made = one_up (rises e2.emits.grows) (imm_under _ r.width e1.emits.grows e1.places c.imm-imm.ensures);
      tail_made = one_up (rises e2.emits.grows) (tail_under _ r.width e1.emits.grows e1.places);
      register_made = e2.below.named;
    }

pub fresh-test-requires : goal.fresh-test-requires
fresh-test-requires g c =
    let e1 = c.in_ok-instruction.ensures.emits.grows in
    let e3 = c.in_ok-operand.ensures.emits.grows in
    record {
      whole = e3.whole;
      room = next_fits _ (after e3 (after c.in_ok-regs.ensures.emits.grows (after e1 (computed_room g.row.W c.requires.room))));
    }

pub put_arithmetic-requires : goal.put_arithmetic-requires
put_arithmetic-requires g c =
    let r = c.requires in
    let e1 = c.in_ok-instruction.ensures in
    let e2 = c.in_ok-regs.ensures in
    let e3 = c.in_ok-operand.ensures in
    let e4 = c.fresh-test.ensures in
    let g34 = both e3.emits.grows e4.emits.grows in
    record {
      width = r.width;
      room = after e4.emits.grows (after e3.emits.grows (after e2.emits.grows (after e1.emits.grows (computed_room _ r.room))));
      operation_made = record {
        row = up (rises (both e2.emits.grows g34)) (instruction_under _ r.width e1.emits.grows e1.places).op;
        operand = operand_under (rises e4.emits.grows) e3.below;
      };
      other_made = one_up (rises g34) e2.below.other;
      f_made = made_by e4.emits.grows e4.next;
    }

pub returns-clause-below : goal.returns-clause-below
returns-clause-below g c =
    let e1 = c.in_ok-instruction.ensures in
    let e2 = c.in_ok-regs.ensures in
    let e3 = c.in_ok-operand.ensures in
    let e4 = c.fresh-test.ensures in
    let e5 = c.in_ok-made.ensures in
    let g45 = both e4.emits.grows e5.emits.grows in
    let g345 = both e3.emits.grows g45 in
    record {
      op = up (rises (both e2.emits.grows g345)) (instruction_under _ c.requires.width e1.emits.grows e1.places).op;
      regs = triple_under (rises g345) e2.below;
      operand = operand_under (rises g45) e3.below;
      test = one_up (rises e5.emits.grows) (made_by e4.emits.grows e4.next);
      made = e5.below;
    }
