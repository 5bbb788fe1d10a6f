use Rattle.tv_core.proofs.Common.{all_then, some_then, some_first, refused_wires, all_last, refl}
use Rattle.tv_block.proofs.Growing.{rises, both, now, after, up, one_up, state_under, computed_under, tapes_under, store_under}
use Rattle.tv_block.proofs.constraints.leave.Goals as goal

pub returns-in_err-regs : goal.returns-in_err-regs
returns-in_err-regs g c = refused_wires _ _ _ _ c.from_residual.ensures (some_first _ c.in_err-regs.ensures.emits)

pub returns-in_err-flag : goal.returns-in_err-flag
returns-in_err-flag g c =
    refused_wires _ _ _ _ c.from_residual-in_err-flag.ensures (some_then _ c.in_ok-regs.ensures.emits (some_first _ c.in_err-flag.ensures.emits))

pub returns-in_err-pc : goal.returns-in_err-pc
returns-in_err-pc g c =
    refused_wires _ _ _ _ c.from_residual-in_err-pc.ensures (some_then _ c.in_ok-regs.ensures.emits (some_then _ c.in_ok-flag.ensures.emits
    (some_first _ c.in_err-pc.ensures.emits)))

pub returns-clause-emits : goal.returns-clause-emits
returns-clause-emits g c =
    all_then _ c.in_ok-regs.ensures.emits (all_then _ c.in_ok-flag.ensures.emits (all_last _ c.in_ok-pc.ensures.emits refl))

pub put_flag-requires : goal.put_flag-requires
put_flag-requires g c =
    let r = c.requires in
    let g5 = c.in_ok-regs.ensures.emits.grows in
    let now_ = computed_under (rises g5) r.before_made.computed in
    record {
      width = r.width;
      room = now 4 4 (after g5 r.room);
      from_made = record {
        state = state_under (rises g5) r.before_made.state;
        row = now_.op;
        bits = now_.made.rows.x;
        test = now_.test;
        tapes = tapes_under (rises g5) r.done_made.tapes;
      };
    }

pub put_pc-requires : goal.put_pc-requires
put_pc-requires g c =
    let r = c.requires in
    let g6 = both c.in_ok-regs.ensures.emits.grows c.in_ok-flag.ensures.emits.grows in
    let now_ = computed_under (rises g6) r.before_made.computed in
    record {
      width = r.width;
      room = after g6 r.room;
      state_made = state_under (rises g6) r.before_made.state;
      op_made = now_.op;
      operand_made = now_.operand;
    }

pub returns-clause-below : goal.returns-clause-below
returns-clause-below g c =
    let g7 = c.in_ok-pc.ensures.emits.grows in
    let g67 = both c.in_ok-flag.ensures.emits.grows g7 in
    let all = rises (both c.in_ok-regs.ensures.emits.grows g67) in
    record {
      tapes = tapes_under all c.requires.done_made.tapes;
      memory = store_under all c.requires.done_made.memory;
      regs = up (rises g67) c.in_ok-regs.ensures.below;
      flag = one_up (rises g7) c.in_ok-flag.ensures.below;
      pc = c.in_ok-pc.ensures.below;
    }
