use Rattle.tv_core.proofs.Common.{refl, ◌∙◌, refused, all_then, some_then, some_first, all_last, emits_as, arith}
use Rattle.tv_bits.proofs.Growing.{fewer, fits, within, both, left}
use Rattle.tv_decode.proofs.InstructionLaws.{instruction_answer}
use Rattle.tv_decode.specs.Instructions.{instruction_of}
use Rattle.tv_decode.proofs.Rooms.{words_room, row_made, head_made, through, small, low_short, second_short, low_length}
use Rattle.tv_decode.proofs.instructions.instruction.Goals as goal

pub returns-in_err-low-clause-emits : goal.returns-in_err-low-clause-emits
unfolding instruction_of
returns-in_err-low-clause-emits g c =
    refused _ _ _ c.from_residual.ensures.1 (some_first _ c.in_err-low.ensures.emits)

pub returns-in_err-row-clause-emits : goal.returns-in_err-row-clause-emits
unfolding instruction_of
returns-in_err-row-clause-emits g c =
    refused _ _ _ c.from_residual-in_err-row.ensures.1 (some_then _ c.in_ok-low.ensures.emits (some_first _ c.in_err-row.ensures.emits))

pub returns-in_err-second-clause-emits : goal.returns-in_err-second-clause-emits
unfolding instruction_of
returns-in_err-second-clause-emits g c =
    refused _ _ _ c.from_residual-in_err-second.ensures.1 (some_then _ c.in_ok-low.ensures.emits (some_then _ c.in_ok-row.ensures.emits
    (some_first _ c.in_err-second.ensures.emits)))

pub returns-in_err-one_opcode-clause-emits : goal.returns-in_err-one_opcode-clause-emits
unfolding instruction_of
returns-in_err-one_opcode-clause-emits g c =
    refused _ _ _ c.from_residual-in_err-one_opcode.ensures.1 (some_then _ c.in_ok-low.ensures.emits (some_then _ c.in_ok-row.ensures.emits
    (some_then _ c.in_ok-second.ensures.emits (some_first _ c.in_err-one_opcode.ensures.emits))))

pub returns-in_err-head-clause-emits : goal.returns-in_err-head-clause-emits
unfolding instruction_of
returns-in_err-head-clause-emits g c =
    let head = rw (c.plus_opcodes.ensures.terms, c.set_number.ensures.terms, c.in_ok-low.ensures.size) at c.in_err-head.ensures.emits in
    refused _ _ _ c.from_residual-in_err-head.ensures.1 (some_then _ c.in_ok-low.ensures.emits (some_then _ c.in_ok-row.ensures.emits
    (some_then _ c.in_ok-second.ensures.emits (some_then _ c.in_ok-one_opcode.ensures.emits (some_first _ head)))))

pub returns-in_err-tail-clause-emits : goal.returns-in_err-tail-clause-emits
unfolding instruction_of
returns-in_err-tail-clause-emits g c =
    let head = rw (c.plus_opcodes.ensures.terms, c.set_number.ensures.terms, c.in_ok-low.ensures.size) at c.in_ok-head.ensures.emits in
    let tail = rw (c.set_number-2.ensures.terms) at c.in_err-tail.ensures.emits in
    refused _ _ _ c.from_residual-in_err-tail.ensures.1 (some_then _ c.in_ok-low.ensures.emits (some_then _ c.in_ok-row.ensures.emits
    (some_then _ c.in_ok-second.ensures.emits (some_then _ c.in_ok-one_opcode.ensures.emits (some_then _ head (some_first _ tail))))))

pub returns-clause-emits : goal.returns-clause-emits
unfolding instruction_of
returns-clause-emits g c =
    let head = rw (c.plus_opcodes.ensures.terms, c.set_number.ensures.terms, c.in_ok-low.ensures.size) at c.in_ok-head.ensures.emits in
    let tail = rw (c.set_number-2.ensures.terms) at c.in_ok-tail.ensures.emits in
    let width = c.requires.width in
    emits_as (omega (arith, width)) (omega (arith, width)) (all_then _ c.in_ok-low.ensures.emits (all_then _ c.in_ok-row.ensures.emits
    (all_then _ c.in_ok-second.ensures.emits (all_then _ c.in_ok-one_opcode.ensures.emits (all_then _ head (all_last _ tail refl))))))

pub returns-clause-places : goal.returns-clause-places
returns-clause-places g c = (returns-clause-emits g c).puts.answers ∙ instruction_answer g.row.W _

pub one_opcode-requires : goal.one_opcode-requires
one_opcode-requires g c =
    let row = c.in_ok-row.ensures in
    let second = c.in_ok-second.ensures.emits.grows in
    let bits = both (both c.in_ok-low.ensures.emits.grows row.emits.grows) second in
    record { room = fewer (words_room c.requires.width bits c.requires.room) refl refl; op_made = within second (row_made _ row.below row.size) }

pub set_number-requires : goal.set_number-requires
set_number-requires g c =
    let low = c.in_ok-low.ensures in
    let after = both c.in_ok-row.ensures.emits.grows c.in_ok-second.ensures.emits.grows in
    let bits = both (both low.emits.grows c.in_ok-row.ensures.emits.grows) c.in_ok-second.ensures.emits.grows in
    record {
      short = low_short c.requires.width low.size;
      within = small (within after low.below) (fits (words_room c.requires.width bits c.requires.room));
    }

pub plus_opcodes-requires : goal.plus_opcodes-requires
plus_opcodes-requires g c =
    let r = c.requires in
    let row = c.in_ok-row.ensures in
    let second = c.in_ok-second.ensures.emits.grows in
    let bits = both (both c.in_ok-low.ensures.emits.grows row.emits.grows) second in
    record {
      width = r.width;
      within = small (within second (row_made _ row.below row.size)) (fits (words_room r.width bits r.room));
      room = low_length r.width c.set_number.ensures.len c.in_ok-low.ensures.size;
    }

pub kept_by-requires : goal.kept_by-requires
kept_by-requires g c =
    let low = c.in_ok-low.ensures in
    let row = c.in_ok-row.ensures in
    let one = c.in_ok-one_opcode.ensures.emits.grows in
    let second = both c.in_ok-second.ensures.emits.grows one in
    let bits = both (both low.emits.grows row.emits.grows) c.in_ok-second.ensures.emits.grows in
    record {
      room = left one (words_room c.requires.width bits c.requires.room) refl refl;
      x_made = head_made _ c.plus_opcodes.ensures.top c.set_number.ensures.top (within second (within row.emits.grows low.below))
          (within second (row_made _ row.below row.size));
    }

pub set_number-requires-2 : goal.set_number-requires-2
set_number-requires-2 g c =
    let second = c.in_ok-second.ensures in
    let bits = both (both c.in_ok-low.ensures.emits.grows c.in_ok-row.ensures.emits.grows) second.emits.grows in
    record { short = second_short c.requires.width second.size; within = small second.below (fits (words_room c.requires.width bits c.requires.room)) }

pub kept_by-requires-2 : goal.kept_by-requires-2
kept_by-requires-2 g c =
    let second = c.in_ok-second.ensures in
    let words = both c.in_ok-one_opcode.ensures.emits.grows c.in_ok-head.ensures.emits.grows in
    let bits = both (both c.in_ok-low.ensures.emits.grows c.in_ok-row.ensures.emits.grows) second.emits.grows in
    record {
      room = left words (words_room c.requires.width bits c.requires.room) refl refl;
      x_made = through c.set_number-2.ensures.top (within words second.below);
    }
