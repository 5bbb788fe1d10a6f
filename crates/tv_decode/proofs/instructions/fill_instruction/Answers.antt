use Rattle.tv_core.proofs.Common.{first_given, in_given, gives_refused_whole}
use Rattle.tv_core.proofs.ValuesChain.{some_given}
use Rattle.tv_decode.proofs.instructions.fill_instruction.Goals as goal

pub returns-in_err-fill_bits : goal.returns-in_err-fill_bits
returns-in_err-fill_bits g c =
    let low = rw (c.from.ensures, c.below_opcode.ensures) at c.in_err-fill_bits.ensures.gives in
    gives_refused_whole _ _ _ _ _ _ c.from_residual.ensures (first_given _ low)

pub returns-in_err-fill_row : goal.returns-in_err-fill_row
returns-in_err-fill_row g c =
    let low = rw (c.from.ensures, c.below_opcode.ensures) at c.in_ok-fill_bits.ensures.gives in
    let row = rw c.decode.ensures.fields at c.in_err-fill_row.ensures.gives in
    gives_refused_whole _ _ _ _ _ _ c.from_residual-in_err-fill_row.ensures (some_given _ low (first_given _ row))

pub returns-in_err-fill_bits-2 : goal.returns-in_err-fill_bits-2
returns-in_err-fill_bits-2 g c =
    let low = rw (c.from.ensures, c.below_opcode.ensures) at c.in_ok-fill_bits.ensures.gives in
    let row = rw c.decode.ensures.fields at c.in_ok-fill_row.ensures.gives in
    let second = rw c.from-2.ensures at c.in_err-fill_bits-2.ensures.gives in
    gives_refused_whole _ _ _ _ _ _ c.from_residual-in_err-fill_bits-2.ensures (some_given _ low (some_given _ row (first_given _ second)))

pub returns-clause-gives : goal.returns-clause-gives
returns-clause-gives g c =
    let low = rw (c.from.ensures, c.below_opcode.ensures) at c.in_ok-fill_bits.ensures.gives in
    let row = rw c.decode.ensures.fields at c.in_ok-fill_row.ensures.gives in
    let second = rw c.from-2.ensures at c.in_ok-fill_bits-2.ensures.gives in
    in_given _ _ _ low (in_given _ _ _ row (in_given _ _ _ second c.give_words.ensures.gives))
