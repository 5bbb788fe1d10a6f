use Rattle.tv_core.proofs.Common.{first_given, in_given, gives_refused_whole}
use Rattle.tv_core.proofs.ValuesChain.{some_given}
use Rattle.tv_bits.proofs.double_rows.fill_double_row.Goals as goal

pub returns-in_err-fill_bits : goal.returns-in_err-fill_bits
returns-in_err-fill_bits g c =
    let low = rw c.from.ensures at c.in_err-fill_bits.ensures.gives in
    gives_refused_whole _ _ _ _ _ _ c.from_residual.ensures (first_given _ low)

pub returns-in_err-fill_bits-2 : goal.returns-in_err-fill_bits-2
returns-in_err-fill_bits-2 g c =
    let low = rw c.from.ensures at c.in_ok-fill_bits.ensures.gives in
    let high = rw c.from-2.ensures at c.in_err-fill_bits-2.ensures.gives in
    gives_refused_whole _ _ _ _ _ _ c.from_residual-in_err-fill_bits-2.ensures (some_given _ low (first_given _ high))

pub returns-clause-gives : goal.returns-clause-gives
returns-clause-gives g c =
    let last = rw c.words_and_ratio.ensures at c.give_values.ensures.gives in
    let low = rw c.from.ensures at c.in_ok-fill_bits.ensures.gives in
    let high = rw c.from-2.ensures at c.in_ok-fill_bits-2.ensures.gives in
    in_given _ _ _ low (in_given _ _ _ high last)
