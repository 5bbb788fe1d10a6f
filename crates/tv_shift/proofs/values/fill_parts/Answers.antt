use Rattle.tv_core.proofs.Common.{first_given, in_given, gives_refused_whole}
use Rattle.tv_core.proofs.ValuesChain.{all_given, some_given}
use Rattle.tv_shift.proofs.values.fill_parts.Goals as goal

pub returns-in_err-fill_bits : goal.returns-in_err-fill_bits
returns-in_err-fill_bits g c =
    let bits = rw (c.from.ensures, c.chosen_and_other-chosen.ensures.chosen) at c.in_err-fill_bits.ensures.gives in
    gives_refused_whole _ _ _ _ _ _ c.from_residual.ensures (first_given _ (first_given _ bits))

pub returns-in_err-fill_thermometer : goal.returns-in_err-fill_thermometer
returns-in_err-fill_thermometer g c =
    let bits = rw (c.from.ensures, c.chosen_and_other-chosen.ensures.chosen) at c.in_ok-fill_bits.ensures.gives in
    let marks = rw c.half_log.ensures at c.in_err-fill_thermometer.ensures.gives in
    gives_refused_whole _ _ _ _ _ _ c.from_residual-in_err-fill_thermometer.ensures (first_given _ (some_given _ bits marks))

pub returns-in_err-fill_masked : goal.returns-in_err-fill_masked
returns-in_err-fill_masked g c =
    let bits = rw (c.from.ensures, c.chosen_and_other-chosen.ensures.chosen) at c.in_ok-fill_bits.ensures.gives in
    let marks = rw c.half_log.ensures at c.in_ok-fill_thermometer.ensures.gives in
    let low = rw (c.chosen_and_other-chosen.ensures.chosen, c.rest_of.ensures) at c.in_err-fill_masked.ensures.gives in
    gives_refused_whole _ _ _ _ _ _ c.from_residual-in_err-fill_masked.ensures (some_given _ (all_given _ bits marks) (first_given _ low))

pub returns-clause-gives : goal.returns-clause-gives
returns-clause-gives g c =
    let bits = rw (c.from.ensures, c.chosen_and_other-chosen.ensures.chosen) at c.in_ok-fill_bits.ensures.gives in
    let marks = rw c.half_log.ensures at c.in_ok-fill_thermometer.ensures.gives in
    let low = rw (c.chosen_and_other-chosen.ensures.chosen, c.rest_of.ensures) at c.in_ok-fill_masked.ensures.gives in
    let high = rw (c.chosen_and_other-chosen.ensures.other, c.rest_of-2.ensures) at c.fill_masked-2.ensures.gives in
    in_given _ _ _ (all_given _ bits marks) (in_given _ _ _ low high)
