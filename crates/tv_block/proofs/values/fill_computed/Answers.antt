use Rattle.tv_core.proofs.Common.{◌∙◌, first_given, in_given, gives_refused_whole}
use Rattle.tv_core.proofs.ValuesChain.{some_given}
use Rattle.tv_block.proofs.FilledValues.{all_as, some_as, registers_are}
use Rattle.tv_block.proofs.values.fill_computed.Goals as goal

pub returns-in_err-fill_instruction : goal.returns-in_err-fill_instruction
returns-in_err-fill_instruction g c = gives_refused_whole _ _ _ _ _ _ c.from_residual.ensures (first_given _ c.in_err-fill_instruction.ensures.gives)

pub returns-in_err-fill_triple : goal.returns-in_err-fill_triple
returns-in_err-fill_triple g c =
    let same = registers_are _ _ (c.from-other.ensures ∙ c.other_register.ensures.number) c.from.ensures in
    let registers = some_as same c.in_err-fill_triple.ensures.gives in
    gives_refused_whole _ _ _ _ _ _ c.from_residual-in_err-fill_triple.ensures (some_given _ c.in_ok-fill_instruction.ensures.gives (first_given _ registers))

pub returns-in_err-fill_operand : goal.returns-in_err-fill_operand
returns-in_err-fill_operand g c =
    let same = registers_are _ _ (c.from-other.ensures ∙ c.other_register.ensures.number) c.from.ensures in
    let registers = all_as same c.in_ok-fill_triple.ensures.gives in
    gives_refused_whole _ _ _ _ _ _ c.from_residual-in_err-fill_operand.ensures (some_given _ c.in_ok-fill_instruction.ensures.gives (some_given _ registers
    (first_given _ c.in_err-fill_operand.ensures.gives)))

pub returns-in_err-give : goal.returns-in_err-give
returns-in_err-give g c =
    let same = registers_are _ _ (c.from-other.ensures ∙ c.other_register.ensures.number) c.from.ensures in
    let registers = all_as same c.in_ok-fill_triple.ensures.gives in
    gives_refused_whole _ _ _ _ _ _ c.from_residual-in_err-give.ensures (some_given _ c.in_ok-fill_instruction.ensures.gives (some_given _ registers
    (some_given _ c.in_ok-fill_operand.ensures.gives (first_given _ c.in_err-give.ensures.gives))))

pub returns-clause-gives : goal.returns-clause-gives
returns-clause-gives g c =
    let same = registers_are _ _ (c.from-other.ensures ∙ c.other_register.ensures.number) c.from.ensures in
    let registers = all_as same c.in_ok-fill_triple.ensures.gives in
    in_given _ _ _ c.in_ok-fill_instruction.ensures.gives (in_given _ _ _ registers (in_given _ _ _ c.in_ok-fill_operand.ensures.gives
    (in_given _ _ _ c.in_ok-give.ensures.gives c.fill_arithmetic.ensures.gives)))
