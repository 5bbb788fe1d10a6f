use Rattle.tv_core.proofs.Common.{first_given, in_given, gives_refused_whole}
use Rattle.tv_core.proofs.ValuesChain.{some_given}
use Rattle.tv_block.proofs.FilledValues.{all_as, some_as, memory_is, results_are, signs_are}
use Rattle.tv_block.proofs.values.fill_effects.Goals as goal

pub returns-in_err-fill_tapes : goal.returns-in_err-fill_tapes
returns-in_err-fill_tapes g c = gives_refused_whole _ _ _ _ _ _ c.from_residual.ensures (first_given _ c.in_err-fill_tapes.ensures.gives)

pub returns-in_err-fill_memory : goal.returns-in_err-fill_memory
returns-in_err-fill_memory g c =
    let memory = some_as (memory_is c.requires.numbers) c.in_err-fill_memory.ensures.gives in
    gives_refused_whole _ _ _ _ _ _ c.from_residual-in_err-fill_memory.ensures (some_given _ c.in_ok-fill_tapes.ensures.gives (first_given _ memory))

pub returns-in_err-give_values : goal.returns-in_err-give_values
returns-in_err-give_values g c =
    let are = c.requires.numbers in
    let memory = all_as (memory_is are) c.in_ok-fill_memory.ensures.gives in
    let results = some_as (results_are are c.requires.results) c.in_err-give_values.ensures.gives in
    gives_refused_whole _ _ _ _ _ _ c.from_residual-in_err-give_values.ensures (some_given _ c.in_ok-fill_tapes.ensures.gives (some_given _ memory
    (first_given _ results)))

pub returns-in_err-fill_zero_sign : goal.returns-in_err-fill_zero_sign
returns-in_err-fill_zero_sign g c =
    let are = c.requires.numbers in
    let memory = all_as (memory_is are) c.in_ok-fill_memory.ensures.gives in
    let results = all_as (results_are are c.requires.results) c.in_ok-give_values.ensures.gives in
    let signs = some_as (signs_are are c.requires.results _ c.sign.ensures) c.in_err-fill_zero_sign.ensures.gives in
    gives_refused_whole _ _ _ _ _ _ c.from_residual-in_err-fill_zero_sign.ensures (some_given _ c.in_ok-fill_tapes.ensures.gives (some_given _ memory
    (some_given _ results (first_given _ signs))))

pub returns-in_err-fill_written : goal.returns-in_err-fill_written
returns-in_err-fill_written g c =
    let are = c.requires.numbers in
    let memory = all_as (memory_is are) c.in_ok-fill_memory.ensures.gives in
    let results = all_as (results_are are c.requires.results) c.in_ok-give_values.ensures.gives in
    let signs = all_as (signs_are are c.requires.results _ c.sign.ensures) c.in_ok-fill_zero_sign.ensures.gives in
    gives_refused_whole _ _ _ _ _ _ c.from_residual-in_err-fill_written.ensures (some_given _ c.in_ok-fill_tapes.ensures.gives (some_given _ memory
    (some_given _ results (some_given _ signs (first_given _ c.in_err-fill_written.ensures.gives)))))

pub returns-in_err-fill_flag : goal.returns-in_err-fill_flag
returns-in_err-fill_flag g c =
    let are = c.requires.numbers in
    let memory = all_as (memory_is are) c.in_ok-fill_memory.ensures.gives in
    let results = all_as (results_are are c.requires.results) c.in_ok-give_values.ensures.gives in
    let signs = all_as (signs_are are c.requires.results _ c.sign.ensures) c.in_ok-fill_zero_sign.ensures.gives in
    gives_refused_whole _ _ _ _ _ _ c.from_residual-in_err-fill_flag.ensures (some_given _ c.in_ok-fill_tapes.ensures.gives (some_given _ memory
    (some_given _ results (some_given _ signs (some_given _ c.in_ok-fill_written.ensures.gives (first_given _ c.in_err-fill_flag.ensures.gives))))))

pub returns-clause-gives : goal.returns-clause-gives
returns-clause-gives g c =
    let are = c.requires.numbers in
    let memory = all_as (memory_is are) c.in_ok-fill_memory.ensures.gives in
    let results = all_as (results_are are c.requires.results) c.in_ok-give_values.ensures.gives in
    let signs = all_as (signs_are are c.requires.results _ c.sign.ensures) c.in_ok-fill_zero_sign.ensures.gives in
    in_given _ _ _ c.in_ok-fill_tapes.ensures.gives (in_given _ _ _ memory (in_given _ _ _ results (in_given _ _ _ signs
    (in_given _ _ _ c.in_ok-fill_written.ensures.gives (in_given _ _ _ c.in_ok-fill_flag.ensures.gives c.fill_pc.ensures.gives)))))
