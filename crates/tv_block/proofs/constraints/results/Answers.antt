use Rattle.tv_block.proofs.constraints.results.Goals as goal

pub returns-clause-emits : goal.returns-clause-emits
returns-clause-emits g c = rw c.offset.ensures at c.put_results.ensures.emits
