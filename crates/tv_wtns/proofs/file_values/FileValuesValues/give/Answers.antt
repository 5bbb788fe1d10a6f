use Rattle.tv_core.proofs.Common.{refl}
use Rattle.tv_container.proofs.Buffers.{unrefused}
use Rattle.tv_wtns.proofs.Takers.{given}
use Rattle.tv_wtns.proofs.file_values.FileValuesValues.give.Goals as goal

pub returns-clause-gives : goal.returns-clause-gives
returns-clause-gives g c =
    let took = rw (c.long_bytes.ensures, c.number.ensures.same) at c.put.ensures in
    given _ _ _ c.args.value c.put.new.self.outcome refl refl (rw c.number.ensures.same at c.number.ensures.below)
    (took.passes (unrefused _ c.requires)) refl c.requires
