use Rattle.tv_core.proofs.Common.{then_in}
use Rattle.tv_regs.specs.Update.{stays_of}
use Rattle.tv_regs.proofs.update.stays.Goals as goal

pub returns : goal.returns
unfolding stays_of
returns g c = record {
  emits =
      let sides = rw (c.set_number_less.ensures.terms, c.set_rise.ensures.terms, c.clear.ensures) at c.put.ensures.emits in
      then_in _ _ _ _ _ c.fresh-new.ensures.emits sides;
}
