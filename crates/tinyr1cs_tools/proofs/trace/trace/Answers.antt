use Rattle.std.proofs.Common.{inl, inr}
use Rattle.tinyr1cs_tools.proofs.trace.trace.Goals as goal

pub returns-in-Ok-text_of_run : goal.returns-in-Ok-text_of_run
returns-in-Ok-text_of_run g c =
    inr (
      c.in-Ok.inputs,
      _,
      c.in-Ok.ensures.found,
      inl (rw (c.deref.ensures.value, c.in-Ok-text_of_run.ensures.text, c.in-Ok-text_of_run.ensures.end) at c.print.ensures),
    )
