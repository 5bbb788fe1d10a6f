use Rattle.tv_core.proofs.Common.{some_first, refused_wires, then_in}
use Rattle.tv_parts.specs.Written.{written_of}
use Rattle.tv_parts.proofs.written.put_written.Goals as goal

pub returns-in_err-on : goal.returns-in_err-on
unfolding written_of
returns-in_err-on g c = refused_wires _ _ _ _ c.from_residual.ensures (some_first _ c.in_err-on.ensures.emits)

pub returns-clause-emits : goal.returns-clause-emits
unfolding written_of
returns-clause-emits g c = then_in _ _ _ _ _ c.in_ok-on.ensures.emits c.update_register.ensures.emits
