use Rattle.tv_core.proofs.Common.{first_given, in_given, gives_refused_whole}
use Rattle.tv_lines.proofs.unpacked_lines.fill_unpack.Goals as goal

pub returns-clause-gives : goal.returns-clause-gives
returns-clause-gives g c = in_given _ _ _ c.in_ok-fill_bits.ensures.gives c.fill_bits-2.ensures.gives

pub returns-in_err-fill_bits : goal.returns-in_err-fill_bits
returns-in_err-fill_bits g c = gives_refused_whole _ _ _ _ _ _ c.from_residual.ensures (first_given _ c.in_err-fill_bits.ensures.gives)
