use Rattle.tv_core.proofs.Common.{first_given, in_given, gives_refused_whole}
use Rattle.tv_scan.proofs.scans.fill_look.Goals as goal

pub returns-in_err-fill_zero : goal.returns-in_err-fill_zero
returns-in_err-fill_zero g c = gives_refused_whole _ _ _ _ _ _ c.from_residual.ensures (first_given _ c.in_err-fill_zero.ensures.gives)

pub returns-clause-gives : goal.returns-clause-gives
returns-clause-gives g c = in_given _ _ _ c.in_ok-fill_zero.ensures.gives c.give.ensures.gives
