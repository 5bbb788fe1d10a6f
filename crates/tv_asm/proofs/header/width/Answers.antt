use Rattle.std.proofs.Common.{refl}
use Rattle.tv_asm.specs.Header.{is_header_of_16, width_of}
use Rattle.tv_asm.proofs.header.width.Goals as goal

pub returns-in_default-clause-width : goal.returns-in_default-clause-width
unfolding width_of is_header_of_16
returns-in_default-clause-width c = rw c.in_default.ensures refl
