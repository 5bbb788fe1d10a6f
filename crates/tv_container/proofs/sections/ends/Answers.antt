use Rattle.tv_core.proofs.Common.{arith, ap, refl, Ok}
use Rattle.tv_container.proofs.Pieces.{read_gives, ends_if_none}
use Rattle.tv_container.proofs.sections.ends.Goals as goal

pub returns-clause-gives : goal.returns-clause-gives
returns-clause-gives g c = λ file known.
    let gives = read_gives _ _ _ _ file _ _ _ c.in_ok-read.ensures refl known in
    ap Ok (ends_if_none _ _ _ _ gives (omega (arith, c.read.auto.into)))
