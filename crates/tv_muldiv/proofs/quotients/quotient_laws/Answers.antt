use Rattle.tv_muldiv.proofs.QuotientLaws.{quotient_sound, quotient_complete, quotient_sizes}
use Rattle.tv_muldiv.proofs.quotients.quotient_laws.Goals as goal

pub returns : goal.returns
returns c = record { sound = quotient_sound; complete = quotient_complete; sizes = quotient_sizes }
