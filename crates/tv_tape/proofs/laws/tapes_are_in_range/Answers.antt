use Rattle.tv_tape.proofs.Range.{all_below, at_most}
use Rattle.tv_tape.proofs.laws.tapes_are_in_range.Goals as goal

pub returns : goal.returns
returns c = record { below = all_below; most = at_most }
