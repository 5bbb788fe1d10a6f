use Rattle.tv_core.proofs.Common.{[], refl, rules}
use Rattle.std.proofs.lemmas.List.Elements.{All-nil}
use Rattle.tv_r1cs_read.proofs.rows.TermsTaker.take.Goals as goal

pub returns-clause-took : goal.returns-clause-took
returns-clause-took c = λ before is. record { terms = []; count = refl; below = All-nil _; there = λ file piece. tt; so = search rules }
