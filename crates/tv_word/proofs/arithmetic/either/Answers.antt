use Rattle.std.proofs.lemmas.Nat.{or_lt}
use Rattle.tv_word.proofs.arithmetic.either.Goals as goal

pub returns-clause-small : goal.returns-clause-small
returns-clause-small g c = or_lt g.row.W c.args.s c.args.a c.requires.s_word c.requires.a_word
