use Rattle.std.proofs.Common.{rules}
use Rattle.tv_disasm.proofs.NumberLemmas.{drop_hexadecimal}
use Rattle.tv_disasm.proofs.line.push_hexadecimal.Goals as goal

pub returns : goal.returns
returns g c =
    rw (← drop_hexadecimal g.row.W c.requires c.args.word, ← c.hexadecimal-digits.ensures, ← c.lowest.ensures) (search rules)
