use Rattle.std.proofs.Common.{ap, sym, ◌∙◌, ◌==◌, rules}
use Rattle.std.proofs.lemmas.Iterator.{YieldsList-from_slice}
use Rattle.std.proofs.lemmas.Iterator.Search.{find_from_yields_List}
use Rattle.std.specs.List.{find}
use Rattle.std.specs.Option.{option_map}
use borrow.Author.Tests.{tests}
use Rattle.tv_isa.specs.Table.{row_of, with_opcode}
use Rattle.tv_isa.proofs.TableLemmas.{find-map}
use Rattle.tv_isa.proofs.lookup.operation_of.Goals as goal

pub returns : goal.returns
unfolding with_opcode
returns c =
    let table = c.operations.result.now in
    let found = find_from_yields_List (λ o. o.op == c.args.op) _ _ c.find.result c.find.ensures.ran (YieldsList-from_slice table cc)
    (λ x b q k. search (rules, tests)) in
    ap (option_map row_of) (c.copied.ensures ∙ found) ∙ sym (find-map row_of (λ r. r.op == c.args.op) table)
    ∙ ap (find (λ r. r.op == c.args.op)) c.operations.ensures
