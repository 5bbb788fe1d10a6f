use Rattle.std.proofs.Common.{ap, sym, ◌∙◌, rules}
use Rattle.std.proofs.lemmas.Iterator.{YieldsList-from_slice}
use Rattle.std.proofs.lemmas.Iterator.Search.{find_from_yields_List}
use Rattle.std.specs.List.{find}
use Rattle.std.specs.Option.{option_map}
use Rattle.std.specs.Str.{bytes_eq}
use borrow.Author.Tests.{tests}
use Rattle.tv_isa.specs.Table.{row_of, with_name}
use Rattle.tv_isa.proofs.TableLemmas.{find-map, with_name-used}
use Rattle.tv_isa.proofs.lookup.operation_named.Goals as goal

pub returns-clause-row : goal.returns-clause-row
unfolding with_name
returns-clause-row c =
    let table = c.operations.result.now in
    let found = find_from_yields_List (λ o. bytes_eq o.name.now c.args.name.now) _ _ c.find.result c.find.ensures.ran (YieldsList-from_slice table cc)
    (λ x b q k. search (rules, tests)) in
    ap (option_map row_of) (c.copied.ensures ∙ found) ∙ sym (find-map row_of (λ r. bytes_eq r.name c.args.name.now) table)
    ∙ ap (find (λ r. bytes_eq r.name c.args.name.now)) c.operations.ensures

pub returns-clause-used : goal.returns-clause-used
returns-clause-used c = with_name-used c.args.name.now c.copied.result (returns-clause-row c)
