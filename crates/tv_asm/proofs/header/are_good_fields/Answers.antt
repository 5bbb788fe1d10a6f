use Rattle.std.proofs.Common.{rules}
use Rattle.std.proofs.lemmas.Iterator.Search.{all_from_yields_List}
use Rattle.std.proofs.lemmas.Iterator.Splits.{YieldsList-from_slice_split}
use borrow.Author.Tests.{tests}
use Rattle.tv_asm.specs.Header.{is_good_field}
use Rattle.tv_asm.specs.Text.{is_blank}
use Rattle.tv_asm.proofs.header.are_good_fields.Goals as goal

pub returns : goal.returns
returns g c =
    all_from_yields_List (is_good_field g.row.W) _ _ c.all.result c.all.ensures.ran
    (YieldsList-from_slice_split _ is_blank c.args.fields.now c.split.ensures.rest c.split.ensures.done c.split.ensures.closure
    (λ x b q k. search (rules, tests)))
    (λ x b q k. search (rules, tests))
