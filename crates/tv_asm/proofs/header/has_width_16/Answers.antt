use Rattle.std.proofs.Common.{rules}
use Rattle.std.proofs.lemmas.Iterator.Search.{any_from_yields_List}
use Rattle.std.proofs.lemmas.Iterator.Splits.{YieldsList-from_slice_split}
use Rattle.std.specs.Str.{bytes_eq}
use borrow.Author.Tests.{tests}
use Rattle.tv_asm.specs.Header.{width_field}
use Rattle.tv_asm.specs.Text.{is_blank}
use Rattle.tv_asm.proofs.header.has_width_16.Goals as goal

pub returns : goal.returns
returns c =
    any_from_yields_List (bytes_eq (width_field 16)) _ _ c.any.result c.any.ensures.ran
    (YieldsList-from_slice_split _ is_blank c.args.fields.now c.split.ensures.rest c.split.ensures.done c.split.ensures.closure
    (λ x b q k. search (rules, tests)))
    (λ x b q k. search (rules, tests))
