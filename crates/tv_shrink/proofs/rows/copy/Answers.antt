use Rattle.tv_shrink.specs.Spans.{row_at}
use Rattle.tv_shrink.proofs.LayLaws.{none_added, rows_added}
use Rattle.tv_shrink.proofs.rows.copy.Goals as goal

pub returns : goal.returns
returns c =
    let added = rows_added c.args.terms.now.items _ c.args.spans.now.items _ (row_at c.args.from.now c.in-Some.span) _
    c.requires.laid c.in_ok-made.ensures.out c.in_ok-made.ensures.made c.in_ok-push-2.ensures.items in
    record { laid = added.0; rows = rw c.in-Some.is added.1 }

pub returns-in_default : goal.returns-in_default
returns-in_default c =
    let added = none_added c.args.terms.now.items c.args.spans.now.items _ c.requires.laid c.in_ok-push.ensures.items in
    record { laid = added.0; rows = rw c.in_default.is added.1 }
