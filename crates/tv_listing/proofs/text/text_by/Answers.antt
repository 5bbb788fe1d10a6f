use Rattle.tv_core.proofs.Common.{◌≡◌, map, ap, ◌∙◌, subst, refl}
use Rattle.std.proofs.Common.{IfOk}
use Rattle.tv_listing.specs.Listing.{text_of, ordered}
use Rattle.tv_listing.specs.Row.{row_line}
use Rattle.tv_listing.proofs.text.text_by.Goals as goal
use Rattle.tv_listing.proofs.text.text_by.Goals.{in-Time, in-Cell}

pub returns : goal.returns
returns c =
    let is : map row_line c.match-by.rows.items ≡ ordered c.args.by (map row_line c.args.rows.items) = elim c.match-by.branch [
      | in-Time w ↦ rw (w.rows-is, w.in-Time.is) refl
      | in-Cell w ↦ rw (w.rows-is, w.in-Cell.is) w.sort.ensures
    ] in
    subst (λ lines. IfOk c.text_of.result (λ text. text.items ≡ text_of lines)) (ap (map row_line) c.deref.ensures.value ∙ is) c.text_of.ensures
