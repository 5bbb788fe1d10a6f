use Rattle.tv_core.proofs.Common.{◌≡◌, map, take}
use Rattle.tv_listing.specs.Listing.{text_of}
use Rattle.tv_listing.specs.Row.{row_line}
use Rattle.tv_listing.proofs.text.text_of.Given as goal

abbrev pub invariant-loop-row : goal.invariant-loop-row
invariant-loop-row l = l.text.items ≡ text_of (map row_line (take l.row-index l.rows))
