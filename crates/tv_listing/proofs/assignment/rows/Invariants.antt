use Rattle.tv_core.proofs.Common.{◌≡◌, map, take}
use Rattle.tv_listing.specs.Listing.{lines_at}
use Rattle.tv_listing.specs.Row.{row_line}
use Rattle.tv_layout.specs.Places.{runs_of}
use Rattle.tv_listing.proofs.assignment.rows.Given as goal

abbrev pub invariant-loop-i : goal.invariant-loop-i
invariant-loop-i g l = map row_line l.rows.items ≡ take l.i (lines_at (runs_of g.row.W l.image l.n l.t) l.values)
