use Rattle.tv_core.proofs.Common.{ℕ, ◌≤◌, List, [], ◌∷◌}
use Rattle.std.proofs.lemmas.List.Elements.{All-from_recursion}
use Rattle.tv_core.specs.declared.lines.LineLc.{LineLc}
use Rattle.tv_scan.specs.Scan.{IsMade}
use Rattle.tv_argument_tests.proofs.scans.put.Goals as goal

pub scan-requires-clause-earlier_made : goal.scan-requires-clause-earlier_made
scan-requires-clause-earlier_made g c =
    let wires : ℕ = g.S.Sink.meaning.wires c.args.s.now in
    let some : 1 ≤ wires = c.requires.constant in
    let lines : List LineLc = c.constants.result ∷ c.constants-2.result ∷ c.constants-3.result ∷ [] in
    All-from_recursion (IsMade wires) lines (c.constants.ensures wires some, (c.constants-2.ensures wires some, (c.constants-3.ensures wires some, tt)))

pub scan-requires-clause-line_made : goal.scan-requires-clause-line_made
scan-requires-clause-line_made g c = c.constants-4.ensures (g.S.Sink.meaning.wires c.args.s.now) c.requires.constant
