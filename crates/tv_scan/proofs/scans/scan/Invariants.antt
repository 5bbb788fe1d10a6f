use Rattle.tv_core.proofs.Common.{◌*◌, ◌≤◌, [], length, turns, top, EmitsAll}
use Rattle.tv_scan.specs.Scan.{turn_of}
use Rattle.tv_scan.proofs.scans.scan.Given as goal

abbrev pub invariant-loop-before : goal.invariant-loop-before
invariant-loop-before g l = record {
  emits : EmitsAll g.S.Sink.meaning l.initial.s l.s (turns l.before-index (turn_of l.earlier l.line) []) (3 * l.before-index) (3 * l.before-index) l.word;
  made : top l.word ≤ g.S.Sink.meaning.wires l.s;
  short : length l.word ≤ 64;
}
