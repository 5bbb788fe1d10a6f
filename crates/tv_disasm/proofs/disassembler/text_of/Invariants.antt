use Rattle.std.proofs.Common.{◌≡◌, ◌++◌, take}
use Rattle.std.specs.List.{flat_map}
use Rattle.tv_disasm.specs.Disassembly.{header_of, text_line_of}
use Rattle.tv_disasm.proofs.disassembler.text_of.Given as goal

abbrev pub invariant-loop-pair : goal.invariant-loop-pair
invariant-loop-pair g l = l.text.items ≡ header_of g.row.W ++ flat_map (text_line_of g.row.W) (take l.pair-index l.pairs)
