use Rattle.tv_core.proofs.Common.{◌≡◌, take}
use Rattle.std.specs.List.{flat_map}
use Rattle.tv_word.specs.Word.{word_bytes}
use Rattle.tv_plan.specs.Programs.{bits}
use Rattle.tv_plan.proofs.asm.image_bytes.Given as goal

abbrev pub invariant-loop-word : goal.invariant-loop-word
invariant-loop-word l = l.bytes.items ≡ flat_map (word_bytes (bits l.program.width)) (take l.word-index l.words)
