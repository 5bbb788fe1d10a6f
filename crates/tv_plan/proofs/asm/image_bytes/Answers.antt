use Rattle.tv_core.proofs.Common.{ℕ, List, ◌++◌, take, ap₂, ◌∙◌, sym}
use Rattle.tv_container.proofs.Buffers.{each_more}
use Rattle.tv_word.specs.Word.{word_bytes}
use Rattle.tv_plan.proofs.Common.{bits}
use Rattle.tv_plan.proofs.WordBytes.{word_bytes_narrow}
use Rattle.tv_plan.proofs.asm.image_bytes.Goals as goal

pub loop-word-preserved : goal.loop-word-preserved
loop-word-preserved c =
    c.in_ok-extend_from_slice.ensures.items
    ∙ ap₂ (λ (l m : List ℕ). l ++ m) c.loop-word.invariant (ap₂ (λ (n : ℕ) (l : List ℕ). take n l) c.word_size-size.ensures.size c.word_bytes.ensures.bytes)
    ∙ sym (each_more (word_bytes (bits c.args.program.now.width)) c.as_slice-words.result.now c.loop-word.word-index 0 _ c.loop-word-test.true
    (word_bytes_narrow c.args.program.now.width _))
