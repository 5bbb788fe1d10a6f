use Rattle.tv_core.proofs.Common.{refused, some_first, all_last, refl}
use Rattle.tv_limb.specs.Split.{split_of}
use Rattle.tv_limb.proofs.splits.split.Goals as goal

pub returns-in_err-made-clause-emits : goal.returns-in_err-made-clause-emits
unfolding split_of
returns-in_err-made-clause-emits g c =
    refused _ _ _ c.from_residual.ensures.1 (some_first _ c.in_err-made.ensures.emits)

pub returns-clause-emits : goal.returns-clause-emits
unfolding split_of
returns-clause-emits g c = rw c.split_at_word.ensures (all_last _ c.in_ok-made.ensures.emits refl)
