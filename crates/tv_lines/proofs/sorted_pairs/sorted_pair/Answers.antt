use Rattle.tv_core.proofs.Common.{some_then, some_first, then_in, refused_whole}
use Rattle.tv_lines.specs.SortedPair.{sorted_pair_of}
use Rattle.tv_lines.proofs.sorted_pairs.sorted_pair.Goals as goal

pub returns-in_err-apart : goal.returns-in_err-apart
unfolding sorted_pair_of
returns-in_err-apart g c =
    refused_whole _ _ _ c.from_residual.ensures (some_first _ c.in_err-apart.ensures.emits)

pub returns-in_err-carried : goal.returns-in_err-carried
unfolding sorted_pair_of
returns-in_err-carried g c =
    refused_whole _ _ _ c.from_residual-in_err-carried.ensures (some_then _ c.in_ok-apart.ensures.emits (some_first _ c.in_err-carried.ensures.emits))

pub returns-in_err-size : goal.returns-in_err-size
unfolding sorted_pair_of
returns-in_err-size g c =
    refused_whole _ _ _ c.from_residual-in_err-size.ensures (some_then _ c.in_ok-apart.ensures.emits (some_then _ c.in_ok-carried.ensures.emits
    (some_first _ c.in_err-size.ensures.emits)))

pub returns : goal.returns
unfolding sorted_pair_of
returns g c = record {
  emits = then_in _ _ _ _ _ c.in_ok-apart.ensures.emits
      (then_in _ _ _ _ _ c.in_ok-carried.ensures.emits (then_in _ _ _ _ _ c.in_ok-size.ensures.emits c.rises.ensures.emits));
}
