use Rattle.tv_core.proofs.Common.{◌+◌, ap, true}
use Rattle.tv_outline.proofs.PlaceLaws.{left_start, start_is_in}
use Rattle.tv_outline.specs.Expansion.{expansion_of}
use Rattle.tv_outline.proofs.matches.Matches.new.Goals as goal

pub invariant_of-result : goal.invariant_of-result
invariant_of-result c = (c.requires, start_is_in c.args.outline.now.regions.items c.requires.regions)

pub returns : goal.returns
unfolding expansion_of
returns c =
    let o = c.args.outline.now in
    ap (λ left. record { outline = o; wires = 1 + o.outputs + o.inputs; constraints = 0; left = left; same = true })
    (left_start o.words.items o.regions.items c.requires.regions)
