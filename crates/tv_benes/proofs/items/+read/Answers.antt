use Rattle.tv_core.proofs.Common.{◌^◌, arith}
use Rattle.tv_benes.proofs.Bounds.{nearer}
use Rattle.tv_benes.specs.Items.{depth_of}
use Rattle.tv_benes.proofs.items.+read.Goals as goal

pub read-requires : goal.read-requires
read-requires t c =
    let near = rw c.in-Half.is at c.requires in
    let depth = rw c.in-Half.is at c.decreases in
    (omega (arith, depth), nearer c.args.j c.flag.result (depth_of c.in-Half.outer.now) (2 ^ 62) c.flag.ensures.small near)
