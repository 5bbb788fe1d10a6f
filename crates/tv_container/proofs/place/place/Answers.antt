use Rattle.tv_core.proofs.Common.{◌++◌, ◌+◌, ◌-◌, length, take, sym, ap, ◌∙◌, arith}
use Rattle.std.proofs.lemmas.Slice.{take-put_mid}
use Rattle.tv_container.proofs.place.place.Goals as goal

pub returns : goal.returns
returns c =
    take-put_mid c.args.at (c.args.at + length c.args.more.now - c.args.at) c.args.bytes.now c.copy_from_slice.new.self
    (c.args.at + length c.args.more.now) (ap (λ xs. c.args.at + length xs) (sym c.copy_from_slice.ensures.after)) (omega arith)
    ∙ ap (λ back. take c.args.at c.args.bytes.now ++ back) c.copy_from_slice.ensures.after
