use Rattle.tv_core.proofs.Common.{first_given, in_given, gives_refused_whole}
use Rattle.tv_core.proofs.ValuesChain.{some_given}
use Rattle.tv_decode.proofs.decoder.fill_fields.Goals as goal

pub returns-in_err-fill_onehot : goal.returns-in_err-fill_onehot
returns-in_err-fill_onehot g c =
    let op = rw (c.from.ensures, c.decode-instr.ensures.fields) at c.in_err-fill_onehot.ensures.gives in
    gives_refused_whole _ _ _ _ _ _ c.from_residual.ensures (first_given _ op)

pub returns-in_err-fill_onehot-2 : goal.returns-in_err-fill_onehot-2
returns-in_err-fill_onehot-2 g c =
    let op = rw (c.from.ensures, c.decode-instr.ensures.fields) at c.in_ok-fill_onehot.ensures.gives in
    let dest = rw (c.from-2.ensures, c.decode-instr.ensures.fields) at c.in_err-fill_onehot-2.ensures.gives in
    gives_refused_whole _ _ _ _ _ _ c.from_residual-in_err-fill_onehot-2.ensures (some_given _ op (first_given _ dest))

pub returns-in_err-fill_onehot-3 : goal.returns-in_err-fill_onehot-3
returns-in_err-fill_onehot-3 g c =
    let op = rw (c.from.ensures, c.decode-instr.ensures.fields) at c.in_ok-fill_onehot.ensures.gives in
    let dest = rw (c.from-2.ensures, c.decode-instr.ensures.fields) at c.in_ok-fill_onehot-2.ensures.gives in
    let source = rw (c.from-3.ensures, c.decode-instr.ensures.fields) at c.in_err-fill_onehot-3.ensures.gives in
    gives_refused_whole _ _ _ _ _ _ c.from_residual-in_err-fill_onehot-3.ensures (some_given _ op (some_given _ dest (first_given _ source)))

pub returns-clause-gives : goal.returns-clause-gives
returns-clause-gives g c =
    let op = rw (c.from.ensures, c.decode-instr.ensures.fields) at c.in_ok-fill_onehot.ensures.gives in
    let dest = rw (c.from-2.ensures, c.decode-instr.ensures.fields) at c.in_ok-fill_onehot-2.ensures.gives in
    let source = rw (c.from-3.ensures, c.decode-instr.ensures.fields) at c.in_ok-fill_onehot-3.ensures.gives in
    let reg = rw c.decode-instr.ensures.fields at c.fill_onehot-4.ensures.gives in
    in_given _ _ _ op (in_given _ _ _ dest (in_given _ _ _ source reg))
