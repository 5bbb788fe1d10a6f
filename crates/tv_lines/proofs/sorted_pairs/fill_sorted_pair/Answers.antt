use Rattle.tv_core.proofs.Common.{first_given, in_given, gives_refused_whole}
use Rattle.tv_core.proofs.ValuesChain.{some_given}
use Rattle.tv_lines.proofs.sorted_pairs.fill_sorted_pair.Goals as goal

pub returns-in_err-give : goal.returns-in_err-give
returns-in_err-give g c =
    let apart = rw c.sub-apart.ensures at c.in_err-give.ensures.gives in
    gives_refused_whole _ _ _ _ _ _ c.from_residual.ensures (first_given _ apart)

pub returns-in_err-fill_zero : goal.returns-in_err-fill_zero
returns-in_err-fill_zero g c =
    let apart = rw c.sub-apart.ensures at c.in_ok-give.ensures.gives in
    let flags = rw c.sub-apart.ensures at c.in_err-fill_zero.ensures.gives in
    gives_refused_whole _ _ _ _ _ _ c.from_residual-in_err-fill_zero.ensures (some_given _ apart (first_given _ flags))

pub returns-in_err-fill_size : goal.returns-in_err-fill_size
returns-in_err-fill_size g c =
    let apart = rw c.sub-apart.ensures at c.in_ok-give.ensures.gives in
    let flags = rw c.sub-apart.ensures at c.in_ok-fill_zero.ensures.gives in
    let size = rw c.size-size.ensures at c.in_err-fill_size.ensures.gives in
    gives_refused_whole _ _ _ _ _ _ c.from_residual-in_err-fill_size.ensures (some_given _ apart (some_given _ flags (first_given _ size)))

pub returns-clause-gives : goal.returns-clause-gives
returns-clause-gives g c =
    let apart = rw c.sub-apart.ensures at c.in_ok-give.ensures.gives in
    let flags = rw c.sub-apart.ensures at c.in_ok-fill_zero.ensures.gives in
    let size = rw c.size-size.ensures at c.in_ok-fill_size.ensures.gives in
    in_given _ _ _ apart (in_given _ _ _ flags (in_given _ _ _ size c.fill_rises.ensures.gives))
