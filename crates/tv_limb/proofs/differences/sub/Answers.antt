use Rattle.tv_core.proofs.Common.{refused, all_then, some_then, some_first, all_last, refl, emits_as, arith}
use Rattle.tv_limb.specs.Difference.{sub_of}
use Rattle.tv_limb.proofs.differences.sub.Goals as goal

pub returns-in_err-new_bits_by-clause-emits : goal.returns-in_err-new_bits_by-clause-emits
unfolding sub_of
returns-in_err-new_bits_by-clause-emits g c =
    refused _ _ _ c.from_residual.ensures.1 (some_first _ c.in_err-new_bits_by.ensures.emits)

pub returns-in_err-put-clause-emits : goal.returns-in_err-put-clause-emits
unfolding sub_of
returns-in_err-put-clause-emits g c =
    let last = rw (
      c.set_less_borrow.ensures.terms,
      c.split_at_word-parts.ensures,
      c.difference_of_words.ensures.terms,
      c.set_wire.ensures.terms,
    ) at c.in_err-put.ensures.emits in
    refused _ _ _ c.from_residual-in_err-put.ensures.1 (some_then _ c.in_ok-new_bits_by.ensures.emits (some_first _ last))

pub returns-clause-emits : goal.returns-clause-emits
unfolding sub_of
returns-clause-emits g c =
    let last = rw (
      c.set_less_borrow.ensures.terms,
      c.split_at_word-parts.ensures,
      c.difference_of_words.ensures.terms,
      c.set_wire.ensures.terms,
    ) at c.in_ok-put.ensures.emits in
    rw c.split_at_word-parts.ensures (emits_as (omega arith) (omega arith) (all_then _ c.in_ok-new_bits_by.ensures.emits (all_last _ last refl)))
