use Rattle.std.proofs.Common.{arith, sym, ◌^◌, ◌∙◌, ◌<◌, ap, length, Some}
use Rattle.std.proofs.lemmas.Bool.Decides.{nat_tests}
use Rattle.tv_word.proofs.NumeralLemmas.{is_numeral_more, numeral_all, numeral_past, positional_more}
use Rattle.tv_word.proofs.numeral.numeral_of.Goals as goal

pub returns-in_err-checked_mul : goal.returns-in_err-checked_mul
returns-in_err-checked_mul c = grind (arith, numeral_past)

pub returns-in_err-number : goal.returns-in_err-number
returns-in_err-number c = grind (arith, numeral_past)

pub loop-byte-preserved : goal.loop-byte-preserved
loop-byte-preserved c =
    let digit = rw c.from.ensures at c.in_ok-digit.ensures.value.0 in (
      is_numeral_more c.args.base c.args.text.now c.loop-byte.byte-index (omega arith) digit c.loop-byte.invariant.0,
      grind (arith, positional_more),
      omega arith,
    )

pub returns-else-is_empty : goal.returns-else-is_empty
returns-else-is_empty c =
    let some : 0 < length c.args.text.now = grind (arith, nat_tests) in
    ap Some c.loop-byte.invariant.1 ∙ sym (numeral_all c.args.base (2 ^ 64) c.args.text.now c.loop-byte.byte-index some (omega arith) c.loop-byte.invariant.0
    (omega arith))
