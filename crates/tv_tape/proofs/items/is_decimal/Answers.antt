use Rattle.std.proofs.Common.{◌≡◌, true, ltb, length, rules, arith}
use Rattle.std.specs.Char.{is_digit}
use Rattle.std.proofs.lemmas.Bool.Decides.{nat_tests}
use Rattle.std.proofs.lemmas.Iterator.{YieldsList-from_slice}
use Rattle.std.proofs.lemmas.Iterator.Search.{all_from_yields_List}
use borrow.Author.Tests.{tests}
use Rattle.tv_tape.proofs.items.is_decimal.Goals as goal

pub returns-then-not-is_empty : goal.returns-then-not-is_empty
returns-then-not-is_empty c =
    let all = all_from_yields_List (λ byte. is_digit byte 10) _ _ c.all.result c.all.ensures.ran
    (YieldsList-from_slice c.args.item.now c.iter.ensures.rest) (λ x b q k. search (rules, tests)) in
    let some : ltb 0 (length c.args.item.now) ≡ true = grind (arith, nat_tests) in
    rw some all
