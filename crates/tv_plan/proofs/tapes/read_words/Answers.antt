use Rattle.tv_core.proofs.Common.{◌^◌, sym}
use Rattle.tv_tape.proofs.Narrow.{numbers_below, numbers_few, residues_same}
use Rattle.tv_plan.proofs.LookLaws.{finds_passed, finds_view, finds_without_memory}
use Rattle.tv_plan.proofs.tapes.read_words.Goals as goal

pub returns-in_err-numbers-clause-found : goal.returns-in_err-numbers-clause-found
returns-in_err-numbers-clause-found g c = finds_passed _ c.from_residual.ensures.1 c.in_err-numbers.ensures.found

pub returns-in_err-words_from-clause-found : goal.returns-in_err-words_from-clause-found
returns-in_err-words_from-clause-found g c = finds_without_memory _ c.from_residual-in_err-words_from.ensures.1 c.in_ok-numbers.ensures.found

pub returns : goal.returns
returns g c =
    let known = c.in_ok-numbers.ensures.known in
    let same = residues_same known.0 c.in_ok-numbers.numbers.items c.args.below c.args.most (2 ^ 32) c.requires known.1 in
    let words = rw (same) at (rw c.deref.ensures.value at c.in_ok-words_from.ensures) in
    record {
      found = finds_view (sym words) c.in_ok-numbers.ensures.found;
      below = rw words (numbers_below known.0 c.in_ok-numbers.numbers.items c.args.below c.args.most known.1);
      few = rw words (numbers_few known.0 c.in_ok-numbers.numbers.items c.args.below c.args.most known.1);
    }
