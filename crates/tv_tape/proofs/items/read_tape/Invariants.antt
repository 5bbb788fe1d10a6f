use Rattle.std.proofs.Common.{◌≡◌, length, drop}
use Rattle.std.proofs.lemmas.Iterator.{YieldsList}
use Rattle.tv_tape.specs.Tape.{items_of, numbers_of, tape_of}
use Rattle.tv_tape.proofs.Numbers.{with_front}
use Rattle.tv_tape.proofs.items.read_tape.Given as goal

abbrev pub invariant-loop-item : goal.invariant-loop-item
invariant-loop-item l = record {
  can_next : (goal.iterator-loop-item).can_next l.item-iterator;
  is_finite : (goal.iterator-loop-item).is_finite l.item-iterator;
  items : YieldsList (goal.iterator-loop-item).next_gives (λ item. item.now) l.initial.item-iterator (items_of l.text);
  same : length l.numbers.items ≡ length l.yielded;
  rest : with_front l.numbers.items (numbers_of l.below l.most (length l.yielded) (drop (length l.yielded) (items_of l.text))) ≡ tape_of l.text l.below l.most;
}
