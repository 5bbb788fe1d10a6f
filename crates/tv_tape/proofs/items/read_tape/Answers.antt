use Rattle.std.proofs.Common.{◌≡◌, List, ℕ, ◌<◌, length, ltb, get_or, inl, inr, refl, sym, rules, tests, of_calls, arith}
use Rattle.std.proofs.lemmas.List.{length_push}
use Rattle.std.proofs.lemmas.Option.{slice_get-get_or}
use Rattle.std.proofs.lemmas.Result.{err_from_is_err_and}
use Rattle.std.proofs.lemmas.Iterator.Splits.{YieldsList-from_slice_split}
use Rattle.std.proofs.lemmas.Iterator.Consumers.{YieldsList-at, YieldsList-from_filter, YieldsList-turn, YieldsList-end}
use Rattle.tv_tape.specs.Tape.{is_separator, items_of, tape_of, KeepsNumber}
use Rattle.tv_tape.proofs.Numbers.{reads_none, goes_on, stops, too_many, is_done}
use Rattle.tv_tape.proofs.items.read_tape.Goals as goal

pub loop-item-init : goal.loop-item-init
unfolding tape_of
loop-item-init c = record {
  can_next = search of_calls;
  is_finite = search of_calls;
  items =
      YieldsList-at c.into_iter-item-iterator.ensures.into_iter_gives (YieldsList-from_filter _ (λ (item : List ℕ). ltb 0 (length item))
      (YieldsList-at c.filter-items.ensures.source
      (YieldsList-from_slice_split _ is_separator c.args.text.now c.split.ensures.rest c.split.ensures.done c.split.ensures.closure
      (λ x b q k. search rules)))
      c.filter-items.ensures.closure (λ x b q k. search (rules, tests)));
  same = search rules;
  rest = rw c.new-numbers.ensures.items (reads_none _);
}

pub returns-then-at-from-clause-fault : goal.returns-then-at-from-clause-fault
returns-then-at-from-clause-fault c =
    let at = YieldsList-turn c.loop-item.invariant.items c.loop-item.yielded _ c.loop-item.yielded_by _ _ c.in-Some.item c.in-Some.is c.next.ensures.steps in
    inl (too_many c.loop-item.numbers.items c.args.below c.args.most (length c.loop-item.yielded) (items_of c.args.text.now) c.in-Some.item.now _ at.0
    (omega (arith, c.loop-item.invariant.same)) c.loop-item.invariant.rest)

pub returns-in_err-number-clause-fault : goal.returns-in_err-number-clause-fault
returns-in_err-number-clause-fault c =
    let at = YieldsList-turn c.loop-item.invariant.items c.loop-item.yielded _ c.loop-item.yielded_by _ _ c.in-Some.item c.in-Some.is c.next.ensures.steps in
    let place : c.len-at.result ≡ length c.loop-item.yielded = omega (arith, c.loop-item.invariant.same) in
    let few : length c.loop-item.yielded < c.args.most = omega (arith, c.loop-item.invariant.same) in
    let p = err_from_is_err_and c.from_residual.result c.from_residual.ensures.1 in
    rw (p.1, p.2) (inl (stops c.loop-item.numbers.items c.args.below c.args.most (length c.loop-item.yielded)
    (items_of c.args.text.now) c.in-Some.item.now _ _ at.0 few
    (rw (← at.1, ← place) (sym c.in_err-number.ensures)) c.loop-item.invariant.rest))

pub returns-in_err-push-clause-fault : goal.returns-in_err-push-clause-fault
returns-in_err-push-clause-fault c =
    let at = YieldsList-turn c.loop-item.invariant.items c.loop-item.yielded _ c.loop-item.yielded_by _ _ c.in-Some.item c.in-Some.is c.next.ensures.steps in
    let place : c.len-at.result ≡ length c.loop-item.yielded = omega (arith, c.loop-item.invariant.same) in
    let few : length c.loop-item.yielded < c.args.most = omega (arith, c.loop-item.invariant.same) in
    let p = err_from_is_err_and c.from_residual-in_err-push.result c.from_residual-in_err-push.ensures.1 in
    let keeps : KeepsNumber c.args.text.now c.args.below c.args.most = record {
      at = length c.loop-item.yielded;
      item = get_or (items_of c.args.text.now) (length c.loop-item.yielded) c.in-Some.item.now;
      number = c.in_ok-number.number;
      few = few;
      there = slice_get-get_or _ _ _ at.0;
      is = rw (← at.1, ← place) (sym c.in_ok-number.ensures);
    } in
    rw (p.1, p.2) (inr (refl, keeps))

pub loop-item-preserved : goal.loop-item-preserved
loop-item-preserved c =
    let at = YieldsList-turn c.loop-item.invariant.items c.loop-item.yielded _ c.loop-item.yielded_by _ _ c.in-Some.item c.in-Some.is c.next.ensures.steps in
    let place : c.len-at.result ≡ length c.loop-item.yielded = omega (arith, c.loop-item.invariant.same) in
    let few : length c.loop-item.yielded < c.args.most = omega (arith, c.loop-item.invariant.same) in
    record {
      can_next = search of_calls;
      is_finite = search of_calls;
      items = c.loop-item.invariant.items;
      same = search (arith, length_push, c.in_ok-push.ensures.items);
      rest = rw (c.in_ok-push.ensures.items, length_push)
          (goes_on c.loop-item.numbers.items c.args.below c.args.most (length c.loop-item.yielded) c.in_ok-number.number
          (items_of c.args.text.now) c.in-Some.item.now _ at.0 few
          (rw (← at.1, ← place) (sym c.in_ok-number.ensures)) c.loop-item.invariant.rest);
    }

pub returns-clause-numbers : goal.returns-clause-numbers
returns-clause-numbers c =
    let ended = YieldsList-end c.loop-item.invariant.items c.loop-item.yielded _ c.loop-item.yielded_by _ _ c.in-None.is c.next.ensures.steps in
    is_done c.loop-item.numbers.items c.args.below c.args.most (length c.loop-item.yielded) (items_of c.args.text.now) _
    (omega (arith, ended.1)) c.loop-item.invariant.rest
