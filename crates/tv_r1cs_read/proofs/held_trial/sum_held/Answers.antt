use Rattle.tv_core.proofs.Common.{◌≡◌, ◌≤◌, arith}
use Rattle.tv_r1cs_read.proofs.HeldLemmas.{held_part, held_rest}
use Rattle.tv_r1cs_read.proofs.Sums.{held}
use Rattle.tv_r1cs_read.proofs.held_trial.sum_held.Goals as goal

pub has-requires : goal.has-requires
has-requires g c = c.requires.held.before

pub returns-then-not-has : goal.returns-then-not-has
returns-then-not-has g c = record { held = tt; ends = tt; after = tt; small = tt; gives = λ file piece. tt }

pub word-terms-requires : goal.word-terms-requires
word-terms-requires g c =
    let room = c.has.ensures.0 c.if-not-has.false in
    held_part _ _ c.args.held _ _ c.requires.held (omega arith) (omega (arith, room)) (omega (arith, room))

pub add_term-requires-clause-held : goal.add_term-requires-clause-held
add_term-requires-clause-held g c =
    let room = c.has.ensures.0 c.if-not-has.false in
    held_part _ _ c.args.held _ _ c.requires.held (omega arith) (omega (arith, room)) (omega (arith, room))

pub add_term-requires-clause-within : goal.add_term-requires-clause-within
add_term-requires-clause-within g c = omega (arith, c.has.ensures.0 c.if-not-has.false, c.requires.held.within)

pub returns-then-not-add_term : goal.returns-then-not-add_term
returns-then-not-add_term g c = record { held = tt; ends = tt; after = tt; small = tt; gives = λ file piece. tt }

pub remainder-requires : goal.remainder-requires
remainder-requires g c = omega (arith, c.has.ensures.0 c.if-not-has.false)

pub returns-then-terms-eq1 : goal.returns-then-terms-eq1
returns-then-terms-eq1 g c =
    let room = c.has.ensures.0 c.if-not-has.false in
    let from = c.remainder.ensures.from in
    let one : c.word-terms.result ≡ 1 = c.if-terms-eq1.true in
    record {
      held = held_rest _ _ c.args.held _ c.requires.held (omega (arith, from)) (omega (arith, from, room)) c.remainder.ensures.to;
      ends = c.remainder.ensures.to;
      after = omega (arith, from);
      small = omega (arith, c.add_term.ensures.small, c.requires.small);
      gives = λ file piece.
          rw from
          (held _ c.args.bounds.now c.args.values.now file _ 1 _ _ piece (omega (arith, room, c.requires.held.within))
          (rw one at (c.word-terms.ensures file piece)) (omega arith) (rw c.if-not-add_term.false at c.add_term.ensures.adds));
    }

pub has-requires-2 : goal.has-requires-2
has-requires-2 g c = c.requires.held.before

pub returns-then-not-has-2 : goal.returns-then-not-has-2
returns-then-not-has-2 g c = record { held = tt; ends = tt; after = tt; small = tt; gives = λ file piece. tt }

pub remainder-remainder-requires : goal.remainder-remainder-requires
remainder-remainder-requires g c = omega (arith, c.has-2.ensures.0 c.if-not-has-2.false, c.from.ensures)

pub has_two-requires : goal.has_two-requires
has_two-requires g c =
    let room = c.has-2.ensures.0 c.if-not-has-2.false in
    let from = c.remainder-remainder.ensures.from in
    let rest = held_rest _ _ c.args.held c.remainder-remainder.result c.requires.held (omega (arith, from)) (omega (arith, from, room, c.from.ensures))
    c.remainder-remainder.ensures.to in
    record { before = rest.before; short = rest.short; holds = rest.holds }

pub returns-then-not-has_two : goal.returns-then-not-has_two
returns-then-not-has_two g c = record { held = tt; ends = tt; after = tt; small = tt; gives = λ file piece. tt }

pub add_terms-requires-clause-held : goal.add_terms-requires-clause-held
add_terms-requires-clause-held g c =
    let room = c.has-2.ensures.0 c.if-not-has-2.false in
    held_part _ _ c.args.held _ _ c.requires.held (omega arith) (omega (arith, room, c.from.ensures)) (omega (arith, room))

pub add_terms-requires-clause-within : goal.add_terms-requires-clause-within
add_terms-requires-clause-within g c = omega (arith, c.has-2.ensures.0 c.if-not-has-2.false, c.from.ensures, c.requires.held.within)

pub add_terms-requires-clause-small : goal.add_terms-requires-clause-small
add_terms-requires-clause-small g c =
    omega (arith, c.has-2.ensures.0 c.if-not-has-2.false, c.from.ensures, c.requires.held.short, c.requires.small)

pub returns-then-add_terms-terms : goal.returns-then-add_terms-terms
returns-then-add_terms-terms g c = record { held = tt; ends = tt; after = tt; small = tt; gives = λ file piece. tt }

pub returns : goal.returns
returns g c =
    let all : c.add_terms.result ≡ c.word-terms.result = omega (arith, c.if-add_terms-terms.false, c.add_terms.ensures.most) in
    let room = c.has-2.ensures.0 c.if-not-has-2.false in
    let from = c.remainder-remainder.ensures.from in
    let narrow : c.word-terms.result ≤ 5462 = omega (arith, room, c.from.ensures, c.requires.held.short) in
    record {
      held = held_rest _ _ c.args.held _ c.requires.held (omega (arith, from)) (omega (arith, from, room, c.from.ensures)) c.remainder-remainder.ensures.to;
      ends = c.remainder-remainder.ensures.to;
      after = omega (arith, from);
      small = omega (arith, c.add_terms.ensures.small, all, narrow, c.requires.small);
      gives = λ file piece.
          rw from
          (held _ c.args.bounds.now c.args.values.now file _ _ _ _ piece (omega (arith, room, c.from.ensures, c.requires.held.within))
          (c.word-terms.ensures file piece) (omega (arith, narrow)) (rw all at c.add_terms.ensures.adds));
    }
