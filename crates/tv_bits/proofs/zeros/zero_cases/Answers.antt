use Rattle.tv_core.proofs.Common.{refl, arith, some_then, some_first, refused, then_in}
use Rattle.tv_bits.proofs.Growing.{both, put_fits}
use Rattle.tv_bits.specs.Zero.{zero_cases_of}
use Rattle.tv_bits.proofs.zeros.zero_cases.Goals as goal

pub returns-in_err-put-clause-emits : goal.returns-in_err-put-clause-emits
unfolding zero_cases_of
returns-in_err-put-clause-emits g c =
    let first = rw c.set_wire.ensures.terms at c.in_err-put.ensures.emits in
    refused _ _ _ c.from_residual.ensures.1 (some_then _ c.fresh-hint.ensures.emits (some_first _ first))

pub returns-clause-emits : goal.returns-clause-emits
unfolding zero_cases_of
returns-clause-emits g c =
    let other = rw c.clear.ensures at c.plus_terms.ensures.terms in
    let first = rw c.set_wire.ensures.terms at c.in_ok-put.ensures.emits in
    let second = rw (other, c.clear-2.ensures) at c.put-2.ensures.emits in
    then_in _ _ _ _ _ c.fresh-hint.ensures.emits (then_in _ _ _ _ _ first second)

pub put-requires : goal.put-requires
put-requires g c =
    let made = c.fresh-hint.ensures.emits.grows in
    record {
      whole = made.whole;
      room = put_fits made c.requires.room refl;
      a_made = omega (arith, c.requires.made, made.wires);
      b_made = omega (arith, c.set_wire.ensures.top, c.fresh-hint.ensures.next, made.wires);
      c_made = omega (arith, c.requires.made, made.wires);
    }

pub put-requires-2 : goal.put-requires-2
put-requires-2 g c =
    let made = both c.fresh-hint.ensures.emits.grows c.in_ok-put.ensures.emits.grows in
    record {
      whole = made.whole;
      room = put_fits made c.requires.room refl;
      a_made = omega (arith, c.requires.made, made.wires);
      b_made = let other = rw c.clear.ensures at c.plus_terms.ensures.top in omega (arith, other, c.requires.made, made.wires);
      c_made = rw c.clear-2.ensures (omega arith);
    }
