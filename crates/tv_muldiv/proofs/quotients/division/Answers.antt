use Rattle.tv_core.proofs.Common.{arith, some_first, refused_whole, then_in}
use Rattle.tv_muldiv.specs.Quotient.{division_of}
use Rattle.tv_muldiv.proofs.quotients.division.Goals as goal

pub returns-in_err-gate : goal.returns-in_err-gate
unfolding division_of
returns-in_err-gate g c =
    refused_whole _ _ _ c.from_residual.ensures (some_first _ c.in_err-gate.ensures.emits)

pub returns : goal.returns
unfolding division_of
returns g c =
    let whole = rw (
      c.plus.ensures.terms,
      c.neg-2.ensures,
      c.plus_to.ensures.terms,
      c.neg.ensures,
      c.set_number-3.ensures.terms,
      c.set_number.ensures.terms,
      c.set_number-2.ensures.terms,
      c.requires.x_word.size,
      c.requires.made.rem.size,
      c.requires.made.quot.size,
      c.requires.y_word.size,
    ) at c.put.ensures.emits in
    record { emits = then_in _ _ _ _ _ c.in_ok-gate.ensures.emits whole }

pub put-requires : goal.put-requires
put-requires g c =
    let gate = c.in_ok-gate.ensures in
    let grown = gate.emits.grows in
    record {
      whole = grown.whole;
      room = omega (arith, c.requires.room.constraints, grown.constraints);
      a_made = omega (arith, c.set_number.ensures.top, c.requires.made.quot, grown.wires);
      b_made = omega (arith, c.set_number-2.ensures.top, c.requires.y_word, grown.wires);
      c_made =
          omega (arith, c.plus.ensures.top, c.plus_to.ensures.top, c.set_number-3.ensures.top, c.requires.x_word, c.requires.made.rem, gate.below, grown.wires);
    }
