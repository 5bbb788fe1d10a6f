use Rattle.tv_bits.specs.ZeroSign.{zero_sign_of}
use Rattle.tv_bits.proofs.zero_signs.zero_sign.Goals as goal

pub returns : goal.returns
unfolding zero_sign_of
returns g c = record {
  emits =
      let terms = rw (c.plus_terms.ensures.terms, c.clear.ensures, c.neg.ensures) at c.plus.ensures.terms in
      rw (c.set_wire.ensures.terms, terms) at c.zero_cases.ensures.emits;
}
