use Rattle.tv_core.proofs.Common.{◌≡◌, ◌-◌, ◌++◌, ◌∙◌, ap₂}
use Rattle.tv_core.specs.declared.field.TheConstants.{P}
use Rattle.tv_inputs.specs.Operand.{upper_of}
use Rattle.tv_inputs.specs.TestNumbers.{place_bits}
use Rattle.tv_results.proofs.results.put_places.Goals as goal

pub returns : goal.returns
returns g c = record {
  emits =
      let upper : c.plus_upper.new.lc ≡ upper_of (P - 1) c.args.a.now (place_bits g.row.W) =
      c.plus_upper.ensures.terms ∙ ap₂ (λ x k. x ++ upper_of k c.args.a.now (place_bits g.row.W)) c.clear.ensures c.neg.ensures in
      rw (c.set_opcodes.ensures.terms, c.plus.ensures.terms, upper, c.clear-2.ensures) at c.put.ensures.emits;
}
