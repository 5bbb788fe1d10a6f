use Rattle.std.proofs.Common.{◌≡◌, ◌+◌, ◌%◌, ◌∙◌, ap, arith, refl}
use Rattle.std.specs.Option.{option_or}
use Rattle.tv_core.proofs.TestLaws.{IsTested-push}
use Rattle.tv_core.specs.Circuits.{put}
use Rattle.tv_core.specs.Constraints.{Constraint}
use Rattle.tv_core.specs.Meanings.{holds, product_in}
use Rattle.tv_core.specs.declared.field.TheConstants.{P}
use Rattle.tv_core.proofs.test_sink.TestSinkSink.put.Goals as goal

pub returns-clause-emits : goal.returns-clause-emits
unfolding put
returns-clause-emits c =
    let it : Constraint = record { a = c.args.a.now; b = c.args.b.now; c = c.args.c.now } in
    let inside = c.self.inside in
    let product : c.mul-product.result ≡ product_in inside.z.now it = cc in
    let test : c.eq-holds.result ≡ holds inside.z.now it = cc in
    rw (← c.self.view_is) (record {
      puts = record {
        answers = refl;
        stands = λ list before.
            IsTested-push _ _ it list c.eq-holds.result test refl refl
            (ap (λ n. inside.held + n) c.from.ensures)
            (c.or-self-inside.ensures ∙ ap (λ o. option_or inside.first_failed o) c.then_some.ensures)
            (c.add-self-inside.ensures ∙ ap (λ n. (inside.sum + n) % P) product)
            before;
        next = refl;
        keeps = refl;
        faults = omega arith;
        wants = omega arith;
      };
      grows = record { wires = omega arith; constraints = omega arith; whole = refl };
    })
