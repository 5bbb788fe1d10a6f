use Rattle.tv_core.proofs.Common.{arith, refl}
use Rattle.tv_core.specs.Circuits.{put}
use Rattle.tv_core.specs.Constraints.{Constraint}
use Rattle.tv_outline.proofs.MatchLaws.{IsMatched-other, IsMatched-tested}
use Rattle.tv_outline.proofs.matches.MatchesSink.put.Goals as goal

pub returns-then-self-clause-emits : goal.returns-then-self-clause-emits
unfolding put
returns-then-self-clause-emits c =
    let it : Constraint = record { a = c.args.a.now; b = c.args.b.now; c = c.args.c.now } in
    rw (← c.self.view_is) (record {
      puts = record {
        answers = refl;
        stands = λ list before. IsMatched-tested _ _ list it refl refl before c.if-self.true c.after-self-inside.ensures.left c.is_at-self-inside.ensures;
        next = refl;
        keeps = refl;
        faults = omega arith;
        wants = omega arith;
      };
      grows = record { wires = omega arith; constraints = omega arith; whole = refl };
    })

pub returns-else-self-clause-emits : goal.returns-else-self-clause-emits
unfolding put
returns-else-self-clause-emits c =
    let it : Constraint = record { a = c.args.a.now; b = c.args.b.now; c = c.args.c.now } in
    rw (← c.self.view_is) (record {
      puts = record {
        answers = refl;
        stands = λ list before. IsMatched-other _ _ list it refl refl before c.if-self.false c.if-self.false;
        next = refl;
        keeps = refl;
        faults = omega arith;
        wants = omega arith;
      };
      grows = record { wires = omega arith; constraints = omega arith; whole = refl };
    })
