use Rattle.std.proofs.Common.{◌≡◌, ◌≤◌, ◌+◌, length, refl, sym, ap, ap₂, subst, arith}
use Rattle.tv_core.proofs.Fits.{IsCounted-push}
use Rattle.tv_core.specs.Circuits.{put}
use Rattle.tv_core.specs.Combinations.{top}
use Rattle.tv_core.specs.Constraints.{Constraint}
use Rattle.tv_core.specs.Meanings.{IsFit}
use Rattle.tv_core.proofs.count_sink.CountSinkSink.put.Goals as goal

pub returns-clause-emits : goal.returns-clause-emits
unfolding put
returns-clause-emits c =
    let inside = c.self.inside in
    let it : Constraint = record { a = c.args.a.now; b = c.args.b.now; c = c.args.c.now } in
    let sizes : length c.terms.result.now + length c.terms-2.result.now + length c.terms-3.result.now ≡ length it.a + length it.b + length it.c =
    ap₂ (λ m n. m + n) (ap₂ (λ m n. m + n) (ap length c.terms.ensures.terms) (ap length c.terms-2.ensures.terms)) (ap length c.terms-3.ensures.terms) in
    let made = sym c.self.view_is in
    let fits : IsFit inside.wires it = record {
      a = record { within = subst (λ s. top it.a ≤ s.wires) made c.requires.a_made; short = rw c.terms.ensures.terms at c.terms.ensures.fits };
      b = record { within = subst (λ s. top it.b ≤ s.wires) made c.requires.b_made; short = rw c.terms-2.ensures.terms at c.terms-2.ensures.fits };
      c = record { within = subst (λ s. top it.c ≤ s.wires) made c.requires.c_made; short = rw c.terms-3.ensures.terms at c.terms-3.ensures.fits };
    } in
    rw (← c.self.view_is) (record {
      puts = record {
        answers = refl;
        stands = λ list before. IsCounted-push _ _ list it refl refl (ap (λ n. inside.terms + n) sizes) fits before;
        next = refl;
        keeps = tt;
        faults = omega arith;
        wants = omega arith;
      };
      grows = record { wires = omega arith; constraints = omega arith; whole = refl };
    })
