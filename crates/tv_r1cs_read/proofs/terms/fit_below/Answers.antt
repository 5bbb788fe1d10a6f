use Rattle.tv_core.proofs.Common.{◌+◌, ◌≤◌, arith}
use Rattle.std.proofs.lemmas.Result.{IfOk-weaker}
use Rattle.tv_container.proofs.Chain.{reads_as, reads_bad, reads_done, refuses_wrong}
use Rattle.tv_container.proofs.SectionLemmas.{fit-within}
use Rattle.tv_container.specs.Places.{places}
use Rattle.tv_r1cs_read.proofs.Ahead.{fit-past}
use Rattle.tv_r1cs_read.proofs.terms.fit_below.Goals as goal

pub returns-then-bounds-at : goal.returns-then-bounds-at
returns-then-bounds-at g c = record {
  held = tt;
  within = tt;
  place = tt;
  reads = reads_as reads_bad (λ file known is end. refuses_wrong _ _ _ (fit-past _ _ _ (omega (arith, c.if-bounds-at.true, c.requires.before))));
}

pub returns-then-holds : goal.returns-then-holds
returns-then-holds g c =
    let within : c.args.at + c.args.size ≤ c.args.bounds.now.end = omega (arith, c.if-bounds-at.false, c.requires.before) in
    record {
      held = c.holds.ensures.0 c.if-holds.true;
      within = within;
      place = omega arith;
      reads = reads_as reads_done (λ file known is end. fit-within _ _ _ within);
    }

pub returns : goal.returns
returns g c =
    let within : c.args.at + c.args.size ≤ c.args.bounds.now.end = omega (arith, c.if-bounds-at.false, c.requires.before) in
    record {
      held = c.fit.ensures.held;
      within = IfOk-weaker _ _ _ (λ done place. within) c.fit.ensures.place;
      place = c.fit.ensures.place;
      reads = reads_as c.fit.ensures.reads (λ file known is end.
          rw (fit-within c.args.size c.args.at c.args.bounds.now.end within)
          (rw (fit-within c.args.size c.args.at (places file) (omega (arith, within, end))) at is));
    }
