use Rattle.tv_draw.proofs.RunLaws.{drawn_from}
use Rattle.tv_draw.proofs.program.draw.Goals as goal

pub returns-clause-run : goal.returns-clause-run
returns-clause-run c =
    let seeded = c.seed_from_u64-rng.ensures.same in
    drawn_from c.args.seed _ _ c.args.k _ _ _ c.requires (rw seeded at c.in_ok-image.ensures.state) c.in_ok-tape.ensures.state
    (rw seeded at c.in_ok-image.ensures.image) c.in_ok-tape.ensures.words c.in_ok-aux.ensures.words
