use Rattle.tv_core.proofs.Common.{◌∙◌, ap, arith, length, sym, range_with_len}
use Rattle.tv_shrink.specs.Pass.{turn}
use Rattle.tv_shrink.specs.Tidy.{State}
use Rattle.tv_shrink.proofs.Passes.{passed-more}
use Rattle.tv_shrink.proofs.States.{turns_length}
use Rattle.tv_shrink.proofs.pass.Pass.run.Goals as goal

pub turn-requires : goal.turn-requires
turn-requires c =
    omega (
      arith,
      c.loop-at-test.true,
      c.len-at-end.ensures,
      ap (λ (s : State). length s.pass.rows) c.loop-at.invariant,
      turns_length c.args.self.now.state.publics (range_with_len 0 c.loop-at.at) c.args.self.now.state.pass,
    )

pub loop-at-preserved : goal.loop-at-preserved
loop-at-preserved c =
    c.in_ok-tidy.ensures
    ∙ c.in_ok-turn.ensures
    ∙ ap (λ (s : State). record { publics = s.publics; pass = turn s.publics s.pass c.loop-at.at }) c.loop-at.invariant
    ∙ ap (λ p. record { publics = c.args.self.now.state.publics; pass = p })
    (sym (passed-more c.args.self.now.state.publics c.loop-at.at c.args.self.now.state.pass))
