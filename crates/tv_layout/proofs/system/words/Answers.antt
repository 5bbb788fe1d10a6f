use Rattle.tv_core.proofs.Common.{◌≡◌, arith, emits_no_turn, emits_as, emits_turn, refused_whole, turn_some}
use Rattle.tv_layout.specs.Layout.{words_of}
use Rattle.tv_layout.proofs.system.words.Goals as goal

pub loop-i-init : goal.loop-i-init
loop-i-init g c = record { emits = emits_as (omega arith) (omega arith) (emits_no_turn _ _ c.requires.room.whole) }

pub loop-i-preserved : goal.loop-i-preserved
loop-i-preserved g c = record { emits = emits_as (omega arith) (omega arith) (emits_turn _ _ _ c.loop-i.invariant.emits c.in_ok-word.ensures.emits) }

pub returns-in_err-word : goal.returns-in_err-word
unfolding words_of
returns-in_err-word g c =
    refused_whole _ _ _ c.from_residual.ensures (turn_some _ _ _ c.loop-i.invariant.emits c.loop-i-test.true c.in_err-word.ensures.emits)

pub returns : goal.returns
unfolding words_of
returns g c =
    let all : c.loop-i.i ≡ c.args.n = omega arith in
    record { emits = rw all at c.loop-i.invariant.emits }
