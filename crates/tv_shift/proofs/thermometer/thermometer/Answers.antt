use Rattle.tv_core.proofs.Common.{common_steps, ◌≡◌, arith, refl}
use Rattle.tv_core.proofs.Common.{emits_as, all_then, some_then, some_first, refused_wires, all_last, emits_here, emits_no_turn, emits_turn, turn_some}
use Rattle.tv_shift.proofs.MarkTerms.{products-more, products-up}
use Rattle.tv_shift.specs.Thermometer.{thermometer_of}
use Rattle.tv_shift.proofs.thermometer.thermometer.Goals as goal

pub loop-i-init : goal.loop-i-init
loop-i-init g c = record { emits = emits_no_turn _ _ c.requires.room.whole }

pub loop-i-preserved : goal.loop-i-preserved
loop-i-preserved g c = record {
  emits =
      let more = products-more c.loop-i.i in
      emits_as (omega (arith, more)) (omega (arith, more)) (emits_turn _ _ _ c.loop-i.invariant.emits c.in_ok-level.ensures.emits);
}

pub returns-in_err-level : goal.returns-in_err-level
unfolding thermometer_of
returns-in_err-level g c =
    let turn = turn_some _ _ _ c.loop-i.invariant.emits c.loop-i-test.true c.in_err-level.ensures.emits in
    let first = emits_here c.requires.room.whole c.wires.ensures in
    refused_wires _ _ _ _ c.from_residual.ensures (some_then _ first (some_first _ turn))

pub returns-clause-emits : goal.returns-clause-emits
unfolding thermometer_of
returns-clause-emits g c =
    let all : c.loop-i.i ≡ c.args.k = omega arith in
    let first = emits_here c.requires.room.whole c.wires.ensures in
    let turns = rw all at c.loop-i.invariant.emits in
    emits_as (omega arith) (omega arith) (all_then _ first (all_last _ turns refl))

pub level-requires-clause-room : goal.level-requires-clause-room
level-requires-clause-room g c = grind (arith, common_steps, products-up, products-more)

pub level-requires-clause-bits_made : goal.level-requires-clause-bits_made
level-requires-clause-bits_made g c = omega arith

pub level-requires-clause-products_made : goal.level-requires-clause-products_made
level-requires-clause-products_made g c = omega arith
