use Rattle.tv_core.proofs.Common.{◌≡◌, ◌+◌, ◌*◌, ◌<◌, ◌≤◌, sym, ◌∙◌, ap, arith, add-one, all_then, emits_as, emits_here, emits_no_turn, emits_turn}
use Rattle.tv_core.proofs.Common.{refused_whole, some_then, turn_some}
use Rattle.std.proofs.Common.{zero-add}
use Rattle.tv_core.proofs.Rooms.{room_left}
use Rattle.tv_network.proofs.Shapes.{wires_before-zero, wires_before-suc, wires_mono}
use Rattle.tv_network.specs.Stages.{form_of, stages_of, stages_wires, switches_in, wires_before}
use Rattle.tv_network.specs.Switches.{width}
use Rattle.tv_stages.specs.Stages.{stage_count}
use Rattle.tv_network.proofs.emission.stages.Goals as goal

pub loop-l-init : goal.loop-l-init
loop-l-init g c =
    let none = sym (wires_before-zero c.args.levels.now.network) in
    record { emits = emits_as none none (emits_no_turn _ _ c.requires.room.whole) }

pub stage-requires-clause-room : goal.stage-requires-clause-room
stage-requires-clause-room g c =
    let n = c.args.levels.now.network in
    let l = c.loop-l.l in
    let within : l < stage_count n.items = omega (arith, c.loop-l-test.true, c.stages-l-end.ensures.is) in
    let most : wires_before n l + switches_in n l * width (form_of n l) ≤ stages_wires n =
    omega (arith, wires_mono n l (stage_count n.items) within, wires_before-suc n l) in
    room_left c.requires.room c.loop-l.invariant.emits.grows (most, most)

pub returns-in_err-stage : goal.returns-in_err-stage
unfolding stages_of
returns-in_err-stage g c =
    let within : c.loop-l.l < stage_count c.args.levels.now.network.items = omega (arith, c.loop-l-test.true, c.stages-l-end.ensures.is) in
    refused_whole _ _ _ c.from_residual.ensures
    (some_then _ (emits_here c.requires.room.whole c.requires.first) (turn_some _ _ _ c.loop-l.invariant.emits within c.in_err-stage.ensures.emits))

pub loop-l-preserved : goal.loop-l-preserved
loop-l-preserved g c =
    let n = c.args.levels.now.network in
    let l = c.loop-l.l in
    let more = sym (wires_before-suc n l) ∙ ap (wires_before n) (sym (add-one l)) in
    record { emits = emits_as more more (emits_turn _ _ _ c.loop-l.invariant.emits c.in_ok-stage.ensures.emits) }

pub returns : goal.returns
unfolding stages_of
returns g c =
    let all : c.loop-l.l ≡ stage_count c.args.levels.now.network.items = omega (arith, c.loop-l-test.false, c.stages-l-end.ensures.is) in
    let stages = rw all at c.loop-l.invariant.emits in
    record { emits = emits_as (zero-add _) (zero-add _) (all_then _ (emits_here c.requires.room.whole c.requires.first) stages) }
