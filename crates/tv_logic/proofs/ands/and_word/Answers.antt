use Rattle.tv_core.proofs.Common.{◌≡◌, ◌-◌, ◌/◌, refl, arith, refused_wires, all_then, all_last, some_then, some_first}
use Rattle.tv_core.proofs.Common.{emits_as, emits_here, emits_no_turn, emits_turn, turn_some}
use Rattle.tv_logic.specs.Ands.{and_of}
use Rattle.tv_logic.proofs.ands.and_word.Goals as goal

pub loop-i-init : goal.loop-i-init
loop-i-init g c = record { emits = emits_no_turn _ _ c.fresh-word.ensures.emits.grows.whole }

pub loop-i-preserved : goal.loop-i-preserved
loop-i-preserved g c = record { emits = emits_turn _ _ _ c.loop-i.invariant.emits c.in_ok-new_pair.ensures.emits }

pub returns-in_err-new_pair : goal.returns-in_err-new_pair
unfolding and_of
returns-in_err-new_pair g c =
    let first = emits_here c.fresh-word.ensures.emits.grows.whole c.wires.ensures in
    let turn = turn_some _ _ _ c.loop-i.invariant.emits c.loop-i-test.true c.in_err-new_pair.ensures.emits in
    refused_wires _ _ _ _ c.from_residual.ensures (some_then _ c.fresh-word.ensures.emits (some_then _ first (some_first _ turn)))

pub returns-in_err-pair : goal.returns-in_err-pair
unfolding and_of
returns-in_err-pair g c =
    let all : c.loop-i.i ≡ g.row.W / 2 - 1 = omega arith in
    let first = emits_here c.fresh-word.ensures.emits.grows.whole c.wires.ensures in
    let turns = rw all at c.loop-i.invariant.emits in
    let last = rw (c.terms.ensures.terms, c.lowest_pair-lowest.ensures.terms) at c.in_err-pair.ensures.emits in
    refused_wires _ _ _ _ c.from_residual-in_err-pair.ensures
    (some_then _ c.fresh-word.ensures.emits (some_then _ first (some_then _ turns (some_first _ last))))

pub returns-clause-emits : goal.returns-clause-emits
unfolding and_of
returns-clause-emits g c =
    let all : c.loop-i.i ≡ g.row.W / 2 - 1 = omega arith in
    let first = emits_here c.fresh-word.ensures.emits.grows.whole c.wires.ensures in
    let turns = rw all at c.loop-i.invariant.emits in
    let last = rw (c.terms.ensures.terms, c.lowest_pair-lowest.ensures.terms) at c.in_ok-pair.ensures.emits in
    emits_as (omega arith) (omega arith) (all_then _ c.fresh-word.ensures.emits (all_then _ first (all_then _ turns (all_last _ last refl))))
