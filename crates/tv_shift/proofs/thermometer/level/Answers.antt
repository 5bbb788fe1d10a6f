use Rattle.tv_core.proofs.Common.{refused_whole, ◌≡◌, ◌-◌, ◌^◌, ◌<◌, arith, some_first, all_last, emits_no_turn, emits_turn, turn_some, refl}
use Rattle.tv_shift.specs.Thermometer.{level_product_of, bit_level_of}
use Rattle.tv_shift.proofs.thermometer.level.Goals as goal

pub loop-j-init : goal.loop-j-init
loop-j-init g c = record { emits = emits_no_turn _ _ c.requires.room.whole }

pub loop-j-preserved : goal.loop-j-preserved
unfolding level_product_of
loop-j-preserved g c =
    let one = rw (c.set_wire.ensures.terms, c.offset.ensures, c.set_mark.ensures.terms) at c.in_ok-times_by.ensures.emits in
    record { emits = emits_turn _ _ _ c.loop-j.invariant.emits (all_last _ one refl) }

pub returns-in_err-times_by : goal.returns-in_err-times_by
unfolding bit_level_of level_product_of
returns-in_err-times_by g c =
    let within : c.loop-j.j < 2 ^ c.args.k - 1 = omega arith in
    let one = rw (c.set_wire.ensures.terms, c.offset.ensures, c.set_mark.ensures.terms) at c.in_err-times_by.ensures.emits in
    refused_whole _ _ _ c.from_residual.ensures (turn_some _ _ _ c.loop-j.invariant.emits within (some_first _ one))

pub returns : goal.returns
unfolding bit_level_of
returns g c = record {
  emits =
      let all : c.loop-j.j ≡ 2 ^ c.args.k - 1 = omega arith in
      rw all at c.loop-j.invariant.emits;
}
