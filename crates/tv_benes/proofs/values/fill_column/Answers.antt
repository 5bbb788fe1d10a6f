use Rattle.tv_core.proofs.Common.{◌≡◌, arith, gives_refused_whole}
use Rattle.tv_benes.proofs.ColumnChain.{no_switch, one_switch, switch_refused, values_as, all_as, some_as}
use Rattle.tv_benes.specs.Items.{bit_at, item_of}
use Rattle.tv_benes.proofs.values.fill_column.Goals as goal

pub loop-j-init : goal.loop-j-init
loop-j-init g c = record {
  gives = no_switch g.V.Values.giving (bit_at c.args.bits.now)
      (item_of c.args.items.now) _;
  whole = c.requires.whole;
}

pub loop-j-preserved : goal.loop-j-preserved
loop-j-preserved g c =
    let switch = all_as (values_as _ _ _ _ _ _ c.bit.ensures c.read-x.ensures c.read-y.ensures) c.in_ok-fill_switch.ensures.gives in
    record {
      gives = one_switch _ _ _ _ _ _ _ c.loop-j.invariant.gives switch;
      whole = c.in_ok-fill_switch.ensures.whole;
    }

pub returns-in_err-fill_switch : goal.returns-in_err-fill_switch
returns-in_err-fill_switch g c =
    gives_refused_whole _ _ _ _ _ _ c.from_residual.ensures (switch_refused _ _ _ _ _ _ _ _ _ c.loop-j-test.true c.loop-j.invariant.gives
    (some_as (values_as _ _ _ _ _ _ c.bit.ensures c.read-x.ensures c.read-y.ensures) c.in_err-fill_switch.ensures.gives))

pub returns-clause-gives : goal.returns-clause-gives
returns-clause-gives g c =
    let all : c.loop-j.j ≡ c.args.n = omega arith in
    rw all at c.loop-j.invariant.gives
