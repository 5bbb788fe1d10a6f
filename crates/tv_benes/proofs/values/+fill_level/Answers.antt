use Rattle.tv_core.proofs.Common.{◌≡◌, suc, ◌-◌, ◌*◌, ◌^◌, ◌≤◌, ap, sym, subst, gives_refused, first_given, in_given}
use Rattle.tv_benes.proofs.Bounds.{less_by, level_less, half_near, near_at}
use Rattle.tv_benes.proofs.ColumnChain.{all_as, some_as, in_as, network_values-zero, values_of_parts}
use Rattle.tv_benes.proofs.ThroughLaws.{above}
use Rattle.tv_benes.specs.Items.{bit_at, item_of, depth_of}
use Rattle.tv_benes.specs.Network.{network_values}
use Rattle.tv_benes.specs.Through.{to_upper, to_lower}
use Rattle.tv_core.proofs.ValuesChain.{some_given}
use Rattle.tv_benes.proofs.values.+fill_level.Goals as goal

-- ---- the lowest level
pub fill_column-requires-clause-near : goal.fill_column-requires-clause-near
fill_column-requires-clause-near g t c = let two : 2 * 1 ≡ 2 ^ suc c.args.h = ap (λ h. 2 ^ suc h) (sym c.if-h-eq0.true) in
    subst (λ n. n * 2 ^ depth_of c.args.items.now ≤ 2 ^ 62) (sym two) c.requires.near

pub returns-then-h-eq0-clause-gives : goal.returns-then-h-eq0-clause-gives
returns-then-h-eq0-clause-gives g t c =
    in_as g.V.Values.giving (sym (network_values-zero c.args.net c.args.h _ _ c.if-h-eq0.true)) _ _ _ c.fill_column.ensures.gives

-- ---- the levels above
pub fill_column-requires-2-clause-near : goal.fill_column-requires-2-clause-near
fill_column-requires-2-clause-near g t c = near_at c.args.h _ _ c.long_power-n.ensures.is c.requires.near

pub returns-in_err-fill_column-clause-gives : goal.returns-in_err-fill_column-clause-gives
returns-in_err-fill_column-clause-gives g t c =
    let is = values_of_parts c.args.net c.args.h (bit_at c.args.bits.now) (item_of c.args.items.now) c.if-h-eq0.false c.long_power-n.ensures.is
    c.level_switches-s.ensures.is in
    gives_refused _ _ _ _ _ c.from_residual.ensures.1 (some_as is (first_given _ c.in_err-fill_column.ensures.gives))

pub fill_level-requires : goal.fill_level-requires
fill_level-requires g t c κs within =
    let below = above c.args.net c.args.h c.if-h-eq0.false in
    let near = half_near c.args.h (depth_of c.args.items.now) (2 ^ 62) c.requires.near in
    let inner = subst (λ j. 2 ^ j * 2 ^ suc (depth_of c.args.items.now) ≤ 2 ^ 62) below.level near in
    (less_by below.level c.decreases, (within, (c.in_ok-fill_column.ensures.whole, (level_less below.level c.requires.level, inner))))

pub returns-in_err-fill_level-clause-gives : goal.returns-in_err-fill_level-clause-gives
returns-in_err-fill_level-clause-gives g t c =
    let is = values_of_parts c.args.net c.args.h (bit_at c.args.bits.now) (item_of c.args.items.now) c.if-h-eq0.false c.long_power-n.ensures.is
    c.level_switches-s.ensures.is in
    let upper = ap (λ b. network_values c.args.net (c.args.h - 1) b (to_upper (bit_at c.args.bits.now) (item_of c.args.items.now))) c.bits_from.ensures in
    gives_refused _ _ _ _ _ c.from_residual-in_err-fill_level.ensures.1
    (some_as is (some_given _ c.in_ok-fill_column.ensures.gives (first_given _ (some_as upper c.in_err-fill_level.ensures.gives))))

pub fill_level-requires-2 : goal.fill_level-requires-2
fill_level-requires-2 g t c κs within =
    let below = above c.args.net c.args.h c.if-h-eq0.false in
    let near = half_near c.args.h (depth_of c.args.items.now) (2 ^ 62) c.requires.near in
    let inner = subst (λ j. 2 ^ j * 2 ^ suc (depth_of c.args.items.now) ≤ 2 ^ 62) below.level near in
    (less_by below.level c.decreases, (within, (c.in_ok-fill_level.ensures.whole, (level_less below.level c.requires.level, inner))))

pub returns-in_err-fill_level-2-clause-gives : goal.returns-in_err-fill_level-2-clause-gives
returns-in_err-fill_level-2-clause-gives g t c =
    let is = values_of_parts c.args.net c.args.h (bit_at c.args.bits.now) (item_of c.args.items.now) c.if-h-eq0.false c.long_power-n.ensures.is
    c.level_switches-s.ensures.is in
    let upper = ap (λ b. network_values c.args.net (c.args.h - 1) b (to_upper (bit_at c.args.bits.now) (item_of c.args.items.now))) c.bits_from.ensures in
    let lower = ap (λ b. network_values c.args.net (c.args.h - 1) b (to_lower (bit_at c.args.bits.now) (item_of c.args.items.now))) c.bits_from-2.ensures in
    gives_refused _ _ _ _ _ c.from_residual-in_err-fill_level-2.ensures.1
    (some_as is (some_given _ c.in_ok-fill_column.ensures.gives (some_given _ (all_as upper c.in_ok-fill_level.ensures.gives)
    (first_given _ (some_as lower c.in_err-fill_level-2.ensures.gives)))))

pub returns-clause-gives : goal.returns-clause-gives
returns-clause-gives g t c =
    let is = values_of_parts c.args.net c.args.h (bit_at c.args.bits.now) (item_of c.args.items.now) c.if-h-eq0.false c.long_power-n.ensures.is
    c.level_switches-s.ensures.is in
    let upper = ap (λ b. network_values c.args.net (c.args.h - 1) b (to_upper (bit_at c.args.bits.now) (item_of c.args.items.now))) c.bits_from.ensures in
    let lower = ap (λ b. network_values c.args.net (c.args.h - 1) b (to_lower (bit_at c.args.bits.now) (item_of c.args.items.now))) c.bits_from-2.ensures in
    in_as g.V.Values.giving is _ _ _ (in_given _ _ _ c.in_ok-fill_column.ensures.gives (in_given _ _ _ (all_as upper c.in_ok-fill_level.ensures.gives)
    (in_given _ _ _ (all_as lower c.in_ok-fill_level-2.ensures.gives) c.fill_last.ensures.gives)))
