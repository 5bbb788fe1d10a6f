use Rattle.tv_core.proofs.Common.{◌+◌, ◌-◌, ◌*◌, ◌<◌, sym, ◌∙◌, ap, arith}
use Rattle.tv_network.proofs.Shapes.{width_few}
use Rattle.tv_network.proofs.SlotLaws.{items_short, stays, wire_fits, open_is, bound_is}
use Rattle.tv_network.specs.Stages.{item_at}
use Rattle.tv_network.specs.Switches.{width}
use Rattle.tv_network.proofs.levels.Levels.+set_item.Goals as goal

pub returns-then-l-eq0 : goal.returns-then-l-eq0
unfolding item_at
returns-then-l-eq0 g t c =
    let s = c.args.self.now in
    c.set_item.ensures ∙ ap (λ l. item_at s.network s.first (g.I.Inputs.pair c.args.items.now) l c.args.slot) (sym c.if-l-eq0.true)

pub set_item-requires-in-None : goal.set_item-requires-in-None
set_item-requires-in-None g t c κs within =
    let less : c.args.l - 1 < t = omega (arith, c.decreases, c.if-l-eq0.false) in
    (less, (within, (omega (arith, c.requires.within), (c.requires.items, c.requires.slot))))

pub set_item-requires-in-Open : goal.set_item-requires-in-Open
set_item-requires-in-Open g t c κs within =
    let less : c.args.l - 1 < t = omega (arith, c.decreases, c.if-l-eq0.false) in
    (less, (within, (omega (arith, c.requires.within), (c.requires.items, c.requires.slot))))

pub overflow_mul-at : goal.overflow_mul-at
overflow_mul-at g t c =
    let s = c.args.self.now in
    let is = c.level-level.ensures in
    let pair = g.I.Inputs.pair c.args.items.now in
    let fits = wire_fits s.network s.first pair c.args.l c.if-l-eq0.false c.requires.within c.level-level.result.now is c.args.slot c.position.result
    c.position.ensures c.in-Some.at c.in-Some.is in
    let made = ap (λ v. c.in-Some.at * v) c.width.ensures in
    omega (arith, s.are.below)

pub offset-switch-requires : goal.offset-switch-requires
offset-switch-requires g t c =
    let s = c.args.self.now in
    let is = c.level-level.ensures in
    let pair = g.I.Inputs.pair c.args.items.now in
    let fits = wire_fits s.network s.first pair c.args.l c.if-l-eq0.false c.requires.within c.level-level.result.now is c.args.slot c.position.result
    c.position.ensures c.in-Some.at c.in-Some.is in
    let made = ap (λ v. c.in-Some.at * v) c.width.ensures in
    omega (arith, s.are.below, (width_few c.level-level.result.now.form).0)

pub set_wires-requires : goal.set_wires-requires
set_wires-requires g t c =
    let s = c.args.self.now in
    let is = c.level-level.ensures in
    let pair = g.I.Inputs.pair c.args.items.now in
    let fits = wire_fits s.network s.first pair c.args.l c.if-l-eq0.false c.requires.within c.level-level.result.now is c.args.slot c.position.result
    c.position.ensures c.in-Some.at c.in-Some.is in
    let made = ap (λ v. c.in-Some.at * v) c.width.ensures in
    omega (arith, s.are.below, c.offset-switch.ensures, ap width c.in-Bound.is)

pub add_products-requires-clause-switch : goal.add_products-requires-clause-switch
add_products-requires-clause-switch g t c =
    let s = c.args.self.now in
    let is = c.level-level.ensures in
    let pair = g.I.Inputs.pair c.args.items.now in
    let fits = wire_fits s.network s.first pair c.args.l c.if-l-eq0.false c.requires.within c.level-level.result.now is c.args.slot c.position.result
    c.position.ensures c.in-Some.at c.in-Some.is in
    let made = ap (λ v. c.in-Some.at * v) c.width.ensures in
    omega (arith, s.are.below, c.offset-switch.ensures, ap width c.in-Open.is)

pub add_products-requires-clause-first : goal.add_products-requires-clause-first
add_products-requires-clause-first g t c =
    let s = c.args.self.now in
    let short = items_short s.network s.first (g.I.Inputs.pair c.args.items.now) c.requires.items.few c.requires.items.made (c.args.l - 1)
    (omega (arith, c.requires.within)) c.args.slot c.requires.slot in
    rw c.set_item-in-Open.ensures (omega (arith, short.first_short))

pub add_products-requires-clause-second : goal.add_products-requires-clause-second
add_products-requires-clause-second g t c =
    let s = c.args.self.now in
    let short = items_short s.network s.first (g.I.Inputs.pair c.args.items.now) c.requires.items.few c.requires.items.made (c.args.l - 1)
    (omega (arith, c.requires.within)) c.args.slot c.requires.slot in
    rw c.set_item-in-Open.ensures (omega (arith, short.second_short))

pub returns-in-None : goal.returns-in-None
returns-in-None g t c =
    let s = c.args.self.now in
    let is = c.level-level.ensures in
    let pair = g.I.Inputs.pair c.args.items.now in
    c.set_item-in-None.ensures
    ∙ stays s.network s.first pair c.args.l c.if-l-eq0.false c.requires.within c.level-level.result.now is c.args.slot c.position.result c.position.ensures
    c.in-None.is

pub returns-in-Bound : goal.returns-in-Bound
returns-in-Bound g t c =
    let s = c.args.self.now in
    let is = c.level-level.ensures in
    let pair = g.I.Inputs.pair c.args.items.now in
    let wire = c.offset-switch.ensures ∙ ap (λ v. c.level-level.result.now.start + c.in-Some.at * v) c.width.ensures in
    bound_is s.network s.first pair c.args.l c.if-l-eq0.false c.requires.within c.level-level.result.now is c.args.slot c.position.result
    c.position.ensures c.in-Some.at c.in-Some.is c.is_low.result c.offset-switch.result _ _ c.is_low.ensures wire c.in-Bound.is c.set_wires.ensures

pub returns-in-Open : goal.returns-in-Open
returns-in-Open g t c =
    let s = c.args.self.now in
    let is = c.level-level.ensures in
    let pair = g.I.Inputs.pair c.args.items.now in
    let wire = c.offset-switch.ensures ∙ ap (λ v. c.level-level.result.now.start + c.in-Some.at * v) c.width.ensures in
    open_is s.network s.first pair c.args.l c.if-l-eq0.false c.requires.within c.level-level.result.now is c.args.slot c.position.result
    c.position.ensures c.in-Some.at c.in-Some.is c.is_low-in-Open.result c.offset-switch.result c.set_item-in-Open.new.item c.is_low-in-Open.ensures
    wire _ c.in-Open.is c.add_products.ensures c.set_item-in-Open.ensures
