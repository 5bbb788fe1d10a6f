use Rattle.tv_core.proofs.Common.{◌≡◌, ℕ, ◌^◌, List, length, ap, ap₂, ◌∙◌, arith, first_given, in_given, gives_refused, Bool}
use Rattle.tv_core.specs.declared.lines.PairNum.{PairNum}
use Rattle.tv_double_argument.proofs.Bases.{base_of}
use Rattle.tv_double_argument.proofs.Given.{given_all, given_in, given_some}
use Rattle.tv_double_argument.proofs.ItemsRead.{moved_many, moved_read, moved_values}
use Rattle.tv_double_argument.specs.Checks.{Numbers}
use Rattle.tv_double_argument.specs.Costs.{network_on}
use Rattle.tv_double_checks.specs.Items.{packed}
use Rattle.tv_double_argument.specs.Order.{items_in, successor_bits, successors}
use Rattle.tv_network.specs.Filling.{pair_at}
use Rattle.tv_network.specs.Network.{network_values}
use Rattle.tv_stages.proofs.Reorders.{places-length}
use Rattle.tv_stages.specs.Settings.{settings_of}
use Rattle.tv_stages.specs.Stages.{bit_in, places, through_stages}
use Rattle.tv_stages.specs.declared.nets.Net.{Net}
use Rattle.tv_double_argument.proofs.values.fill_argument.Goals as goal

-- how many items there are
many : (b : ℕ) (lines : Numbers) (items : List PairNum) → items ≡ items_in b lines → length items ≡ lines.count
many b lines items is = ap (λ (l : List PairNum). length l) is ∙ places-length lines.count (λ i. packed b (lines.line i) i)

-- the values of the network, and what it moves, by the lines
values_is : (net : Net) (b : ℕ) (lines : Numbers) (items : List PairNum) (bits : List Bool) → items ≡ items_in b lines
    → bits ≡ settings_of net (successors lines.count lines.line)
    → network_values (network_on net (length items)) (bit_in net (length items) bits) (pair_at items)
    ≡ network_values (network_on net lines.count) (successor_bits net lines.count lines.line) (pair_at (items_in b lines))
values_is net b lines items bits is settings =
    ap₂ (λ (m : ℕ) (bs : List Bool). network_values (network_on net m) (bit_in net m bs) (pair_at items)) (many b lines items is) settings
    ∙ ap (λ ps. network_values (network_on net lines.count) (successor_bits net lines.count lines.line) (pair_at ps)) is

moved_is : (net : Net) (b : ℕ) (lines : Numbers) (items : List PairNum) (bits : List Bool) → items ≡ items_in b lines
    → bits ≡ settings_of net (successors lines.count lines.line)
    → places (length items) (through_stages net (length items) (bit_in net (length items) bits) (pair_at items))
    ≡ places lines.count (through_stages net lines.count (successor_bits net lines.count lines.line) (pair_at (items_in b lines)))
moved_is net b lines items bits is settings =
    ap₂ (λ (m : ℕ) (bs : List Bool). places m (through_stages net m (bit_in net m bs) (pair_at items))) (many b lines items is) settings
    ∙ ap (λ ps. places lines.count (through_stages net lines.count (successor_bits net lines.count lines.line) (pair_at ps))) is

pub overflow_cast-items : goal.overflow_cast-items
overflow_cast-items g c =
    let lines = g.L.DoubleNumbers.numbers c.args.lines.now in
    omega (arith, many (2 ^ g.row.W) lines c.args.items.now c.requires.items, c.requires.few)

pub fill_network-requires-clause-few : goal.fill_network-requires-clause-few
fill_network-requires-clause-few g c =
    let lines = g.L.DoubleNumbers.numbers c.args.lines.now in
    let low = many (2 ^ g.row.W) lines c.args.items.now c.requires.items in
    rw c.network_on.ensures (omega (arith, low, c.requires.few))

pub returns-in_err-fill_network-clause-gives : goal.returns-in_err-fill_network-clause-gives
returns-in_err-fill_network-clause-gives g c =
    let lines = g.L.DoubleNumbers.numbers c.args.lines.now in
    let is = values_is c.args.net (2 ^ g.row.W) lines c.args.items.now c.args.bits.now c.requires.items c.requires.bits in
    let gives = rw c.network_on.ensures at c.in_err-fill_network.ensures.gives in
    gives_refused _ _ _ _ c.from_residual.result c.from_residual.ensures.1 (first_given _ (given_some g.V.Values.giving _ _ _ _ is _ gives))

pub fill_checks-requires-clause-few : goal.fill_checks-requires-clause-few
fill_checks-requires-clause-few g c =
    let lines = g.L.DoubleNumbers.numbers c.args.lines.now in
    let moved = rw c.network_on.ensures at c.in_ok-fill_network.ensures.moved in
    let is = moved ∙ moved_is c.args.net (2 ^ g.row.W) lines c.args.items.now c.args.bits.now c.requires.items c.requires.bits in
    omega (arith, moved_many c.args.net (2 ^ g.row.W) (base_of g.row.W c.requires.width) lines c.requires.few c.requires.in_range _ is, c.requires.few)

pub fill_checks-requires-clause-many : goal.fill_checks-requires-clause-many
fill_checks-requires-clause-many g c =
    let lines = g.L.DoubleNumbers.numbers c.args.lines.now in
    let moved = rw c.network_on.ensures at c.in_ok-fill_network.ensures.moved in
    let is = moved ∙ moved_is c.args.net (2 ^ g.row.W) lines c.args.items.now c.args.bits.now c.requires.items c.requires.bits in
    moved_many c.args.net (2 ^ g.row.W) (base_of g.row.W c.requires.width) lines c.requires.few c.requires.in_range _ is

pub fill_checks-requires-clause-read : goal.fill_checks-requires-clause-read
fill_checks-requires-clause-read g c =
    let lines = g.L.DoubleNumbers.numbers c.args.lines.now in
    let moved = rw c.network_on.ensures at c.in_ok-fill_network.ensures.moved in
    let is = moved ∙ moved_is c.args.net (2 ^ g.row.W) lines c.args.items.now c.args.bits.now c.requires.items c.requires.bits in
    moved_read c.args.net (2 ^ g.row.W) (base_of g.row.W c.requires.width) lines c.requires.few c.requires.in_range _ is

pub returns-clause-gives : goal.returns-clause-gives
returns-clause-gives g c =
    let m = g.V.Values.giving in
    let lines = g.L.DoubleNumbers.numbers c.args.lines.now in
    let moved = rw c.network_on.ensures at c.in_ok-fill_network.ensures.moved in
    let is = moved ∙ moved_is c.args.net (2 ^ g.row.W) lines c.args.items.now c.args.bits.now c.requires.items c.requires.bits in
    let first = values_is c.args.net (2 ^ g.row.W) lines c.args.items.now c.args.bits.now c.requires.items c.requires.bits in
    let gives = rw c.network_on.ensures at c.in_ok-fill_network.ensures.gives in
    let checks = moved_values c.args.net (2 ^ g.row.W) (base_of g.row.W c.requires.width) lines c.requires.few c.requires.in_range _ is in
    in_given _ _ _ (given_all m _ _ _ _ first gives) (given_in m _ _ _ _ checks _ c.fill_checks.ensures.gives)
