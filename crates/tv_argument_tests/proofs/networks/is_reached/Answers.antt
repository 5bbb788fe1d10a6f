use Rattle.tv_core.proofs.Common.{rules, ◌≡◌, length, true}
use Rattle.tv_argument_tests.proofs.Made.{routable}
use Rattle.tv_argument_tests.proofs.networks.is_reached.Goals as goal

pub route-requires : goal.route-requires
route-requires c =
    let yes : c.in_ok-is_permutation.field-0 ≡ true = search rules in
    let four : length c.args.p.now ≡ 4 = search rules in
    routable c.args.p.now four (c.in_ok-is_permutation.ensures.0 yes)

pub route_w-requires : goal.route_w-requires
route_w-requires c =
    let yes : c.in_ok-is_permutation.field-0 ≡ true = search rules in
    let four : length c.args.p.now ≡ 4 = search rules in
    routable c.args.p.now four (c.in_ok-is_permutation.ensures.0 yes)
