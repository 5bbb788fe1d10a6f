use Rattle.tv_core.proofs.Common.{◌≡◌, ℕ, ◌-◌, ◌^◌, ◌<◌, length, refl, ap, ◌∙◌, arith, gives_refused}
use Rattle.std.proofs.lemmas.List.{get_or_read_under}
use Rattle.tv_core.proofs.JoinedLaws.{gives_no_list, gives_list, gives_list_refused}
use Rattle.tv_core.specs.declared.lines.PairNum.{PairNum}
use Rattle.tv_double_argument.proofs.Given.{given_all, given_some}
use Rattle.tv_double_argument.specs.Checks.{check_values}
use Rattle.tv_double_argument.specs.Order.{line_read, place_read}
use Rattle.tv_double_argument.specs.declared.kinds.Kind.{Kind}
use Rattle.tv_doubles.specs.Doubles.{DoubleLine}
use Rattle.tv_network.specs.Filling.{pair_at}
use Rattle.tv_double_argument.proofs.values.fill_checks.Goals as goal

-- the values of one check, as they were asked for
one : (b : ℕ) (kind same : Kind) (l m : DoubleLine) (i : ℕ) (item pair : PairNum) → kind ≡ same → l ≡ m → item ≡ pair
    → check_values b kind l i (line_read b item) (place_read b item) ≡ check_values b same m i (line_read b pair) (place_read b pair)
one b kind same l m i item pair k e p =
    ap (λ k. check_values b k l i (line_read b item) (place_read b item)) k
    ∙ ap (λ l. check_values b same l i (line_read b item) (place_read b item)) e
    ∙ ap (λ p. check_values b same m i (line_read b p) (place_read b p)) p

pub loop-i-init : goal.loop-i-init
loop-i-init g c = record { gives = gives_no_list _ _ _; whole = c.requires.whole }

pub loop-i-preserved : goal.loop-i-preserved
loop-i-preserved g c =
    let m = g.V.Values.giving in
    let lines = g.L.DoubleNumbers.numbers c.args.lines.now in
    let i = c.loop-i.i in
    let low : i < length c.args.items.now = omega (arith, c.loop-i-test.true, c.saturating_sub-i-end.ensures) in
    let read : c.index-items-i.result ≡ pair_at c.args.items.now i = get_or_read_under _ _ _ _ _ c.index-items-i.is low refl in
    let same = one (2 ^ g.row.W) c.kind.result (lines.kind i) _ (lines.line i) i c.index-items-i.result (pair_at c.args.items.now i) c.kind.ensures
    c.line.ensures read in
    record {
      gives = gives_list _ _ _ _ _ _ c.loop-i.invariant.gives (given_all m _ _ _ _ same c.in_ok-fill_check.ensures.gives);
      whole = c.in_ok-fill_check.ensures.whole;
    }

pub returns-in_err-fill_check-clause-gives : goal.returns-in_err-fill_check-clause-gives
returns-in_err-fill_check-clause-gives g c =
    let m = g.V.Values.giving in
    let lines = g.L.DoubleNumbers.numbers c.args.lines.now in
    let i = c.loop-i.i in
    let below : i < length c.args.items.now - 1 = omega (arith, c.loop-i-test.true, c.saturating_sub-i-end.ensures) in
    let low : i < length c.args.items.now = omega (arith, below) in
    let read : c.index-items-i.result ≡ pair_at c.args.items.now i = get_or_read_under _ _ _ _ _ c.index-items-i.is low refl in
    let same = one (2 ^ g.row.W) c.kind.result (lines.kind i) _ (lines.line i) i c.index-items-i.result (pair_at c.args.items.now i) c.kind.ensures
    c.line.ensures read in
    gives_refused m _ _ _ c.from_residual.result c.from_residual.ensures.1
    (gives_list_refused _ _ _ _ _ _ _ _ below c.loop-i.invariant.gives (given_some m _ _ _ _ same _ c.in_err-fill_check.ensures.gives))
