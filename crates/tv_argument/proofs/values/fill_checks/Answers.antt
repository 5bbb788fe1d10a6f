use Rattle.tv_core.proofs.Common.{◌≡◌, ℕ, ◌<◌, List, length, refl, ap, ◌∙◌, arith, gives_refused, Line}
use Rattle.std.proofs.lemmas.List.{get_or_read_under}
use Rattle.tv_core.proofs.JoinedLaws.{gives_no_list, gives_list, gives_list_refused}
use Rattle.tv_core.specs.declared.lines.PairNum.{PairNum}
use Rattle.tv_lines.specs.PackedLines.{unpacked}
use Rattle.tv_lines.specs.Placed.{number_in}
use Rattle.tv_argument.proofs.FillingLaws.{check_same, given_all, given_some}
use Rattle.tv_argument.specs.Checks.{check_values}
use Rattle.tv_argument.specs.declared.kinds.Kind.{Kind}
use Rattle.tv_network.specs.Filling.{pair_at}
use Rattle.tv_argument.proofs.values.fill_checks.Goals as goal

-- the values of one check, as they were asked for
one : (kind same : Kind) (items : List PairNum) (pair : PairNum) (i : ℕ) (l m : Line) → kind ≡ same → pair ≡ pair_at items i
    → l.cell ≡ m.cell → l.time ≡ m.time → l.old ≡ m.old → check_values kind (unpacked pair) l ≡ check_values same (unpacked (pair_at items i)) m
one kind same items pair i l m k p cell time old =
    ap (λ k. check_values k (unpacked pair) l) k ∙ ap (λ p. check_values same (unpacked p) l) p ∙ check_same same (unpacked (pair_at items i)) l m cell time old

pub loop-i-init : goal.loop-i-init
loop-i-init g c = record { gives = gives_no_list _ _ _; whole = c.requires.whole }

pub loop-i-preserved : goal.loop-i-preserved
loop-i-preserved g c =
    let m = g.V.Values.giving in
    let i = c.loop-i.i in
    let read : c.index-items-i.result ≡ pair_at c.args.items.now i = get_or_read_under _ _ _ _ _ c.index-items-i.is c.loop-i-test.true refl in
    let same = one c.kind.result _ c.args.items.now c.index-items-i.result i c.line.result
    (number_in (g.L.LineNumbers.lines c.args.lines.now) i) c.kind.ensures read c.line.ensures.cell c.line.ensures.time c.line.ensures.old in
    record {
      gives = gives_list _ _ _ _ _ _ c.loop-i.invariant.gives (given_all m _ _ _ _ same c.in_ok-fill_check.ensures.gives);
      whole = c.in_ok-fill_check.ensures.whole;
    }

pub returns-in_err-fill_check-clause-gives : goal.returns-in_err-fill_check-clause-gives
returns-in_err-fill_check-clause-gives g c =
    let m = g.V.Values.giving in
    let i = c.loop-i.i in
    let below : i < length (g.L.LineNumbers.lines c.args.lines.now) = omega (arith, c.loop-i-test.true, c.requires.items) in
    let read : c.index-items-i.result ≡ pair_at c.args.items.now i = get_or_read_under _ _ _ _ _ c.index-items-i.is c.loop-i-test.true refl in
    let same = one c.kind.result _ c.args.items.now c.index-items-i.result i c.line.result
    (number_in (g.L.LineNumbers.lines c.args.lines.now) i) c.kind.ensures read c.line.ensures.cell c.line.ensures.time c.line.ensures.old in
    gives_refused m _ _ _ c.from_residual.result c.from_residual.ensures.1
    (gives_list_refused _ _ _ _ _ _ _ _ below c.loop-i.invariant.gives (given_some m _ _ _ _ same _ c.in_err-fill_check.ensures.gives))
