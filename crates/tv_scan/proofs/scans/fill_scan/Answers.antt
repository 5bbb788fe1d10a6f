use Rattle.tv_core.proofs.Common.{◌≡◌, ◌<◌, length, map, get_or, refl, sym, ◌∙◌, ap, subst, arith, length-map, gives_refused, GivesAll}
use Rattle.tv_core.proofs.JoinedLaws.{gives_no_list, gives_list, gives_list_refused}
use Rattle.tv_lines.specs.PackedLines.{line_of_numbers}
use Rattle.tv_scan.proofs.ScanChain.{given_as, number_at, next_word, values_of_turn}
use Rattle.tv_lines.specs.Placed.{zero_line}
use Rattle.tv_scan.specs.Scan.{look_values}
use Rattle.tv_scan.proofs.scans.fill_scan.Goals as goal

pub loop-before-init : goal.loop-before-init
loop-before-init g c = record {
  gives = gives_no_list g.V.Values.giving (look_values (map line_of_numbers c.args.earlier.now) (line_of_numbers c.args.line.now)) _;
  whole = c.requires;
  word = refl;
}

pub loop-before-preserved : goal.loop-before-preserved
loop-before-preserved g c =
    let m = g.V.Values.giving in
    let ls = c.args.earlier.now in
    let i = c.loop-before.before-index in
    let many = length-map ls line_of_numbers in
    let h : i < length (map line_of_numbers ls) = omega arith in
    let there : get_or (map line_of_numbers ls) i zero_line ≡ line_of_numbers c.before-item.result = number_at ls i c.before-item.result zero_line (omega arith)
    ∙ ap line_of_numbers (sym c.before-item.is) in
    let word = c.left-word.ensures ∙ next_word ls c.args.line.now c.before-item.result i c.loop-before.word h there c.loop-before.invariant.word in
    let values = values_of_turn ls c.args.line.now c.before-item.result i c.loop-before.word h there c.loop-before.invariant.word c.sub.result
    c.left-word.result c.sub.ensures word in
    record {
      gives = gives_list m (look_values (map line_of_numbers ls) (line_of_numbers c.args.line.now)) i _ _ _ c.loop-before.invariant.gives
          (subst (λ vs. GivesAll m c.loop-before.v c.fill_look.new.v vs) values c.in_ok-fill_look.ensures.gives);
      whole = c.in_ok-fill_look.ensures.whole;
      word = word;
    }

pub returns-in_err-fill_look-clause-gives : goal.returns-in_err-fill_look-clause-gives
returns-in_err-fill_look-clause-gives g c =
    let m = g.V.Values.giving in
    let ls = c.args.earlier.now in
    let i = c.loop-before.before-index in
    let many = length-map ls line_of_numbers in
    let h : i < length (map line_of_numbers ls) = omega arith in
    let there : get_or (map line_of_numbers ls) i zero_line ≡ line_of_numbers c.before-item.result = number_at ls i c.before-item.result zero_line (omega arith)
    ∙ ap line_of_numbers (sym c.before-item.is) in
    let word = c.left-word.ensures ∙ next_word ls c.args.line.now c.before-item.result i c.loop-before.word h there c.loop-before.invariant.word in
    let values = values_of_turn ls c.args.line.now c.before-item.result i c.loop-before.word h there c.loop-before.invariant.word c.sub.result
    c.left-word.result c.sub.ensures word in
    gives_refused m _ _ _ c.from_residual.result c.from_residual.ensures.1
    (gives_list_refused m (look_values (map line_of_numbers ls) (line_of_numbers c.args.line.now)) (length (map line_of_numbers ls)) i _ _ _ _ h
    c.loop-before.invariant.gives
    (given_as m _ _ _ _ _ values c.in_err-fill_look.ensures.gives))
