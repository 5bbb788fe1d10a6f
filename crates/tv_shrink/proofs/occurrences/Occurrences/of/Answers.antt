use Rattle.tv_core.proofs.Common.{◌≡◌, ◌∙◌, None, true, ap, arith, get_or, inl, inr, subst, sym, cases_eq, cases_lt}
use Rattle.std.proofs.lemmas.List.{get_or_past}
use Rattle.tv_shrink.specs.Occurrences.{has_row}
use Rattle.tv_shrink.specs.Tidy.{row_has}
use Rattle.tv_shrink.proofs.Elements.{never}
use Rattle.tv_shrink.proofs.occurrences.Occurrences.of.Goals as goal

pub loop-at-preserved : goal.loop-at-preserved
loop-at-preserved c = λ i w below above has.
    elim (cases_eq i c.loop-at.at) [
      | inl same ↦
          subst (λ j. has_row c.file_row.new.self w j ≡ true) (sym same)
          (c.in_ok-file_row.ensures.added w above (ap (row_has w) (c.get.ensures ∙ ap (λ j. get_or c.args.rows.now j None) (sym same)) ∙ has))
      | inr apart ↦ c.in_ok-file_row.ensures.more w i (c.loop-at.invariant i w (omega arith) above has)
    ]

pub returns : goal.returns
returns c = record {
  covers = λ i w above has. elim (cases_lt i c.loop-at.at) [
    | inl before ↦ c.loop-at.invariant i w before above has
    | inr past ↦ absurd (never (sym (ap (row_has w) (get_or_past c.args.rows.now i None (omega (arith, c.loop-at-test.false, c.len-at-end.ensures)))) ∙ has))
  ];
}
