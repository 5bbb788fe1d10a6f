use Rattle.tv_core.proofs.Common.{◌≡◌, ◌∙◌, Some, true, ap, inl, inr, subst, sym}
use Rattle.std.proofs.Common.{◌||◌}
use Rattle.std.proofs.lemmas.Bool.{or_cases}
use Rattle.tv_shrink.specs.Occurrences.{has_row}
use Rattle.tv_shrink.specs.Substitution.{has_wire}
use Rattle.tv_shrink.specs.Tidy.{row_has}
use Rattle.tv_shrink.proofs.occurrences.Occurrences.file_row.Goals as goal

pub returns-clause-added : goal.returns-clause-added
returns-clause-added c = λ w above has.
    subst (λ (lists : _). has_row lists w c.args.at ≡ true) (sym c.self.view_is)
    (elim (or_cases (has_wire w c.row.inside.a.now) (has_wire w c.row.inside.b.now || has_wire w c.row.inside.c.now)
    (sym (ap (row_has w) (c.in-Some.is ∙ ap Some (sym c.row.view_is))) ∙ has)) [
      | inl in_a ↦ c.in_ok-file-3.ensures.more w c.args.at (c.in_ok-file-2.ensures.more w c.args.at (c.in_ok-file.ensures.added w above in_a))
      | inr later ↦ elim (or_cases (has_wire w c.row.inside.b.now) (has_wire w c.row.inside.c.now) later) [
        | inl in_b ↦ c.in_ok-file-3.ensures.more w c.args.at (c.in_ok-file-2.ensures.added w above in_b)
        | inr in_c ↦ c.in_ok-file-3.ensures.added w above in_c
      ]
    ])
