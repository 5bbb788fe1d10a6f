use Rattle.tv_core.proofs.Common.{◌≡◌, ◌++◌, arith, ap, sym, ◌∙◌, length}
use Rattle.std.proofs.Common.{leb}
use Rattle.tv_shrink.specs.Substitution.{replaced}
use Rattle.tv_shrink.proofs.Linear.{fits-few, fits-lacking, fits-having}
use Rattle.tv_shrink.proofs.row.fits.Goals as goal
use Rattle.tv_shrink.proofs.row.fits.Goals.{then-terms-by-le-TERMS-via-then-terms-by-le-TERMS}
use Rattle.tv_shrink.proofs.row.fits.Goals.{then-terms-by-le-TERMS-via-else-terms-by-le-TERMS+then-not-has_wire}

pub returns-then-terms-by-le-TERMS : goal.returns-then-terms-by-le-TERMS
returns-then-terms-by-le-TERMS c =
    elim c.then-terms-by-le-TERMS.branch [
      | then-terms-by-le-TERMS-via-then-terms-by-le-TERMS w ↦
          rw (← c.by.view_is)
          (sym (fits-few c.by.inside.wire c.by.inside.replacement.now c.args.terms.now (omega (arith, w.if-terms-by-le-TERMS.true))))
      | then-terms-by-le-TERMS-via-else-terms-by-le-TERMS+then-not-has_wire w ↦
          rw (← c.by.view_is)
          (sym (fits-lacking c.by.inside.wire c.by.inside.replacement.now c.args.terms.now (sym w.has_wire.ensures ∙ w.if-not-has_wire.true)))
    ]

pub returns : goal.returns
returns c =
    let same : c.len.result ≡ length c.append_replaced.new.out.items = omega arith in
    rw (← c.by.view_is)
    (ap (λ n. leb n 128) same
    ∙ fits-having c.by.inside.wire c.by.inside.replacement.now c.args.terms.now c.append_replaced.new.out.items c.has_wire.result c.has_wire.ensures
    c.if-not-has_wire.false
    (rw (← c.by.view_is) at c.in_ok-append_replaced.ensures
    ∙ ap (λ u. u ++ replaced c.by.inside.wire c.by.inside.replacement.now c.args.terms.now) c.clear.ensures.items))
