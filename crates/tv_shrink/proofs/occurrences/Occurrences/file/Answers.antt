use Rattle.tv_core.proofs.Common.{◌≡◌, true, sym, subst, arith}
use Rattle.std.proofs.Common.{take_all}
use Rattle.tv_shrink.specs.Occurrences.{has_row}
use Rattle.tv_shrink.specs.Substitution.{has_wire}
use Rattle.tv_shrink.proofs.Passes.{filed-more, filed-none}
use Rattle.tv_shrink.proofs.ReplacingLaws.{none_has}
use Rattle.tv_shrink.proofs.occurrences.Occurrences.file.Goals as goal
use Rattle.tv_shrink.proofs.occurrences.Occurrences.file.Goals.{then-wire-publics+in_ok-add, else-wire-publics}

pub loop-wire-init : goal.loop-wire-init
loop-wire-init c = record { more = λ w i e. e; added = λ w above has. absurd (none_has w has) }

pub loop-wire-preserved : goal.loop-wire-preserved
loop-wire-preserved c =
    elim c.if-wire-publics.branch [
      | then-wire-publics+in_ok-add w ↦ rw w.self-is (record {
        more = λ v i e. w.in_ok-add.ensures.more v i (c.loop-wire.invariant.more v i e);
        added = filed-more c.args.publics (has_row c.loop-wire.self) (has_row w.add.new.self) c.args.row c.loop-wire.wire-index
            c.loop-wire-item.result c.args.terms.now c.loop-wire-test.true c.loop-wire-item.is c.loop-wire.invariant.added
            w.in_ok-add.ensures.more (rw c.wire.view_is at w.in_ok-add.ensures.has);
      })
      | else-wire-publics w ↦ rw w.self-is (record {
        more = c.loop-wire.invariant.more;
        added = filed-none c.args.publics (has_row c.loop-wire.self) (has_row c.loop-wire.self) c.args.row c.loop-wire.wire-index
            c.loop-wire-item.result c.args.terms.now c.loop-wire-test.true c.loop-wire-item.is c.loop-wire.invariant.added
            (omega (arith, w.if-wire-publics.false, c.wire.view_is));
      })
    ]

pub returns-clause-added : goal.returns-clause-added
returns-clause-added c =
    λ w above has. c.loop-wire.invariant.added w above
    (subst (λ x. has_wire w x ≡ true) (sym (take_all c.loop-wire.wire-index c.args.terms.now (omega arith))) has)

pub returns-in_err-add-clause-more : goal.returns-in_err-add-clause-more
returns-in_err-add-clause-more c = λ w i e. c.add.ensures.more w i (c.loop-wire.invariant.more w i e)
