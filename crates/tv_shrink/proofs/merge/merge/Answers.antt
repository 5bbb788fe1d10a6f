use Rattle.tv_core.proofs.Common.{◌≡◌, ◌+◌, ◌-◌, ◌%◌, ◌^◌, ◌<◌, ◌≤◌, ap, arith, length, sym, ◌∙◌, ap₂, subst, IsNormalFrom}
use Rattle.std.proofs.Common.{min}
use Rattle.std.proofs.lemmas.List.{nil_from_length}
use Rattle.tv_core.specs.declared.field.TheConstants.{P}
use Rattle.tv_shrink.specs.Merge.{first_wire}
use Rattle.tv_shrink.proofs.Merges.{merge-turn, normal-rest, nothing_left, shorter}
use Rattle.tv_shrink.proofs.merge.merge.Goals.{then-not-is_empty, else-not-is_empty+then-not-is_empty-2}
use Rattle.tv_shrink.proofs.merge.merge.Goals as goal

-- the least wire of both sides is taken
pub loop-left-preserved : goal.loop-left-preserved
loop-left-preserved c =
    let wire = c.min-wire.result in
    let h : wire ≤ first_wire c.loop-left.left.terms.now = omega (arith, c.first.ensures, c.min-wire.ensures) in
    let g : wire ≤ first_wire c.loop-left.right.terms.now = omega (arith, c.first-in-loop-left.ensures, c.min-wire.ensures) in
    record {
      left = subst (IsNormalFrom 0) (sym c.take.ensures.past.terms) (normal-rest wire c.loop-left.left.terms.now c.loop-left.invariant.left h);
      right = subst (IsNormalFrom 0) (sym c.take-in-loop-left.ensures.past.terms) (normal-rest wire c.loop-left.right.terms.now c.loop-left.invariant.right g);
      whole =
          simp (
            c.in_ok-push_term.ensures.term,
            c.take.ensures.past.factor,
            c.take.ensures.past.terms,
            c.take-in-loop-left.ensures.past.factor,
            c.take-in-loop-left.ensures.past.terms,
          )
          (merge-turn c.loop-left.out.items _ c.loop-left.left.factor c.loop-left.right.factor wire c.add.result
          c.loop-left.left.terms.now c.loop-left.right.terms.now
          c.loop-left.invariant.left c.loop-left.invariant.right h g
          (c.add.ensures ∙ ap₂ (λ m n. (m + n) % P) c.take.ensures.coefficient c.take-in-loop-left.ensures.coefficient) c.loop-left.invariant.whole);
    }

pub loop-left-smaller : goal.loop-left-smaller
loop-left-smaller c =
    let x = c.loop-left.left.terms.now in
    let y = c.loop-left.right.terms.now in
    let some : 0 < length x + length y =
    elim c.if-not-is_empty.branch [
      | then-not-is_empty w ↦ grind (arith, c.is_empty.ensures, w.if-not-is_empty.true)
      | else-not-is_empty+then-not-is_empty-2 w ↦ grind (arith, w.is_empty-else-not-is_empty.ensures, w.if-not-is_empty-2.true)
    ] in
    let low : first_wire x ≤ 2 ^ 32 - 1 = omega (arith, c.first.ensures) in
    let high : first_wire y ≤ 2 ^ 32 - 1 = omega (arith, c.first-in-loop-left.ensures) in
    let least : c.min-wire.result ≡ min (first_wire x) (first_wire y) = omega (arith, c.min-wire.ensures, c.first.ensures, c.first-in-loop-left.ensures) in
    omega (arith, shorter c.min-wire.result x y least low high some, ap length c.take.ensures.past.terms, ap length c.take-in-loop-left.ensures.past.terms)

pub returns : goal.returns
returns c =
    nothing_left c.loop-left.out.items _ c.loop-left.left.factor c.loop-left.right.factor c.loop-left.left.terms.now c.loop-left.right.terms.now
    (nil_from_length c.loop-left.left.terms.now (grind arith)) (nil_from_length c.loop-left.right.terms.now (grind arith)) c.loop-left.invariant.whole
