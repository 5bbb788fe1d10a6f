use Rattle.tv_core.proofs.Common.{◌≡◌, ◌∷◌, ◌++◌, [], ◌∙◌, sym, ap, arith, drop, refused}
use Rattle.tv_core.specs.Constraints.{Constraint}
use Rattle.tv_core.specs.Meanings.{IsFit}
use Rattle.tv_outline.proofs.ExpandLaws.{emits_more, emits_none, holds_next, refused_next}
use Rattle.tv_outline.proofs.ListLaws.{next_same}
use Rattle.tv_outline.proofs.PlaceLaws.{left_start, start_is_in}
use Rattle.tv_outline.specs.Expansion.{expansion_of}
use Rattle.tv_outline.specs.Places.{left_at}
use Rattle.tv_outline.proofs.expansion.expand.Goals as goal

pub loop-at-init : goal.loop-at-init
unfolding expansion_of
loop-at-init g c =
    let o = c.args.outline.now in (
      [],
      record {
        at = start_is_in o.regions.items c.requires.outline.regions;
        all = left_start o.words.items o.regions.items c.requires.outline.regions;
        emits = emits_none g.S.Sink.meaning c.args.s.now c.requires.whole;
      },
    )

pub put-requires-clause-a_made : goal.put-requires-clause-a_made
put-requires-clause-a_made g c =
    let it : Constraint = record { a = c.set_at.new.made.0; b = c.set_at.new.made.1; c = c.set_at.new.made.2 } in
    let is = ap (λ l. c.loop-at.invariant.0 ++ l) (sym (c.set_at.ensures.some c.loop-at-test.true)) ∙ c.loop-at.invariant.1.all in
    let fit = holds_next (IsFit (g.S.Sink.meaning.wires c.args.s.now)) c.loop-at.invariant.0 _ _ it is c.requires.made in
    omega (arith, fit.a.within, c.loop-at.invariant.1.emits.grows.wires)

pub put-requires-clause-b_made : goal.put-requires-clause-b_made
put-requires-clause-b_made g c =
    let it : Constraint = record { a = c.set_at.new.made.0; b = c.set_at.new.made.1; c = c.set_at.new.made.2 } in
    let is = ap (λ l. c.loop-at.invariant.0 ++ l) (sym (c.set_at.ensures.some c.loop-at-test.true)) ∙ c.loop-at.invariant.1.all in
    let fit = holds_next (IsFit (g.S.Sink.meaning.wires c.args.s.now)) c.loop-at.invariant.0 _ _ it is c.requires.made in
    omega (arith, fit.b.within, c.loop-at.invariant.1.emits.grows.wires)

pub put-requires-clause-c_made : goal.put-requires-clause-c_made
put-requires-clause-c_made g c =
    let it : Constraint = record { a = c.set_at.new.made.0; b = c.set_at.new.made.1; c = c.set_at.new.made.2 } in
    let is = ap (λ l. c.loop-at.invariant.0 ++ l) (sym (c.set_at.ensures.some c.loop-at-test.true)) ∙ c.loop-at.invariant.1.all in
    let fit = holds_next (IsFit (g.S.Sink.meaning.wires c.args.s.now)) c.loop-at.invariant.0 _ _ it is c.requires.made in
    omega (arith, fit.c.within, c.loop-at.invariant.1.emits.grows.wires)

pub returns-in_err-put : goal.returns-in_err-put
returns-in_err-put g c =
    let it : Constraint = record { a = c.set_at.new.made.0; b = c.set_at.new.made.1; c = c.set_at.new.made.2 } in
    let is = ap (λ l. c.loop-at.invariant.0 ++ l) (sym (c.set_at.ensures.some c.loop-at-test.true)) ∙ c.loop-at.invariant.1.all in
    refused _ _ c.from_residual.result c.from_residual.ensures.1
    (refused_next g.S.Sink.meaning c.loop-at.invariant.0 it _ _ _ c.loop-at.invariant.1.emits _ _ _ is c.in_err-put.ensures.emits)

pub loop-at-preserved : goal.loop-at-preserved
loop-at-preserved g c =
    let it : Constraint = record { a = c.set_at.new.made.0; b = c.set_at.new.made.1; c = c.set_at.new.made.2 } in
    let done = c.loop-at.invariant.0 in
    let left = left_at c.args.outline.now c.loop-at.at in
    let here : left ≡ it ∷ drop 1 left = c.set_at.ensures.some c.loop-at-test.true in (
      done ++ it ∷ [],
      record {
        at = c.after-at.ensures.at;
        all = ap (λ l. (done ++ it ∷ []) ++ l) c.after-at.ensures.left ∙ next_same done left _ it c.loop-at.invariant.1.all here;
        emits = emits_more g.S.Sink.meaning done it _ _ _ c.loop-at.invariant.1.emits c.in_ok-put.ensures.emits;
      },
    )
