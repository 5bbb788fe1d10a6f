use Rattle.tv_core.proofs.Common.{◌≡◌, ◌<◌, length, false, refl, subst, sym, ◌∙◌, arith, slice_index}
use Rattle.std.proofs.lemmas.List.{get_or_default}
use Rattle.tv_route.proofs.Seen.{IsSeen, seen_none, seen_more, all_permute}
use Rattle.tv_route.proofs.permutations.is_permutation.Goals as goal

pub loop-i-init : goal.loop-i-init
loop-i-init c = seen_none c.args.p.now c.in_ok-seen.seen.items (c.in_ok-seen.ensures.items_if_clones_equal (λ y e. e))

pub loop-i-preserved : goal.loop-i-preserved
loop-i-preserved c =
    let x = slice_index c.args.p.now c.loop-i.i in
    let within : x < length c.loop-i.seen.items = omega (arith, c.loop-i.invariant.long, c.if-x-p.false) in
    seen_more c.args.p.now c.loop-i.i c.loop-i.seen.items c.loop-i.invariant c.if-x-p.false
    (get_or_default c.loop-i.seen.items x false c.index.result.now within ∙ sym c.index.ensures ∙ c.if-index.false)

pub returns : goal.returns
returns c =
    let all : c.loop-i.i ≡ length c.args.p.now = omega arith in
    (λ yes. all_permute c.args.p.now c.loop-i.seen.items (subst (λ i. IsSeen c.args.p.now i c.loop-i.seen.items) all c.loop-i.invariant), λ permutes. refl)
