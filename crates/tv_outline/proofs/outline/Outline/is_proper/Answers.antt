use Rattle.tv_core.proofs.Common.{All, ◌∙◌, ap, arith, get_or, length, nat_tests, subst}
use Rattle.std.proofs.lemmas.List.{take_all}
use Rattle.std.proofs.lemmas.List.Elements.{All-more}
use Rattle.tv_outline.specs.Expansion.{IsProper}
use Rattle.tv_outline.proofs.outline.Outline.is_proper.Goals as goal

pub loop-region-preserved : goal.loop-region-preserved
loop-region-preserved c =
    let regions = c.args.self.now.regions.items in
    let at = c.loop-region.region-index in
    let region = c.region-item.result in
    let read = c.region-item.is ∙ ap (λ l. get_or l at region) c.deref-region-items.ensures.value in
    let proper : IsProper region = c.is_proper.ensures.0 (grind (arith, nat_tests)) in
    All-more IsProper regions at region (omega (arith, ap length c.deref-region-items.ensures.value)) c.loop-region.invariant (subst IsProper read proper)

pub returns : goal.returns
returns c =
    let regions = c.args.self.now.regions.items in
    let all : All IsProper regions =
    subst (All IsProper) (take_all c.loop-region.region-index regions (omega (arith, ap length c.deref-region-items.ensures.value))) c.loop-region.invariant in
    (λ small. record { publics = grind (arith, nat_tests, small); regions = all }, λ h. grind (arith, nat_tests, h.publics))
