use Rattle.tv_core.proofs.Common.{ℕ, suc, ◌+◌, ◌-◌, ◌*◌, ◌/◌, ◌^◌, List, ◌++◌, ap, ap₂, subst, sym, ◌∙◌, arith, slice_index}
use Rattle.std.proofs.lemmas.Nat.{pow_pos}
use Rattle.tv_benes.proofs.ThroughLaws.{twice, above}
use Rattle.tv_benes.specs.Through.{missing, places}
use Rattle.tv_route.proofs.RouteLaws.{halves_permute}
use Rattle.tv_route.proofs.Steps.{route_one, route_more, four_pieces}
use Rattle.tv_route.specs.Permutations.{Permutes}
use Rattle.tv_route.specs.Route.{Mark, halves, down, up_input, down_input, route}
use Rattle.tv_route.proofs.settings.+route_level.Goals as goal

pub returns-then-h-eq0 : goal.returns-then-h-eq0
returns-then-h-eq0 t c = c.in_ok-push.ensures.items ∙ ap (λ l. c.args.bits.now.items ++ l) (sym (route_one c.args.net c.args.h c.args.p.now (omega arith)))

pub halves-requires-clause-permutes : goal.halves-requires-clause-permutes
halves-requires-clause-permutes t c = subst (λ k. Permutes k c.args.p.now) (twice c.args.h ∙ ap (λ k. 2 * k) (sym c.power-n.ensures)) c.requires.permutes

pub halves-requires-clause-some : goal.halves-requires-clause-some
halves-requires-clause-some t c = omega (arith, pow_pos c.args.h, c.power-n.ensures)

pub push_last-requires-clause-some : goal.push_last-requires-clause-some
push_last-requires-clause-some t c = omega (arith, pow_pos c.args.h, c.power-n.ensures)

pub route_level-requires : goal.route_level-requires
route_level-requires t c =
    let level = (above c.args.net c.args.h c.if-h-eq0.false).level in
    let p = c.args.p.now in
    let marks = c.deref-2.ensures.value ∙ c.in_ok-marks.ensures.marks ∙ ap (λ n. halves p n) c.power-n.ensures in
    let is = c.deref-3.ensures.value ∙ c.in_ok-inputs.ensures ∙ ap₂ (λ (n : ℕ) (m : List Mark). places n (λ j. up_input m p j / 2)) c.power-n.ensures marks in
    let inner = (halves_permute c.args.h (c.args.h - 1) p level c.requires.permutes).0 in
    (omega (arith, level), (omega arith, subst (λ l. Permutes (2 ^ suc (c.args.h - 1)) l) (sym is) inner))

pub route_level-requires-2 : goal.route_level-requires-2
route_level-requires-2 t c =
    let level = (above c.args.net c.args.h c.if-h-eq0.false).level in
    let p = c.args.p.now in
    let marks = c.deref-4.ensures.value ∙ c.in_ok-marks.ensures.marks ∙ ap (λ n. halves p n) c.power-n.ensures in
    let is = c.deref-5.ensures.value ∙ c.in_ok-inputs-2.ensures
    ∙ ap₂ (λ (n : ℕ) (m : List Mark). places n (λ j. down_input m p j / 2)) c.power-n.ensures marks in
    let inner = (halves_permute c.args.h (c.args.h - 1) p level c.requires.permutes).1 in
    (omega (arith, level), (omega arith, subst (λ l. Permutes (2 ^ suc (c.args.h - 1)) l) (sym is) inner))

pub returns : goal.returns
returns t c =
    let net = c.args.net in
    let below = above net c.args.h c.if-h-eq0.false in
    let p = c.args.p.now in
    let n = c.power-n.ensures in
    let marks = c.in_ok-marks.ensures.marks ∙ ap (λ n. halves p n) n in
    let first = c.in_ok-push_first.ensures ∙ ap₂ (λ (n : ℕ) (m : List Mark). c.args.bits.now.items ++ places n (λ j. down m (2 * j))) n
    (c.deref.ensures.value ∙ marks) in
    let upper = c.deref-3.ensures.value ∙ c.in_ok-inputs.ensures
    ∙ ap₂ (λ (n : ℕ) (m : List Mark). places n (λ j. up_input m p j / 2)) n (c.deref-2.ensures.value ∙ marks) in
    let second = c.in_ok-route_level.ensures ∙ ap (λ l. c.push_first.new.bits.items ++ route net (c.args.h - 1) l) upper in
    let lower = c.deref-5.ensures.value ∙ c.in_ok-inputs-2.ensures
    ∙ ap₂ (λ (n : ℕ) (m : List Mark). places n (λ j. down_input m p j / 2)) n (c.deref-4.ensures.value ∙ marks) in
    let third = c.in_ok-route_level-2.ensures ∙ ap (λ l. c.route_level.new.bits.items ++ route net (c.args.h - 1) l) lower in
    let last = c.in_ok-push_last.ensures ∙ ap₂
    (λ (n : ℕ) (m : List Mark). c.route_level-2.new.bits.items ++ places (n - missing net) (λ j. down m (slice_index p (2 * (j + missing net))))) n
    (c.deref-6.ensures.value ∙ marks) in
    four_pieces c.args.bits.now.items c.push_first.new.bits.items c.route_level.new.bits.items c.route_level-2.new.bits.items c.push_last.new.bits.items _ _ _ _
    first second third last
    ∙ ap (λ l. c.args.bits.now.items ++ l) (sym (route_more net c.args.h (c.args.h - 1) p below.level))
