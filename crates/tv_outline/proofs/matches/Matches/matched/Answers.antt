use Rattle.tv_core.proofs.Common.{◌≤◌, ◌<◌, ◌∙◌, sym, ap, arith, drop, eq-eqb, eqb-true, length}
use Rattle.std.proofs.lemmas.List.{length-drop}
use Rattle.std.proofs.lemmas.Bool.Decides.{nat_tests}
use Rattle.tv_outline.proofs.MatchLaws.{is_other, is_part, is_whole}
use Rattle.tv_outline.proofs.PlaceLaws.{nothing_left, something_left}
use Rattle.tv_outline.specs.Matching.{Matched}
use Rattle.tv_outline.proofs.matches.Matches.matched.Goals as goal
use Rattle.tv_outline.proofs.matches.Matches.matched.Goals.{then-self, else-self}

pub returns-then-self-len : goal.returns-then-self-len
returns-then-self-len c list stands =
    let inside = c.self.inside in
    let view = c.self.view_is in
    let same = ap (λ (s : Matched). s.same) view in
    let wires = ap (λ (s : Matched). s.wires) view in
    let wanted = ap (λ (s : Matched). s.outline.wires) view in
    elim c.if-self.branch [
      | then-self w ↦
          let past : length inside.outline.now.regions.items ≤ inside.at.region = grind (arith, nat_tests) in
          let none = nothing_left inside.outline.now.words.items inside.outline.now.regions.items inside.at.region inside.at.turn inside.at.row past in
          let whole = is_whole c.args.self.now list stands (sym same ∙ w.if-self.true) (sym (ap (λ (s : Matched). s.left) view) ∙ none) in
          (λ e. (whole, sym wires ∙ eqb-true _ _ e ∙ wanted), λ p. eq-eqb _ _ (wires ∙ p.1 ∙ sym wanted))
      | else-self w ↦ let t = sym c.if-self-len.true ∙ w.value-is ∙ w.if-self.false in absurd (cc)
    ]

pub returns-else-self-len : goal.returns-else-self-len
returns-else-self-len c list stands =
    let inside = c.self.inside in
    let view = c.self.view_is in
    let same = ap (λ (s : Matched). s.same) view in (
      λ e. let t = sym e ∙ c.if-self-len.false in absurd (cc),
      λ p. absurd (elim c.if-self.branch [
        | then-self w ↦
            let within : inside.at.region < length inside.outline.now.regions.items = grind (arith, nat_tests) in
            let more = something_left inside.outline.now.words.items (drop inside.at.region inside.outline.now.regions.items) inside.at.turn inside.at.row
            (omega (arith, length-drop inside.at.region inside.outline.now.regions.items)) c.self.invariant.1 in
            is_part c.args.self.now list stands (sym same ∙ w.if-self.true) (λ none. more (ap (λ (s : Matched). s.left) view ∙ none)) p.0
        | else-self w ↦ is_other c.args.self.now list stands (sym same ∙ w.if-self.false) p.0
      ]),
    )
